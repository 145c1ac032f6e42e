mod Tables
mod Stances
mod Starting
mod Quiet
mod Lowering
