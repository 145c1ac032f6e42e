pub mod Commands
pub mod Printed
pub mod Laws
pub mod Prelude
