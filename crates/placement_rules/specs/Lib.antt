pub mod HoldsAt
pub mod Labels
pub mod Places
pub mod Prelude
