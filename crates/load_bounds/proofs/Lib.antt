-- Public has what crates above may cite; the rest is for this crate alone.
pub mod Public
mod Prelude
mod HeldLemmas
mod HoldOnLemmas
mod LooseLemmas
mod NodeRoomLemmas
mod OrderLemmas
mod OverLemmas
mod RoomLemmas
mod TotalLemmas
mod UseLemmas
mod WaitLemmas
