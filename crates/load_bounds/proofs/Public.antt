-- What crates above may cite: what a machine holds on a node under one choice, and the least of some choices; bounds of what machines
-- surely use; what nodes that are steady have and fit; and that the nodes in question stay listed.
pub use Rattle.load_bounds.proofs.HeldLemmas.{arrival_of, choice_stands, come_is, held_parts, least_above, least_attained, row_came}
pub use Rattle.load_bounds.proofs.NodeRoomLemmas.{rooms_told, rooms_widened}
pub use Rattle.load_bounds.proofs.RoomLemmas.{steady-fits, steady-room}
pub use Rattle.load_bounds.proofs.TotalLemmas.{are_most}
pub use Rattle.load_bounds.proofs.UseLemmas.{away_fits, fits_at_once, sure_most}
