-- What crates above may cite: that what is known of no machine, or of more choices, stays right; and the ends of a row.
pub use Rattle.machine_bounds.proofs.GoneLemmas.{gone_fewer, none_gone}
pub use Rattle.machine_bounds.proofs.LeavingLemmas.{row_end, row_order}
