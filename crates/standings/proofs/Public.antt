-- What crates above may cite: what a level has, the laws of where machines stand by the names of their statements in specs/, and
-- `each_push`, for lists that are filled in order.
pub use Rattle.standings.proofs.LevelLemmas.{level_below, level_top}
pub use Rattle.standings.proofs.LawLemmas.{before_law, fewer_law, grow_law, kept_law, load_law, presences_law, present_law}
pub use Rattle.standings.proofs.RowLemmas.{all_stay}
pub use Rattle.standings.proofs.TableLemmas.{each_push}
