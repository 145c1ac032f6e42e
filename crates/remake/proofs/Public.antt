-- What crates above may cite. All else under proofs/ is private.

-- ---- what is not refused
pub use Rattle.remake.proofs.AddLemmas.{rule_not_refused}
-- ---- names: each of a list without repeats is new beside those before and after it
pub use Rattle.remake.proofs.NameLemmas.{apart_before, earlier_part, machine_is_new, node_is_new}
-- ---- lists: where nothing passes a test, and one item of all
pub use Rattle.remake.proofs.NameLemmas.{All_at, none_at_position, position_none}
