-- The lemmas that crates above may cite.

-- A loop over a list does what `each` says: the invariant, and the three goals of the loop; for a
-- list that is viewed item by item, and for one as it stands.
pub use Rattle.json_walk.proofs.Each.{StandsAt, loop_rules, goes_on, is_done, fails_in_loop}
pub use Rattle.json_walk.proofs.Each.{StandsIn, loop_in_rules, goes_on_in, is_done_in, fails_in_loop_in}
-- What the steps of a walk gave, where the walk came to its end, and what its bounds then say.
pub use Rattle.json_walk.proofs.Steps.{Step, step, passed, later, same-ok, each-keeps}
pub use Rattle.json_walk.proofs.Steps.{number_of-within, number_field_of-within, optional-within}
-- A list that is spelled item by item is read again.
pub use Rattle.json_walk.proofs.Again.{Again, each-again}
-- Keys and words as callers see them; the items of a list.
pub use Rattle.json_walk.proofs.Walks.{known_rules, items_list-items_of}
-- Which bytes have a value.
pub use Rattle.json_walk.proofs.Texts.{text_rules, json_of-text}
