-- What crates above may cite: the laws, by the names of their statements in specs/, and what code that makes parts and unions needs.
pub use Rattle.parts.proofs.FindLemmas.{any_passes, finds, found, IsFound, which_passes}
pub use Rattle.parts.proofs.InsideLemmas.{home_in, inside_home}
pub use Rattle.parts.proofs.KeepLemmas.{keeps_groups}
pub use Rattle.parts.proofs.NumberLemmas.{last_fails, last_passes, length-passing, new-le, new_in, new_old, old_in, old_new, old_passes, passing_more}
pub use Rattle.parts.proofs.SoundLemmas.{part_is_sound}
pub use Rattle.parts.proofs.SplitLemmas.{group_in, part_embeds}
pub use Rattle.parts.proofs.UnionLemmas.{costs_add_up, leasts_add_up, legal_place, never_legal, part_is_infeasible, part_is_plan, part_of_union, parts_are_valid, plan_is_union, staying_plan_is_union, union_is_optimal, union_is_plan, unions_are_valid}
pub use Rattle.parts.proofs.ViewLemmas.{IsInside}
