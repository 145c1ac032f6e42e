-- What crates above may cite: the laws, by the names of their statements in specs/.
pub use Rattle.slices.proofs.DurationLemmas.{durations_last, ends_by_duration, legal_acts_last, legal_earlier}
pub use Rattle.slices.proofs.PlanLemmas.{legal_is_plan, over_as_planned}
pub use Rattle.slices.proofs.FormLemmas.{sound_form}
pub use Rattle.slices.proofs.FewerLemmas.{less_holds}
pub use Rattle.slices.proofs.PartLemmas.{execution_keeps, or_implied, parts_keep, stage_parts_are_part}
pub use Rattle.slices.proofs.FirstLemmas.{first_is_one}
pub use Rattle.slices.proofs.StartLemmas.{action_quiet, held_quiet, keeps_quiet, matters_quiet, past-idle, powered_quiet, usable_quiet}
pub use Rattle.slices.proofs.LastLemmas.{has_last_start}
pub use Rattle.slices.proofs.EndLemmas.{action_at_ends, held_at_ends, held_in_steps, is_pointwise, powered_at_ends, unusable_at_ends}
pub use Rattle.slices.proofs.NodeLemmas.{absent_uses_nothing, held_by_node, held_is_small, held_on_more, present_on_set, present_somewhere}
pub use Rattle.slices.proofs.MemberLemmas.{each_member, each_more, joined_member, member_at, member_below, part_listed}
