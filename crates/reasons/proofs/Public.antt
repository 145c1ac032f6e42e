-- What crates above may cite: the laws, by the names of their statements in specs/; `turns_decide_for` and `quiet_at_turns_for`, which hold of
-- anything that a part of a snapshot keeps; and when members break whole groups.
pub use Rattle.reasons.proofs.LawLemmas.{empty_stays, refuted_excludes, refuted_excludes_all, stays_refuted}
pub use Rattle.reasons.proofs.ClosedLemmas.{only_closed}
pub use Rattle.reasons.proofs.StandardLemmas.{unrefuted_by_reasons}
pub use Rattle.reasons.proofs.SureLemmas.{costs_at_least, least_cost_grows, only_costs, sure_grows}
pub use Rattle.reasons.proofs.PartLemmas.{acting_grows, group_grows, parts_are_in, parts_break, scattered_grows}
pub use Rattle.reasons.proofs.FreeLemmas.{free_stays}
pub use Rattle.reasons.proofs.TurnLemmas.{closed_at_turns, closed_by_kinds, quiet_at_turns, quiet_at_turns_for, turns_decide, turns_decide_for, unrefuted_at_turns}
pub use Rattle.reasons.proofs.SettingLemmas.{end_is_choice, machine_change, node_change, quiet_is_free, same_sets, setting_agrees, setting_grows, setting_powered, setting_room, setting_sets, setting_total, some_end}
pub use Rattle.reasons.proofs.StartLemmas.{cost_within, start_has, start_is_legal, start_is_of, start_is_plan}
pub use Rattle.reasons.proofs.WithinLemmas.{within_valid}
pub use Rattle.reasons.proofs.RowLemmas.{ends_of_rows, region_is_of, turns_of_rows}
