-- What crates above may cite: what a change leaves dirty; why a constraint is broken that a rule
-- watches; where a machine comes to under one choice; what a setting leaves of presences; and what holds of each machine of a list.
pub use Rattle.rule_constraint.proofs.ChoiceLemmas.{and-true, arrival, arrived, not_come, numbers, of_one}
pub use Rattle.rule_constraint.proofs.KeptLemmas.{kept_applies}
pub use Rattle.rule_constraint.proofs.DirtyLemmas.{kept_disturbed}
pub use Rattle.slices.proofs.Public.{each_member, each_more}
pub use Rattle.rule_constraint.proofs.SettingLemmas.{other-vm, own_present, same_present, vm_or}
pub use Rattle.machine_bounds.proofs.Public.{row_end}
