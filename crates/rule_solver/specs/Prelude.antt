-- What is cited together of this crate and of those below it, passed on from one place. Declares nothing.
pub use Rattle.prop_core.specs.Prelude.{is_covered, IsStandard}
pub use Rattle.solver.specs.Prelude.{Certifies, Covered, Meaning}
pub use Rattle.reasons.specs.declared.reason.ReasonKind.{ReasonKind}
pub use Rattle.rule_load.specs.Watched.{is_load}
pub use Rattle.rule_group.specs.Covers.{group_kinds}
pub use Rattle.rule_pair.specs.Covers.{pair_kinds}
pub use Rattle.rule_place.specs.Covers.{forbidden_kinds, needed_kinds}
pub use Rattle.rule_setload.specs.Covers.{set_kinds}
