-- What definitions of this crate cite of those below it, passed on from one place. Declares nothing.
pub use Rattle.closing.specs.Prelude.{are_below, inventory_of, is_rule, IsMachineUnder, IsNeeded, IsSameMachine, Places, places_seen}
pub use Rattle.standings.specs.Prelude.{base, gain, kept_use, leave_climbs, lost_choices, lowest, never, restored}
pub use Rattle.rule_frame.specs.Prelude.{domain_at, in_part, keeping}
pub use Rattle.relax.specs.Prelude.{AreFewer, domain_before, least, surely}
pub use Rattle.slices.specs.Prelude.{IsInstance}
unfoldable pub use Rattle.standings.specs.Prelude.{stage_at}
pub use Rattle.rule_frame.specs.Prelude.{HasPlace, IsLess, IsRegionOf, seen}
pub use Rattle.rule_constraint.specs.Prelude.{AllClean, Allowed, AreLeaves, broken_at, choices, choose, Climbs, constraint_watch, comes_by, DomainView, FailHolds, ForbidsPlace, form_of, goes_in, has_come, hosted_in, Instance, is_continuous, IsBrokenBy, IsClean, IsDisturbed, IsElement, IsEnd, IsHarmless, IsLocal, IsLook, IsMember, IsQuietKind, IsSized, IsStill, kinds_are_quiet, leave_of, Levels, machine_count, MayAnswer, no_row, node, node_count, Nodes, one, present_at, reason_kind, row_at, rule_watch, Sets, sets, setting, Snapshot, stands_on, StandsUnder, state_of, usable_watch, vm, Watch, watch_at, watch_count, watches_are_local}
unfoldable pub use Rattle.rule_constraint.specs.Prelude.{held_at, sure, usable_at}
pub use Rattle.domains.specs.SetsBefore.{putting}
pub use Rattle.reasons.specs.Reasons.{Applies, IsNamed, IsPlace, IsUnusable}
pub use Rattle.rule_constraint.specs.Broken.{of_kind}
pub use Rattle.closing.proofs.Public.{usable_is_local}
pub use Rattle.cluster.specs.declared.choices.Choice.{Choice}
pub use Rattle.cluster.specs.declared.choices.Choice.TheVariants.{Act}
pub use Rattle.cluster.specs.declared.choices.Place.TheVariants.{At, Nowhere}
pub use Rattle.cluster.specs.declared.ids.Element.{Element}
pub use Rattle.cluster.specs.declared.ids.Element.TheVariants.{Node, Vm}
pub use Rattle.cluster.specs.declared.ids.NodeId.{NodeId}
pub use Rattle.cluster.specs.declared.ids.VmId.{VmId}
pub use Rattle.catalogue.specs.declared.constraint.Constraint.{Constraint}
pub use Rattle.domains.specs.declared.parts.Part.{Part}
pub use Rattle.domains.specs.declared.parts.Part.TheVariants.{Idle, Upto}
pub use Rattle.domains.specs.declared.parts.Row.{Row}
pub use Rattle.domains.specs.declared.parts.Side.{Side}
pub use Rattle.domains.specs.declared.parts.Side.TheVariants.{Inside}
pub use Rattle.slices.specs.declared.slice.Weight.{Weight}
pub use Rattle.slices.specs.declared.slice.Weight.TheVariants.{Image, Presence}
pub use Rattle.reasons.specs.declared.reason.ReasonKind.{ReasonKind}
pub use Rattle.reasons.specs.declared.reason.ReasonKind.TheVariants.{Bound, Empty, Group, Hall, Load, Pair, Place, Power, SetLoad, Usable}
pub use Rattle.closing.specs.declared.look.Look.{Look}
pub use Rattle.reasons.specs.declared.reason.Reason.TheVariants.{Place as PlaceReason}
