-- What definitions of this crate cite of those below it, passed on from one place. Declares nothing.
pub use Rattle.relax.specs.Prelude.{NoneBroken, place_index, Refutes, row_choices, starts_from}
pub use Rattle.closing.specs.Prelude.{action_at, all_nodes, Allowed, Apart, Bounded, BreaksGroup, broken_at, Climbs, constraint_watch, ExceedsAmount, ExceedsPower, Form, form_of, FormForbidsPair, FormForbidsPlace, HasPair, HasPlace, held_at, in_part, InTurn, IsBroken, IsClean, IsEnd, IsFree, IsFreeOf, IsGroup, IsInPart, IsLocal, IsLook, IsMember, IsMetWith, IsOverload, IsOverloaded, IsPartWithin, IsPower, IsSetLoad, IsSized, IsUnseen, least, max_nodes, may, no_row, node, Nodes, one, Ordered, Powered, powered_at, present_at, rule_watch, Scope, scope_of, seen, setting, Settled, Snapshot, surely, Together, usable_at, vm, Watch, watch_of}
unfoldable pub use Rattle.closing.specs.Prelude.{has_node, sure}
pub use Rattle.prop_core.specs.Prelude.{choices, CutHolds, domain_at, DomainView, FailHolds, Instance, IsElement, IsQuietKind, IsRegionOf, keeping, machine_count, MayAnswer, Meaning, node_count, RegionView, same_element, Sets, sets}
pub use Rattle.closing.specs.Kinds.{load_on, nothing}
pub use Rattle.domains.specs.SetsBefore.{putting}
pub use Rattle.cluster.specs.declared.choices.Choice.{Choice}
pub use Rattle.cluster.specs.declared.choices.Choice.TheVariants.{Act}
pub use Rattle.cluster.specs.declared.ids.Element.{Element}
pub use Rattle.cluster.specs.declared.ids.Element.TheVariants.{Node, Node as TheNode, Vm}
pub use Rattle.domains.specs.declared.parts.Part.{Part}
pub use Rattle.domains.specs.declared.parts.Part.TheVariants.{From, Idle, Upto}
pub use Rattle.domains.specs.declared.parts.Row.{Row}
pub use Rattle.reasons.specs.declared.reason.Reason.{Reason}
pub use Rattle.reasons.specs.declared.reason.ReasonKind.{ReasonKind}
pub use Rattle.prop_core.specs.declared.propagator.Answer.{Answer}
pub use Rattle.prop_core.specs.declared.propagator.Answer.TheVariants.{Cut, Fail, Quiet}
pub use Rattle.slices.specs.declared.slice.Weight.{Weight}
pub use Rattle.slices.specs.declared.stage.Progress.{Progress}
