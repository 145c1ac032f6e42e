-- What definitions of this crate cite of those below it, passed on from one place. Declares nothing.
pub use Rattle.relax.specs.Prelude.{AreFewer, AreLegal, choice_count, choices, domain_at, domain_before, DomainView, HaveChoices, Instance, IsClosed, IsElement, IsOneOf, IsQuietKind, IsSized, keeping, machine_count, node_count, on_side, out_of_part, Refutes, RegionView, same_element, Sets, sets}
pub use Rattle.trail.specs.Logs.{Marked}
pub use Rattle.domains.specs.Parts.{in_part}
pub use Rattle.domains.specs.SetsBefore.{sets_before}
pub use Rattle.cluster.specs.declared.choices.Choice.{Choice}
pub use Rattle.cluster.specs.declared.ids.Element.{Element}
pub use Rattle.cluster.specs.declared.ids.Element.TheVariants.{Node, Vm}
pub use Rattle.domains.specs.declared.parts.Change.{Change}
pub use Rattle.domains.specs.declared.parts.Part.{Part}
pub use Rattle.domains.specs.declared.undo.Before.{Before}
pub use Rattle.reasons.specs.declared.reason.Reason.{Reason}
pub use Rattle.reasons.specs.declared.reason.ReasonKind.{ReasonKind}
pub use Rattle.base.specs.declared.memory.Memory.{Memory}
