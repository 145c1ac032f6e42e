-- What is cited together of this crate and of those below it, passed on from one place. Declares nothing.
pub use Rattle.slices.specs.Prelude.{all_of, Apart, cell, cost_of, element_at, element_count, element_number, form_of, InRange, inventory_of, IsFirstBroken, IsFirstRule, IsInstance, IsNodeWithin, IsQuiet, Keeps, KeepsAt, name_of, node, PlanChoices, Precedes, SoundInstance, vm, weight_of}
unfoldable pub use Rattle.slices.specs.Prelude.{end_of, IsValid, snapshot}
pub use Rattle.placement_rules.specs.Prelude.{amount_in, applies, Between, Choices, choices_of, continuous_at, Form, form_matters, form_seen, HoldsAt, image_in, Instance, is_in, is_member, IsElement, IsHeldWithin, IsHoldingOf, IsInPart, IsMember, IsPlanOf, IsSound, KeepsAllAt, load, machine_count, max_amount, max_nodes, node_count, one, separated, separation_seen, Snapshot, snapshot_at, stands_on, start_of, sum_to}
unfoldable pub use Rattle.placement_rules.specs.Prelude.{capacity_of, has_node}
pub use Rattle.cluster.specs.declared.ids.{Element.Element, Element.TheVariants.Node, Element.TheVariants.Vm, NodeId.NodeId, VmId.VmId}
pub use Rattle.slices.specs.declared.{holding.Holding.Holding, rule.Rule.Rule, rule.Rule.TheVariants.Constraint, rule.Rule.TheVariants.Load, rule.Rule.TheVariants.Usable, slice.Weight.TheVariants.Amount}
pub use Rattle.judge.specs.Standing.{AreUsable, AreUsableNodes, IsFirstAway, IsFirstIn, IsFirstOff, IsFirstOver, Loads, loads_of, LoadsFit, NodeFits, Stands, StandsBelow, StandsUsably}
pub use Rattle.judge.specs.Starts.{AreMachines, AreNodes, IsInSome, IsNext, Matters}
pub use Rattle.judge.specs.Verdict.{ConstraintsHold, IsContinuous, IsFirstUnmet, IsLower, IsMetAt, IsSuspect, StandsAt, StandsBefore}
unfoldable pub use Rattle.judge.specs.Verdict.{IsMetBefore}
pub use Rattle.judge.specs.Where.{is_where}
