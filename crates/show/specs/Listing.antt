-- The actions of a plan, and their order.
use Rattle.std.specs.Prelude.{◌≡◌, ◌<◌, ℕ, List, [], ◌∷◌}
use Rattle.std.specs.List.{flat_map, range_with_len}
use Rattle.std.specs.List.Sorted.{IsPermutation, IsSorted}
use Rattle.std.specs.Ordering.{nat_cmp, ordering_then}
use Rattle.std.specs.declared.cmp.Ordering.{Ordering}
use Rattle.judge.specs.Prelude.{element_at}
use Rattle.replay.specs.Prelude.{Choices, element_count, end_of, Instance, inventory_of}
use Rattle.cluster.specs.declared.choices.Choice.{Choice}
use Rattle.cluster.specs.declared.choices.Choice.TheVariants.{Idle, Act}
use Rattle.cluster.specs.declared.ids.Element.{Element}
use Rattle.show.specs.declared.actions.Action.{Action}

-- the action of an element under a choice, if that is one
abbrev pub acting : Instance → Element → ℕ → Choice → List Action
acting p e x Idle = []
acting p e x (Act place start) = record { start = start; end = end_of p e (Act place start); number = x } ∷ []

-- the action of the element of a number, if it has one
unfoldable pub action_of : Instance → Choices → ℕ → List Action
action_of p plan x = let e = element_at (inventory_of p) x in acting p e x (plan e)

-- the actions of a plan, in the order of the elements
abbrev pub actions_of : Instance → Choices → List Action
actions_of p plan = flat_map (action_of p plan) (range_with_len 0 (element_count (inventory_of p)))

-- by the starts, then by the ends, then by the elements
abbrev pub in_time : Action → Action → Ordering
in_time a b = ordering_then (nat_cmp a.start b.start) (ordering_then (nat_cmp a.end b.end) (nat_cmp a.number b.number))

-- the actions of a plan, each as often as it is there, in order of time
pub record IsListing (p : Instance) (plan : Choices) (actions : List Action) : Type 0 where
  pub all : IsPermutation (actions_of p plan) actions
  pub ordered : IsSorted in_time actions

-- an action of the plan
pub record IsActionOf (p : Instance) (plan : Choices) (a : Action) : Type 0 where
  pub number : a.number < element_count (inventory_of p)
  pub acts : action_of p plan a.number ≡ a ∷ []
