-- What a walk that ends well says of all plans of the instance.
use Rattle.std.specs.Prelude.{◌≡◌, Bool, List, Option}
use Rattle.trees.specs.Prelude.{bound_of, Choices, GoalHolds, Instance, IsHandedIn, IsInstance, shown}
use Rattle.{trees.specs.declared.steps.Goal.Goal, trees.specs.declared.steps.Step.Step, cert_model.specs.Walks.IsProof, cert_model.specs.Walks.least_along}

-- where the steps are a proof for the plan that was handed in, or for none, the goal that they show holds
abbrev pub ProofsHold : Type 0
ProofsHold =
    (p : Instance) → IsInstance p → (plan : Option Choices) → IsHandedIn p plan → (strict : Bool) (steps : List Step) (goal : Goal) →
    IsProof p (bound_of p plan) strict steps → goal ≡ shown (bound_of p plan) steps → GoalHolds p plan (least_along p (bound_of p plan) steps) goal
