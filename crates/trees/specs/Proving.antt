-- What a tree proves of the sets of choices that it is over.
use Rattle.std.specs.Prelude.{filter, IsSomeAnd, ◌≡◌, ◌≢◌, ℕ, ◌≤◌, [], Option}
use Rattle.reasons.specs.Prelude.{Choices, cost_of, in_part, Instance, IsElement, IsOnly, IsValid, out_of_part, Refutes, Sets}
use Rattle.cluster.specs.declared.ids.Element.{Element}
use Rattle.domains.specs.declared.parts.Part.{Part}
use Rattle.reasons.specs.declared.reason.Reason.{Reason}
use Rattle.trees.specs.declared.steps.Step.{Step}
use Rattle.trees.specs.declared.steps.Step.TheVariants.{Decide, Cut, Fail, Plan, Left}
use Rattle.trees.specs.Trees.{Tree, AtEach, inside}

-- the sets are one plan, which is valid and has that cost
pub record IsOnePlan (p : Instance) (s : Sets) (cost : ℕ) : Type 0 where
  pub plan : Choices
  pub only : IsOnly s plan
  pub valid : IsValid p plan
  pub costs : cost_of p plan ≡ cost

-- the sets are a valid plan that costs no less than the one that was handed in, and one was
pub record IsPlanLeaf (p : Instance) (bound : Option ℕ) (s : Sets) (cost : ℕ) : Type 0 where
  pub one : IsOnePlan p s cost
  pub handed_in : IsSomeAnd bound (λ known. known ≤ cost)

-- the element is there, and has a choice inside the part and one outside
pub record IsSplit (p : Instance) (s : Sets) (x : Element) (part : Part) : Type 0 where
  pub element : IsElement p x
  pub some_inside : filter (in_part part) (s x) ≢ []
  pub some_outside : filter (out_of_part part) (s x) ≢ []

-- the element is there, and the reason refutes what is inside the part
pub record IsCut (p : Instance) (bound : Option ℕ) (s : Sets) (x : Element) (part : Part) (reason : Reason) : Type 0 where
  pub element : IsElement p x
  pub refuted : Refutes p bound (inside x part s) reason

-- what each step claims of the sets there holds, where a plan of a cost is handed in, or none; of what is left nothing is claimed
abbrev pub StepHolds : Instance → Option ℕ → Sets → Step → Type 0
StepHolds p bound s (Fail reason) = Refutes p bound s reason
StepHolds p bound s (Plan cost) = IsPlanLeaf p bound s cost
StepHolds p bound s (Cut x part reason) = IsCut p bound s x part reason
StepHolds p bound s (Decide x part) = IsSplit p s x part
StepHolds p bound s Left = Unit {0}

-- the tree proves the sets
abbrev pub Proves : Instance → Option ℕ → Sets → Tree → Type 0
Proves p bound s t = AtEach (λ e. StepHolds p bound) [] s t
