-- Bars that stand so far below a top stand further below too.
use Rattle.base.proofs.Public.{◌≡◌, ℕ, ◌+◌, ◌<◌, ◌≤◌, List, [], ◌∷◌, ◌++◌, All, All-push, arith, get_or, length}
use Rattle.picture.specs.Prelude.{AreBars, Choices, element_count, Instance, inventory_of, IsActionOf, IsPlaced}
use Rattle.show.specs.declared.actions.Action.{Action}
use Rattle.picture.specs.declared.bars.Row.{Row}
use Rattle.picture.specs.declared.marks.Bar.{Bar}

one_more : (span top a b : ℕ) (bar : Bar) → a ≤ b → IsPlaced span top a bar → IsPlaced span top b bar
one_more span top a b bar le h = record {
  left = h.left;
  right = h.right;
  below = h.below;
  within = let w = h.within in omega arith;
}

pub placed_more : (span top a b : ℕ) (bars : List Bar) → All (IsPlaced span top a) bars → a ≤ b → All (IsPlaced span top b) bars
placed_more span top a b bars all le = λ k d low. one_more span top a b _ le (all k d low)

pub bars_more : (p : Instance) (plan : Choices) (actions : List Action) (row : Row) (span top a b : ℕ) (bars : List Bar) → AreBars p plan actions row span top a bars → a ≤ b → AreBars p plan actions row span top b bars
bars_more p plan actions row span top a b bars h le = record { each = h.each; placed = placed_more span top a b bars h.placed le }

-- one bar more
pub placed_push : (span top a b : ℕ) (bars : List Bar) (bar : Bar) → All (IsPlaced span top a) bars → a ≤ b → IsPlaced span top b bar → All (IsPlaced span top b) (bars ++ bar ∷ [])
placed_push span top a b bars bar all le here = All-push (IsPlaced span top b) bars bar (placed_more span top a b bars all le) here

-- the number of an action of the plan is that of an element
pub listed_number : (p : Instance) (plan : Choices) (actions : List Action) (i : ℕ) (d : Action) → All (IsActionOf p plan) actions → i < length actions → (get_or actions i d).number < element_count (inventory_of p)
listed_number p plan actions i d all low = (all i d low).number
