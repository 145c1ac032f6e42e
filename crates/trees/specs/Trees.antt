-- Certificate trees: their steps in order, and what is open after each.
use Rattle.std.specs.Prelude.{◌≡◌, ℕ, List, [], ◌∷◌, ◌++◌}
use Rattle.reasons.specs.Prelude.{in_part, keeping, out_of_part, Sets}
use Rattle.cluster.specs.declared.ids.Element.{Element}
use Rattle.domains.specs.declared.parts.Part.{Part}
use Rattle.reasons.specs.declared.reason.Reason.{Reason}
use Rattle.trees.specs.declared.steps.Step.{Step}
use Rattle.trees.specs.declared.steps.Step.TheVariants.{Decide, Cut, Fail, Plan, Left}

-- a tree, which is over sets of choices: at a leaf they are refuted, are one plan, or are left; a cut takes the choices of an element
-- inside a part away; a decision parts them, and has a tree for each side
pub data Tree : Type 0 where
  fail_leaf : Reason → Tree
  plan_leaf : ℕ → Tree
  left_leaf : Tree
  cut_then : Element → Part → Reason → Tree → Tree
  decide_both : Element → Part → Tree → Tree → Tree

-- the steps of a tree in preorder
abbrev pub steps_of : Tree → List Step
steps_of (fail_leaf reason) = Fail reason ∷ []
steps_of (plan_leaf cost) = Plan cost ∷ []
steps_of left_leaf = Left ∷ []
steps_of (cut_then x part reason rest) = Cut x part reason ∷ steps_of rest
steps_of (decide_both x part inner outer) = Decide x part ∷ (steps_of inner ++ steps_of outer)

-- the sets with the element inside the part, and outside it
abbrev pub inside : Element → Part → Sets → Sets
inside x part s = keeping x (in_part part) s

abbrev pub outside : Element → Part → Sets → Sets
outside x part s = keeping x (out_of_part part) s

-- a fact of a step: of the steps before it, the sets there, and the step
abbrev pub Fact : Type 1
Fact = List Step → Sets → Step → Type 0

-- the fact holds at each step of a tree over the sets, after earlier steps
abbrev pub AtEach : Fact → List Step → Sets → Tree → Type 0
AtEach fact e s (fail_leaf reason) = fact e s (Fail reason)
AtEach fact e s (plan_leaf cost) = fact e s (Plan cost)
AtEach fact e s left_leaf = fact e s Left
AtEach fact e s (cut_then x part reason rest) =
    fact e s (Cut x part reason) × AtEach fact (e ++ Cut x part reason ∷ []) (outside x part s) rest
AtEach fact e s (decide_both x part inner outer) =
    fact e s (Decide x part) × AtEach fact (e ++ Decide x part ∷ []) (inside x part s) inner
    × AtEach fact ((e ++ Decide x part ∷ []) ++ steps_of inner) (outside x part s) outer

-- what is listed of each step of a tree over the sets, in order
abbrev pub gathered : {A : Type 0} → (Sets → Step → List A) → Sets → Tree → List A
gathered f s (fail_leaf reason) = f s (Fail reason)
gathered f s (plan_leaf cost) = f s (Plan cost)
gathered f s left_leaf = f s Left
gathered f s (cut_then x part reason rest) = f s (Cut x part reason) ++ gathered f (outside x part s) rest
gathered f s (decide_both x part inner outer) =
    f s (Decide x part) ++ (gathered f (inside x part s) inner ++ gathered f (outside x part s) outer)

-- ---- the same, a step at a time

-- what is open in place of the sets after a step
abbrev pub children : Sets → Step → List Sets
children s (Fail reason) = []
children s (Plan cost) = []
children s Left = []
children s (Cut x part reason) = outside x part s ∷ []
children s (Decide x part) = inside x part s ∷ outside x part s ∷ []

-- after earlier steps, the steps lead from these open sets to those that are open now, the first due first, and the fact holds at each
abbrev pub Leads : Fact → List Step → List Sets → List Step → List Sets → Type 0
Leads fact e open_sets [] now = now ≡ open_sets
Leads fact e [] (step ∷ steps) now = ⊥
Leads fact e (s ∷ rest) (step ∷ steps) now = fact e s step × Leads fact (e ++ step ∷ []) (children s step ++ rest) steps now

-- what is listed of each step, from these open sets on
abbrev pub gathered_along : {A : Type 0} → (Sets → Step → List A) → List Sets → List Step → List A
gathered_along f open_sets [] = []
gathered_along f [] (step ∷ steps) = []
gathered_along f (s ∷ rest) (step ∷ steps) = f s step ++ gathered_along f (children s step ++ rest) steps
