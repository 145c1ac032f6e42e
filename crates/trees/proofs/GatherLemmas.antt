-- What is listed of each step, along steps and over trees.
use Rattle.std.proofs.Common.{◌≡◌, List, [], ◌∷◌, ◌++◌, refl, sym, ap, subst, ◌∙◌, append_assoc, append-nil}
use Rattle.trees.specs.Prelude.{children, Cut, cut_then, Decide, decide_both, Fact, fail_leaf, gathered, gathered_along, inside, Leads, left_leaf, outside, plan_leaf, Sets, Step, steps_of, Tree}

module _ {A : Type 0} (f : Sets → Step → List A) where
  -- one more step at the end
  pub gathered_push : (fact : Fact) (steps e : List Step) (from : List Sets) (s : Sets) (rest : List Sets) (step : Step) → Leads fact e from steps (s ∷ rest) → gathered_along f from (steps ++ step ∷ []) ≡ gathered_along f from steps ++ f s step
  gathered_push fact [] e from s rest step h = subst (λ k. gathered_along f k (step ∷ []) ≡ f s step) h (append-nil (f s step))
  gathered_push fact (first ∷ steps) e [] s rest step h = absurd h
  gathered_push fact (first ∷ steps) e (g ∷ gs) s rest step h =
      ap (λ k. f g first ++ k) (gathered_push fact steps (e ++ first ∷ []) (children g first ++ gs) s rest step h.1)
      ∙ sym (append_assoc (f g first) (gathered_along f (children g first ++ gs) steps) (f s step))

  -- a tree over the first open sets, and what comes after it
  gathered_tree : (t : Tree) (s : Sets) (rest : List Sets) (steps : List Step) → gathered_along f (s ∷ rest) (steps_of t ++ steps) ≡ gathered f s t ++ gathered_along f rest steps
  gathered_tree (fail_leaf reason) s rest steps = refl
  gathered_tree (plan_leaf cost) s rest steps = refl
  gathered_tree left_leaf s rest steps = refl
  gathered_tree (cut_then x part reason t) s rest steps =
      ap (λ k. f s (Cut x part reason) ++ k) (gathered_tree t (outside x part s) rest steps)
      ∙ sym (append_assoc (f s (Cut x part reason)) (gathered f (outside x part s) t) (gathered_along f rest steps))
  gathered_tree (decide_both x part t u) s rest steps =
      ap (λ k. f s (Decide x part) ++ k) (
      ap (λ k. gathered_along f (inside x part s ∷ outside x part s ∷ rest) k) (append_assoc (steps_of t) (steps_of u) steps)
      ∙ gathered_tree t (inside x part s) (outside x part s ∷ rest) (steps_of u ++ steps)
      ∙ ap (λ k. gathered f (inside x part s) t ++ k) (gathered_tree u (outside x part s) rest steps)
      ∙ sym (append_assoc (gathered f (inside x part s) t) (gathered f (outside x part s) u) (gathered_along f rest steps))
      )
      ∙ sym (append_assoc (f s (Decide x part)) (gathered f (inside x part s) t ++ gathered f (outside x part s) u) (gathered_along f rest steps))

  -- along the steps of a tree it is what the tree has
  pub gathered_whole : (t : Tree) (s : Sets) → gathered_along f (s ∷ []) (steps_of t) ≡ gathered f s t
  gathered_whole t s = ap (λ k. gathered_along f (s ∷ []) k) (sym (append-nil (steps_of t))) ∙ gathered_tree t s [] [] ∙ append-nil (gathered f s t)
