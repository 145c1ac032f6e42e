-- Trees and their steps in order, for any fact at each step.
use Rattle.std.proofs.Common.{◌≡◌, List, [], ◌∷◌, ◌++◌, refl, sym, subst, ◌∙◌, append_assoc, append-nil}
use Rattle.trees.specs.Prelude.{AtEach, children, Cut, cut_then, Decide, decide_both, Fact, fail_leaf, inside, Leads, left_leaf, outside, plan_leaf, Sets, Step, steps_of, Tree}

module _ (fact : Fact) where
  -- steps, and more from where they lead
  pub leads_append : (steps e : List Step) (from mid : List Sets) (more : List Step) (now : List Sets) → Leads fact e from steps mid → Leads fact (e ++ steps) mid more now → Leads fact e from (steps ++ more) now
  leads_append [] e from mid more now a b = subst (λ k. Leads fact e k more now) a (subst (λ k. Leads fact k mid more now) (append-nil e) b)
  leads_append (step ∷ steps) e [] mid more now a b = a
  leads_append (step ∷ steps) e (s ∷ rest) mid more now a b =
      (a.0, leads_append steps (e ++ step ∷ []) (children s step ++ rest) mid more now a.1 (subst (λ k. Leads fact k mid more now) (sym (append_assoc e (step ∷ []) steps)) b))

  -- and back: where steps and more lead on, the steps alone lead to the sets that the others go on from
  pub leads_split : (steps e : List Step) (from : List Sets) (more : List Step) (now : List Sets) → Leads fact e from (steps ++ more) now → (mid : List Sets) × Leads fact e from steps mid × Leads fact (e ++ steps) mid more now
  leads_split [] e from more now a = (from, refl, subst (λ k. Leads fact k from more now) (sym (append-nil e)) a)
  leads_split (step ∷ steps) e [] more now a = absurd a
  leads_split (step ∷ steps) e (s ∷ rest) more now a =
      let h = leads_split steps (e ++ step ∷ []) (children s step ++ rest) more now a.1 in
      (h.0, (a.0, h.1), subst (λ k. Leads fact k h.0 more now) (append_assoc e (step ∷ []) steps) h.2)

  -- one more step at the end
  pub leads_push : (steps : List Step) (from : List Sets) (s : Sets) (rest : List Sets) (step : Step) → Leads fact [] from steps (s ∷ rest) → fact steps s step → Leads fact [] from (steps ++ step ∷ []) (children s step ++ rest)
  leads_push steps from s rest step a holds = leads_append steps [] from (s ∷ rest) (step ∷ []) (children s step ++ rest) a (holds, refl)

  -- a tree over the first open sets closes them
  pub leads_tree : (t : Tree) (e : List Step) (s : Sets) (rest : List Sets) → AtEach fact e s t → Leads fact e (s ∷ rest) (steps_of t) rest
  leads_tree (fail_leaf reason) e s rest a = (a, refl)
  leads_tree (plan_leaf cost) e s rest a = (a, refl)
  leads_tree left_leaf e s rest a = (a, refl)
  leads_tree (cut_then x part reason t) e s rest a = (a.0, leads_tree t (e ++ Cut x part reason ∷ []) (outside x part s) rest a.1)
  leads_tree (decide_both x part t u) e s rest a = (
    a.0,
    leads_append (steps_of t) (e ++ Decide x part ∷ []) (inside x part s ∷ outside x part s ∷ rest) (outside x part s ∷ rest) (steps_of u) rest
        (leads_tree t (e ++ Decide x part ∷ []) (inside x part s) (outside x part s ∷ rest) a.1)
        (leads_tree u ((e ++ Decide x part ∷ []) ++ steps_of t) (outside x part s) rest a.2),
  )

-- steps lead to one list of open sets
pub leads_same : (fact : Fact) (steps e : List Step) (from a b : List Sets) → Leads fact e from steps a → Leads fact e from steps b → a ≡ b
leads_same fact [] e from a b h k = h ∙ sym k
leads_same fact (step ∷ steps) e [] a b h k = absurd h
leads_same fact (step ∷ steps) e (s ∷ rest) a b h k = leads_same fact steps (e ++ step ∷ []) (children s step ++ rest) a b h.1 k.1
