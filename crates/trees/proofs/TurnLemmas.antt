-- From one fact at each step to another.
use Rattle.std.proofs.Common.{List, [], ◌∷◌, ◌++◌, sym, subst, append_assoc}
use Rattle.trees.specs.Prelude.{AtEach, children, Cut, cut_then, Decide, decide_both, Fact, Fail, fail_leaf, inside, Leads, Left, left_leaf, outside, Plan, plan_leaf, Sets, Step, steps_of, Tree}

-- where a property holds of all steps, and with it of each front of them, it may be used at each step, which it is said of with those before it
module _ (fact other : Fact) (property : List Step → Type 0) (front : (a b : List Step) → property (a ++ b) → property a)
    (turn : (e : List Step) (s : Sets) (step : Step) → property (e ++ step ∷ []) → fact e s step → other e s step) where
  pub leads_turn : (steps e : List Step) (from now : List Sets) → property (e ++ steps) → Leads fact e from steps now → Leads other e from steps now
  leads_turn [] e from now w a = a
  leads_turn (step ∷ steps) e [] now w a = a
  leads_turn (step ∷ steps) e (s ∷ rest) now w a =
      let v = subst property (sym (append_assoc e (step ∷ []) steps)) w in
      (turn e s step (front (e ++ step ∷ []) steps v) a.0, leads_turn steps (e ++ step ∷ []) (children s step ++ rest) now v a.1)

  pub at_each_turn : (t : Tree) (e : List Step) (s : Sets) → property (e ++ steps_of t) → AtEach fact e s t → AtEach other e s t
  at_each_turn (fail_leaf reason) e s w a = turn e s (Fail reason) w a
  at_each_turn (plan_leaf cost) e s w a = turn e s (Plan cost) w a
  at_each_turn left_leaf e s w a = turn e s Left w a
  at_each_turn (cut_then x part reason t) e s w a =
      let v = subst property (sym (append_assoc e (Cut x part reason ∷ []) (steps_of t))) w in (
        turn e s (Cut x part reason) (front (e ++ Cut x part reason ∷ []) (steps_of t) v) a.0,
        at_each_turn t (e ++ Cut x part reason ∷ []) (outside x part s) v a.1,
      )
  at_each_turn (decide_both x part t u) e s w a =
      let v = subst property (sym (append_assoc e (Decide x part ∷ []) (steps_of t ++ steps_of u))) w in
      let r = subst property (sym (append_assoc (e ++ Decide x part ∷ []) (steps_of t) (steps_of u))) v in (
        turn e s (Decide x part) (front (e ++ Decide x part ∷ []) (steps_of t ++ steps_of u) v) a.0,
        at_each_turn t (e ++ Decide x part ∷ []) (inside x part s) (front ((e ++ Decide x part ∷ []) ++ steps_of t) (steps_of u) r) a.1,
        at_each_turn u ((e ++ Decide x part ∷ []) ++ steps_of t) (outside x part s) r a.2,
      )

-- one fact from another, at each step
pub leads_map : (fact other : Fact) → ((e : List Step) (s : Sets) (step : Step) → fact e s step → other e s step) → (steps e : List Step) (from now : List Sets) → Leads fact e from steps now → Leads other e from steps now
leads_map fact other turn steps e from now a = leads_turn fact other (λ _. Unit {0}) (λ b c h. tt) (λ b s step h x. turn b s step x) steps e from now tt a

pub at_each_map : (fact other : Fact) → ((e : List Step) (s : Sets) (step : Step) → fact e s step → other e s step) → (t : Tree) (e : List Step) (s : Sets) → AtEach fact e s t → AtEach other e s t
at_each_map fact other turn t e s a = at_each_turn fact other (λ _. Unit {0}) (λ b c h. tt) (λ b g step h x. turn b g step x) t e s tt a

-- two facts at each step
pub at_each_both : (fact other : Fact) (t : Tree) (e : List Step) (s : Sets) → AtEach fact e s t → AtEach other e s t → AtEach (λ e' s' step. fact e' s' step × other e' s' step) e s t
at_each_both fact other (fail_leaf reason) e s a b = (a, b)
at_each_both fact other (plan_leaf cost) e s a b = (a, b)
at_each_both fact other left_leaf e s a b = (a, b)
at_each_both fact other (cut_then x part reason t) e s a b = ((a.0, b.0), at_each_both fact other t (e ++ Cut x part reason ∷ []) (outside x part s) a.1 b.1)
at_each_both fact other (decide_both x part t u) e s a b = (
  (a.0, b.0),
  at_each_both fact other t (e ++ Decide x part ∷ []) (inside x part s) a.1 b.1,
  at_each_both fact other u ((e ++ Decide x part ∷ []) ++ steps_of t) (outside x part s) a.2 b.2,
)
