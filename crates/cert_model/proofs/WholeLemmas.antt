-- Steps that leave nothing open are a proof, and what they show holds.
use Rattle.cert_model.proofs.Prelude.{◌≡◌, ℕ, Bool, true, false, List, [], ◌∷◌, refl, sym, ap, subst, ◌∙◌, Option, AtEach, bound_of, GoalHolds, Instance, IsLean, IsProof, LeadsTo, LeanAt, least_along, least_cost, least_shown, left_set, lower_of, lowest, ProofsHold, Proves, Sets, shown, start_sets, Step, StepHolds, steps_of, Tree, WalkAt, at_each_both, at_each_map, certificates_hold, gathered_whole, leads_same, leads_tree, tree_of}

-- ---- steps and trees

pub proof_of : (p : Instance) (bound : Option ℕ) (strict : Bool) (steps : List Step) → LeadsTo p bound strict steps [] → IsProof p bound strict steps
proof_of p bound strict steps leads =
    let one = tree_of (WalkAt p bound strict) (start_sets p) steps leads in
    record {
      tree = one.tree;
      same = one.same;
      proves = at_each_map (WalkAt p bound strict) (λ e. StepHolds p bound) (λ e s step h. h.0) one.tree [] (start_sets p) one.each;
      lean = λ asked. at_each_map (WalkAt p bound strict) (LeanAt p) (λ e s step h. h.1 asked) one.tree [] (start_sets p) one.each;
    }

walk_of : (p : Instance) (bound : Option ℕ) (strict : Bool) (t : Tree) → Proves p bound (start_sets p) t → (strict ≡ true → IsLean p (start_sets p) t) → AtEach (WalkAt p bound strict) [] (start_sets p) t
walk_of p bound true t proves lean =
    at_each_map (λ e s step. StepHolds p bound s step × LeanAt p e s step) (WalkAt p bound true) (λ e s step h. (h.0, λ asked. h.1)) t [] (start_sets p)
    (at_each_both (λ e. StepHolds p bound) (LeanAt p) t [] (start_sets p) proves (lean refl))
walk_of p bound false t proves lean =
    at_each_map (λ e. StepHolds p bound) (WalkAt p bound false) (λ e s step h. (h, λ asked. absurd (cc))) t [] (start_sets p) proves

pub whole_of : (p : Instance) (bound : Option ℕ) (strict : Bool) (steps : List Step) → IsProof p bound strict steps → LeadsTo p bound strict steps []
whole_of p bound strict steps proof =
    subst (λ k. LeadsTo p bound strict k []) (sym proof.same)
    (leads_tree (WalkAt p bound strict) proof.tree [] (start_sets p) [] (walk_of p bound strict proof.tree proof.proves proof.lean))

-- where sets are open the steps are no tree
pub open_is_no_proof : (p : Instance) (bound : Option ℕ) (strict : Bool) (steps : List Step) (s : Sets) (rest : List Sets) → LeadsTo p bound strict steps (s ∷ rest) → ¬ IsProof p bound strict steps
open_is_no_proof p bound strict steps s rest leads proof =
    let same : s ∷ rest ≡ [] = leads_same (WalkAt p bound strict) steps [] (start_sets p ∷ []) (s ∷ rest) [] leads (whole_of p bound strict steps proof) in cc

-- ---- what is shown

least_same : (p : Instance) (bound : Option ℕ) (steps : List Step) (t : Tree) → steps ≡ steps_of t → least_along p bound steps ≡ least_shown p bound (start_sets p) t
least_same p bound steps t same =
    ap (λ k. least_along p bound k) same
    ∙ ap (λ sets. lower_of bound (lowest (least_cost p) sets)) (gathered_whole left_set t (start_sets p))

pub proofs_hold : ProofsHold
proofs_hold p sound plan handed strict steps goal proof shows =
    subst (λ least. GoalHolds p plan least goal) (sym (least_same p (bound_of p plan) steps proof.tree proof.same))
    (certificates_hold p sound plan handed goal proof.tree (record { proves = proof.proves; shows = shows ∙ ap (shown (bound_of p plan)) proof.same }))
