-- The check says yes to the text of a certified answer.
use Rattle.base.proofs.Public.{◌≡◌, ◌∙◌, ℕ, List, Option, Some, None, sym, ap, subst, refl, arith}
use Rattle.solver.specs.Prelude.{CertifiedIsAccepted, choices_handed, choices_in, Found, goal_in, Infeasible, Instance, IsCertificate, IsHandedIn, IsTrueOf, least_in, least_of, Optimal, plan_in, PlanChoices, Undecided}
use Rattle.cert_check.specs.Laws.{IsAccepted}
use Rattle.cert_check.proofs.Public.{certificate_is_accepted, is_writable}

same_choices : (plan : Option PlanChoices) → choices_in plan ≡ choices_handed plan
same_choices None = refl
same_choices (Some plan) = refl

-- the plan that is answered, if one is, is a valid plan
handed_in : (p : Instance) (budget : ℕ) (found : Found) → IsTrueOf p budget found → IsHandedIn p (choices_handed (plan_in found))
handed_in p budget (Optimal plan) is = (is.0.legal, is.1.valid)
handed_in p budget Infeasible is = tt
handed_in p budget (Undecided None least) is = tt
handed_in p budget (Undecided (Some plan) least) is = (is.best_is.whole.legal, is.best_is.valid)

pub certified_is_accepted : CertifiedIsAccepted
certified_is_accepted p sound budget few found is text certified strict =
    let tree = certified.tree in
    let shown = certified.tree_is in
    let handed = handed_in p budget found is in
    let same = same_choices (plan_in found) in
    let yes = certificate_is_accepted p sound (choices_handed (plan_in found)) handed (goal_in p budget found) tree (subst (λ plan. IsCertificate p plan (goal_in p budget found) tree) same shown.certificate)
    (is_writable p tree shown.writable (omega (arith, few, shown.within))) strict (λ _. shown.lean) in
    let least : least_of p (choices_handed (plan_in found)) tree ≡ least_in found = ap (λ plan. least_of p plan tree) (sym same) ∙ sym shown.least in
    subst (λ low. IsAccepted p (choices_handed (plan_in found)) strict text (goal_in p budget found) low) least
    (subst (λ (file : List ℕ). IsAccepted p (choices_handed (plan_in found)) strict file (goal_in p budget found) (least_of p (choices_handed (plan_in found)) tree)) (sym certified.whole) yes)
