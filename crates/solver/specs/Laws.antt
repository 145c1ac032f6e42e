-- What is proved of the text of a certified answer: the check says yes to it.
use Rattle.std.specs.Prelude.{ℕ, ◌<◌, ◌^◌, Bool, List}
use Rattle.search.specs.Prelude.{goal_in, Instance, IsInstance, IsTrueOf, least_in, plan_in}
use Rattle.cert_model.specs.Walks.{choices_handed}
use Rattle.cert_check.specs.Laws.{IsAccepted}
use Rattle.search.specs.declared.found.Found.{Found}
use Rattle.solver.specs.Certifying.{IsCertifiedText}

-- The verdict on the text of an answer that is so of all plans, for the plan that is answered, or for none, is yes with the goal and the least of the answer,
-- strictly or not, and there is no other. The budget, as each that words can say, has 64 bits.
abbrev pub CertifiedIsAccepted : Type 0
CertifiedIsAccepted =
    (p : Instance) → IsInstance p → (budget : ℕ) → budget < 2 ^ 64 → (found : Found) → IsTrueOf p budget found → (text : List ℕ) → IsCertifiedText p budget found text →
    (strict : Bool) → IsAccepted p (choices_handed (plan_in found)) strict text (goal_in p budget found) (least_in found)
