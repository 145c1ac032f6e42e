-- From one start to the next, what was kept stays kept.
use Rattle.base.proofs.Public.{◌≡◌, inl, inr, ℕ, ◌<◌, ◌≤◌, false, Some, arith, cases_lt, slice_get}
use Rattle.judge.specs.Prelude.{Choices, choices_of, Element, form_of, HoldsAt, Instance, IsElement, IsNext, IsPlanOf, IsQuiet, Load, Matters, PlanChoices, StandsAt, Usable}
use Rattle.catalogue.specs.declared.constraint.Constraint.{Constraint}
use Rattle.slices.proofs.Public.{keeps_quiet, matters_quiet}

-- what is kept at an instant where no start comes that can break it is kept up to the next such start
pub until : (P : ℕ → Type 0) (plan : Choices) (those : Element → Type 0) (t b next : ℕ) → ((u : ℕ) → t ≤ u → ((e : Element) → those e → IsQuiet (plan e) t u) → P u) → ((u : ℕ) → u < t → P u) → IsNext plan those t b next → (u : ℕ) → u < next → P u
until P plan those t b next step before is u low =
    elim (cases_lt u t) [
      | inl early ↦ before u early
      | inr late ↦ step u late (λ e there s starts. elim (is.waits e there s starts) [ inl past ↦ inl past | inr later ↦ inr (omega arith) ])
    ]

-- a constraint that holds up to an instant holds up to the next start that matters to it
pub holds_until : (p : Instance) (plan : PlanChoices) → IsPlanOf p plan → (t b next c : ℕ) (k : Constraint) → slice_get p.constraints c ≡ Some k → ((u : ℕ) → u < t → HoldsAt p (choices_of plan) u c) → HoldsAt p (choices_of plan) t c → IsNext (choices_of plan) (Matters p (form_of k)) t b next → (u : ℕ) → u < next → HoldsAt p (choices_of plan) u c
holds_until p plan legal t b next c k is before here then =
    until (λ u. HoldsAt p (choices_of plan) u c) (choices_of plan) (Matters p (form_of k)) t b next (λ u late quiet x e.
    let same : k ≡ x = cc in
    matters_quiet p plan legal t u x late (λ y there m. quiet y (there, rw same m)) (here x e))
    before then

-- loads that fit and machines that stand on usable nodes do so up to the next start
pub stands_until : (p : Instance) (plan : PlanChoices) → IsPlanOf p plan → (t b next : ℕ) → ((u : ℕ) → u < t → StandsAt p (choices_of plan) u) → StandsAt p (choices_of plan) t → IsNext (choices_of plan) (IsElement p) t b next → (u : ℕ) → u < next → StandsAt p (choices_of plan) u
stands_until p plan legal t b next before here then =
    until (StandsAt p (choices_of plan)) (choices_of plan) (IsElement p) t b next (λ u late quiet. record {
      loads = λ n i r j. keeps_quiet p plan legal t u late quiet false (Load (record { 0 = n }) r) (here.loads n i r j);
      usables = λ v i n j. keeps_quiet p plan legal t u late quiet false (Usable (record { 0 = v }) (record { 0 = n })) (here.usables v i n j);
    })
    before then
