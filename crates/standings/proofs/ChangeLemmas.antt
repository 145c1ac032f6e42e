-- Until when a machine stays, after some of its choices were lost.
use Rattle.standings.proofs.Prelude.{◌≡◌, ℕ, ◌<◌, ◌≤◌, max, List, [], ◌∷◌, Option, Some, None, unwrap_or, refl, ap, ◌∙◌, arith, Contains, AreFewer, Choice, choices, DomainView, least, Lost, lost_choices, lower_option, lowest, restored, least_of_each, lowest_before, least_from as lowest_from}

-- nothing was lost
pub least_kept : (f : Choice → ℕ) (lost : Lost) (d : DomainView) (old : ℕ) → AreFewer (choices d) (choices (restored lost d)) → old ≡ least f (choices (restored lost d)) → lowest f (lost_choices lost) ≡ None → old ≡ least f (choices d)
least_kept f lost d old fewer was none =
    let same : lowest f (choices (restored lost d)) ≡ lowest f (choices d) = lowest_before f lost d fewer ∙ rw none (by (lowest f (choices d))) in
    was ∙ ap (λ o. unwrap_or o 0) same
  where
    by : (o : Option ℕ) → lower_option o None ≡ o
    by None = refl
    by (Some a) = refl

-- what was lost did not give the least value
pub least_stays : (f : Choice → ℕ) (lost : Lost) (d : DomainView) (old x : ℕ) → AreFewer (choices d) (choices (restored lost d)) → old ≡ least f (choices (restored lost d)) → lowest f (lost_choices lost) ≡ Some x → old < x → old ≡ least f (choices d)
least_stays f lost d old x fewer was some less =
    let both : lowest f (choices (restored lost d)) ≡ lower_option (lowest f (choices d)) (Some x) = rw some at (lowest_before f lost d fewer) in
    by (lowest f (choices d)) (was ∙ ap (λ o. unwrap_or o 0) both)
  where
    by : (o : Option ℕ) → old ≡ unwrap_or (lower_option o (Some x)) 0 → old ≡ unwrap_or o 0
    by None e = absurd (omega (arith, e))
    by (Some a) e = omega (arith, e)

-- what is left gives the least value still
pub least_met : (f : Choice → ℕ) (lost : Lost) (d : DomainView) (old x : ℕ) (c : Choice) → AreFewer (choices d) (choices (restored lost d)) → old ≡ least f (choices (restored lost d)) → lowest f (lost_choices lost) ≡ Some x →
    Contains (choices d) c → f c ≤ old → old ≡ least f (choices d)
least_met f lost d old x c fewer was some there low =
    let both : lowest f (choices (restored lost d)) ≡ lower_option (lowest f (choices d)) (Some x) = rw some at (lowest_before f lost d fewer) in
    by (choices d) there (least_of_each f (choices d) c there) (was ∙ ap (λ o. unwrap_or o 0) both)
  where
    by : (cs : List Choice) → Contains cs c → least f cs ≤ f c → old ≡ unwrap_or (lower_option (lowest f cs) (Some x)) 0 → old ≡ least f cs
    by [] h most e = absurd (omega (arith, h.1))
    by (a ∷ cs) h most e = omega (arith, most, e, low)

-- no choice that is left gives less than the least of all before
pub floor_before : (f : Choice → ℕ) (lost : Lost) (d : DomainView) (old : ℕ) → AreFewer (choices d) (choices (restored lost d)) → old ≡ least f (choices (restored lost d)) → (c : Choice) → Contains (choices d) c → old ≤ f c
floor_before f lost d old fewer was c there = omega (arith, was, least_of_each f (choices (restored lost d)) c (fewer c there))

-- values that are raised to a number below which none is are as they were
pub least_from : (f : Choice → ℕ) (floor : ℕ) (d : DomainView) (found : Option ℕ) → ((c : Choice) → Contains (choices d) c → floor ≤ f c) → found ≡ lowest (λ c. max floor (f c)) (choices d) → unwrap_or found 0 ≡ least f (choices d)
least_from f floor d found above is = ap (λ o. unwrap_or o 0) (is ∙ lowest_from f floor (choices d) above)
