use Rattle.std.proofs.Common.{refl, arith}
use Rattle.std.proofs.lemmas.Bool.{true≢false}
use Rattle.slices.specs.Rules.{IsValid}
use Rattle.judge.proofs.verdict.judge.Goals as goal

pub returns-then-at-horizon-clause-valid : goal.returns-then-at-horizon-clause-valid
unfolding IsValid
returns-then-at-horizon-clause-valid c = (λ _ t i. c.least_broken-at.ensures.kept t (omega (arith, c.horizon.ensures.horizon)) i, λ _. refl)

pub returns-in-Some-clause-valid : goal.returns-in-Some-clause-valid
unfolding IsValid
returns-in-Some-clause-valid c =
    (λ some. absurd (true≢false some), λ valid. absurd (c.least_broken-at.ensures.suspect.broken (omega (arith, c.horizon.ensures.horizon)) (valid c.least_broken-at.result (omega (arith, c.horizon.ensures.horizon)))))
