use Rattle.std.proofs.Common.{true≢false, sym, refl}
use Rattle.domains.proofs.MeasureLemmas.{lowest_none, lowest_some}
use Rattle.domains.proofs.domain.Domain.leaves_none.Goals as goal

pub returns-in-None : goal.returns-in-None
returns-in-None c = rw c.in-Outside.is (λ t. lowest_none (λ _. 0) _ c.in-None.ensures, λ e. refl)

pub returns-in-Some : goal.returns-in-Some
returns-in-Some c = rw c.in-Outside.is (λ t. absurd (true≢false (sym t)), λ e. absurd (lowest_some (λ _. 0) _ _ c.in-Some.ensures e))
