use Rattle.base.proofs.Public.{◌∙◌, false≢true, IsTrue, sym}
use Rattle.cert_model.proofs.Prelude.{sets}
use Rattle.cert_model.proofs.CountedLemmas.{told_stays}
use Rattle.cert_model.proofs.followers.tally_told.Goals as goal

pub returns-then-not-is_empty : goal.returns-then-not-is_empty
returns-then-not-is_empty c =
    let none : IsTrue c.is_empty.result → ⊥ = λ yes. false≢true (sym c.if-not-is_empty.true ∙ yes) in
    λ s keep same told. told_stays c.args.p.now.given s (sets c.args.g.now) c.args.x keep same (λ empty. none (c.is_empty.ensures.1 (rw c.domain.ensures.domain empty))) c.args.tally told
