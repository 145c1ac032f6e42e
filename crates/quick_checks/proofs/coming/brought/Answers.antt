use Rattle.base.proofs.Public.{false≢true}
use Rattle.quick_checks.proofs.Prelude.{◌∙◌, arith, seen, sym, Amount}
use Rattle.quick_checks.proofs.ComingLemmas.{brought_held}
use Rattle.quick_checks.proofs.coming.brought.Goals as goal

pub returns-clause-held : goal.returns-clause-held
returns-clause-held c =
    rw c.gain.ensures.gain
    (brought_held c.args.p.now.given (seen c.args.view.now.region.now c.args.view.now.lens) c.args.v.0 (Amount c.args.r) c.args.n.0 c.args.t (omega (arith, c.ranges.t.fits)) (λ e. false≢true (sym c.if-has_none.false ∙ c.has_none.ensures.1 e)) (c.has_come.ensures c.if-not-has_come.false c.args.view.now.region.now))
