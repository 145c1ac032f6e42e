use Rattle.quick_checks.proofs.{Prelude.◌∙◌, Prelude.arith, Prelude.rules, Prelude.seen, KnownLemmas.used_small, KnownLemmas.used_there}
use Rattle.quick_checks.proofs.known.used.Goals as goal

pub returns-in-Some-clause-held : goal.returns-in-Some-clause-held
returns-in-Some-clause-held c =
    let same = c.kept_use.ensures ∙ used_there c.args.p.now.given (seen c.args.view.now.region.now c.args.view.now.lens) c.args.v.0 c.args.t c.in-Some.k (omega (arith, c.ranges.t.fits)) c.in-Some.ensures c.args.r c.in-One.n.0 in
    rw c.in-One.is (omega (arith, same))

pub returns-in-Some-clause-small : goal.returns-in-Some-clause-small
returns-in-Some-clause-small c =
    rw c.kept_use.ensures (search (rules, used_small c.args.p.now.given (seen c.args.view.now.region.now c.args.view.now.lens) c.args.v.0 c.args.t c.in-Some.k (omega (arith, c.ranges.t.fits)) c.in-Some.ensures c.args.r c.in-One.n.0))
