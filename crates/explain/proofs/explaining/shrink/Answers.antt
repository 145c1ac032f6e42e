use Rattle.base.proofs.Public.{subst}
use Rattle.explain.specs.Prelude.{RoundGives}
use Rattle.explain.proofs.CoreLemmas.{shorter_by_one, shrunk_first, shrunk_more, shrunk_open}
use Rattle.explain.proofs.explaining.shrink.Goals as goal

pub loop-costs-init : goal.loop-costs-init
loop-costs-init g c = rw (c.in_ok-kept.ensures, c.new-costs.ensures.items) (shrunk_first c.args.p.now.given c.args.budget c.args.whole.items c.requires)

pub loop-costs-smaller : goal.loop-costs-smaller
loop-costs-smaller g c =
    let round = subst (RoundGives c.args.p.now.given c.args.budget c.deref.result.now c.first_lost.new.costs.items) c.in-Lost.is c.in_ok-first_lost.ensures.round in
    let lost = rw c.deref.ensures.value at round in
    shorter_by_one c.loop-costs.kept.items c.in-Lost.fewer.items c.first_lost.new.costs.items c.in-Lost.c lost.2 lost.0 lost.1

pub loop-costs-preserved : goal.loop-costs-preserved
loop-costs-preserved g c =
    let round = subst (RoundGives c.args.p.now.given c.args.budget c.deref.result.now c.first_lost.new.costs.items) c.in-Lost.is c.in_ok-first_lost.ensures.round in
    let lost = rw c.deref.ensures.value at round in
    let needed = rw c.deref.ensures.value at c.in_ok-first_lost.ensures.needed in
    shrunk_more c.args.p.now.given c.args.budget c.in-Lost.c c.loop-costs.kept.items c.in-Lost.fewer.items c.loop-costs.shown.items c.in-Lost.certificate.items c.loop-costs.costs.items c.keep_costs.new.costs.items c.loop-costs.invariant lost.2 lost.3
    (c.keep_costs.ensures c.loop-costs.kept.items c.loop-costs.invariant.numbers needed lost.0 lost.1)

pub returns-in-Open : goal.returns-in-Open
returns-in-Open g c =
    let round = subst (RoundGives c.args.p.now.given c.args.budget c.deref.result.now c.first_lost.new.costs.items) c.in-Open.is c.in_ok-first_lost.ensures.round in
    let open_at = rw c.deref.ensures.value at round in
    shrunk_open c.args.p.now.given c.args.budget open_at.0 c.loop-costs.kept.items c.in-Open.fewer.items c.loop-costs.shown.items c.in-Open.certificate.items c.loop-costs.costs.items c.requires.infeasible c.loop-costs.invariant open_at.1 open_at.2 open_at.3
