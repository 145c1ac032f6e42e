use Rattle.load_bounds.proofs.Prelude.{◌≡◌, true, rules, all_nodes, sets, vm}
use Rattle.load_bounds.proofs.TotalLemmas.{ends_under}
use Rattle.load_bounds.proofs.total_fit.ends_are_under.Goals as goal

pub returns : goal.returns
returns c = λ _.
    let fits : c.idle_is_under.result ≡ true = search rules in
    ends_under c.args.p.now.given c.args.v.0 c.args.r (all_nodes c.args.p.now.given) c.args.x c.args.bound (sets c.args.g.now (vm c.args.v.0)) c.domain-domain.result.now c.rows-rows.result.now c.loop-i.i c.args.needs.had (search rules) c.rows-rows.ensures.items c.rows-rows.ensures.climbs c.loop-i-test.false c.requires.had
    (c.idle_is_under.ensures fits) c.loop-i.invariant
