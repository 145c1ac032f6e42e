use Rattle.power_bounds.proofs.Prelude.{◌≡◌, ◌∙◌, true, rules, sets}
use Rattle.power_bounds.proofs.PowerLemmas.{all_off}
use Rattle.power_bounds.proofs.power.stays_off.Goals as goal

pub returns : goal.returns
returns c = λ _.
    let off : c.idle_off.result ≡ true = search rules in
    all_off c.args.p.now.given (sets c.args.g.now) c.args.x c.args.n.0 c.loop-i.i c.domain-domain.result.now c.rows-rows.result.now (search rules) c.rows-rows.ensures.items c.rows-rows.ensures.climbs c.loop-i-test.false (λ e. c.idle_off.ensures off (c.idle.ensures ∙ e)) c.loop-i.invariant
