use Rattle.closing.proofs.Prelude.{◌-◌, refl, arith, has_node, sets}
use Rattle.closing.proofs.SettingLemmas.{total_free, total_met}
use Rattle.closing.proofs.exact.capacities.amount_found.Goals as goal

pub returns-in-None : goal.returns-in-None
returns-in-None c = total_free c.args.p.now.given (sets c.args.g.now) c.args.weight (has_node c.args.nodes.now) c.args.t c.args.amount (c.args.amount - c.total-held.result) (omega (arith, c.total-held.ensures)) c.in-None.ensures.none

pub returns-in-Some : goal.returns-in-Some
returns-in-Some c =
    let at = c.in-Some.ensures.some in
    (refl, total_met c.args.p.now.given (sets c.args.g.now) c.args.weight (has_node c.args.nodes.now) c.args.t c.args.amount (c.args.amount - c.total-held.result) (omega (arith, c.total-held.ensures)) c.in-Some.v.0 at.0 c.in-Some.c at.1)
