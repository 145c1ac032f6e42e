use Rattle.closing.proofs.{Prelude.refl, Prelude.arith, Prelude.has_node, Prelude.sets, SettingLemmas.full_free, SettingLemmas.full_met}
use Rattle.closing.proofs.exact.capacities.one_more_found.Goals as goal

pub returns-in-Some : goal.returns-in-Some
returns-in-Some c =
    let at = c.in-Some.ensures.some in
    (refl, full_met c.args.p.now.given (sets c.args.g.now) (has_node c.args.nodes.now) c.args.t c.args.amount c.requires.full c.loop-i.i (omega arith) c.in-Some.c at.0 at.1 at.2)

pub returns : goal.returns
returns c = full_free c.args.p.now.given (sets c.args.g.now) (has_node c.args.nodes.now) c.args.t c.args.amount c.requires.full (λ n h. c.loop-i.invariant n (omega (arith, h)))
