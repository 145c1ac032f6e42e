use Rattle.rule_load.proofs.Prelude.{◌≡◌, true, rules, arith, all_nodes, sets}
use Rattle.rule_load.specs.Prelude.{always}
use Rattle.rule_load.proofs.FreeLemmas.{all_free, free_more}
use Rattle.rule_load.proofs.total_look.is_always_free.Goals as goal

pub loop-r-preserved : goal.loop-r-preserved
loop-r-preserved c =
    let on : c.has_always_enough.result ≡ true = search rules in
    free_more c.args.p.now.given (sets c.args.g.now) (all_nodes c.args.p.now.given) (always c.args.p.now.given) c.loop-r.r c.loop-r.invariant (c.has_always_enough.ensures on)

pub returns : goal.returns
returns c = λ on. all_free c.args.p.now.given (sets c.args.g.now) (all_nodes c.args.p.now.given) (always c.args.p.now.given) (λ r h. c.loop-r.invariant r (omega (arith, h)))
