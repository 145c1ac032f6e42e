use Rattle.rule_load.proofs.Prelude.{machine_count, sets}
use Rattle.rule_load.proofs.DoubtLemmas.{all_near, listed_low, near_more}
use Rattle.rule_load.proofs.doubt.near_doubt.Goals as goal

pub loop-i-preserved : goal.loop-i-preserved
loop-i-preserved c =
    near_more c.args.p.now.given (sets c.args.g.now) c.args.kept.standings.now c.args.r c.args.n.0 c.args.x c.args.spare c.args.kept.near.now c.loop-i.i _ _ c.requires.kept.near.machines.each c.requires.kept.standing.count c.loop-i-test.true
    c.loop-i.invariant (c.machine_fits.ensures c.if-not-machine_fits.false)

pub machine_fits-requires-clause-machine : goal.machine_fits-requires-clause-machine
machine_fits-requires-clause-machine c = listed_low (machine_count c.args.p.now.given) c.args.kept.near.now c.loop-i.i _ c.requires.kept.near.machines.each c.loop-i-test.true

pub of_machine-requires-clause-machine : goal.of_machine-requires-clause-machine
of_machine-requires-clause-machine c = listed_low (machine_count c.args.p.now.given) c.args.kept.near.now c.loop-i.i _ c.requires.kept.near.machines.each c.loop-i-test.true

pub returns : goal.returns
returns c = all_near c.args.p.now.given (sets c.args.g.now) c.args.kept.standings.now c.args.r c.args.n.0 c.args.x c.args.spare c.args.kept.near.now c.loop-i.i c.loop-i-test.false c.loop-i.invariant
