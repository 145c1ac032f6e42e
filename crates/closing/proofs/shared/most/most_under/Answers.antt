use Rattle.closing.proofs.{Prelude.arith, Prelude.nodes_of, MostLemmas.act_most, MostLemmas.idle_most, MostLemmas.idle_small}
use Rattle.closing.proofs.shared.most.most_under.Goals as goal

pub returns-in-Idle-clause-most : goal.returns-in-Idle-clause-most
returns-in-Idle-clause-most c =
    λ t. idle_most c.args.p.now.given c.args.v.0 c.args.weight (nodes_of c.args.p.now.given c.args.area.now) c.unit-one.result c.unit-one.ensures.unit c.held.result t c.args.c c.in-Idle.is c.held.ensures

pub returns-in-Idle-clause-small : goal.returns-in-Idle-clause-small
returns-in-Idle-clause-small c =
    omega (arith, idle_small c.args.p.now.given c.args.v.0 c.args.weight (nodes_of c.args.p.now.given c.args.area.now) c.unit-one.result c.unit-one.ensures.unit c.held.result c.held.ensures, c.unit-one.ensures.small)

pub returns-in-Act-clause-most : goal.returns-in-Act-clause-most
returns-in-Act-clause-most c =
    λ t.
    act_most c.args.p.now.given c.args.v.0 c.args.weight (nodes_of c.args.p.now.given c.args.area.now) c.unit-one.result c.unit-one.ensures.unit c.is_hosted.result c.is_inside.result c.counted.result c.counted-in-Act.result t c.args.c
    c.in-Act.place c.in-Act.start c.in-Act.is c.is_hosted.ensures (c.is_inside.ensures c.in-Act.start) c.counted.ensures c.counted-in-Act.ensures
