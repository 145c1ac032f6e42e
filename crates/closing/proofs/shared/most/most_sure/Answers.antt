use Rattle.closing.proofs.{Prelude.nodes_of, Prelude.sets, MostLemmas.most_of_none, MostLemmas.most_of_one}
use Rattle.closing.proofs.shared.most.most_sure.Goals as goal

pub returns-in-None-clause-most : goal.returns-in-None-clause-most
returns-in-None-clause-most c =
    most_of_none c.args.p.now.given (sets c.args.g.now) c.args.weight (nodes_of c.args.p.now.given c.args.area.now) c.args.v.0 (rw c.domain.ensures.domain at c.in-None.ensures.none)

pub returns-in-Some-clause-most : goal.returns-in-Some-clause-most
returns-in-Some-clause-most c =
    most_of_one c.args.p.now.given (sets c.args.g.now) c.args.weight (nodes_of c.args.p.now.given c.args.area.now) c.args.v.0 c.most_under.result c.in-Some.c (rw c.domain.ensures.domain at c.in-Some.ensures.some) c.most_under.ensures.most
