use Rattle.closing.proofs.{Prelude.nodes_of, MostLemmas.ever_most}
use Rattle.closing.proofs.shared.most.most_ever.Goals as goal

pub returns-clause-most : goal.returns-clause-most
returns-clause-most c =
    λ t d. ever_most c.args.p.now.given c.args.v.0 c.args.weight (nodes_of c.args.p.now.given c.args.area.now) c.unit-one.result c.unit-one.ensures.unit c.is_hosted.result c.counted.result t d c.is_hosted.ensures c.counted.ensures
