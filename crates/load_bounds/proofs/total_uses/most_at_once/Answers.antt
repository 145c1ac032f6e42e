use Rattle.std.proofs.Common.{arith}
use Rattle.load_bounds.specs.Prelude.{always}
use Rattle.load_bounds.proofs.TotalLemmas.{total_at_once}
use Rattle.load_bounds.proofs.total_uses.most_at_once.Goals as goal

pub returns : goal.returns
returns c =
    let all = total_at_once c.args.p.now.given c.args._g.now c.args._ks.now c.args.r (always c.args.p.now.given) c.args.movers.now c.most.result c.requires.movers c.most.ensures in
    omega (arith, all, c.total_base.ensures.sum, c.in_ok-used.ensures.1, c.in_ok-more.ensures.1)
