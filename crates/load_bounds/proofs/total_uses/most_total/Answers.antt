use Rattle.std.proofs.Common.{arith}
use Rattle.load_bounds.proofs.TotalLemmas.{base_but_for}
use Rattle.load_bounds.proofs.total_uses.most_total.Goals as goal

pub overflow_sub-result : goal.overflow_sub-result
overflow_sub-result c = omega (arith, base_but_for c.args.p.now.given c.args.g.now c.args.ks.now c.args.r c.args.x c.args.movers.now c.requires.movers, c.total_base.ensures.sum, c.beside_bases-beside.ensures.more, c.beside_bases-beside.ensures.less)

pub returns : goal.returns
returns c =
    let sum = base_but_for c.args.p.now.given c.args.g.now c.args.ks.now c.args.r c.args.x c.args.movers.now c.requires.movers in
    record {
      sum = omega (arith, sum, c.total_base.ensures.sum, c.beside_bases-beside.ensures.more, c.beside_bases-beside.ensures.less);
      small = omega (arith, c.total_base.ensures.small, c.beside_bases-beside.ensures.small);
    }
