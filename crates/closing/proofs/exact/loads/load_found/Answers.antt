use Rattle.closing.proofs.Prelude.{below_more, arith, IsFreeOf, IsOverload, nodes_of, sets}
use Rattle.closing.proofs.SumLemmas.{resources-free}
use Rattle.closing.proofs.exact.loads.load_found.Goals as goal

pub loop-r-preserved : goal.loop-r-preserved
loop-r-preserved c = below_more (λ r. IsFreeOf (λ b. IsOverload c.args.p.now.given b r (nodes_of c.args.p.now.given c.args.area.now)) c.args.p.now.given (sets c.args.g.now) c.args.t) c.loop-r.r c.loop-r.invariant c.in-Clean.ensures

pub returns : goal.returns
returns c = resources-free c.args.p.now.given (sets c.args.g.now) (nodes_of c.args.p.now.given c.args.area.now) c.args.t (λ r h. c.loop-r.invariant r (omega (arith, h)))
