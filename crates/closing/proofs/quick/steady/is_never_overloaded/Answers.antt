use Rattle.closing.proofs.Prelude.{below_more, arith, IsFreeOf, IsOverload, nodes_of, sets}
use Rattle.closing.proofs.SumLemmas.{resources-free}
use Rattle.closing.proofs.quick.steady.is_never_overloaded.Goals as goal

pub loop-r-preserved : goal.loop-r-preserved
loop-r-preserved c = λ k t h. below_more (λ r. IsFreeOf (λ b. IsOverload c.args.p.now.given b r (nodes_of c.args.p.now.given c.args.area.now)) c.args.p.now.given (sets c.args.g.now) t) c.loop-r.r (λ r l. c.loop-r.invariant r t l) (c.fits.ensures c.if-not-fits.false t) k h

pub returns : goal.returns
returns c = λ _ t. resources-free c.args.p.now.given (sets c.args.g.now) (nodes_of c.args.p.now.given c.args.area.now) t (λ r l. c.loop-r.invariant r t (omega (arith, l)))
