use Rattle.rule_load.proofs.Prelude.{arith, one, sets}
use Rattle.rule_load.proofs.FreeLemmas.{all_free, free_more}
use Rattle.rule_load.proofs.doubt.load_doubt.Goals as goal

pub loop-r-preserved : goal.loop-r-preserved
loop-r-preserved c = record {
  free = free_more c.args.p.now.given (sets c.args.g.now) (one c.args.n.0) c.args.x c.loop-r.r c.loop-r.invariant.free c.in_default.ensures.none;
  start = c.in_default.ensures.start;
}

pub returns-clause-none : goal.returns-clause-none
returns-clause-none c = all_free c.args.p.now.given (sets c.args.g.now) (one c.args.n.0) c.args.x (λ r h. c.loop-r.invariant.free r (omega (arith, h)))
