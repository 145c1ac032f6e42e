use Rattle.rule_load.proofs.Prelude.{arith, all_nodes, sets}
use Rattle.rule_load.proofs.FreeLemmas.{free_on}
use Rattle.rule_load.proofs.total_look.is_free_by_periods.Goals as goal

pub periods-preserved : goal.periods-preserved
periods-preserved c = record {
  most = c.in-Some.ensures.most;
  clean = free_on c.args.p.now.given (sets c.args.g.now) (all_nodes c.args.p.now.given) c.periods.from c.in-Some.until c.periods.invariant.clean c.in-Some.ensures;
}

pub returns : goal.returns
returns c = λ on t l. c.periods.invariant.clean t (omega (arith, l))
