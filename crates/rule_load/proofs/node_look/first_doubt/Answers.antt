use Rattle.rule_load.proofs.Prelude.{◌-◌, arith, one, Period, sets}
use Rattle.rule_load.proofs.FreeLemmas.{free_past}
use Rattle.rule_load.proofs.node_look.first_doubt.Goals as goal

pub periods-preserved : goal.periods-preserved
periods-preserved c =
    let x : Period = record { from = c.periods.from; to = c.next_change-next.result - 1 } in
    record {
      most = c.next_change-next.ensures.most;
      clean = free_past c.args.p.now.given (sets c.args.g.now) (one c.args.n.0) x c.next_change-next.result (omega (arith, c.next_change-next.ensures.later)) c.periods.invariant.clean c.in_default.ensures.none;
      start = c.in_default.ensures.start;
    }

pub returns : goal.returns
returns c = λ t l. c.periods.invariant.clean t (omega (arith, l))
