use Rattle.rule_setload.proofs.Prelude.{has_node, sets}
use Rattle.rule_setload.proofs.AsideLemmas.{aside_more, put_more}
use Rattle.rule_setload.proofs.concerned.concerned.Goals as goal
use Rattle.rule_setload.proofs.concerned.concerned.Goals.{then-is_concerned, else-is_concerned}

pub loop-i-preserved : goal.loop-i-preserved
loop-i-preserved c =
    elim c.if-is_concerned.branch [
      | then-is_concerned w ↦
          rw w.machines-is
          (put_more c.args.p.now.given (sets c.args.g.now) c.args.bound.now.weight (has_node c.args.bound.now.nodes) c.loop-i.i c.loop-i.machines w.insert.new.self c.loop-i.invariant w.insert.ensures)
      | else-is_concerned w ↦
          rw w.machines-is
          (aside_more c.args.p.now.given (sets c.args.g.now) c.args.bound.now.weight (has_node c.args.bound.now.nodes) c.loop-i.i c.loop-i.machines c.loop-i.invariant (c.is_concerned.ensures w.if-is_concerned.false))
    ]
