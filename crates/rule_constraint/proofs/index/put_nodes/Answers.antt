use Rattle.std.proofs.Common.{sym, ◌∙◌}
use Rattle.rule_constraint.proofs.IndexLemmas.{node_more, node_skipped, put_fewer, put_then}
use Rattle.rule_constraint.proofs.index.put_nodes.Goals as goal
use Rattle.rule_constraint.proofs.index.put_nodes.Goals.{then-has+in_ok-put, else-has}

pub loop-n-preserved : goal.loop-n-preserved
loop-n-preserved c =
    elim c.if-has.branch [
      | then-has+in_ok-put w ↦ rw w.lists-is (put_then _ _ _ _ _ _ _ (λ n at. node_more c.args.nodes.now c.loop-n.n n at) c.loop-n.invariant w.in_ok-put.ensures)
      | else-has w ↦ rw w.lists-is (put_fewer _ _ _ _ _ (λ n at. node_skipped c.args.nodes.now c.loop-n.n n (sym c.has.ensures ∙ w.if-has.false) at) c.loop-n.invariant)
    ]
