use Rattle.rule_setload.proofs.Prelude.{◌≡◌, ◌+◌, ◌<◌, rules, suc, arith, has_node, machine_count, sure}
use Rattle.rule_setload.specs.Prelude.{seen}
use Rattle.rule_setload.proofs.OverLemmas.{some_terms}
use Rattle.rule_setload.proofs.refuting.is_over.Goals as goal
use Rattle.rule_setload.proofs.refuting.is_over.Goals.{then-may_hold+else-total-bound, else-may_hold}

pub loop-i-preserved : goal.loop-i-preserved
loop-i-preserved c =
    let next : c.loop-i.i + 1 ≡ suc c.loop-i.i = omega arith in
    elim c.if-may_hold.branch [
      | then-may_hold+else-total-bound w ↦
          record {
            total = rw next (omega (arith, c.loop-i.invariant.total, w.total-is, w.held_at_once-total.ensures.held));
            small = omega (arith, c.loop-i.invariant.small, w.total-is, w.held_at_once-total.ensures.small);
          }
      | else-may_hold w ↦
          record {
            total = rw next (omega (arith, c.loop-i.invariant.total, w.total-is));
            small = omega (arith, c.loop-i.invariant.small, w.total-is);
          }
    ]

pub returns-then-total-bound : goal.returns-then-total-bound
returns-then-total-bound c =
    let low : c.loop-i.i < machine_count c.args.p.now.given = search rules in
    let all = some_terms (λ k. (sure c.args.p.now.given (seen c.args.view.now.region.now c.args.view.now.lens) c.args.t).held k c.args.bound.now.weight (has_node c.args.bound.now.nodes)) (suc c.loop-i.i) (machine_count c.args.p.now.given) (omega (arith, low)) in
    λ on. omega (arith, all, c.loop-i.invariant.total, c.held_at_once-total.ensures.held, c.if-total-bound.true)
