use Rattle.placement_rules.proofs.Prelude.{ℕ, ◌<◌, IsTrue, arith, refl, sym, iff_false, has_node}
use Rattle.placement_rules.proofs.Reaching.{no_group_more}
use Rattle.placement_rules.proofs.groups.is_inside_some.Goals as goal

pub returns-then-is_inside : goal.returns-then-is_inside
returns-then-is_inside c = (λ _. (c.loop-group.group-index, c.group-item.result, omega arith, sym c.group-item.is, c.is_inside.ensures.0 c.if-is_inside.true), λ _. refl)

pub loop-group-preserved : goal.loop-group-preserved
loop-group-preserved c =
    no_group_more (λ g. (n : ℕ) → n < c.args.count → IsTrue (has_node c.args.set.now n) → IsTrue (has_node g n)) c.args.groups.now c.loop-group.group-index c.group-item.result (omega arith) c.group-item.is c.loop-group.invariant (iff_false c.is_inside.ensures c.if-is_inside.false)
