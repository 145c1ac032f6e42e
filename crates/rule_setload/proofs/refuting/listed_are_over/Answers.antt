use Rattle.rule_setload.proofs.Prelude.{◌+◌, ◌<◌, rules, arith, has_node, machine_count, sure}
use Rattle.rule_setload.specs.Prelude.{seen}
use Rattle.rule_setload.proofs.OverLemmas.{one_more, some_terms}
use Rattle.rule_setload.proofs.refuting.listed_are_over.Goals as goal

pub loop-preserved : goal.loop-preserved
loop-preserved c =
    let low : c.next_number-i.result < machine_count c.args.p.now.given = search rules in
    record {
      total = one_more (λ k. (sure c.args.p.now.given (seen c.args.view.now.region.now c.args.view.now.lens) c.args.t).held k c.args.bound.now.weight (has_node c.args.bound.now.nodes)) c.loop.low c.next_number-i.result c.held_at_once-total.result c.loop.total c.if-i-low.false c.loop.invariant.total c.held_at_once-total.ensures.held;
      small = omega (arith, c.loop.invariant.small, c.held_at_once-total.ensures.small, c.if-i-low.false);
      within = omega (arith, low);
    }

pub returns-then-total-bound : goal.returns-then-total-bound
returns-then-total-bound c =
    let low : c.next_number-i.result < machine_count c.args.p.now.given = search rules in
    let more = one_more (λ k. (sure c.args.p.now.given (seen c.args.view.now.region.now c.args.view.now.lens) c.args.t).held k c.args.bound.now.weight (has_node c.args.bound.now.nodes)) c.loop.low c.next_number-i.result c.held_at_once-total.result c.loop.total c.if-i-low.false c.loop.invariant.total c.held_at_once-total.ensures.held in
    let all = some_terms (λ k. (sure c.args.p.now.given (seen c.args.view.now.region.now c.args.view.now.lens) c.args.t).held k c.args.bound.now.weight (has_node c.args.bound.now.nodes)) (c.next_number-i.result + 1) (machine_count c.args.p.now.given) (omega (arith, low)) in
    λ on. omega (arith, all, more, c.if-total-bound.true)
