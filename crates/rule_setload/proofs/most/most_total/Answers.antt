use Rattle.rule_setload.proofs.Prelude.{◌≡◌, ◌+◌, ◌≤◌, suc, rules, arith, has_node, machine_count, sets, sure}
use Rattle.rule_setload.proofs.OverLemmas.{some_terms}
use Rattle.rule_setload.proofs.most.most_total.Goals as goal

pub loop-i-preserved : goal.loop-i-preserved
loop-i-preserved c =
    let next : c.loop-i.i + 1 ≡ suc c.loop-i.i = omega arith in
    record {
      within = λ t h. rw next (omega (arith, c.loop-i.invariant.within t h, c.most_of-total.ensures.most.each t h));
      small = omega (arith, c.loop-i.invariant.small, c.most_of-total.ensures.small);
    }

pub returns-clause-within : goal.returns-clause-within
returns-clause-within c = let past : machine_count c.args.p.now.given ≤ c.loop-i.i = search rules in record {
  each = λ t h.
      let all = some_terms (λ k. (sure c.args.p.now.given (sets c.args.g.now) t).held k c.args.bound.now.weight (has_node c.args.bound.now.nodes)) (machine_count c.args.p.now.given) c.loop-i.i past in
      omega (arith, all, c.loop-i.invariant.within t h);
}
