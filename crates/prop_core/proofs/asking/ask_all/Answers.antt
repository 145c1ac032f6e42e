use Rattle.base.proofs.Public.{◌<◌, arith, length, err_from_is_err_and}
use Rattle.prop_core.proofs.AskLemmas.{Rise-same, Rise-at, counts_of}
use Rattle.prop_core.proofs.asking.ask_all.Goals as goal

pub returns-clause-given : goal.returns-clause-given
returns-clause-given g c = Rise-same _ _ _ (counts_of _ _ _ _ _ _ c.loop-i.invariant)

pub returns-in-Cut-clause-given : goal.returns-in-Cut-clause-given
returns-in-Cut-clause-given g c =
    let h = rw c.in-Cut.is at c.in_ok-ask.ensures.given in
    let within : c.loop-i.i < length c.args.rules.now.items = omega arith in
    Rise-at _ 1 _ _ _ c.index_mut.result.now c.ask.new.rule within (counts_of _ _ _ _ _ _ c.loop-i.invariant) c.index_mut.ensures.value (omega arith) (λ s. omega arith)

pub returns-in-Fail-clause-given : goal.returns-in-Fail-clause-given
returns-in-Fail-clause-given g c =
    let h = rw c.in-Fail.is at c.in_ok-ask.ensures.given in
    let within : c.loop-i.i < length c.args.rules.now.items = omega arith in
    Rise-at _ 1 _ _ _ c.index_mut.result.now c.ask.new.rule within (counts_of _ _ _ _ _ _ c.loop-i.invariant) c.index_mut.ensures.value (omega arith) (λ s. omega arith)

pub returns-in_err-ask-clause-given : goal.returns-in_err-ask-clause-given
returns-in_err-ask-clause-given g c =
    let within : c.loop-i.i < length c.args.rules.now.items = omega arith in
    let h = c.in_err-ask.ensures.given in
    let q = err_from_is_err_and c.from_residual.result c.from_residual.ensures.1 in
    rw q.1 (Rise-at _ 0 _ _ _ c.index_mut.result.now c.ask.new.rule within (counts_of _ _ _ _ _ _ c.loop-i.invariant) c.index_mut.ensures.value (omega arith) (λ s. omega arith))
