use Rattle.base.proofs.Public.{err_from_is_err_and}
use Rattle.rule_script.specs.Calls.{parts_in, machines_in}
use Rattle.rule_script.proofs.CallLemmas.{all_sets, one_more_set, set_refused}
use Rattle.rule_script.proofs.calls.Scope.parts.Goals as goal

pub returns-in_err-machines : goal.returns-in_err-machines
returns-in_err-machines c =
    let k = c.args.self.now.cluster.now.given in
    let env = c.args.self.now.bindings in
    let sets = c.items-list.result.now in
    let p = err_from_is_err_and c.from_residual.result c.from_residual.ensures.1 in
    rw (p.1, p.2, ← c.items-list.ensures)
    (set_refused (machines_in k env) sets c.loop-set.set-index c.loop-set.parts.items (parts_in k env sets) c.loop-set.invariant c.set-item.result c.in_err-machines.field-0.0 c.loop-set-test.true c.set-item.is c.in_err-machines.ensures)

pub loop-set-preserved : goal.loop-set-preserved
loop-set-preserved c =
    let k = c.args.self.now.cluster.now.given in
    let env = c.args.self.now.bindings in
    let sets = c.items-list.result.now in
    rw c.in_ok-push.ensures.items (one_more_set (machines_in k env) sets c.loop-set.set-index c.loop-set.parts.items (parts_in k env sets) c.loop-set.invariant c.set-item.result c.in_ok-machines.field-0 c.loop-set-test.true c.set-item.is c.in_ok-machines.ensures)

pub returns : goal.returns
returns c =
    let k = c.args.self.now.cluster.now.given in
    let env = c.args.self.now.bindings in
    let sets = c.items-list.result.now in
    rw (← c.items-list.ensures, c.new.ensures) (all_sets (machines_in k env) sets c.loop-set.set-index c.loop-set.parts.items (parts_in k env sets) c.loop-set.invariant c.loop-set-test.false)
