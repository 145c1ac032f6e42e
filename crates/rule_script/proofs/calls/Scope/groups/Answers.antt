use Rattle.base.proofs.Public.{err_from_is_err_and}
use Rattle.rule_script.specs.Calls.{groups_in, nodes_in}
use Rattle.rule_script.proofs.CallLemmas.{all_sets, one_more_set, set_refused}
use Rattle.rule_script.proofs.calls.Scope.groups.Goals as goal

pub returns-in_err-nodes : goal.returns-in_err-nodes
returns-in_err-nodes c =
    let k = c.args.self.now.cluster.now.given in
    let env = c.args.self.now.bindings in
    let sets = c.items-list.result.now in
    let p = err_from_is_err_and c.from_residual.result c.from_residual.ensures.1 in
    rw (p.1, p.2, ← c.items-list.ensures)
    (set_refused (nodes_in k env) sets c.loop-set.set-index c.loop-set.groups.items (groups_in k env sets) c.loop-set.invariant c.set-item.result c.in_err-nodes.field-0.0 c.loop-set-test.true c.set-item.is c.in_err-nodes.ensures)

pub loop-set-preserved : goal.loop-set-preserved
loop-set-preserved c =
    let k = c.args.self.now.cluster.now.given in
    let env = c.args.self.now.bindings in
    let sets = c.items-list.result.now in
    rw c.in_ok-push.ensures.items (one_more_set (nodes_in k env) sets c.loop-set.set-index c.loop-set.groups.items (groups_in k env sets) c.loop-set.invariant c.set-item.result c.in_ok-nodes.field-0 c.loop-set-test.true c.set-item.is c.in_ok-nodes.ensures)

pub returns : goal.returns
returns c =
    let k = c.args.self.now.cluster.now.given in
    let env = c.args.self.now.bindings in
    let sets = c.items-list.result.now in
    rw (← c.items-list.ensures, c.new.ensures) (all_sets (nodes_in k env) sets c.loop-set.set-index c.loop-set.groups.items (groups_in k env sets) c.loop-set.invariant c.loop-set-test.false)
