use Rattle.std.proofs.Common.{rules, arith, [], ◌<◌, length}
use Rattle.json_walk.specs.Prelude.{path_of}
use Rattle.json_walk.proofs.Public.{fails_in_loop}
use Rattle.partition.specs.GroupsText.{group_step}
use Rattle.partition.specs.GroupsWalk.{groups_fault_of}
use Rattle.serde_json.specs.View.{view}
use Rattle.partition.proofs.reading.groups_in.Goals as goal

pub returns-in_err-push_group-clause-gives : goal.returns-in_err-push_group-clause-gives
returns-in_err-push_group-clause-gives c =
    let within : c.loop-i.i < length c.args.values.now = omega arith in
    let fails = fails_in_loop (group_step c.args.cluster.now.given (path_of c.args.path.now)) view c.args.values.now c.loop-i.i c.loop-i.groups.items [] c.index-values-i.result (groups_fault_of c.in_err-push_group.field-0.0) within c.index-values-i.is c.loop-i.invariant.0 c.in_err-push_group.ensures.gives in
    search (rules, fails)
