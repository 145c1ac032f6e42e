use Rattle.rule_group.proofs.Prelude.{arith, each_member, each_more}
use Rattle.rule_group.specs.Prelude.{groups_seen, group_nodes, MayBeIn, sets, vm, VmId}
use Rattle.rule_group.proofs.together.common_groups.Goals as goal

pub loop-i-preserved : goal.loop-i-preserved
loop-i-preserved c =
    let none : VmId = record { 0 = 0 } in
    record {
      count = λ j h. c.loop-i.invariant.count j (c.groups_of-common.ensures j h).listed;
      each = λ j h. each_more (λ v. MayBeIn c.args.p.now.given (sets c.args.g.now (vm v)) c.args.always v (group_nodes (groups_seen c.args.groups.now) j)) c.args.machines.now c.loop-i.i none c.loop-i-test.true
          (c.loop-i.invariant.each j (c.groups_of-common.ensures j h).listed) (c.groups_of-common.ensures j h).may;
    }

pub returns : goal.returns
returns c = record {
  count = c.loop-i.invariant.count;
  each = λ j h. each_member (λ v. MayBeIn c.args.p.now.given (sets c.args.g.now (vm v)) c.args.always v (group_nodes (groups_seen c.args.groups.now) j)) c.args.machines.now c.loop-i.i (omega arith) (c.loop-i.invariant.each j h);
}
