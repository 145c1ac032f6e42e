use Rattle.std.proofs.Common.{◌+◌, ◌-◌, arith}
use Rattle.domains.proofs.SlotLemmas.{moved_up}
use Rattle.domains.proofs.row_list.remove_up.Goals as goal

pub returns-clause-rows : goal.returns-clause-rows
returns-clause-rows c =
    moved_up c.args.slots.now.items c.as_mut_slice.result.now c.args.free c.args.i ((c.args.free + c.args.i) - c.args.free) c.as_mut_slice.ensures.value (omega arith) c.requires
    c.copy_within.new.self c.copy_within.ensures.after
