use Rattle.std.proofs.Common.{◌+◌, ◌-◌, refl, arith}
use Rattle.domains.proofs.SlotLemmas.{moved_down}
use Rattle.domains.proofs.row_list.insert_down.Goals as goal

pub returns-clause-rows : goal.returns-clause-rows
returns-clause-rows c =
    moved_down c.args.slots.now.items c.as_mut_slice-all.result.now c.args.free c.args.i (((c.args.free + 1) + c.args.i) - (c.args.free + 1)) c.as_mut_slice-all.ensures.value (omega arith) c.requires
    c.copy_within.new.self _ c.args.row c.copy_within.ensures.after refl
