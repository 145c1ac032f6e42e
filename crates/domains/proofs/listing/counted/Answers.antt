use Rattle.std.proofs.Common.{arith, rules}
use Rattle.domains.proofs.ListingLemmas.{counted_none, count-room}
use Rattle.domains.proofs.listing.counted.Goals as goal

pub loop-i-init : goal.loop-i-init
loop-i-init c = record { counted = counted_none c.args.domains.now; climb = λ k l. absurd (omega arith) }

pub overflow_add-unfixed : goal.overflow_add-unfixed
overflow_add-unfixed c =
    let room = count-room c.loop-i.unfixed c.args.domains.now c.loop-i.i c.loop-i.invariant.counted c.loop-i.i in
    rw c.block.ensures.value (search (rules, room))
