use Rattle.base.proofs.Public.{length, sym, ap, arith, length-insert}
use Rattle.domains.proofs.UndoLemmas.{put_found, put_gap, Climbs-put}
use Rattle.domains.proofs.domain.put.Goals as goal

pub insert-requires-clause-room : goal.insert-requires-clause-room
insert-requires-clause-room c =
    let gap = c.in-Err.ensures.gap in
    let rows = c.args.rows.now.rows in
    omega (arith, ap length (put_gap c.args.row rows c.in-Err.i gap), length-insert rows c.in-Err.i c.args.row gap.within, c.requires.room)

pub returns-in-Ok-clause-put : goal.returns-in-Ok-clause-put
returns-in-Ok-clause-put c =
    rw c.set.ensures (sym (put_found c.args.row c.args.rows.now.rows c.in-Ok.i c.requires.climbs c.in-Ok.ensures.found))

pub returns-in-Ok-clause-climbs : goal.returns-in-Ok-clause-climbs
returns-in-Ok-clause-climbs c =
    rw (c.set.ensures, ← put_found c.args.row c.args.rows.now.rows c.in-Ok.i c.requires.climbs c.in-Ok.ensures.found)
    (Climbs-put 0 c.args.row c.args.rows.now.rows c.requires.climbs (omega arith) c.requires.holds_one)

pub returns-in-Err-clause-put : goal.returns-in-Err-clause-put
returns-in-Err-clause-put c =
    rw c.insert.ensures (sym (put_gap c.args.row c.args.rows.now.rows c.in-Err.i c.in-Err.ensures.gap))

pub returns-in-Err-clause-climbs : goal.returns-in-Err-clause-climbs
returns-in-Err-clause-climbs c =
    rw (c.insert.ensures, ← put_gap c.args.row c.args.rows.now.rows c.in-Err.i c.in-Err.ensures.gap)
    (Climbs-put 0 c.args.row c.args.rows.now.rows c.requires.climbs (omega arith) c.requires.holds_one)
