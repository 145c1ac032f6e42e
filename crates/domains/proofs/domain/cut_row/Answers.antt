use Rattle.std.proofs.Common.{sym, ap}
use Rattle.domains.proofs.RowLemmas.{Climbs-at, Climbs-set, Climbs-remove}
use Rattle.domains.proofs.PartLemmas.{outside_gap, outside_set, outside_remove}
use Rattle.domains.proofs.UndoLemmas.{put-remove, put_set}
use Rattle.domains.specs.Choices.{no_row, place_index}
use Rattle.domains.proofs.domain.cut_row.Goals as goal

pub outside-requires : goal.outside-requires
outside-requires c =
    let found = c.in-Ok.ensures.found in
    rw c.as_slice.ensures (Climbs-at 0 c.args.rows.now.rows c.in-Ok.i no_row c.requires.climbs found.within).1

pub returns-in-Err-clause-set : goal.returns-in-Err-clause-set
returns-in-Err-clause-set c =
    outside_gap c.args.rows.now.rows c.args.place c.args.part c.requires.climbs c.requires.at c.in-Err.field-0 c.in-Err.ensures.gap

pub returns-in-None-clause-set : goal.returns-in-None-clause-set
returns-in-None-clause-set c =
    rw c.remove.ensures
    (outside_remove c.args.rows.now.rows c.args.place c.args.part c.requires.climbs c.requires.at c.in-Ok.i no_row c.in-Ok.ensures.found
    (rw c.as_slice.ensures at c.in-None.ensures.set))

pub returns-in-None-clause-climbs : goal.returns-in-None-clause-climbs
returns-in-None-clause-climbs c =
    rw c.remove.ensures (Climbs-remove 0 c.args.rows.now.rows c.in-Ok.i c.requires.climbs)

pub returns-in-None-clause-undone : goal.returns-in-None-clause-undone
returns-in-None-clause-undone c =
    let found = c.in-Ok.ensures.found in
    rw (c.remove.ensures, c.as_slice.ensures)
    (sym (put-remove no_row 0 c.args.rows.now.rows c.in-Ok.i c.requires.climbs found.within))

pub returns-in-None-clause-row : goal.returns-in-None-clause-row
returns-in-None-clause-row c =
    let found = c.in-Ok.ensures.found in
    rw c.as_slice.ensures (Climbs-at 0 c.args.rows.now.rows c.in-Ok.i no_row c.requires.climbs found.within).1

pub returns-in-Some-clause-set : goal.returns-in-Some-clause-set
returns-in-Some-clause-set c =
    rw c.set.ensures
    (outside_set c.args.rows.now.rows c.args.place c.args.part c.requires.climbs c.requires.at c.in-Ok.i no_row c.in-Some.left c.in-Ok.ensures.found
    (rw c.as_slice.ensures at c.in-Some.ensures.set))

pub returns-in-Some-clause-climbs : goal.returns-in-Some-clause-climbs
returns-in-Some-clause-climbs c =
    let found = c.in-Ok.ensures.found in
    let row = rw c.as_slice.ensures at c.in-Some.ensures.row in
    rw c.set.ensures
    (Climbs-set 0 c.args.rows.now.rows c.in-Ok.i no_row c.in-Some.left c.requires.climbs found.within (ap place_index row.at) row.holds_one)

pub returns-in-Some-clause-undone : goal.returns-in-Some-clause-undone
returns-in-Some-clause-undone c =
    let found = c.in-Ok.ensures.found in
    let row = rw c.as_slice.ensures at c.in-Some.ensures.row in
    rw (c.set.ensures, c.as_slice.ensures)
    (sym (put_set no_row c.in-Some.left c.args.rows.now.rows c.in-Ok.i c.requires.climbs found.within (ap place_index row.at) row.holds_one))
