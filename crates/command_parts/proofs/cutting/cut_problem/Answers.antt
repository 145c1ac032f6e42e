use Rattle.std.proofs.Common.{◌≡◌, Ok}
use Rattle.command_parts.specs.Prelude.{split_in}
use Rattle.command_frame.proofs.Public.{value_is_no_fault}
use Rattle.command_parts.proofs.CutAnswers.{ends_split}
use Rattle.command_parts.proofs.cutting.cut_problem.Goals as goal

pub returns-clause-ends : goal.returns-clause-ends
returns-clause-ends g c = λ told printed.
    let groups = c.in_ok-g.g.groups.items in
    let read : split_in c.args.p.now.given (g.D.Desk.files c.args.desk.now) c.args.groups_file.now ≡ Ok groups = c.in_ok-g.ensures.reading told (value_is_no_fault _ _) in
    ends_split c.args.groups_file.now c.args.number c.args.part_file.now c.args.p.now.given groups _ _ _ printed c.cut_part.result (c.in_ok-g.ensures.desk.files_stay told) read
    (c.cut_part.ensures.ends told printed)
