use Rattle.std.proofs.Common.{◌≡◌, Ok}
use Rattle.command_make.specs.Prelude.{AddsTo, script_in}
use Rattle.command_frame.proofs.Public.{value_is_no_fault}
use Rattle.command_make.proofs.ScriptAnswers.{added_count, ends_scripted}
use Rattle.command_make.proofs.scripting.add_script.Goals as goal

pub returns-clause-ends : goal.returns-clause-ends
returns-clause-ends g c = λ told printed.
    let p = c.args.p.given in
    let q = c.in_ok-scripted.scripted.given in
    let read : script_in p (g.D.Desk.files c.args.desk.now) c.args.script_file.now ≡ Ok q = c.in_ok-scripted.ensures.reading told (value_is_no_fault _ _) in
    let adds : AddsTo p q = c.in_ok-scripted.ensures.adds in
    ends_scripted c.args.script_file.now c.args.out_file.now p q _ _ _ printed c.end_script.result (c.in_ok-scripted.ensures.desk.files_stay told) read
    (c.end_script.ensures.ends told p adds (added_count _ _ p q adds c.constraints-own.ensures.constraints c.constraints.ensures.constraints) printed)
