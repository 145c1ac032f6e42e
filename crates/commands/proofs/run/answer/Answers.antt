use Rattle.std.proofs.Common.{◌≡◌, Option, Some, subst, rules}
use Rattle.commands.specs.Prelude.{asked, check, checkparts, Command, cut, Ends, EndsAnyhow, execute, explain, generate, IsAnswer, KeepsSource, outside, parts, picture, plan, repair, replay, script, show, Takes, taking, told}
use Rattle.commands.proofs.{Rows.repair_row, Sources.unread}
use Rattle.commands.proofs.run.answer.Goals as goal

pub returns-in-Some-Execute-clause-source : goal.returns-in-Some-Execute-clause-source
returns-in-Some-Execute-clause-source g c =
    let is : Some (execute c.in-Some-Execute.instance.now c.in-Some-Execute.plan_file.now) ≡ asked c.args.words.now = search rules in
    subst (λ (command : Option Command). KeepsSource g.D.Desk.tells (g.D.Desk.files c.args.desk.now) command c.args.input.now c.execute.new.input) is c.execute.ensures.source

pub returns-in-Some-Execute-clause-takes : goal.returns-in-Some-Execute-clause-takes
returns-in-Some-Execute-clause-takes g c = λ desk_tells source_tells sink_tells.
    let is : Some (execute c.in-Some-Execute.instance.now c.in-Some-Execute.plan_file.now) ≡ asked c.args.words.now = search rules in
    let change = taking (g.I.Source.rest c.args.input.now) (g.I.Source.rest c.execute.new.input) (g.I.Source.faults c.args.input.now) (g.I.Source.faults c.execute.new.input) in
    let before = outside (g.D.Desk.files c.args.desk.now) (g.O.Sink.written c.args.out.now) in
    let after = outside (g.D.Desk.files c.execute.new.desk) (g.O.Sink.written c.execute.new.out) in
    subst (λ (command : Option Command). EndsAnyhow (Takes command change before) after c.execute.result) is (c.execute.ensures.takes desk_tells source_tells sink_tells)

pub returns-in-Some-Repair-clause-source : goal.returns-in-Some-Repair-clause-source
returns-in-Some-Repair-clause-source g c =
    let is : Some (repair c.in-Some-Repair.instance.now c.in-Some-Repair.plan_file.now c.in-Some-Repair.new_instance.now c.in-Some-Repair.new_plan.now) ≡ asked c.args.words.now = search rules in
    subst (λ (command : Option Command). KeepsSource g.D.Desk.tells (g.D.Desk.files c.args.desk.now) command c.args.input.now c.repair.new.input) is c.repair.ensures.source

pub returns-in-Some-Repair-clause-ends : goal.returns-in-Some-Repair-clause-ends
returns-in-Some-Repair-clause-ends g c = λ desk_tells sink_tells.
    let is : Some (repair c.in-Some-Repair.instance.now c.in-Some-Repair.plan_file.now c.in-Some-Repair.new_instance.now c.in-Some-Repair.new_plan.now) ≡ asked c.args.words.now = search rules in
    let printed = g.O.Sink.written c.args.out.now in
    let source = told g.I.Source.tells (g.I.Source.rest c.args.input.now) in
    subst (λ (command : Option Command). Ends (IsAnswer command source (outside (g.D.Desk.files c.args.desk.now) printed)) (outside (g.D.Desk.files c.repair.new.desk) printed) c.repair.result) is
    (repair_row c.in-Some-Repair.instance.now c.in-Some-Repair.plan_file.now c.in-Some-Repair.new_instance.now c.in-Some-Repair.new_plan.now source _ _ c.repair.result (c.repair.ensures.ends desk_tells printed))

pub returns-in-Some-Repair-clause-takes : goal.returns-in-Some-Repair-clause-takes
returns-in-Some-Repair-clause-takes g c = λ desk_tells source_tells sink_tells.
    let is : Some (repair c.in-Some-Repair.instance.now c.in-Some-Repair.plan_file.now c.in-Some-Repair.new_instance.now c.in-Some-Repair.new_plan.now) ≡ asked c.args.words.now = search rules in
    let printed = g.O.Sink.written c.args.out.now in
    let change = taking (g.I.Source.rest c.args.input.now) (g.I.Source.rest c.repair.new.input) (g.I.Source.faults c.args.input.now) (g.I.Source.faults c.repair.new.input) in
    subst (λ (command : Option Command). EndsAnyhow (Takes command change (outside (g.D.Desk.files c.args.desk.now) printed)) (outside (g.D.Desk.files c.repair.new.desk) printed) c.repair.result) is (c.repair.ensures.takes desk_tells source_tells printed)

pub returns-in-Some-Repair-clause-causes : goal.returns-in-Some-Repair-clause-causes
returns-in-Some-Repair-clause-causes g c = c.repair.ensures.causes (g.O.Sink.faults c.args.out.now)

pub returns-in-Some-Plan-clause-takes : goal.returns-in-Some-Plan-clause-takes
returns-in-Some-Plan-clause-takes g c = λ desk_tells source_tells sink_tells.
    let is : Some (plan c.in-Some-Plan.instance.now c.in-Some-Plan.plan_file.now c.in-Some-Plan.certificate.now c.in-Some-Plan.budget) ≡ asked c.args.words.now = search rules in
    unread (asked c.args.words.now) (Some (plan c.in-Some-Plan.instance.now c.in-Some-Plan.plan_file.now c.in-Some-Plan.certificate.now c.in-Some-Plan.budget)) _ _ _ _ is (λ then result. tt)

pub returns-in-Some-Check-clause-takes : goal.returns-in-Some-Check-clause-takes
returns-in-Some-Check-clause-takes g c = λ desk_tells source_tells sink_tells.
    let is : Some (check c.in-Some-Check.instance.now c.in-Some-Check.plan_file.now c.in-Some-Check.certificate.now c.in-Some-Check.strict) ≡ asked c.args.words.now = search rules in
    unread (asked c.args.words.now) (Some (check c.in-Some-Check.instance.now c.in-Some-Check.plan_file.now c.in-Some-Check.certificate.now c.in-Some-Check.strict)) _ _ _ _ is (λ then result. tt)

pub returns-in-Some-Replay-clause-takes : goal.returns-in-Some-Replay-clause-takes
returns-in-Some-Replay-clause-takes g c = λ desk_tells source_tells sink_tells.
    let is : Some (replay c.in-Some-Replay.instance.now c.in-Some-Replay.plan_file.now) ≡ asked c.args.words.now = search rules in
    unread (asked c.args.words.now) (Some (replay c.in-Some-Replay.instance.now c.in-Some-Replay.plan_file.now)) _ _ _ _ is (λ then result. tt)

pub returns-in-Some-Show-clause-takes : goal.returns-in-Some-Show-clause-takes
returns-in-Some-Show-clause-takes g c = λ desk_tells source_tells sink_tells.
    let is : Some (show c.in-Some-Show.instance.now c.in-Some-Show.plan_file.now) ≡ asked c.args.words.now = search rules in
    unread (asked c.args.words.now) (Some (show c.in-Some-Show.instance.now c.in-Some-Show.plan_file.now)) _ _ _ _ is (λ then result. tt)

pub returns-in-Some-Picture-clause-takes : goal.returns-in-Some-Picture-clause-takes
returns-in-Some-Picture-clause-takes g c = λ desk_tells source_tells sink_tells.
    let is : Some (picture c.in-Some-Picture.instance.now c.in-Some-Picture.plan_file.now c.in-Some-Picture.picture_file.now) ≡ asked c.args.words.now = search rules in
    unread (asked c.args.words.now) (Some (picture c.in-Some-Picture.instance.now c.in-Some-Picture.plan_file.now c.in-Some-Picture.picture_file.now)) _ _ _ _ is (λ then result. tt)

pub returns-in-Some-Script-clause-takes : goal.returns-in-Some-Script-clause-takes
returns-in-Some-Script-clause-takes g c = λ desk_tells source_tells sink_tells.
    let is : Some (script c.in-Some-Script.instance.now c.in-Some-Script.script_file.now c.in-Some-Script.out_file.now) ≡ asked c.args.words.now = search rules in
    unread (asked c.args.words.now) (Some (script c.in-Some-Script.instance.now c.in-Some-Script.script_file.now c.in-Some-Script.out_file.now)) _ _ _ _ is (λ then result. tt)

pub returns-in-Some-Explain-clause-takes : goal.returns-in-Some-Explain-clause-takes
returns-in-Some-Explain-clause-takes g c = λ desk_tells source_tells sink_tells.
    let is : Some (explain c.in-Some-Explain.instance.now c.in-Some-Explain.core.now c.in-Some-Explain.certificate.now c.in-Some-Explain.budget) ≡ asked c.args.words.now = search rules in
    unread (asked c.args.words.now) (Some (explain c.in-Some-Explain.instance.now c.in-Some-Explain.core.now c.in-Some-Explain.certificate.now c.in-Some-Explain.budget)) _ _ _ _ is (λ then result. tt)

pub returns-in-Some-Cut-clause-takes : goal.returns-in-Some-Cut-clause-takes
returns-in-Some-Cut-clause-takes g c = λ desk_tells source_tells sink_tells.
    let is : Some (cut c.in-Some-Cut.instance.now c.in-Some-Cut.groups_file.now c.in-Some-Cut.number c.in-Some-Cut.part_file.now) ≡ asked c.args.words.now = search rules in
    unread (asked c.args.words.now) (Some (cut c.in-Some-Cut.instance.now c.in-Some-Cut.groups_file.now c.in-Some-Cut.number c.in-Some-Cut.part_file.now)) _ _ _ _ is (λ then result. tt)

pub returns-in-Some-Parts-clause-takes : goal.returns-in-Some-Parts-clause-takes
returns-in-Some-Parts-clause-takes g c = λ desk_tells source_tells sink_tells.
    let is : Some (parts c.in-Some-Parts.instance.now c.in-Some-Parts.groups_file.now c.in-Some-Parts.plan_file.now c.in-Some-Parts.certificate.now c.in-Some-Parts.budget) ≡ asked c.args.words.now = search rules in
    unread (asked c.args.words.now) (Some (parts c.in-Some-Parts.instance.now c.in-Some-Parts.groups_file.now c.in-Some-Parts.plan_file.now c.in-Some-Parts.certificate.now c.in-Some-Parts.budget)) _ _ _ _ is (λ then result. tt)

pub returns-in-Some-CheckParts-clause-takes : goal.returns-in-Some-CheckParts-clause-takes
returns-in-Some-CheckParts-clause-takes g c = λ desk_tells source_tells sink_tells.
    let is : Some (checkparts c.in-Some-CheckParts.instance.now c.in-Some-CheckParts.groups_file.now c.in-Some-CheckParts.plan_file.now c.in-Some-CheckParts.certificate.now) ≡ asked c.args.words.now = search rules in
    unread (asked c.args.words.now) (Some (checkparts c.in-Some-CheckParts.instance.now c.in-Some-CheckParts.groups_file.now c.in-Some-CheckParts.plan_file.now c.in-Some-CheckParts.certificate.now)) _ _ _ _ is (λ then result. tt)

pub returns-in-Some-Generate-clause-takes : goal.returns-in-Some-Generate-clause-takes
returns-in-Some-Generate-clause-takes g c = λ desk_tells source_tells sink_tells.
    let is : Some (generate c.in-Some-Generate.seed c.in-Some-Generate.instance.now) ≡ asked c.args.words.now = search rules in
    unread (asked c.args.words.now) (Some (generate c.in-Some-Generate.seed c.in-Some-Generate.instance.now)) _ _ _ _ is (λ then result. tt)
