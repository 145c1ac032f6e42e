-- A command as the program holds it.
use Rattle.command_words.specs.Words.{Command, plan, check, replay, show, picture, script, execute, repair, explain, cut, parts, checkparts, generate, demo}
use Rattle.command_words.specs.declared.words.Command.{Command as Read}
use Rattle.command_words.specs.declared.words.Command.TheVariants.{Plan, Check, Replay, Show, Picture, Script, Execute, Repair, Explain, Cut, Parts, CheckParts, Generate, Demo}
use Rattle.std.specs.Prelude.{◌≢◌}

abbrev pub meaning : Read → Command
meaning (Plan instance plan_file certificate budget) = plan instance.now plan_file.now certificate.now budget
meaning (Check instance plan_file certificate strict) = check instance.now plan_file.now certificate.now strict
meaning (Replay instance plan_file) = replay instance.now plan_file.now
meaning (Show instance plan_file) = show instance.now plan_file.now
meaning (Picture instance plan_file picture_file) = picture instance.now plan_file.now picture_file.now
meaning (Script instance script_file out_file) = script instance.now script_file.now out_file.now
meaning (Execute instance plan_file) = execute instance.now plan_file.now
meaning (Repair instance plan_file new_instance new_plan) = repair instance.now plan_file.now new_instance.now new_plan.now
meaning (Explain instance core certificate budget) = explain instance.now core.now certificate.now budget
meaning (Cut instance groups_file number part_file) = cut instance.now groups_file.now number part_file.now
meaning (Parts instance groups_file plan_file certificate budget) = parts instance.now groups_file.now plan_file.now certificate.now budget
meaning (CheckParts instance groups_file plan_file certificate) = checkparts instance.now groups_file.now plan_file.now certificate.now
meaning (Generate seed instance) = generate seed instance.now
meaning (Demo seed) = demo seed

-- The files that a command creates are different files.
abbrev pub HasFilesApart : Command → Type 0
HasFilesApart (plan instance plan_file certificate budget) = plan_file ≢ certificate
HasFilesApart (check instance plan_file certificate strict) = Unit {0}
HasFilesApart (replay instance plan_file) = Unit {0}
HasFilesApart (show instance plan_file) = Unit {0}
HasFilesApart (picture instance plan_file picture_file) = Unit {0}
HasFilesApart (script instance script_file out_file) = Unit {0}
HasFilesApart (execute instance plan_file) = Unit {0}
HasFilesApart (repair instance plan_file new_instance new_plan) = new_instance ≢ new_plan
HasFilesApart (explain instance core certificate budget) = core ≢ certificate
HasFilesApart (cut instance groups_file number part_file) = Unit {0}
HasFilesApart (parts instance groups_file plan_file certificate budget) = plan_file ≢ certificate
HasFilesApart (checkparts instance groups_file plan_file certificate) = Unit {0}
HasFilesApart (generate seed instance) = Unit {0}
HasFilesApart (demo seed) = Unit {0}
