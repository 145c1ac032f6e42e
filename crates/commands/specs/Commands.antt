-- What each command answers and leaves: a line for each command in each table, and a room for each below.
use Rattle.std.specs.Prelude.{◌≡◌, Bool, ℕ, List, Option, Some, None, IsTrue, codes}
use Rattle.plan_io.specs.Files.{Files}
use Rattle.command_words.specs.Words.{Command, plan, check, replay, show, picture, script, execute, repair, explain, cut, parts, checkparts, generate, demo}
use Rattle.command_frame.specs.{Inputs.Instance.instance_in, Inputs.Plan.plan_in, Answer.Outside, Answer.Says, Answer.AnswersBy, Answer.LeavesBy}
use Rattle.command_decide.specs.{Planning.IsPlanned, Planning.LeavesPlanned, Checking.IsChecked}
use Rattle.command_report.specs.{Replaying.IsReplayed, Showing.IsListed, Picturing.IsPictured, Picturing.LeavesPictured}
use Rattle.command_make.specs.Scripting.{IsScripted, LeavesScripted}
use Rattle.command_carry.specs.{Executing.IsExecuted, Executing.Starts, Executing.Taking, Executing.TakesRead, Repairing.IsRepaired, Repairing.LeavesRepaired, Repairing.TakesEvents}
use Rattle.command_make.specs.Generating.{IsGenerated, LeavesGenerated}
use Rattle.command_explain.specs.Explaining.{IsExplained, LeavesExplained}
use Rattle.command_parts.specs.{Cutting.IsCutOut, Cutting.LeavesCutOut, PlanningParts.IsPlannedByParts, PlanningParts.LeavesPlannedByParts}
use Rattle.command_checkparts.specs.CheckingParts.{IsCheckedByParts}
use Rattle.command_frame.specs.declared.status.Status.{Status}
use Rattle.command_demo.specs.Demonstrating.{IsDemonstrated, LeavesDemo, LeavesDemoUnread, demo_certificate, demo_instance, demo_plan}

-- The desk reads the files that the command reads, and writes those that it creates.
abbrev pub MayRun : (reads writes : List ℕ → Bool) → Option Command → Type 0
MayRun reads writes None = Unit {0}
MayRun reads writes (Some (plan instance plan_file certificate budget)) = IsTrue (reads instance) × IsTrue (writes plan_file) × IsTrue (writes certificate)
MayRun reads writes (Some (check instance plan_file certificate strict)) = IsTrue (reads instance) × IsTrue (reads plan_file) × IsTrue (reads certificate)
MayRun reads writes (Some (replay instance plan_file)) = IsTrue (reads instance) × IsTrue (reads plan_file)
MayRun reads writes (Some (show instance plan_file)) = IsTrue (reads instance) × IsTrue (reads plan_file)
MayRun reads writes (Some (picture instance plan_file picture_file)) = IsTrue (reads instance) × IsTrue (reads plan_file) × IsTrue (writes picture_file)
MayRun reads writes (Some (script instance script_file out_file)) = IsTrue (reads instance) × IsTrue (reads script_file) × IsTrue (writes out_file)
MayRun reads writes (Some (execute instance plan_file)) = IsTrue (reads instance) × IsTrue (reads plan_file)
MayRun reads writes (Some (repair instance plan_file new_instance new_plan)) = IsTrue (reads instance) × IsTrue (reads plan_file) × IsTrue (writes new_instance) × IsTrue (writes new_plan)
MayRun reads writes (Some (explain instance core certificate budget)) = IsTrue (reads instance) × IsTrue (writes core) × IsTrue (writes certificate)
MayRun reads writes (Some (cut instance groups_file number part_file)) = IsTrue (reads instance) × IsTrue (reads groups_file) × IsTrue (writes part_file)
MayRun reads writes (Some (parts instance groups_file plan_file certificate budget)) = IsTrue (reads instance) × IsTrue (reads groups_file) × IsTrue (writes plan_file) × IsTrue (writes certificate)
MayRun reads writes (Some (checkparts instance groups_file plan_file certificate)) = IsTrue (reads instance) × IsTrue (reads groups_file) × IsTrue (reads plan_file) × IsTrue (reads certificate)
MayRun reads writes (Some (generate seed instance)) = IsTrue (writes instance)
MayRun reads writes (Some (demo seed)) = IsTrue (writes demo_instance) × IsTrue (reads demo_instance) × IsTrue (writes demo_plan) × IsTrue (reads demo_plan) × IsTrue (writes demo_certificate) × IsTrue (reads demo_certificate)

-- The answer to what was asked, from what the source has left and from what stood before.
unfoldable pub IsAnswer : Option Command → Option (List ℕ) → Outside → Outside → Status → Type 0
IsAnswer None source before after result = Says (codes "words\n") Status.Words before after result
IsAnswer (Some (plan instance plan_file certificate budget)) source before after result =
    AnswersBy (IsPlanned plan_file certificate budget) (instance_in before.files instance) before after result
IsAnswer (Some (check instance plan_file certificate strict)) source before after result =
    AnswersBy (IsChecked plan_file certificate strict) (instance_in before.files instance) before after result
IsAnswer (Some (replay instance plan_file)) source before after result =
    AnswersBy (IsReplayed plan_file) (instance_in before.files instance) before after result
IsAnswer (Some (show instance plan_file)) source before after result =
    AnswersBy (IsListed plan_file) (instance_in before.files instance) before after result
IsAnswer (Some (picture instance plan_file picture_file)) source before after result =
    AnswersBy (IsPictured plan_file picture_file) (instance_in before.files instance) before after result
IsAnswer (Some (script instance script_file out_file)) source before after result =
    AnswersBy (IsScripted script_file out_file) (instance_in before.files instance) before after result
IsAnswer (Some (execute instance plan_file)) source before after result =
    AnswersBy (IsExecuted source plan_file) (instance_in before.files instance) before after result
IsAnswer (Some (repair instance plan_file new_instance new_plan)) source before after result =
    AnswersBy (IsRepaired source plan_file new_instance new_plan) (instance_in before.files instance) before after result
IsAnswer (Some (explain instance core certificate budget)) source before after result =
    AnswersBy (IsExplained core certificate budget) (instance_in before.files instance) before after result
IsAnswer (Some (cut instance groups_file number part_file)) source before after result =
    AnswersBy (IsCutOut groups_file number part_file) (instance_in before.files instance) before after result
IsAnswer (Some (parts instance groups_file plan_file certificate budget)) source before after result =
    AnswersBy (IsPlannedByParts groups_file plan_file certificate budget) (instance_in before.files instance) before after result
IsAnswer (Some (checkparts instance groups_file plan_file certificate)) source before after result =
    AnswersBy (IsCheckedByParts groups_file plan_file certificate) (instance_in before.files instance) before after result
IsAnswer (Some (generate seed instance)) source before after result = IsGenerated seed instance before after result
IsAnswer (Some (demo seed)) source before after result = IsDemonstrated seed before after result

-- What a command leaves in the files, however it ends. Words that are no command, and one that only reads, leave all as they were.
abbrev pub Leaves : Option Command → Files → Files → Type 0
Leaves None before after = after ≡ before
Leaves (Some (plan instance plan_file certificate budget)) before after = LeavesBy (LeavesPlanned plan_file certificate budget) (instance_in before instance) before after
Leaves (Some (check instance plan_file certificate strict)) before after = after ≡ before
Leaves (Some (replay instance plan_file)) before after = after ≡ before
Leaves (Some (show instance plan_file)) before after = after ≡ before
Leaves (Some (picture instance plan_file picture_file)) before after =
    LeavesBy (λ p start end. LeavesBy (LeavesPictured picture_file p) (plan_in p start plan_file) start end) (instance_in before instance) before after
Leaves (Some (script instance script_file out_file)) before after = LeavesBy (LeavesScripted script_file out_file) (instance_in before instance) before after
Leaves (Some (execute instance plan_file)) before after = after ≡ before
Leaves (Some (repair instance plan_file new_instance new_plan)) before after =
    LeavesBy (λ p start end. LeavesBy (LeavesRepaired new_instance new_plan p) (plan_in p start plan_file) start end) (instance_in before instance) before after
Leaves (Some (explain instance core certificate budget)) before after = LeavesBy (LeavesExplained core certificate budget) (instance_in before instance) before after
Leaves (Some (cut instance groups_file number part_file)) before after = LeavesBy (LeavesCutOut groups_file number part_file) (instance_in before instance) before after
Leaves (Some (parts instance groups_file plan_file certificate budget)) before after =
    LeavesBy (LeavesPlannedByParts groups_file plan_file certificate budget) (instance_in before instance) before after
Leaves (Some (checkparts instance groups_file plan_file certificate)) before after = after ≡ before
Leaves (Some (generate seed instance)) before after = LeavesGenerated seed instance before after
Leaves (Some (demo seed)) before after = LeavesDemo seed before after

-- What a command leaves in the files where a read failed. But for `demo`, which reads what it wrote, none has written before it has read; and of `generate` no read can fail.
abbrev pub LeavesAtFailedRead : Option Command → Files → Files → Type 0
LeavesAtFailedRead None before after = after ≡ before
LeavesAtFailedRead (Some (plan instance plan_file certificate budget)) before after = after ≡ before
LeavesAtFailedRead (Some (check instance plan_file certificate strict)) before after = after ≡ before
LeavesAtFailedRead (Some (replay instance plan_file)) before after = after ≡ before
LeavesAtFailedRead (Some (show instance plan_file)) before after = after ≡ before
LeavesAtFailedRead (Some (picture instance plan_file picture_file)) before after = after ≡ before
LeavesAtFailedRead (Some (script instance script_file out_file)) before after = after ≡ before
LeavesAtFailedRead (Some (execute instance plan_file)) before after = after ≡ before
LeavesAtFailedRead (Some (repair instance plan_file new_instance new_plan)) before after = after ≡ before
LeavesAtFailedRead (Some (explain instance core certificate budget)) before after = after ≡ before
LeavesAtFailedRead (Some (cut instance groups_file number part_file)) before after = after ≡ before
LeavesAtFailedRead (Some (parts instance groups_file plan_file certificate budget)) before after = after ≡ before
LeavesAtFailedRead (Some (checkparts instance groups_file plan_file certificate)) before after = after ≡ before
LeavesAtFailedRead (Some (generate seed instance)) before after = ⊥
LeavesAtFailedRead (Some (demo seed)) before after = LeavesDemoUnread seed before after

-- Where a command leaves the source as it was. `execute` and `repair` do so where the files are told and an input is refused, or the plan is not valid.
abbrev pub KeepsSource : {S : Type 0} → Bool → Files → Option Command → S → S → Type 0
KeepsSource told files None before after = after ≡ before
KeepsSource told files (Some (plan instance plan_file certificate budget)) before after = after ≡ before
KeepsSource told files (Some (check instance plan_file certificate strict)) before after = after ≡ before
KeepsSource told files (Some (replay instance plan_file)) before after = after ≡ before
KeepsSource told files (Some (show instance plan_file)) before after = after ≡ before
KeepsSource told files (Some (picture instance plan_file picture_file)) before after = after ≡ before
KeepsSource told files (Some (script instance script_file out_file)) before after = after ≡ before
KeepsSource told files (Some (execute instance plan_file)) before after = IsTrue told → ¬ Starts files instance plan_file → after ≡ before
KeepsSource told files (Some (repair instance plan_file new_instance new_plan)) before after = IsTrue told → ¬ Starts files instance plan_file → after ≡ before
KeepsSource told files (Some (explain instance core certificate budget)) before after = after ≡ before
KeepsSource told files (Some (cut instance groups_file number part_file)) before after = after ≡ before
KeepsSource told files (Some (parts instance groups_file plan_file certificate budget)) before after = after ≡ before
KeepsSource told files (Some (checkparts instance groups_file plan_file certificate)) before after = after ≡ before
KeepsSource told files (Some (generate seed instance)) before after = after ≡ before
KeepsSource told files (Some (demo seed)) before after = after ≡ before

-- What a command takes from a source that tells, by what it prints and its status.
abbrev pub Takes : Option Command → Taking → Outside → Outside → Status → Type 0
Takes None taking before after result = Unit {0}
Takes (Some (plan instance plan_file certificate budget)) taking before after result = Unit {0}
Takes (Some (check instance plan_file certificate strict)) taking before after result = Unit {0}
Takes (Some (replay instance plan_file)) taking before after result = Unit {0}
Takes (Some (show instance plan_file)) taking before after result = Unit {0}
Takes (Some (picture instance plan_file picture_file)) taking before after result = Unit {0}
Takes (Some (script instance script_file out_file)) taking before after result = Unit {0}
Takes (Some (execute instance plan_file)) taking before after result = TakesRead instance plan_file taking before after result
Takes (Some (repair instance plan_file new_instance new_plan)) taking before after result = TakesEvents instance plan_file new_instance new_plan taking before after result
Takes (Some (explain instance core certificate budget)) taking before after result = Unit {0}
Takes (Some (cut instance groups_file number part_file)) taking before after result = Unit {0}
Takes (Some (parts instance groups_file plan_file certificate budget)) taking before after result = Unit {0}
Takes (Some (checkparts instance groups_file plan_file certificate)) taking before after result = Unit {0}
Takes (Some (generate seed instance)) taking before after result = Unit {0}
Takes (Some (demo seed)) taking before after result = Unit {0}

-- What a command does to the desk's count of failed writes. One that only reads leaves it.
abbrev pub KeepsDeskWrites : Option Command → ℕ → ℕ → Type 0
KeepsDeskWrites None before after = after ≡ before
KeepsDeskWrites (Some (plan instance plan_file certificate budget)) before after = Unit {0}
KeepsDeskWrites (Some (check instance plan_file certificate strict)) before after = after ≡ before
KeepsDeskWrites (Some (replay instance plan_file)) before after = after ≡ before
KeepsDeskWrites (Some (show instance plan_file)) before after = after ≡ before
KeepsDeskWrites (Some (picture instance plan_file picture_file)) before after = Unit {0}
KeepsDeskWrites (Some (script instance script_file out_file)) before after = Unit {0}
KeepsDeskWrites (Some (execute instance plan_file)) before after = after ≡ before
KeepsDeskWrites (Some (repair instance plan_file new_instance new_plan)) before after = Unit {0}
KeepsDeskWrites (Some (explain instance core certificate budget)) before after = Unit {0}
KeepsDeskWrites (Some (cut instance groups_file number part_file)) before after = Unit {0}
KeepsDeskWrites (Some (parts instance groups_file plan_file certificate budget)) before after = Unit {0}
KeepsDeskWrites (Some (checkparts instance groups_file plan_file certificate)) before after = after ≡ before
KeepsDeskWrites (Some (generate seed instance)) before after = Unit {0}
KeepsDeskWrites (Some (demo seed)) before after = Unit {0}

-- What a command does to the desk's count of failed reads. One that only writes leaves it.
abbrev pub KeepsDeskReads : Option Command → ℕ → ℕ → Type 0
KeepsDeskReads None before after = after ≡ before
KeepsDeskReads (Some (plan instance plan_file certificate budget)) before after = Unit {0}
KeepsDeskReads (Some (check instance plan_file certificate strict)) before after = Unit {0}
KeepsDeskReads (Some (replay instance plan_file)) before after = Unit {0}
KeepsDeskReads (Some (show instance plan_file)) before after = Unit {0}
KeepsDeskReads (Some (picture instance plan_file picture_file)) before after = Unit {0}
KeepsDeskReads (Some (script instance script_file out_file)) before after = Unit {0}
KeepsDeskReads (Some (execute instance plan_file)) before after = Unit {0}
KeepsDeskReads (Some (repair instance plan_file new_instance new_plan)) before after = Unit {0}
KeepsDeskReads (Some (explain instance core certificate budget)) before after = Unit {0}
KeepsDeskReads (Some (cut instance groups_file number part_file)) before after = Unit {0}
KeepsDeskReads (Some (parts instance groups_file plan_file certificate budget)) before after = Unit {0}
KeepsDeskReads (Some (checkparts instance groups_file plan_file certificate)) before after = Unit {0}
KeepsDeskReads (Some (generate seed instance)) before after = after ≡ before
KeepsDeskReads (Some (demo seed)) before after = Unit {0}

-- The command reads a file or the source, so a read may fail.
abbrev pub ReadsInput : Option Command → Type 0
ReadsInput None = ⊥
ReadsInput (Some (plan instance plan_file certificate budget)) = Unit {0}
ReadsInput (Some (check instance plan_file certificate strict)) = Unit {0}
ReadsInput (Some (replay instance plan_file)) = Unit {0}
ReadsInput (Some (show instance plan_file)) = Unit {0}
ReadsInput (Some (picture instance plan_file picture_file)) = Unit {0}
ReadsInput (Some (script instance script_file out_file)) = Unit {0}
ReadsInput (Some (execute instance plan_file)) = Unit {0}
ReadsInput (Some (repair instance plan_file new_instance new_plan)) = Unit {0}
ReadsInput (Some (explain instance core certificate budget)) = Unit {0}
ReadsInput (Some (cut instance groups_file number part_file)) = Unit {0}
ReadsInput (Some (parts instance groups_file plan_file certificate budget)) = Unit {0}
ReadsInput (Some (checkparts instance groups_file plan_file certificate)) = Unit {0}
ReadsInput (Some (generate seed instance)) = ⊥
ReadsInput (Some (demo seed)) = Unit {0}
