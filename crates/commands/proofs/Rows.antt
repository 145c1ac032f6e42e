-- The answer of each command is that of its row.
use Rattle.std.proofs.Common.{ℕ, Bool, List, Option, Some, None, Result, Ok, Err, codes, refl}
use Rattle.command_frame.proofs.Public.{ends_more, prints_more}
use Rattle.commands.specs.Prelude.{AnswersFrom, AnswersFromPlan, check, checkparts, cut, demo, Ending, Ends, execute, Executes, explain, Fault, generate, IsAnswer, IsChecked, IsCheckedByParts, IsCutOut, IsDemonstrated, IsExplained, IsGenerated, IsPlanned, IsPlannedByParts, IsScripted, Lists, Outside, parts, picture, Pictures, plan, PrintsPrefix, PrintsPrefixOf, repair, RepairsPlan, replay, Replays, script, show, Status}

-- ---- how a command ends

-- words that are in no command end with their fault, and leave all as it was
pub no_command : (source : Option (List ℕ)) (before : Outside) → Ends (IsAnswer None source before) before (Err Fault.Words)
unfolding Ends IsAnswer
no_command source before = record { printed = refl; status = refl; files = refl }

pub plan_row : (instance plan_file certificate : List ℕ) (budget : ℕ) (source : Option (List ℕ)) (before after : Outside) (ended : Result Ending Fault) →
    Ends (AnswersFrom (IsPlanned plan_file certificate budget) instance before) after ended → Ends (IsAnswer (Some (plan instance plan_file certificate budget)) source before) after ended
unfolding AnswersFrom IsAnswer
plan_row instance plan_file certificate budget source before after ended ends =
    ends_more (AnswersFrom (IsPlanned plan_file certificate budget) instance before) (IsAnswer (Some (plan instance plan_file certificate budget)) source before) after ended (λ then result is. is) ends

pub check_row : (instance plan_file certificate : List ℕ) (strict : Bool) (source : Option (List ℕ)) (before after : Outside) (ended : Result Ending Fault) →
    Ends (AnswersFrom (IsChecked plan_file certificate strict) instance before) after ended → Ends (IsAnswer (Some (check instance plan_file certificate strict)) source before) after ended
unfolding AnswersFrom IsAnswer
check_row instance plan_file certificate strict source before after ended ends =
    ends_more (AnswersFrom (IsChecked plan_file certificate strict) instance before) (IsAnswer (Some (check instance plan_file certificate strict)) source before) after ended (λ then result is. is) ends

pub replay_row : (instance plan_file : List ℕ) (source : Option (List ℕ)) (before after : Outside) (ended : Result Ending Fault) →
    Ends (AnswersFromPlan Replays instance plan_file before) after ended → Ends (IsAnswer (Some (replay instance plan_file)) source before) after ended
unfolding AnswersFromPlan IsAnswer
replay_row instance plan_file source before after ended ends =
    ends_more (AnswersFromPlan Replays instance plan_file before) (IsAnswer (Some (replay instance plan_file)) source before) after ended (λ then result is. is) ends

pub show_row : (instance plan_file : List ℕ) (source : Option (List ℕ)) (before after : Outside) (ended : Result Ending Fault) →
    Ends (AnswersFromPlan Lists instance plan_file before) after ended → Ends (IsAnswer (Some (show instance plan_file)) source before) after ended
unfolding AnswersFromPlan IsAnswer
show_row instance plan_file source before after ended ends =
    ends_more (AnswersFromPlan Lists instance plan_file before) (IsAnswer (Some (show instance plan_file)) source before) after ended (λ then result is. is) ends

pub picture_row : (instance plan_file picture_file : List ℕ) (source : Option (List ℕ)) (before after : Outside) (ended : Result Ending Fault) →
    Ends (AnswersFromPlan (Pictures picture_file) instance plan_file before) after ended → Ends (IsAnswer (Some (picture instance plan_file picture_file)) source before) after ended
unfolding AnswersFromPlan IsAnswer
picture_row instance plan_file picture_file source before after ended ends =
    ends_more (AnswersFromPlan (Pictures picture_file) instance plan_file before) (IsAnswer (Some (picture instance plan_file picture_file)) source before) after ended (λ then result is. is) ends

pub script_row : (instance script_file out_file : List ℕ) (source : Option (List ℕ)) (before after : Outside) (ended : Result Ending Fault) →
    Ends (AnswersFrom (IsScripted script_file out_file) instance before) after ended → Ends (IsAnswer (Some (script instance script_file out_file)) source before) after ended
unfolding AnswersFrom IsAnswer
script_row instance script_file out_file source before after ended ends =
    ends_more (AnswersFrom (IsScripted script_file out_file) instance before) (IsAnswer (Some (script instance script_file out_file)) source before) after ended (λ then result is. is) ends

pub execute_row : (instance plan_file : List ℕ) (source : Option (List ℕ)) (before after : Outside) (ended : Result Ending Fault) →
    Ends (AnswersFromPlan (Executes source) instance plan_file before) after ended → Ends (IsAnswer (Some (execute instance plan_file)) source before) after ended
unfolding AnswersFromPlan IsAnswer
execute_row instance plan_file source before after ended ends =
    ends_more (AnswersFromPlan (Executes source) instance plan_file before) (IsAnswer (Some (execute instance plan_file)) source before) after ended (λ then result is. is) ends

pub repair_row : (instance plan_file new_instance new_plan : List ℕ) (source : Option (List ℕ)) (before after : Outside) (ended : Result Ending Fault) →
    Ends (AnswersFromPlan (RepairsPlan source new_instance new_plan) instance plan_file before) after ended → Ends (IsAnswer (Some (repair instance plan_file new_instance new_plan)) source before) after ended
unfolding AnswersFromPlan IsAnswer
repair_row instance plan_file new_instance new_plan source before after ended ends =
    ends_more (AnswersFromPlan (RepairsPlan source new_instance new_plan) instance plan_file before) (IsAnswer (Some (repair instance plan_file new_instance new_plan)) source before) after ended (λ then result is. is) ends

pub explain_row : (instance core certificate : List ℕ) (budget : ℕ) (source : Option (List ℕ)) (before after : Outside) (ended : Result Ending Fault) →
    Ends (AnswersFrom (IsExplained core certificate budget) instance before) after ended → Ends (IsAnswer (Some (explain instance core certificate budget)) source before) after ended
unfolding AnswersFrom IsAnswer
explain_row instance core certificate budget source before after ended ends =
    ends_more (AnswersFrom (IsExplained core certificate budget) instance before) (IsAnswer (Some (explain instance core certificate budget)) source before) after ended (λ then result is. is) ends

pub cut_row : (instance groups_file : List ℕ) (number : ℕ) (part_file : List ℕ) (source : Option (List ℕ)) (before after : Outside) (ended : Result Ending Fault) →
    Ends (AnswersFrom (IsCutOut groups_file number part_file) instance before) after ended → Ends (IsAnswer (Some (cut instance groups_file number part_file)) source before) after ended
unfolding AnswersFrom IsAnswer
cut_row instance groups_file number part_file source before after ended ends =
    ends_more (AnswersFrom (IsCutOut groups_file number part_file) instance before) (IsAnswer (Some (cut instance groups_file number part_file)) source before) after ended (λ then result is. is) ends

pub parts_row : (instance groups_file plan_file certificate : List ℕ) (budget : ℕ) (source : Option (List ℕ)) (before after : Outside) (ended : Result Ending Fault) →
    Ends (AnswersFrom (IsPlannedByParts groups_file plan_file certificate budget) instance before) after ended → Ends (IsAnswer (Some (parts instance groups_file plan_file certificate budget)) source before) after ended
unfolding AnswersFrom IsAnswer
parts_row instance groups_file plan_file certificate budget source before after ended ends =
    ends_more (AnswersFrom (IsPlannedByParts groups_file plan_file certificate budget) instance before) (IsAnswer (Some (parts instance groups_file plan_file certificate budget)) source before) after ended (λ then result is. is) ends

pub checkparts_row : (instance groups_file plan_file certificate : List ℕ) (source : Option (List ℕ)) (before after : Outside) (ended : Result Ending Fault) →
    Ends (AnswersFrom (IsCheckedByParts groups_file plan_file certificate) instance before) after ended → Ends (IsAnswer (Some (checkparts instance groups_file plan_file certificate)) source before) after ended
unfolding AnswersFrom IsAnswer
checkparts_row instance groups_file plan_file certificate source before after ended ends =
    ends_more (AnswersFrom (IsCheckedByParts groups_file plan_file certificate) instance before) (IsAnswer (Some (checkparts instance groups_file plan_file certificate)) source before) after ended (λ then result is. is) ends

pub generate_row : (seed : ℕ) (instance : List ℕ) (source : Option (List ℕ)) (before after : Outside) (ended : Result Ending Fault) →
    Ends (IsGenerated seed instance before) after ended → Ends (IsAnswer (Some (generate seed instance)) source before) after ended
unfolding IsAnswer
generate_row seed instance source before after ended ends =
    ends_more (IsGenerated seed instance before) (IsAnswer (Some (generate seed instance)) source before) after ended (λ then result is. is) ends

pub demo_row : (seed : ℕ) (source : Option (List ℕ)) (before after : Outside) (ended : Result Ending Fault) →
    Ends (IsDemonstrated seed before) after ended → Ends (IsAnswer (Some (demo seed)) source before) after ended
unfolding IsAnswer
demo_row seed source before after ended ends =
    ends_more (IsDemonstrated seed before) (IsAnswer (Some (demo seed)) source before) after ended (λ then result is. is) ends

-- ---- what is printed by those that print more than a last line

pub replay_prints : (instance plan_file : List ℕ) (source : Option (List ℕ)) (before after : Outside) →
    PrintsPrefixOf (AnswersFromPlan Replays instance plan_file before) before after → PrintsPrefix (Some (replay instance plan_file)) source before after
unfolding AnswersFromPlan IsAnswer PrintsPrefix
replay_prints instance plan_file source before after prints =
    prints_more (AnswersFromPlan Replays instance plan_file before) (IsAnswer (Some (replay instance plan_file)) source before) before after (λ then result is. is) prints

pub show_prints : (instance plan_file : List ℕ) (source : Option (List ℕ)) (before after : Outside) →
    PrintsPrefixOf (AnswersFromPlan Lists instance plan_file before) before after → PrintsPrefix (Some (show instance plan_file)) source before after
unfolding AnswersFromPlan IsAnswer PrintsPrefix
show_prints instance plan_file source before after prints =
    prints_more (AnswersFromPlan Lists instance plan_file before) (IsAnswer (Some (show instance plan_file)) source before) before after (λ then result is. is) prints

pub execute_prints : (instance plan_file : List ℕ) (source : Option (List ℕ)) (before after : Outside) →
    PrintsPrefixOf (AnswersFromPlan (Executes source) instance plan_file before) before after → PrintsPrefix (Some (execute instance plan_file)) source before after
unfolding AnswersFromPlan IsAnswer PrintsPrefix
execute_prints instance plan_file source before after prints =
    prints_more (AnswersFromPlan (Executes source) instance plan_file before) (IsAnswer (Some (execute instance plan_file)) source before) before after (λ then result is. is) prints

pub ruleset rows = (no_command, plan_row, check_row, replay_row, show_row, picture_row, script_row, execute_row, explain_row, cut_row, parts_row, checkparts_row, generate_row, demo_row, replay_prints, show_prints, execute_prints)
