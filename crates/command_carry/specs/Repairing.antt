-- What `repair` answers, what it leaves in the files, and which bytes it takes from the source.
use Rattle.std.specs.Prelude.{◌≡◌, ◌≢◌, ◌⊎◌, ◌++◌, ◌≤◌, ℕ, List, length, Option, Some, None, Ok, codes}
use Rattle.std.specs.Fmt.{decimal}
use Rattle.cluster.specs.Inventory.{name_of}
use Rattle.cluster.specs.declared.ids.Element.{Element}
use Rattle.plan_io.specs.Files.{bytes_of, Files}
use Rattle.slices.specs.{Costs.cost_of, Plans.choices_of, Rules.IsFirstBroken, declared.rule.Broken.Broken}
use Rattle.executor.specs.Prelude.{Choices, first_phases, Instance, inventory_of, IsExecution, IsFirst, IsInstance, IsValid, Phases, PlanChoices}
use Rattle.executor.specs.declared.phase.Phase.TheVariants.{Running}
use Rattle.instance_make.specs.Prelude.{instance_of, instance_text, max_text_bytes}
use Rattle.plan_json.specs.Prelude.{plan_of, plan_text}
use Rattle.replay.specs.Lines.{broken_line}
use Rattle.repair.specs.{Events.EndsFrom, Events.Point, Events.point, Events.StopsInLine, Rest.IsGoingOn, declared.following.Ending.Ending, declared.following.Ending.TheVariants.AllRead, declared.following.Ending.TheVariants.Refused}
use Rattle.command_frame.specs.{Answer.Outside, Answer.Says, Answer.AnswersBy, Inputs.Instance.instance_in, Inputs.Plan.plan_in, Outputs.AreTextsCut, Outputs.HasTexts, declared.status.Status.Status}
use Rattle.command_carry.specs.Executing.{refused_line, TakesNothing, Taking}

-- ---- the last line

-- The line that says what the new plan costs.
unfoldable pub repaired_line : ℕ → List ℕ
repaired_line cost = codes "repaired " ++ decimal cost ++ codes "\n"

-- The line that names an element whose action runs.
unfoldable pub running_line : Instance → Element → List ℕ
running_line p e = codes "running " ++ name_of (inventory_of p) e ++ codes "\n"

-- ---- the answer

-- Nothing runs, and the problem and the plan that are left are written: the new problem, with the plan, a valid one of it, and its cost. Each file is read back,
-- the instance where it has no more bytes than an instance may have.
pub record Repairs (p : Instance) (plan : Choices) (phases : Phases) (new_instance new_plan : List ℕ) (before after : Outside) (result : Status) : Type 0 where
  pub nothing_runs : (e : Element) → phases e ≢ Running
  pub problem : Instance
  pub kept : PlanChoices
  pub sound : IsInstance problem
  pub goes_on : IsGoingOn p plan phases problem kept
  pub written : HasTexts new_instance (instance_text problem) new_plan (plan_text problem (Some kept)) before.files after.files
  pub instance_reads : length (instance_text problem) ≤ max_text_bytes → instance_of (bytes_of (after.files new_instance)) ≡ Ok problem
  pub plan_reads : plan_of problem (bytes_of (after.files new_plan)) ≡ Ok (Some kept)
  pub printed : after.printed ≡ before.printed ++ repaired_line (cost_of problem (choices_of kept))
  pub status : result ≡ Status.Good

-- After all events: the first element whose action runs is named, and no file changes; or else what is left is written.
unfoldable pub SaysRest : Instance → Choices → Phases → (new_instance new_plan : List ℕ) → Outside → Outside → Status → Type 0
SaysRest p plan phases new_instance new_plan before after result =
    ((e : Element) × IsFirst p (λ x. phases x ≡ Running) e × Says (running_line p e) Status.Negative before after result)
    ⊎ Repairs p plan phases new_instance new_plan before after result

-- By how the reading of the events ends: a refused line is told, and no file changes.
abbrev pub SaysEnding : Instance → Choices → Phases → (new_instance new_plan : List ℕ) → Ending → Outside → Outside → Status → Type 0
SaysEnding p plan phases new_instance new_plan AllRead before after result = SaysRest p plan phases new_instance new_plan before after result
SaysEnding p plan phases new_instance new_plan (Refused number fault) before after result = Says (refused_line number fault) Status.Input before after result

-- Before the first event nothing has started.
abbrev pub first_event : Choices → (bytes : List ℕ) → Point
first_event plan bytes = point (first_phases plan) 0 bytes

-- The events of the bytes of a source are followed to an ending, which is said, and the rest of the bytes is left.
pub record RepairsBy (p : Instance) (plan : Choices) (new_instance new_plan bytes rest : List ℕ) (before after : Outside) (result : Status) : Type 0 where
  pub ending : Ending
  pub phases : Phases
  pub follows : EndsFrom p plan (first_event plan bytes) ending phases rest
  pub says : SaysEnding p plan phases new_instance new_plan ending before after result

-- Some execution of the plan is followed to an ending, which is said.
pub record RepairsSome (p : Instance) (plan : Choices) (new_instance new_plan : List ℕ) (before after : Outside) (result : Status) : Type 0 where
  pub ending : Ending
  pub phases : Phases
  pub execution : IsExecution p plan phases
  pub says : SaysEnding p plan phases new_instance new_plan ending before after result

-- The execution is the one that a source tells. Of a source that does not tell its bytes it is one that the plan may have.
abbrev pub RepairsTold : Instance → Choices → (new_instance new_plan : List ℕ) → Option (List ℕ) → Outside → Outside → Status → Type 0
RepairsTold p plan new_instance new_plan None before after result = RepairsSome p plan new_instance new_plan before after result
RepairsTold p plan new_instance new_plan (Some bytes) before after result = (rest : List ℕ) × RepairsBy p plan new_instance new_plan bytes rest before after result

-- A plan that is not valid is told by its first broken rule. Of a valid one the events are followed.
unfoldable pub RepairsPlan : Option (List ℕ) → (new_instance new_plan : List ℕ) → Instance → Choices → Outside → Outside → Status → Type 0
RepairsPlan source new_instance new_plan p plan before after result =
    ((broken : Broken) × IsFirstBroken p plan broken × Says (broken_line p broken) Status.Negative before after result)
    ⊎ (IsValid p plan × RepairsTold p plan new_instance new_plan source before after result)

-- `repair` of a problem, by the plan that its file holds.
abbrev pub IsRepaired : Option (List ℕ) → (plan_file new_instance new_plan : List ℕ) → Instance → Outside → Outside → Status → Type 0
IsRepaired source plan_file new_instance new_plan p before after result = AnswersBy (RepairsPlan source new_instance new_plan p) (plan_in p before.files plan_file) before after result

-- ---- what is left in the files

-- Nothing runs, and the texts of the problem and the plan that are left are cut.
pub record IsRepairCut (p : Instance) (plan : Choices) (phases : Phases) (new_instance new_plan : List ℕ) (before after : Files) : Type 0 where
  pub nothing_runs : (e : Element) → phases e ≢ Running
  pub problem : Instance
  pub kept : PlanChoices
  pub goes_on : IsGoingOn p plan phases problem kept
  pub cut : AreTextsCut new_instance (instance_text problem) new_plan (plan_text problem (Some kept)) before after

-- All is as before, or the texts are cut.
abbrev pub LeavesRest : Instance → Choices → Phases → (new_instance new_plan : List ℕ) → Files → Files → Type 0
LeavesRest p plan phases new_instance new_plan before after = (after ≡ before) ⊎ IsRepairCut p plan phases new_instance new_plan before after

-- However it ends, all is as before, or the plan is valid and the texts are those of an execution that it may have.
abbrev pub LeavesRepaired : (new_instance new_plan : List ℕ) → Instance → Choices → Files → Files → Type 0
LeavesRepaired new_instance new_plan p plan before after =
    (after ≡ before) ⊎ ((phases : Phases) × IsValid p plan × IsExecution p plan phases × IsRepairCut p plan phases new_instance new_plan before after)

-- ---- what is taken from the source

-- Where a line is refused no file changes.
abbrev pub LeavesEnding : Instance → Choices → Phases → (new_instance new_plan : List ℕ) → Ending → Files → Files → Type 0
LeavesEnding p plan phases new_instance new_plan AllRead before after = LeavesRest p plan phases new_instance new_plan before after
LeavesEnding p plan phases new_instance new_plan (Refused number fault) before after = after ≡ before

-- The events are followed to an ending; not all of what is due then was written.
pub record StopsAtEnding (p : Instance) (plan : Choices) (new_instance new_plan bytes rest : List ℕ) (before after : Files) : Type 0 where
  pub ending : Ending
  pub phases : Phases
  pub follows : EndsFrom p plan (first_event plan bytes) ending phases rest
  pub left : LeavesEnding p plan phases new_instance new_plan ending before after

-- The reading stops within a line, nothing is printed, and no file changes.
pub record StopsReading (p : Instance) (plan : Choices) (bytes rest : List ℕ) (before after : Outside) : Type 0 where
  pub phases : Phases
  pub stops : StopsInLine p plan (first_event plan bytes) phases rest
  pub printed : after.printed ≡ before.printed
  pub files : after.files ≡ before.files

-- What is taken of the events of a valid plan, by the status.
abbrev pub TookEvents : Instance → Choices → (new_instance new_plan : List ℕ) → Taking → Outside → Outside → Status → Type 0
TookEvents p plan new_instance new_plan taking before after Status.Good = RepairsBy p plan new_instance new_plan taking.bytes taking.rest before after Status.Good
TookEvents p plan new_instance new_plan taking before after Status.Negative = RepairsBy p plan new_instance new_plan taking.bytes taking.rest before after Status.Negative
TookEvents p plan new_instance new_plan taking before after Status.Undecided = RepairsBy p plan new_instance new_plan taking.bytes taking.rest before after Status.Undecided
TookEvents p plan new_instance new_plan taking before after Status.Words = RepairsBy p plan new_instance new_plan taking.bytes taking.rest before after Status.Words
TookEvents p plan new_instance new_plan taking before after Status.Input = RepairsBy p plan new_instance new_plan taking.bytes taking.rest before after Status.Input
-- a file or an event line could not be read: no byte is taken past the line in which the read failed
TookEvents p plan new_instance new_plan taking before after Status.ReadFault =
    TakesNothing taking before.printed after.printed ⊎ StopsReading p plan taking.bytes taking.rest before after
-- a write failed, and all events were taken before
TookEvents p plan new_instance new_plan taking before after Status.WriteFault = StopsAtEnding p plan new_instance new_plan taking.bytes taking.rest before.files after.files
-- want of memory: nothing is said
TookEvents p plan new_instance new_plan taking before after Status.Memory = Unit {0}

-- The same of a plan that may not be valid, of which nothing is said then.
abbrev pub TookEventsBy : Instance → Choices → (new_instance new_plan : List ℕ) → Taking → Outside → Outside → Status → Type 0
TookEventsBy p plan new_instance new_plan taking before after result = IsValid p plan → TookEvents p plan new_instance new_plan taking before after result

-- What is taken where the files hold a valid plan.
unfoldable pub TakesEvents : (instance plan_file new_instance new_plan : List ℕ) → Taking → Outside → Outside → Status → Type 0
TakesEvents instance plan_file new_instance new_plan taking before after result =
    (p : Instance) (plan : Choices) → instance_in before.files instance ≡ Ok p → plan_in p before.files plan_file ≡ Ok plan → TookEventsBy p plan new_instance new_plan taking before after result
