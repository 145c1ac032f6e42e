-- How commands end: what each command's answers are built of.
use Rattle.std.proofs.Common.{◌≡◌, ℕ, List, ◌++◌, Result, Ok, Err, refl}
use Rattle.command_frame.specs.Prelude.{AnswersBy, AnswersFrom, AnswersFromPlan, Choices, Ending, Ends, Fault, Files, Instance, instance_in, LeavesBy, LeavesFromPlan, out_fault, OutFault, Outside, outside, plan_in, Says, Status}

-- a refused write has no line
pub refused_write : (answer : Outside → Status → Type 0) (after : Outside) (refused : OutFault) → Ends answer after (Err (out_fault refused))
unfolding Ends
refused_write answer after OutFault.Failed = tt
refused_write answer after OutFault.Memory = tt

-- a part that ends with an answer ends with each answer that follows from it
pub ends_more : (answer wider : Outside → Status → Type 0) (after : Outside) (ended : Result Ending Fault) → ((then : Outside) (result : Status) → answer then result → wider then result) → Ends answer after ended → Ends wider after ended
unfolding Ends
ends_more answer wider after (Ok ending) more ends = more _ _ ends
ends_more answer wider after (Err Fault.Words) more ends = more _ _ ends
ends_more answer wider after (Err (Fault.Input line)) more ends = more _ _ ends
ends_more answer wider after (Err Fault.ReadFault) more ends = tt
ends_more answer wider after (Err Fault.WriteFault) more ends = tt
ends_more answer wider after (Err Fault.Memory) more ends = tt

-- a line that was due, where no file has changed
pub says : (line : List ℕ) (said : Status) (before after : Files) (printed : List ℕ) → after ≡ before → Says line said (outside before printed) (outside after (printed ++ line)) said
says line said before after printed kept = record { printed = refl; status = refl; files = kept }

-- the answer by an input's value
pub answers_well : {X : Type 0} (answer : X → Outside → Outside → Status → Type 0) (reading : Result X (List ℕ)) (x : X) (before after : Outside) (result : Status) → reading ≡ Ok x → answer x before after result → AnswersBy answer reading before after result
answers_well answer reading x before after result read is = rw read is

-- the line that refuses an input
pub answers_refused : {X : Type 0} (answer : X → Outside → Outside → Status → Type 0) (reading : Result X (List ℕ)) (line : List ℕ) (before after : Outside) (result : Status) → reading ≡ Err line → Says line Status.Input before after result → AnswersBy answer reading before after result
answers_refused answer reading line before after result read is = rw read is

-- ---- by the file of an instance

-- the answer by its problem
pub answers_from : (answer : Instance → Outside → Outside → Status → Type 0) (instance : List ℕ) (before after : Outside) (p : Instance) (result : Status) → instance_in before.files instance ≡ Ok p → answer p before after result →
    AnswersFrom answer instance before after result
unfolding AnswersFrom
answers_from answer instance before after p result read is = answers_well answer _ p _ _ _ read is

-- the line that refuses it
pub refused_instance : (answer : Instance → Outside → Outside → Status → Type 0) (instance : List ℕ) (before after : Files) (printed line : List ℕ) → after ≡ before → instance_in before instance ≡ Err line →
    AnswersFrom answer instance (outside before printed) (outside after (printed ++ line)) Status.Input
unfolding AnswersFrom
refused_instance answer instance before after printed line kept read = answers_refused answer _ line _ _ _ read (says line Status.Input before after printed kept)

-- how the command ends by its problem
pub ends_from : (answer : Instance → Outside → Outside → Status → Type 0) (instance : List ℕ) (before between after : Files) (printed : List ℕ) (p : Instance) (ended : Result Ending Fault) → between ≡ before → instance_in before instance ≡ Ok p →
    Ends (answer p (outside between printed)) (outside after printed) ended → Ends (AnswersFrom answer instance (outside before printed)) (outside after printed) ended
ends_from answer instance before between after printed p ended kept read ends =
    ends_more (answer p (outside before printed)) (AnswersFrom answer instance (outside before printed)) (outside after printed) ended
    (λ then result. answers_from answer instance (outside before printed) then p result read) (rw kept at ends)

-- ---- by the files of an instance and of a plan

-- the answer by both
pub answers_from_plan : (answer : Instance → Choices → Outside → Outside → Status → Type 0) (instance plan_file : List ℕ) (before after : Outside) (p : Instance) (plan : Choices) (result : Status) → instance_in before.files instance ≡ Ok p →
    plan_in p before.files plan_file ≡ Ok plan → answer p plan before after result → AnswersFromPlan answer instance plan_file before after result
unfolding AnswersFromPlan
answers_from_plan answer instance plan_file before after p plan result read plan_read is =
    answers_well (λ q start end said. AnswersBy (answer q) (plan_in q start.files plan_file) start end said) _ p _ _ _ read (answers_well (answer p) _ plan _ _ _ plan_read is)

-- the line that refuses the instance
pub refused_problem : (answer : Instance → Choices → Outside → Outside → Status → Type 0) (instance plan_file : List ℕ) (before after : Files) (printed line : List ℕ) → after ≡ before → instance_in before instance ≡ Err line →
    AnswersFromPlan answer instance plan_file (outside before printed) (outside after (printed ++ line)) Status.Input
unfolding AnswersFromPlan
refused_problem answer instance plan_file before after printed line kept read =
    answers_refused (λ q start end said. AnswersBy (answer q) (plan_in q start.files plan_file) start end said) _ line _ _ _ read (says line Status.Input before after printed kept)

-- the line that refuses the plan
pub refused_plan : (answer : Instance → Choices → Outside → Outside → Status → Type 0) (instance plan_file : List ℕ) (before after : Files) (printed line : List ℕ) (p : Instance) → after ≡ before → instance_in before instance ≡ Ok p →
    plan_in p before plan_file ≡ Err line → AnswersFromPlan answer instance plan_file (outside before printed) (outside after (printed ++ line)) Status.Input
unfolding AnswersFromPlan
refused_plan answer instance plan_file before after printed line p kept read plan_read =
    answers_well (λ q start end said. AnswersBy (answer q) (plan_in q start.files plan_file) start end said) _ p _ _ _ read
    (answers_refused (answer p) _ line _ _ _ plan_read (says line Status.Input before after printed kept))

-- how the command ends by both, once they were read
pub ends_from_plan : (answer : Instance → Choices → Outside → Outside → Status → Type 0) (instance plan_file : List ℕ) (before between then : Files) (printed : List ℕ) (after : Outside) (p : Instance) (plan : Choices) (ended : Result Ending Fault) →
    between ≡ before → then ≡ between → instance_in before instance ≡ Ok p → plan_in p between plan_file ≡ Ok plan → Ends (answer p plan (outside then printed)) after ended →
    Ends (AnswersFromPlan answer instance plan_file (outside before printed)) after ended
ends_from_plan answer instance plan_file before between then printed after p plan ended kept then_kept read plan_read ends =
    ends_more (answer p plan (outside before printed)) (AnswersFromPlan answer instance plan_file (outside before printed)) after ended
    (λ last result. answers_from_plan answer instance plan_file (outside before printed) last p plan result read (rw kept at plan_read)) (rw (then_kept, kept) at ends)

-- a value is no fault
pub value_is_no_fault : {T : Type 0} (x : T) (f : Fault) → ◌≡◌ {A = Result T Fault} (Ok x) (Err f) → ⊥
value_is_no_fault x f e = cc

-- ---- what is left

-- what is left by an input's value
pub left_well : {X : Type 0} (leaves : X → Files → Files → Type 0) (reading : Result X (List ℕ)) (x : X) (before after : Files) → reading ≡ Ok x → leaves x before after → LeavesBy leaves reading before after
left_well leaves reading x before after read is = rw read is

-- all as it was, whatever the input means
pub left_same : {X : Type 0} (leaves : X → Files → Files → Type 0) (reading : Result X (List ℕ)) (files : Files) → ((x : X) → leaves x files files) → LeavesBy leaves reading files files
left_same leaves (Ok x) files each = each x
left_same leaves (Err line) files each = refl

-- what is left by a problem and its plan, once they were read
pub left_from_plan : (leaves : Instance → Choices → Files → Files → Type 0) (instance plan_file : List ℕ) (before between then after : Files) (p : Instance) (plan : Choices) → between ≡ before → then ≡ between → instance_in before instance ≡ Ok p →
    plan_in p between plan_file ≡ Ok plan → leaves p plan then after → LeavesFromPlan leaves instance plan_file before after
left_from_plan leaves instance plan_file before between then after p plan kept then_kept read plan_read left =
    left_well (λ q start end. LeavesBy (leaves q) (plan_in q start plan_file) start end) (instance_in before instance) p before after read
    (left_well (leaves p) (plan_in p before plan_file) plan before after (rw kept at plan_read) (rw (then_kept, kept) at left))

-- all as it was, whatever they mean
pub left_unread : (leaves : Instance → Choices → Files → Files → Type 0) (instance plan_file : List ℕ) (before after : Files) → after ≡ before → ((p : Instance) (plan : Choices) → leaves p plan before before) → LeavesFromPlan leaves instance plan_file before after
left_unread leaves instance plan_file before after kept each =
    rw kept (left_same (λ p start end. LeavesBy (leaves p) (plan_in p start plan_file) start end) (instance_in before instance) before
    (λ p. left_same (leaves p) (plan_in p before plan_file) before (each p)))
