-- What the readings of an instance and of a plan answer.
use Rattle.base.proofs.Public.{◌≡◌, ◌<◌, ◌≤◌, ℕ, List, Bool, length, nat_le, true, false, Option, Some, None, Ok, refl, ap, arith, nat_tests, Err, Result, if◌then◌else◌, codes, option_map}
use Rattle.command_frame.specs.Prelude.{any_plan_lined, any_plan_reading_of, Choices, choices_of, Fails, Fault, input_line, Instance, instance_fault_of, instance_line, instance_of, InstanceFault, inventory_of, lined, max_text_bytes, needed, plan_fault_of, plan_line, plan_of, PlanChoices, reading_of, Reads, whole_of}
use Rattle.instance_json.specs.Texts.{fault_text as instance_fault_text}
use Rattle.plan_json.specs.{Texts.fault_text as plan_fault_text, declared.fault.PlanFault.PlanFault}

-- ---- all bytes of an input

-- more bytes than an input may have
pub long_input : (input bytes : List ℕ) → max_text_bytes < length bytes → whole_of input bytes ≡ Err (input_line input (codes "too long"))
unfolding whole_of
long_input input bytes long =
    let past : nat_le (length bytes) max_text_bytes ≡ false = grind (arith, nat_tests) in
    rw past refl

-- no more bytes than an input may have
pub short_input : (input bytes : List ℕ) → length bytes ≤ max_text_bytes → whole_of input bytes ≡ Ok bytes
unfolding whole_of
short_input input bytes short =
    let within : nat_le (length bytes) max_text_bytes ≡ true = grind (arith, nat_tests) in
    rw within refl

-- a line that refuses the bytes of an input says that they are too many, and so they are
abbrev pub IsLong : (input bytes line : List ℕ) → Type 0
IsLong input bytes line = (nat_le (length bytes) max_text_bytes ≡ false) × (line ≡ input_line input (codes "too long"))

long_line : (input bytes line : List ℕ) → whole_of input bytes ≡ Err line → IsLong input bytes line
unfolding whole_of
long_line input bytes line = by_size (nat_le (length bytes) max_text_bytes) refl
  where
    by_size : (within : Bool) → nat_le (length bytes) max_text_bytes ≡ within → (if within then Ok bytes else Err (input_line input (codes "too long"))) ≡ Err line → IsLong input bytes line
    by_size true is e = absurd (cc)
    by_size false is e = (is, cc)

-- ---- an instance

-- a fault that is not want of memory is the instance's first one
pub first_instance_fault : (bytes : List ℕ) (f : InstanceFault) → ¬ (f ≡ InstanceFault.Memory) → Fails (instance_fault_of f) (instance_of bytes) → reading_of bytes ≡ Err (instance_line (instance_fault_text f))
unfolding reading_of
first_instance_fault bytes InstanceFault.TooLong other h = ap lined h
first_instance_fault bytes InstanceFault.NotJson other h = ap lined h
first_instance_fault bytes (InstanceFault.Field x) other h = ap lined h
first_instance_fault bytes (InstanceFault.Twice x) other h = ap lined h
first_instance_fault bytes (InstanceFault.NoSuch x) other h = ap lined h
first_instance_fault bytes (InstanceFault.BadHost x) other h = ap lined h
first_instance_fault bytes (InstanceFault.Limit x) other h = ap lined h
first_instance_fault bytes InstanceFault.Memory other h = absurd (other refl)

-- the line that its bytes are too many refuses an instance
pub long_instance : (bytes line : List ℕ) → whole_of (codes "instance") bytes ≡ Err line → reading_of bytes ≡ Err line
unfolding reading_of instance_of instance_fault_text
long_instance bytes line h =
    let long = long_line (codes "instance") bytes line h in
    rw (long.0, long.1) refl

-- ---- a plan or none

-- what the bytes are
pub any_plan : (p : Instance) (bytes : List ℕ) (plan : Option PlanChoices) → plan_of p bytes ≡ Ok plan → any_plan_reading_of p bytes ≡ Ok (option_map choices_of plan)
unfolding any_plan_reading_of
any_plan p bytes plan h = ap (any_plan_lined p) h

-- a fault that is not want of memory is the first one
pub first_fault_of_any_plan : (p : Instance) (bytes : List ℕ) (f : PlanFault) → ¬ (f ≡ PlanFault.Memory) → Fails (plan_fault_of f) (plan_of p bytes) → any_plan_reading_of p bytes ≡ Err (plan_line (plan_fault_text (inventory_of p) f))
unfolding any_plan_reading_of
first_fault_of_any_plan p bytes PlanFault.TooLong other h = ap (any_plan_lined p) h
first_fault_of_any_plan p bytes PlanFault.NotJson other h = ap (any_plan_lined p) h
first_fault_of_any_plan p bytes (PlanFault.Field x) other h = ap (any_plan_lined p) h
first_fault_of_any_plan p bytes (PlanFault.NoSuch x) other h = ap (any_plan_lined p) h
first_fault_of_any_plan p bytes (PlanFault.Twice x) other h = ap (any_plan_lined p) h
first_fault_of_any_plan p bytes (PlanFault.NotLegal x) other h = ap (any_plan_lined p) h
first_fault_of_any_plan p bytes (PlanFault.MustAct x) other h = ap (any_plan_lined p) h
first_fault_of_any_plan p bytes PlanFault.Memory other h = absurd (other refl)

-- the line that its bytes are too many refuses it
pub long_any_plan : (p : Instance) (bytes line : List ℕ) → whole_of (codes "plan") bytes ≡ Err line → any_plan_reading_of p bytes ≡ Err line
unfolding any_plan_reading_of plan_of plan_fault_text
long_any_plan p bytes line h =
    let long = long_line (codes "plan") bytes line h in
    rw (long.0, long.1) refl

-- ---- where there has to be a plan

-- there is one
pub the_plan : (reading : Result (Option Choices) (List ℕ)) (plan : PlanChoices) → reading ≡ Ok (option_map choices_of (Some plan)) → needed reading ≡ Ok (choices_of plan)
the_plan reading plan h = ap needed h

-- there is none
pub no_plan : (reading : Result (Option Choices) (List ℕ)) → reading ≡ Ok (option_map choices_of None) → needed reading ≡ Err (plan_line (codes "no plan"))
no_plan reading h = ap needed h

-- it is refused
pub refused_plan : (reading : Result (Option Choices) (List ℕ)) (f : Fault) → Reads (option_map choices_of) (Err f) reading → Reads choices_of (Err f) (needed reading)
refused_plan reading Fault.Words h = absurd h
refused_plan reading (Fault.Input line) h = ap needed h
refused_plan reading Fault.ReadFault h = absurd h
refused_plan reading Fault.WriteFault h = absurd h
refused_plan reading Fault.Memory h = tt

-- the line that its bytes are too many refuses it
pub long_plan : (p : Instance) (bytes line : List ℕ) → whole_of (codes "plan") bytes ≡ Err line → needed (any_plan_reading_of p bytes) ≡ Err line
long_plan p bytes line h = ap needed (long_any_plan p bytes line h)
