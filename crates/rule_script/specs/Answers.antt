-- What a call answers of a value or its mistake; of want of memory nothing is said.
use Rattle.std.specs.Prelude.{◌≡◌, Result, Ok, Err}
use Rattle.rule_script.specs.declared.faults.Mistake.{Mistake}
use Rattle.rule_script.specs.declared.faults.Refusal.{Refusal}
use Rattle.rule_script.specs.declared.faults.Refusal.TheVariants.{Memory, Wrong}

-- the value, or the mistake
abbrev pub Answers : {A : Type 0} → Result A Refusal → Result A Mistake → Type 0
Answers (Ok x) found = found ≡ Ok x
Answers (Err (Wrong m)) found = found ≡ Err m
Answers (Err Memory) found = Unit {0}

-- what stands after the call is the value, or there is the mistake
abbrev pub Reaches : {A : Type 0} → Result (Unit {0}) Refusal → A → Result A Mistake → Type 0
Reaches (Ok _) after found = found ≡ Ok after
Reaches (Err (Wrong m)) after found = found ≡ Err m
Reaches (Err Memory) after found = Unit {0}
