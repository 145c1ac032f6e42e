-- Helping only: the faults of lower calls as refusals of a line.
use Rattle.catalogue.specs.declared.constraint.RuleFault.{RuleFault}
use Rattle.catalogue.specs.declared.constraint.RuleFault.TheVariants as fault
use Rattle.rule_script.specs.declared.faults.LineFault.{LineFault}
use Rattle.rule_script.specs.declared.faults.LineFault.TheVariants as line
use Rattle.rule_script.specs.declared.faults.Mistake.TheVariants.{NotALine, NoSuch, OutOfRange, Twice, TooMany}
use Rattle.rule_script.specs.declared.faults.Refusal.{Refusal}
use Rattle.rule_script.specs.declared.faults.Refusal.TheVariants.{Memory, Wrong}

abbrev pub refusal_of_line : LineFault → Refusal
refusal_of_line line.NotALine = Wrong NotALine
refusal_of_line line.Memory = Memory

abbrev pub refusal_of : RuleFault → Refusal
refusal_of fault.TooMany = Wrong TooMany
refusal_of fault.NoSuch = Wrong NoSuch
refusal_of fault.Twice = Wrong Twice
refusal_of fault.TooGreat = Wrong OutOfRange
refusal_of fault.Memory = Memory
