-- What `script` answers and leaves, by the readings of its inputs.
use Rattle.base.proofs.Public.{◌≡◌, ◌∙◌, ◌+◌, ◌-◌, ℕ, List, ◌++◌, length, length-append, Ok, refl, ap, arith, Result, Err}
use Rattle.catalogue.specs.declared.constraint.Constraint.{Constraint}
use Rattle.command_make.specs.Prelude.{AddsTo, Ending, Ends, Fault, Files, HasText, Instance, instance_text, IsScripted, outside, script_in, scripted_line, Scripts, Status}
use Rattle.command_frame.proofs.Public.{answers_refused, answers_well, ends_more, says}

-- ---- the problem that the script makes

-- how many constraints it has more
pub added_count : (own all : List Constraint) (p q : Instance) (adds : AddsTo p q) → own ≡ p.constraints → all ≡ q.constraints → length all - length own ≡ length adds.more
added_count own all p q adds own_is all_is =
    let whole : length all ≡ length own + length adds.more = rw (own_is, all_is) (ap (λ (r : Instance). length r.constraints) adds.whole ∙ length-append p.constraints adds.more) in
    omega (arith, whole)

-- it is written, and its line is said
pub scripted : (out_file : List ℕ) (p q : Instance) (adds : AddsTo p q) (count : ℕ) (before after : Files) (printed line : List ℕ) → count ≡ length adds.more → HasText out_file (instance_text q) before after → line ≡ scripted_line count → Scripts out_file p q (outside before printed) (outside after (printed ++ line)) Status.Good
scripted out_file p q adds count before after printed line is written text = record {
  adds = adds;
  written = written;
  printed = ap (λ l. printed ++ l) (text ∙ ap scripted_line is);
  status = refl;
}

-- ---- by the problem of the instance

-- the line that refuses the script
pub refused_script : (script_file out_file : List ℕ) (p : Instance) (before after : Files) (printed line : List ℕ) → after ≡ before → script_in p before script_file ≡ Err line → IsScripted script_file out_file p (outside before printed) (outside after (printed ++ line)) Status.Input
refused_script script_file out_file p before after printed line kept read =
    answers_refused (Scripts out_file p) _ line _ _ _ read (says line Status.Input before after printed kept)

-- how it ends with the problem that the script makes
pub ends_scripted : (script_file out_file : List ℕ) (p q : Instance) (before between after : Files) (printed : List ℕ) (ended : Result Ending Fault) → between ≡ before → script_in p before script_file ≡ Ok q →
    Ends (Scripts out_file p q (outside between printed)) (outside after printed) ended → Ends (IsScripted script_file out_file p (outside before printed)) (outside after printed) ended
ends_scripted script_file out_file p q before between after printed ended kept read ends =
    ends_more (Scripts out_file p q (outside before printed)) (IsScripted script_file out_file p (outside before printed)) (outside after printed) ended
    (λ then result is. answers_well (Scripts out_file p) _ q _ _ _ read is) (rw kept at ends)
