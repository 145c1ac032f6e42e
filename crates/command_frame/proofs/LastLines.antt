-- How a part ends that has a last line, and what is so however it ends.
use Rattle.base.proofs.Public.{◌≡◌, ℕ, List, ◌++◌, Option, Some, None, Ok, String, refl, sym, subst, Global, whole, longer, Result, Err, option_map, string_bytes}
use Rattle.command_frame.specs.Prelude.{Ending, Ends, EndsAnyhow, Fault, fault_status, IsLastLine, LastEnds, line_of, LineEnds, outcome_status, Outside, outside, printed_with, Status}

-- the line that is due is printed
printed_is : (printed line : List ℕ) (o : Option (String Global)) → option_map string_bytes o ≡ Some line → printed_with printed o ≡ printed ++ line
printed_is printed line None is = cc
printed_is printed line (Some text) is = let same : string_bytes text ≡ line = cc in rw same refl

-- the answer stands once the last line is printed
pub ends_with_line : (answer : Outside → Status → Type 0) (after : Outside) (line : List ℕ) (said : Status) (ended : Result Ending Fault) → IsLastLine ended line said →
    answer (outside after.files (after.printed ++ line)) said → Ends answer after ended
unfolding Ends
ends_with_line answer after line said (Ok ending) is stands =
    subst (λ (s : Status). answer (outside after.files (printed_with after.printed ending.line)) s) (sym is.1)
    (subst (λ (l : List ℕ). answer (outside after.files l) said) (sym (printed_is after.printed line ending.line is.0)) stands)
ends_with_line answer after line said (Err Fault.Words) is stands = absurd is
ends_with_line answer after line said (Err (Fault.Input text)) is stands = rw is.0 (subst (λ (s : Status). answer (outside after.files (after.printed ++ line)) s) is.1 stands)
ends_with_line answer after line said (Err Fault.ReadFault) is stands = absurd is
ends_with_line answer after line said (Err Fault.WriteFault) is stands = absurd is
ends_with_line answer after line said (Err Fault.Memory) is stands = tt

-- what is so however the line ends
pub anyhow_with_line : (takes : Outside → Status → Type 0) (after : Outside) (line : List ℕ) (said : Status) (ended : Result Ending Fault) → IsLastLine ended line said →
    LineEnds takes after line said → EndsAnyhow takes after ended
unfolding EndsAnyhow
anyhow_with_line takes after line said (Ok ending) is ends = rw (is.0, is.1) ends
anyhow_with_line takes after line said (Err Fault.Words) is ends = absurd is
anyhow_with_line takes after line said (Err (Fault.Input text)) is ends = rw is.0 (subst (λ (s : Status). LineEnds takes after line s) is.1 ends)
anyhow_with_line takes after line said (Err Fault.ReadFault) is ends = absurd is
anyhow_with_line takes after line said (Err Fault.WriteFault) is ends = absurd is
anyhow_with_line takes after line said (Err Fault.Memory) is ends = ends.memory after.printed (whole after.printed) (longer after.printed line)

-- ---- what follows from what is so

line_more : (takes wider : Outside → Status → Type 0) (after : Outside) (line : List ℕ) (said : Status) → ((then : Outside) (result : Status) → takes then result → wider then result) →
    LineEnds takes after line said → LineEnds wider after line said
line_more takes wider after line said more ends = record {
  printed = more _ _ ends.printed;
  failed = λ now begun cut. more _ _ (ends.failed now begun cut);
  memory = λ now begun cut. more _ _ (ends.memory now begun cut);
}

last_more : (takes wider : Outside → Status → Type 0) (after : Outside) (line : Option (List ℕ)) (said : Status) → ((then : Outside) (result : Status) → takes then result → wider then result) →
    LastEnds takes after line said → LastEnds wider after line said
last_more takes wider after None said more ends = more after said ends
last_more takes wider after (Some line) said more ends = line_more takes wider after line said more ends

pub anyhow_more : (takes wider : Outside → Status → Type 0) (after : Outside) (ended : Result Ending Fault) → ((then : Outside) (result : Status) → takes then result → wider then result) →
    EndsAnyhow takes after ended → EndsAnyhow wider after ended
unfolding EndsAnyhow
anyhow_more takes wider after (Ok ending) more ends = last_more takes wider after (option_map string_bytes ending.line) (outcome_status ending.outcome) more ends
anyhow_more takes wider after (Err f) more ends = last_more takes wider after (line_of f) (fault_status f) more ends

-- what is always so
last_always : (takes : Outside → Status → Type 0) (after : Outside) (line : Option (List ℕ)) (said : Status) → ((then : Outside) (result : Status) → takes then result) → LastEnds takes after line said
last_always takes after None said always = always after said
last_always takes after (Some line) said always = record { printed = always _ _; failed = λ now begun cut. always _ _; memory = λ now begun cut. always _ _ }

pub always_anyhow : (takes : Outside → Status → Type 0) (after : Outside) (ended : Result Ending Fault) → ((then : Outside) (result : Status) → takes then result) → EndsAnyhow takes after ended
unfolding EndsAnyhow
always_anyhow takes after (Ok ending) always = last_always takes after (option_map string_bytes ending.line) (outcome_status ending.outcome) always
always_anyhow takes after (Err f) always = last_always takes after (line_of f) (fault_status f) always
