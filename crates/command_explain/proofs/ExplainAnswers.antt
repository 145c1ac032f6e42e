-- What `explain` answers and leaves, by what was found of its problem.
use Rattle.base.proofs.Public.{◌≡◌, ◌⊎◌, ◌∙◌, ℕ, List, [], ◌∷◌, ◌++◌, length, Ok, refl, sym, ap, subst, inl, inr, append_assoc, append-nil, Result, Err, OnOk, IfErr, ◌≤◌}
use Rattle.command_explain.specs.Prelude.{bytes_of, core_lines, Ending, Ends, Fault, feasible_line, Files, Instance, instance_in, instance_of, HasTexts, instance_text, IsCore, IsExplained, IsInstance, IsLeftOpen, IsOfWriting, IsValidPlan, LeavesBy, LeavesExplained, max_text_bytes, needed_line, needed_lines, open_line, Outside, outside, plan_cost, PlanChoices, SaysCore, SaysFeasible, SaysOpen, Status, sub, WritesKept}
use Rattle.command_frame.proofs.Public.{ends_more, left_same}

-- ---- the lines

-- one more line
pub one_more : (before now whole kept rest costs others : List ℕ) (number cost : ℕ) → before ++ needed_lines kept costs ≡ whole → kept ≡ number ∷ rest → costs ≡ cost ∷ others → now ≡ before ++ needed_line number cost →
    now ++ needed_lines rest others ≡ whole
unfolding needed_lines
one_more before now whole kept rest costs others number cost so_far first second is =
    ap (λ (text : List ℕ). text ++ needed_lines rest others) is ∙ append_assoc before (needed_line number cost) (needed_lines rest others)
    ∙ sym (ap (λ (x : List ℕ × List ℕ). before ++ needed_lines x.0 x.1) (λ i. (first i, second i))) ∙ so_far

none_left : (kept costs : List ℕ) → (kept ≡ []) ⊎ (costs ≡ []) → needed_lines kept costs ≡ []
unfolding needed_lines
none_left [] costs none = refl
none_left (number ∷ kept) [] none = refl
none_left (number ∷ kept) (cost ∷ costs) (inl none) = absurd (cc)
none_left (number ∷ kept) (cost ∷ costs) (inr none) = absurd (cc)

-- no line is left
pub all_said : (text whole kept costs : List ℕ) → text ++ needed_lines kept costs ≡ whole → (kept ≡ []) ⊎ (costs ≡ []) → text ≡ whole
all_said text whole kept costs so_far none = sym (append-nil text) ∙ sym (ap (λ (rest : List ℕ). text ++ rest) (none_left kept costs none)) ∙ so_far

-- ---- the files

-- the problem of the constraints that are kept is written, where nothing was refused
pub kept_written : {T E : Type 0} (core certificate : List ℕ) (p q : Instance) (kept text core_text : List ℕ) (before after : Files) (result : Result T E) → IsInstance q → q ≡ sub p kept → core_text ≡ instance_text q →
    (length core_text ≤ max_text_bytes → instance_of core_text ≡ Ok q) → OnOk result (HasTexts core core_text certificate text before after) → OnOk result (WritesKept core certificate p kept text before after)
kept_written core certificate p q kept text core_text before after (Ok x) sound is text_is reads written = record {
  sound = subst IsInstance is sound;
  written = subst (λ (t : List ℕ). HasTexts core t certificate text before after) whole written;
  reads = λ few. ap (λ file. instance_of (bytes_of file)) written.first_whole ∙ reads (subst (λ (t : List ℕ). length t ≤ max_text_bytes) (sym whole) few) ∙ ap Ok is;
}
  where
    whole : core_text ≡ instance_text (sub p kept)
    whole = text_is ∙ ap instance_text is
kept_written core certificate p q kept text core_text before after (Err e) sound is text_is reads written = tt

-- a part that fails by want of memory alone fails as one that writes
pub memory_kind : {T : Type 0} (result : Result T Fault) → IfErr result (λ fault. fault ≡ Fault.Memory) → IfErr result IsOfWriting
memory_kind (Ok x) is = tt
memory_kind (Err fault) is = subst IsOfWriting (sym is) tt

-- ---- by what was found

pub feasible : (p : Instance) (plan : PlanChoices) (files : Files) (printed line : List ℕ) → IsValidPlan p plan → line ≡ feasible_line (plan_cost p plan) → SaysFeasible p (outside files printed) (outside files (printed ++ line)) Status.Negative
feasible p plan files printed line is text = record {
  plan = plan;
  valid_plan = is;
  says = record { printed = ap (λ l. printed ++ l) text; status = refl; files = refl };
}

pub core_said : (core certificate : List ℕ) (budget : ℕ) (p : Instance) (before after : Files) (printed line kept text costs : List ℕ) → IsCore p budget kept text costs → WritesKept core certificate p kept text before after → line ≡ core_lines kept costs →
    SaysCore core certificate budget p (outside before printed) (outside after (printed ++ line)) Status.Good
core_said core certificate budget p before after printed line kept text costs is written said = record {
  kept = kept;
  text = text;
  costs = costs;
  is_core = is;
  written = written;
  printed = ap (λ l. printed ++ l) said;
  status = refl;
}

pub open_said : (core certificate : List ℕ) (budget : ℕ) (p : Instance) (before after : Files) (printed line kept text : List ℕ) → IsLeftOpen p budget kept text → WritesKept core certificate p kept text before after → line ≡ open_line (length kept) →
    SaysOpen core certificate budget p (outside before printed) (outside after (printed ++ line)) Status.Undecided
open_said core certificate budget p before after printed line kept text is written said = record {
  kept = kept;
  text = text;
  is_open = is;
  written = written;
  printed = ap (λ l. printed ++ l) said;
  status = refl;
}

-- ---- equal lists

pub same_core : (p : Instance) (budget : ℕ) (kept text costs kept_too text_too costs_too : List ℕ) → kept ≡ kept_too → text ≡ text_too → costs ≡ costs_too → IsCore p budget kept_too text_too costs_too → IsCore p budget kept text costs
same_core p budget kept text costs kept_too text_too costs_too first second third is = rw (first, second, third) is

pub same_open : (p : Instance) (budget : ℕ) (kept text kept_too text_too : List ℕ) → kept ≡ kept_too → text ≡ text_too → IsLeftOpen p budget kept_too text_too → IsLeftOpen p budget kept text
same_open p budget kept text kept_too text_too first second is = rw (first, second) is

-- ---- which of the three

pub ends_feasible : (core certificate : List ℕ) (budget : ℕ) (p : Instance) (before after : Outside) (ended : Result Ending Fault) → Ends (SaysFeasible p before) after ended → Ends (IsExplained core certificate budget p before) after ended
unfolding IsExplained
ends_feasible core certificate budget p before after ended ends =
    ends_more (SaysFeasible p before) (IsExplained core certificate budget p before) after ended (λ then result is. inl is) ends

pub ends_core : (core certificate : List ℕ) (budget : ℕ) (p : Instance) (before after : Outside) (ended : Result Ending Fault) → Ends (SaysCore core certificate budget p before) after ended → Ends (IsExplained core certificate budget p before) after ended
unfolding IsExplained
ends_core core certificate budget p before after ended ends =
    ends_more (SaysCore core certificate budget p before) (IsExplained core certificate budget p before) after ended (λ then result is. inr (inl is)) ends

pub ends_open : (core certificate : List ℕ) (budget : ℕ) (p : Instance) (before after : Outside) (ended : Result Ending Fault) → Ends (SaysOpen core certificate budget p before) after ended → Ends (IsExplained core certificate budget p before) after ended
unfolding IsExplained
ends_open core certificate budget p before after ended ends =
    ends_more (SaysOpen core certificate budget p before) (IsExplained core certificate budget p before) after ended (λ then result is. inr (inr is)) ends

-- ---- by the file of the instance

-- what is left where nothing was written
pub leaves_nothing : (instance core certificate : List ℕ) (budget : ℕ) (before after : Files) → after ≡ before → LeavesBy (LeavesExplained core certificate budget) (instance_in before instance) before after
leaves_nothing instance core certificate budget before after kept = rw kept (left_same (LeavesExplained core certificate budget) (instance_in before instance) before (λ p. inl refl))

-- what is left where the instance has a problem
pub leaves_well : (instance core certificate : List ℕ) (budget : ℕ) (before between after : Files) (p : Instance) → between ≡ before → instance_in before instance ≡ Ok p → LeavesExplained core certificate budget p between after →
    LeavesBy (LeavesExplained core certificate budget) (instance_in before instance) before after
leaves_well instance core certificate budget before between after p kept read leaves = rw read (rw kept at leaves)
