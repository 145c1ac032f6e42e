-- Calls, the calls of an `each`, and the lines of a script, done so far.
use Rattle.std.proofs.lemmas.List.{drop_all, take_all}
use Rattle.std.proofs.lemmas.List.Elements.{All-from_get_or}
use Rattle.std.proofs.lemmas.List.Splits.{slice_split_first, slice_split_none}
use Rattle.base.proofs.Public.{◌≡◌, ◌∙◌, ℕ, ◌+◌, ◌<◌, ◌≤◌, ◌==◌, Bool, true, false, List, [], ◌∷◌, length, drop, take, drop-cons, get_or, Option, Some, None, Result, Ok, Err, refl, sym, ap, add-one, arith, unwrap_or, position_or_len, slice_split, All, fails_before_first, cases_lt, inl, inr, nat_lt, nat_tests, position, prefix_len-le-length, if◌then◌else◌}
use Rattle.cluster.specs.declared.ids.Element.{Element}
use Rattle.catalogue.specs.Instance.{Instance, inventory_of, rule_fault}
use Rattle.catalogue.specs.declared.constraint.Constraint.{Constraint}
use Rattle.catalogue.specs.declared.constraint.RuleFault.{RuleFault}
use Rattle.catalogue.specs.declared.constraint.RuleFault.TheVariants as fault
use Rattle.rule_script.specs.Answers.{Answers, Reaches}
use Rattle.rule_script.specs.Bindings.{bind, Bindings}
use Rattle.rule_script.specs.Calls.{constraint_of}
use Rattle.rule_script.specs.LineRefusals.{refusal_of}
use Rattle.rule_script.specs.Reads.{IsReading, fault_at}
use Rattle.rule_script.specs.Script.{at, called, called_for_each, line_done, lines_done, Progress, unless_faulty, with_rule}
use Rattle.rule_script.specs.declared.faults.Mistake.{Mistake}
use Rattle.rule_script.specs.declared.faults.Refusal.{Refusal}
use Rattle.rule_script.specs.declared.faults.Refusal.TheVariants.{Memory, Wrong}
use Rattle.rule_script.specs.declared.statement.Call.{Call}

-- ---- one call

module _ (p : Instance) (env : Bindings) (call : Call) where
  pub call_good : (c : Constraint) (q : Instance) → constraint_of (inventory_of p) env call ≡ Ok c → rule_fault p c ≡ None → q ≡ with_rule p c → called p env call ≡ Ok q
  unfolding called
  call_good c q means good is = rw (means, good, is) refl

  pub call_faulty : (c : Constraint) (e : RuleFault) (after : Instance) → constraint_of (inventory_of p) env call ≡ Ok c → e ≡ unwrap_or (rule_fault p c) fault.Memory → Reaches (Err (refusal_of e)) after (called p env call)
  unfolding called
  call_faulty c e after means is = rw (means, is) (by (rule_fault p c) refl)
    where
      by : (o : Option RuleFault) → rule_fault p c ≡ o → Reaches (Err (refusal_of (unwrap_or o fault.Memory))) after (unless_faulty o (with_rule p c))
      by None _ = tt
      by (Some fault.TooMany) _ = refl
      by (Some fault.NoSuch) _ = refl
      by (Some fault.Twice) _ = refl
      by (Some fault.TooGreat) _ = refl
      by (Some fault.Memory) _ = tt

  pub call_wrong : (r : Refusal) (after : Instance) → Answers (Err r) (constraint_of (inventory_of p) env call) → Reaches (Err r) after (called p env call)
  unfolding called
  call_wrong (Wrong m) after is = rw is refl
  call_wrong Memory after is = tt

pub ruleset call_rules = (call_good, call_faulty, call_wrong)

-- ---- the calls of an `each`

module _ (p : Instance) (env : Bindings) (x : List ℕ) (call : Call) (es : List Element) (i : ℕ) (answer : Result Instance Mistake) (so_far : called_for_each p env x call (drop i es) ≡ answer) where
  pub one_more_call : (d e : Element) (q : Instance) → i < length es → get_or es i d ≡ e → called p (bind env x (e ∷ [])) call ≡ Ok q → called_for_each q env x call (drop (i + 1) es) ≡ answer
  unfolding called_for_each
  one_more_call d e q within is good =
      let here : drop i es ≡ e ∷ drop (i + 1) es = rw (add-one, drop-cons es i d, is) refl in
      let first : called_for_each p env x call (e ∷ drop (i + 1) es) ≡ called_for_each q env x call (drop (i + 1) es) = rw good refl in
      sym first ∙ ap (called_for_each p env x call) (sym here) ∙ so_far

  pub one_call_wrong : (d e : Element) (r : Refusal) (mid after : Instance) → i < length es → get_or es i d ≡ e → Reaches (Err r) mid (called p (bind env x (e ∷ [])) call) → Reaches (Err r) after answer
  unfolding called_for_each
  one_call_wrong d e (Wrong m) mid after within is bad =
      let here : drop i es ≡ e ∷ drop (i + 1) es = rw (add-one, drop-cons es i d, is) refl in
      let first : called_for_each p env x call (e ∷ drop (i + 1) es) ≡ Err m = rw bad refl in
      sym so_far ∙ ap (called_for_each p env x call) here ∙ first
  one_call_wrong d e Memory mid after within is bad = tt

  pub all_calls : length es ≤ i → answer ≡ Ok p
  unfolding called_for_each
  all_calls past =
      let over : drop i es ≡ [] = drop_all i es past in
      let here : called_for_each p env x call (drop i es) ≡ Ok p = rw over refl in
      sym so_far ∙ here

-- ---- the lines of a script

abbrev pub newline : ℕ → Bool
newline b = b == 10

-- how many bytes stand before the first newline, or in all
pub found_len : (bytes : List ℕ) (len : ℕ) (o : Option ℕ) → o ≡ position newline bytes → o ≡ Some len → len ≡ position_or_len newline bytes
found_len bytes len o is some = by (nat_lt (position_or_len newline bytes) (length bytes)) (position_or_len newline bytes) (sym is ∙ some)
  where
    by : (b : Bool) (n : ℕ) → (if b then Some n else None) ≡ Some len → len ≡ n
    by true n e = cc
    by false n e = absurd (cc)

pub none_len : (bytes : List ℕ) (o : Option ℕ) → o ≡ position newline bytes → o ≡ None → length bytes ≡ position_or_len newline bytes
none_len bytes o is none =
    let past : nat_lt (position_or_len newline bytes) (length bytes) ≡ false = by (nat_lt (position_or_len newline bytes) (length bytes)) (position_or_len newline bytes) (sym is ∙ none) in
    grind (arith, nat_tests, prefix_len-le-length)
  where
    by : (b : Bool) (n : ℕ) → ◌≡◌ {A = Option ℕ} (if b then Some n else None) None → b ≡ false
    by true n e = absurd (cc)
    by false n e = refl

-- the line that bytes begin with, and the lines after it
pub first_line : (bytes : List ℕ) (len : ℕ) → len ≡ position_or_len newline bytes → len < length bytes → slice_split newline bytes ≡ take len bytes ∷ slice_split newline (drop (len + 1) bytes)
first_line bytes len is within = rw is (slice_split_first newline bytes 0 (omega (arith, within, is)))

pub last_line : (bytes : List ℕ) (len : ℕ) → len ≡ position_or_len newline bytes → len ≡ length bytes → slice_split newline bytes ≡ take len bytes ∷ []
last_line bytes len is whole =
    let none : All (λ b. newline b ≡ false) bytes = All-from_get_or (λ b. newline b ≡ false) bytes 0 (λ i within. fails_before_first newline bytes i 0 (omega (arith, is, whole, within))) in
    let all : take len bytes ≡ bytes = take_all len bytes (omega (arith, whole)) in
    rw all (slice_split_none newline bytes none)

module _ (number : ℕ) (p : Instance) (env : Bindings) (bytes : List ℕ) (len : ℕ) (answer : Result Progress (ℕ × Mistake)) (is : len ≡ position_or_len newline bytes) (so_far : lines_done number p env (slice_split newline bytes) ≡ answer) where
  pub one_more_line : (q : Instance) (later : Bindings) → len < length bytes → line_done p env (take len bytes) ≡ Ok (at q later) → lines_done (number + 1) q later (slice_split newline (drop (len + 1) bytes)) ≡ answer
  unfolding lines_done
  one_more_line q later within good =
      let first : lines_done number p env (take len bytes ∷ slice_split newline (drop (len + 1) bytes)) ≡ lines_done (number + 1) q later (slice_split newline (drop (len + 1) bytes)) = rw good refl in
      sym first ∙ ap (lines_done number p env) (sym (first_line bytes len is within)) ∙ so_far

  pub all_lines : (q : Instance) (later : Bindings) → len ≡ length bytes → line_done p env (take len bytes) ≡ Ok (at q later) → IsReading q answer (Ok tt)
  unfolding lines_done
  all_lines q later whole good =
      let first : lines_done number p env (take len bytes ∷ []) ≡ Ok (at q later) = rw good refl in
      (later, sym so_far ∙ ap (lines_done number p env) (last_line bytes len is whole) ∙ first)

  pub line_wrong : (r : Refusal) (mid : Progress) (after : Instance) → len ≤ length bytes → Reaches (Err r) mid (line_done p env (take len bytes)) → IsReading after answer (Err (fault_at number r))
  unfolding lines_done
  line_wrong (Wrong m) mid after within bad = elim (cases_lt len (length bytes)) [
    | inl less ↦ sym so_far ∙ ap (lines_done number p env) (first_line bytes len is less) ∙ stops (slice_split newline (drop (len + 1) bytes))
    | inr not_less ↦ sym so_far ∙ ap (lines_done number p env) (last_line bytes len is (omega arith)) ∙ stops []
  ]
    where
      stops : (lines : List (List ℕ)) → lines_done number p env (take len bytes ∷ lines) ≡ Err (number, m)
      stops lines = rw bad refl
  line_wrong Memory mid after within bad = tt
