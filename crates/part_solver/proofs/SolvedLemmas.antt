-- The parts that are solved so far, and the first that passes a test.
use Rattle.std.specs.List.{list_all, position, position_or_len}
use Rattle.base.proofs.Public.{◌≡◌, inl, inr, ℕ, ◌+◌, ◌<◌, Bool, true, false, List, [], ◌∷◌, ◌++◌, length, Option, Some, None, is_some, slice_index_or, refl, sym, ap, subst, ◌∙◌, arith, cases_Bool, cases_eq, cases_lt, fails_before_first, false≢true, get_or-append_seam, get_or_append_left, le-ltb, length-append, list_all_at, lt-ltb, position_or_len_is}
use Rattle.cluster.specs.declared.sets.NodeSet.{NodeSet}
use Rattle.catalogue.specs.Prelude.{SoundInstance}
use Rattle.partition.specs.Prelude.{IsSplitBy, part_of, SplitView}
use Rattle.partition.proofs.Public.{part_count, part_is}
use Rattle.solver.specs.Prelude.{Instance}
use Rattle.part_solver.specs.Solved.{AreSolved, first_infeasible, first_without_plan, has_no_plan, HasEnded, is_infeasible, IsSolved, no_text, solved_at, SolvedText}

-- ---- the first that passes a test

pub first_is : {X : Type 0} (p : X → Bool) (xs : List X) (i : ℕ) (d : X) → i < length xs → ((k : ℕ) → k < i → p (slice_index_or xs k d) ≡ false) → p (slice_index_or xs i d) ≡ true → position p xs ≡ Some i
first_is p xs i d li before passes =
    let at : position_or_len p xs ≡ i = position_or_len_is p xs i d (omega (arith, li)) before (λ _. passes) in
    rw (at, lt-ltb i (length xs) li) refl

pub none_passes : {X : Type 0} (p : X → Bool) (xs : List X) (d : X) → ((k : ℕ) → k < length xs → p (slice_index_or xs k d) ≡ false) → position p xs ≡ None
none_passes p xs d each =
    let at : position_or_len p xs ≡ length xs = position_or_len_is p xs (length xs) d (omega arith) each (λ l. absurd (omega (arith, l))) in
    rw (at, le-ltb (length xs) (length xs) (omega arith)) refl

pub each_fails : {X : Type 0} (p : X → Bool) (xs : List X) (d : X) → position p xs ≡ None → (k : ℕ) → k < length xs → p (slice_index_or xs k d) ≡ false
each_fails p xs d none k l =
    elim (cases_lt (position_or_len p xs) (length xs)) [
      | inl low ↦ let some : position p xs ≡ Some (position_or_len p xs) = rw (lt-ltb (position_or_len p xs) (length xs) low) refl in absurd (false≢true (ap is_some (sym none ∙ some)))
      | inr past ↦ fails_before_first p xs k d (omega (arith, past, l))
    ]

pub all_pass : {X : Type 0} (p : X → Bool) (xs : List X) (d : X) → list_all p xs ≡ true → (k : ℕ) → k < length xs → p (slice_index_or xs k d) ≡ true
all_pass p xs d all k l =
    elim (cases_Bool (p (slice_index_or xs k d))) [
      | inl passes ↦ passes
      | inr fails ↦ absurd (false≢true (sym (list_all_at p xs k d l fails) ∙ all))
    ]

-- ---- one more

-- an element before the end, and the last one
at_before : (solved : List SolvedText) (part : SolvedText) (k : ℕ) → k < length solved → solved_at (solved ++ part ∷ []) k ≡ solved_at solved k
at_before solved part k l = get_or_append_left solved (part ∷ []) no_text k l

at_last : (solved : List SolvedText) (part : SolvedText) (i : ℕ) → length solved ≡ i → solved_at (solved ++ part ∷ []) i ≡ part
at_last solved part i long = subst (λ (k : ℕ). solved_at (solved ++ part ∷ []) k ≡ part) long (get_or-append_seam solved part [] no_text)

-- what is true of those before, and of the last one, is true of each
each_more : (P : ℕ → SolvedText → Type 0) (solved : List SolvedText) (part : SolvedText) (i : ℕ) → length solved ≡ i → ((k : ℕ) → k < i → P k (solved_at solved k)) → P i part → (k : ℕ) → k < i + 1 → P k (solved_at (solved ++ part ∷ []) k)
each_more P solved part i long each last k l =
    elim (cases_eq k i) [
      | inl same ↦ subst (λ (j : ℕ). P j (solved_at (solved ++ part ∷ []) j)) (sym same) (subst (λ (s : SolvedText). P i s) (sym (at_last solved part i long)) last)
      | inr other ↦ let low : k < i = omega (arith, l, other) in subst (λ (s : SolvedText). P k s) (sym (at_before solved part k (omega (arith, low, long)))) (each k low)
    ]

-- so many parts are solved, and none of them is infeasible; the parts are those of any problem and groups that are split so
pub record AreBefore (split : SplitView) (budget : ℕ) (solved : List SolvedText) (i : ℕ) : Type 0 where
  pub long : length solved ≡ i
  pub feasible : (k : ℕ) → k < i → is_infeasible (solved_at solved k) ≡ false
  pub each : (p : Instance) (groups : List NodeSet) → IsSplitBy p groups split → (k : ℕ) → k < i → IsSolved (part_of p groups k) budget (solved_at solved k)

-- the part of a number is solved
abbrev pub IsNext : SplitView → ℕ → ℕ → SolvedText → Type 0
IsNext split budget i part = (p : Instance) (groups : List NodeSet) → IsSplitBy p groups split → IsSolved (part_of p groups i) budget part

-- which is so for the problem that stands there
pub is_next : (split : SplitView) (budget i : ℕ) (q : SoundInstance) (part : SolvedText) → q ≡ slice_index_or split.parts i q → i < length split.parts → IsSolved q.given budget part → IsNext split budget i part
is_next split budget i q part at li solved p groups is =
    subst (λ (r : Instance). IsSolved r budget part) (part_is p groups split is i (omega (arith, li, part_count p groups split is)) q at) solved

pub none_before : (split : SplitView) (budget : ℕ) → AreBefore split budget [] 0
none_before split budget = record { long = refl; feasible = λ k l. absurd (omega (arith, l)); each = λ p groups is k l. absurd (omega (arith, l)) }

long_more : (solved : List SolvedText) (part : SolvedText) (i : ℕ) → length solved ≡ i → length (solved ++ part ∷ []) ≡ i + 1
long_more solved part i long = length-append solved (part ∷ []) ∙ ap (λ (n : ℕ). n + 1) long

pub one_before : (split : SplitView) (budget : ℕ) (solved : List SolvedText) (i : ℕ) (part : SolvedText) → AreBefore split budget solved i → IsNext split budget i part → is_infeasible part ≡ false → AreBefore split budget (solved ++ part ∷ []) (i + 1)
one_before split budget solved i part before next feasible = record {
  long = long_more solved part i before.long;
  feasible = each_more (λ k s. is_infeasible s ≡ false) solved part i before.long before.feasible feasible;
  each = λ p groups is. each_more (λ k s. IsSolved (part_of p groups k) budget s) solved part i before.long (before.each p groups is) (next p groups is);
}

-- ---- the end

ended_at : (count : ℕ) (solved : List SolvedText) (o first : Option ℕ) → first ≡ o → HasEnded count solved o → HasEnded count solved first
ended_at count solved o first is ended = subst (λ (q : Option ℕ). HasEnded count solved q) (sym is) ended

-- a part that is infeasible ends it
pub ends_with : (split : SplitView) (budget : ℕ) (solved : List SolvedText) (i : ℕ) (part : SolvedText) → AreBefore split budget solved i → IsNext split budget i part → is_infeasible part ≡ true → i < length split.parts →
    (p : Instance) (groups : List NodeSet) → IsSplitBy p groups split → AreSolved p groups budget (solved ++ part ∷ [])
ends_with split budget solved i part before next infeasible li p groups is =
    let long : length (solved ++ part ∷ []) ≡ i + 1 = long_more solved part i before.long in
    let first : first_infeasible (solved ++ part ∷ []) ≡ Some i =
    first_is is_infeasible (solved ++ part ∷ []) i no_text (omega (arith, long))
    (λ k l. ap is_infeasible (at_before solved part k (omega (arith, l, before.long))) ∙ before.feasible k l)
    (ap is_infeasible (at_last solved part i before.long) ∙ infeasible) in
    record {
      each = λ k l. each_more (λ j s. IsSolved (part_of p groups j) budget s) solved part i before.long (before.each p groups is) (next p groups is) k (omega (arith, l, long));
      ended = ended_at (length groups) (solved ++ part ∷ []) (Some i) _ first (long, omega (arith, li, part_count p groups split is));
    }

-- and so do all parts
pub ends_after_all : (split : SplitView) (budget : ℕ) (solved : List SolvedText) (i : ℕ) → AreBefore split budget solved i → i ≡ length split.parts →
    (p : Instance) (groups : List NodeSet) → IsSplitBy p groups split → AreSolved p groups budget solved
ends_after_all split budget solved i before all p groups is = record {
  each = λ k l. before.each p groups is k (omega (arith, l, before.long));
  ended =
      ended_at (length groups) solved None _
      (none_passes is_infeasible solved no_text (λ k l. before.feasible k (omega (arith, l, before.long))))
      (before.long ∙ all ∙ part_count p groups split is);
}

-- ---- the plans that were found

-- the next part has a plan
pub next_has_plan : (solved done : List SolvedText) (part : SolvedText) (rest : List SolvedText) → done ++ part ∷ rest ≡ solved → first_without_plan solved ≡ None → has_no_plan part ≡ false
next_has_plan solved done part rest whole plans =
    let l : length done < length solved = omega (arith, ap length (sym whole), length-append done (part ∷ rest)) in
    let at : solved_at solved (length done) ≡ part = ap (λ (xs : List SolvedText). solved_at xs (length done)) (sym whole) ∙ get_or-append_seam done part rest no_text in
    ap has_no_plan (sym at) ∙ each_fails has_no_plan solved no_text plans (length done) l
