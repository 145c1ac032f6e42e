-- The least value over the choices of a domain, row by row.
use Rattle.std.proofs.Common.{min}
use Rattle.std.proofs.lemmas.List.{flat_map_more}
use Rattle.base.proofs.Public.{◌≡◌, ◌⊎◌, inl, inr, ℕ, zero, suc, ◌+◌, ◌-◌, ◌<◌, ◌≤◌, ◌==◌, Bool, true, cond, Option, Some, None, List, [], ◌∷◌, ◌++◌, length, get_or, take, drop, append-nil, append_assoc, refl, sym, ap, ◌∙◌, arith, filter, flat_map, option_eq, Decides-eqb, filter-append, take_more, take-append-drop, flat_map-append}
use Rattle.domains.specs.Prelude.{Act, Choice, choices, DomainView, lower, lower_option, lowest, Place, Row, row_choices, starts_from}
use Rattle.cluster.specs.declared.choices.Choice.TheVariants.{Idle}

pub lowest-append : (f : Choice → ℕ) (xs ys : List Choice) → lowest f (xs ++ ys) ≡ lower_option (lowest f xs) (lowest f ys)
lowest-append f [] ys = refl
lowest-append f (x ∷ xs) ys = rw (lowest-append f xs ys) (step (f x) (lowest f xs) (lowest f ys))
  where
    step : (a : ℕ) (o p : Option ℕ) → Some (lower a (lower_option o p)) ≡ Some (lower (lower a o) p)
    step a None p = refl
    step a (Some b) None = refl
    step a (Some b) (Some d) = ap Some (omega arith)

-- no value is below m
abbrev AreAbove : ℕ → Option ℕ → Type 0
AreAbove m None = Unit {0}
AreAbove m (Some b) = m ≤ b

lower-above : (m a : ℕ) (o : Option ℕ) → m ≤ a → AreAbove m o → m ≤ lower a o
lower-above m a None h k = h
lower-above m a (Some b) h k = omega arith

lower-at : (m : ℕ) (o : Option ℕ) → AreAbove m o → lower m o ≡ m
lower-at m None k = refl
lower-at m (Some b) k = omega arith

lowest-above : (f : Choice → ℕ) (m : ℕ) (xs : List Choice) → ((c : Choice) → m ≤ f c) → AreAbove m (lowest f xs)
lowest-above f m [] h = tt
lowest-above f m (x ∷ xs) h = lower-above m (f x) (lowest f xs) (h x) (lowest-above f m xs h)

-- what has come down to a bound of all values stays there
lowest-floor : (f : Choice → ℕ) (m : ℕ) (xs ys : List Choice) → ((c : Choice) → m ≤ f c) → lowest f xs ≡ Some m → lowest f (xs ++ ys) ≡ Some m
lowest-floor f m xs ys h e = rw (lowest-append f xs ys, e) (ap Some (lower-at m (lowest f ys) (lowest-above f m ys h)))

starts-above : (f : Choice → ℕ) (p : Place) (m from count : ℕ) → ((s : ℕ) → from ≤ s → s < from + count → m ≤ f (Act p s)) → AreAbove m (lowest f (starts_from p from count))
starts-above f p m from zero h = tt
starts-above f p m from (suc count) h =
    lower-above m (f (Act p from)) (lowest f (starts_from p (from + 1) count)) (h from (omega arith) (omega arith)) (starts-above f p m (from + 1) count (λ s l u. h s (omega arith) (omega arith)))

-- the least value stands at one of the starts
starts-at : (f : Choice → ℕ) (p : Place) (m from count at : ℕ) → ((s : ℕ) → from ≤ s → s < from + count → m ≤ f (Act p s)) → from ≤ at → at < from + count → f (Act p at) ≡ m → lowest f (starts_from p from count) ≡ Some m
starts-at f p m from zero at h l u e = absurd (omega arith)
starts-at f p m from (suc count) at h l u e =
    let rest : (s : ℕ) → from + 1 ≤ s → s < (from + 1) + count → m ≤ f (Act p s) = λ s l' u'. h s (omega arith) (omega arith) in
    let split : (from ≡ at) ⊎ (from + 1 ≤ at) = grind arith in
    elim split [
      | inl here ↦ rw (here, e) (ap Some (lower-at m (lowest f (starts_from p (at + 1) count)) (rw here at (starts-above f p m (from + 1) count rest))))
      | inr later ↦
          let first : m ≤ f (Act p from) = h from (omega arith) (omega arith) in
          rw (starts-at f p m (from + 1) count at rest later (omega arith) e) (ap Some (omega arith))
    ]

-- a row without a start has no least value
pub lowest_no_row : (f : Choice → ℕ) (r : Row) → r.hi < r.lo → None ≡ lowest f (row_choices r)
lowest_no_row f r l = by (r.hi + 1 - r.lo) (omega arith)
  where
    by : (n : ℕ) → n ≡ 0 → None ≡ lowest f (starts_from r.place r.lo n)
    by zero e = refl
    by (suc n) e = absurd (omega arith)

-- over a row a measure is least at an end
pub lowest_row : (f : Choice → ℕ) (r : Row) → ((p : Place) (lo s hi : ℕ) → lo ≤ s → s ≤ hi → min (f (Act p lo)) (f (Act p hi)) ≤ f (Act p s)) → r.lo ≤ r.hi → lowest f (row_choices r) ≡ Some (min (f (Act r.place r.lo)) (f (Act r.place r.hi)))
lowest_row f r ends h =
    let m : ℕ = min (f (Act r.place r.lo)) (f (Act r.place r.hi)) in
    let all : (s : ℕ) → r.lo ≤ s → s < r.lo + (r.hi + 1 - r.lo) → m ≤ f (Act r.place s) = λ s l u. ends r.place r.lo s r.hi l (omega arith) in
    let which : (f (Act r.place r.lo) ≡ m) ⊎ (f (Act r.place r.hi) ≡ m) = grind arith in
    elim which [
      | inl low ↦ starts-at f r.place m r.lo (r.hi + 1 - r.lo) r.lo all (omega arith) (omega arith) low
      | inr high ↦ starts-at f r.place m r.lo (r.hi + 1 - r.lo) r.hi all (omega arith) (omega arith) high
    ]

-- and at the first start where the last is no lower
pub first_least : (f : Choice → ℕ) (r : Row) → ((p : Place) (lo s hi : ℕ) → lo ≤ s → s ≤ hi → min (f (Act p lo)) (f (Act p hi)) ≤ f (Act p s)) → r.lo ≤ r.hi → f (Act r.place r.lo) ≤ f (Act r.place r.hi) → lowest f (row_choices r) ≡ Some (f (Act r.place r.lo))
first_least f r ends h low = lowest_row f r ends h ∙ ap Some (omega (arith, low))

-- the choices of a domain's first so many rows that pass a test
abbrev pub passed : (Choice → Bool) → Bool → List Row → List Choice
passed test idle rows = filter test (cond idle (Idle ∷ []) [] ++ flat_map row_choices rows)

passed_more : (test : Choice → Bool) (idle : Bool) (rows : List Row) (i : ℕ) (d : Row) → i < length rows → passed test idle (take (i + 1) rows) ≡ passed test idle (take i rows) ++ filter test (row_choices (get_or rows i d))
passed_more test idle rows i d h =
    ap (passed test idle) (take_more rows i d h)
    ∙ ap (filter test) (sym (flat_map_more row_choices (cond idle (Idle ∷ []) []) (take i rows) (get_or rows i d)))
    ∙ filter-append test (cond idle (Idle ∷ []) [] ++ flat_map row_choices (take i rows)) (row_choices (get_or rows i d))

-- one row more, of which something passes, and of which nothing does
module _ (f : Choice → ℕ) (test : Choice → Bool) (idle : Bool) (rows : List Row) (i : ℕ) (d : Row) (best : Option ℕ) (within : i < length rows) (so_far : best ≡ lowest f (passed test idle (take i rows))) where
  pub lowest_more : (left : Row) (low : ℕ) → row_choices left ≡ filter test (row_choices (get_or rows i d)) → Some low ≡ lowest f (row_choices left) → lower_option best (Some low) ≡ lowest f (passed test idle (take (i + 1) rows))
  lowest_more left low set low_is =
      sym
      (ap (lowest f) (passed_more test idle rows i d within)
      ∙ lowest-append f (passed test idle (take i rows)) (filter test (row_choices (get_or rows i d)))
      ∙ rw (← so_far, ← set, ← low_is) refl)

  pub lowest_no_more : [] ≡ filter test (row_choices (get_or rows i d)) → best ≡ lowest f (passed test idle (take (i + 1) rows))
  lowest_no_more set =
      sym (ap (lowest f) (passed_more test idle rows i d within ∙ rw (← set) (append-nil (passed test idle (take i rows)))) ∙ sym so_far)

-- at the floor no later row counts
pub lowest_at_floor : (f : Choice → ℕ) (test : Choice → Bool) (v : DomainView) (i m : ℕ) → ((c : Choice) → m ≤ f c) → lowest f (passed test v.idle (take i v.rows)) ≡ Some m → Some m ≡ lowest f (filter test (choices v))
lowest_at_floor f test v i m above e =
    let all : filter test (choices v) ≡ passed test v.idle (take i v.rows) ++ filter test (flat_map row_choices (drop i v.rows)) =
    ap (passed test v.idle) (sym (take-append-drop i v.rows))
    ∙ ap (λ cs. filter test (cond v.idle (Idle ∷ []) [] ++ cs)) (flat_map-append row_choices (take i v.rows) (drop i v.rows))
    ∙ ap (filter test) (sym (append_assoc (cond v.idle (Idle ∷ []) []) (flat_map row_choices (take i v.rows)) (flat_map row_choices (drop i v.rows))))
    ∙ filter-append test (cond v.idle (Idle ∷ []) [] ++ flat_map row_choices (take i v.rows)) (flat_map row_choices (drop i v.rows)) in
    sym (ap (lowest f) all ∙ lowest-floor f m (passed test v.idle (take i v.rows)) (filter test (flat_map row_choices (drop i v.rows))) above e)

pub same_some : (o : Option ℕ) (n : ℕ) → true ≡ option_eq (λ a b. a == b) o (Some n) → o ≡ Some n
same_some None n e = cc
same_some (Some m) n e = ap Some ((Decides-eqb m n).0 (sym e))

-- there is a least value exactly where there is a choice
pub lowest_none : (f : Choice → ℕ) (cs : List Choice) → None ≡ lowest f cs → cs ≡ []
lowest_none f [] e = refl
lowest_none f (c ∷ cs) e = cc

pub lowest_some : (f : Choice → ℕ) (cs : List Choice) (n : ℕ) → Some n ≡ lowest f cs → cs ≡ [] → ⊥
lowest_some f [] n e h = cc
lowest_some f (c ∷ cs) n e h = cc

-- a test that all pass keeps all
pub filter_true : (cs : List Choice) → filter (λ c. true) cs ≡ cs
filter_true [] = refl
filter_true (c ∷ cs) = ap (λ l. c ∷ l) (filter_true cs)
