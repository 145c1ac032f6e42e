-- The least over a list of what is had until an instant, which each item has for itself, and from when all items have come.
use Rattle.standings.proofs.Prelude.{min, ◌≡◌, ◌≢◌, ◌⊎◌, inl, inr, ℕ, suc, ◌+◌, ◌≤◌, Bool, true, false, ◌&&◌, nat_lt, cond, List, [], ◌∷◌, refl, sym, ap, ◌∙◌, arith, Contains, false≢true, cases_lt, lt-ltb, ltb-true, nat_tests, Choice, least, lowest, surely, contains_here, least_of_each, surely_each}

later : (x : Choice) (xs : List Choice) (c : Choice) → Contains xs c → Contains (x ∷ xs) c
later x xs c h = (suc h.0, omega (arith, h.1), h.2)

-- a bound of each value below is one of the least
least-from : (f : Choice → ℕ) (k : ℕ) (c : Choice) (cs : List Choice) → ((d : Choice) → Contains (c ∷ cs) d → k ≤ f d) → k ≤ least f (c ∷ cs)
least-from f k c [] h = h c (contains_here c [])
least-from f k c (d ∷ cs) h =
    let first = h c (contains_here c (d ∷ cs)) in
    let rest = least-from f k d cs (λ x i. h x (later c (d ∷ cs) x i)) in
    omega arith

-- a value that one item has, at the most, and none is below
least-is : (f : Choice → ℕ) (k : ℕ) (c : Choice) (cs : List Choice) (x : Choice) → Contains (c ∷ cs) x → f x ≤ k → ((d : Choice) → Contains (c ∷ cs) d → k ≤ f d) → least f (c ∷ cs) ≡ k
least-is f k c cs x i below above =
    let up = least_of_each f (c ∷ cs) x i in
    let low = least-from f k c cs above in
    omega arith

-- some item has the least value
least-held : (f : Choice → ℕ) (c : Choice) (cs : List Choice) → (d : Choice) × Contains (c ∷ cs) d × (f d ≡ least f (c ∷ cs))
least-held f c [] = (c, contains_here c [], refl)
least-held f c (d ∷ cs) =
    let rest = least-held f d cs in
    elim (cases_lt (f c) (least f (d ∷ cs))) [
      | inl l ↦ (c, contains_here c (d ∷ cs), omega arith)
      | inr l ↦ (rest.0, later c (d ∷ cs) rest.0 rest.1, omega (arith, rest.2))
    ]

-- an item that fails a test which not all pass
one-fails : (test : Choice → Bool) (cs : List Choice) → surely test cs ≡ false → (d : Choice) × Contains cs d × (test d ≡ false)
one-fails test [] e = absurd (false≢true (sym e))
one-fails test (c ∷ cs) e = by (test c) refl e (one-fails test cs)
  where
    by : (b : Bool) → test c ≡ b → (b && surely test cs) ≡ false → (surely test cs ≡ false → (d : Choice) × Contains cs d × (test d ≡ false)) → (d : Choice) × Contains (c ∷ cs) d × (test d ≡ false)
    by false f g rest = (c, contains_here c cs, f)
    by true f g rest = let x = rest g in (x.0, later c cs x.0 x.1, x.2)

-- more is had where each part is had more often
more : (a x y b c : Bool) (k j : ℕ) → (x ≡ true → y ≡ true) → (b ≡ true → c ≡ true) → cond (a && x) k 0 + cond b j 0 ≤ cond (a && y) k 0 + cond c j 0
more a x y b c k j f h = omega (arith, kept a x y f, brought b c h)
  where
    kept : (a x y : Bool) → (x ≡ true → y ≡ true) → cond (a && x) k 0 ≤ cond (a && y) k 0
    kept true true true f = omega arith
    kept true true false f = absurd (false≢true (f refl))
    kept true false y f = omega arith
    kept false x y f = omega arith

    brought : (b c : Bool) → (b ≡ true → c ≡ true) → cond b j 0 ≤ cond c j 0
    brought true true h = omega arith
    brought true false h = absurd (false≢true (h refl))
    brought false c h = omega arith

-- what an item has: k while it is there before it leaves, and j once it has come
abbrev pub in_parts : (Choice → ℕ) → (Choice → Bool) → Bool → ℕ → ℕ → ℕ → Choice → ℕ
in_parts leave come there k j t c = cond (there && nat_lt t (leave c)) k 0 + cond (come c) j 0

module _ (leave : Choice → ℕ) (come : Choice → Bool) (there : Bool) (k j t : ℕ) (apart : (c : Choice) → there ≡ true → nat_lt t (leave c) ≡ false → come c ≡ true → (k ≡ 0) ⊎ (j ≡ 0)) (c : Choice) (cs : List Choice) where
  -- before the least leave no item has left
  stays : (d : Choice) → Contains (c ∷ cs) d → nat_lt t (least leave (c ∷ cs)) ≡ true → nat_lt t (leave d) ≡ true
  stays d i e = lt-ltb t (leave d) (omega (arith, least_of_each leave (c ∷ cs) d i, ltb-true t (least leave (c ∷ cs)) e))

  -- an item that has no more than that
  abbrev Found : Bool → Bool → Bool → Type 0
  Found h a b = (x : Choice) × Contains (c ∷ cs) x × (cond (h && nat_lt t (leave x)) k 0 + cond (come x) j 0 ≤ cond (h && a) k 0 + cond b j 0)

  take : (x : Choice) → Contains (c ∷ cs) x → (h a b y z : Bool) → nat_lt t (leave x) ≡ y → come x ≡ z → cond (h && y) k 0 + cond z j 0 ≤ cond (h && a) k 0 + cond b j 0 → Found h a b
  take x i h a b y z e f l = (x, i, rw (e, f) l)

  at-most : (b : Bool) (m : ℕ) → cond b m 0 ≤ m
  at-most true m = omega arith
  at-most false m = omega arith

  -- an item that has left, beside one that has not come
  beside : (low other : Choice) → Contains (c ∷ cs) low → Contains (c ∷ cs) other → there ≡ true → nat_lt t (leave low) ≡ false → come other ≡ false → (z : Bool) → come low ≡ z → Found true false false
  beside low other i l h out off false off_too = take low i true false false false false out off_too (omega arith)
  beside low other i l h out off true came = elim (apart low h out came) [
    | inl none ↦ take other l true false false (nat_lt t (leave other)) false refl off (rw none (omega (arith, at-most (nat_lt t (leave other)) 0)))
    | inr none ↦ take low i true false false false true out came (omega (arith, none))
  ]

  -- where some item has left the host
  left : (b : Bool) → there ≡ true → nat_lt t (least leave (c ∷ cs)) ≡ false → surely come (c ∷ cs) ≡ b → Found true false b
  left b h e f =
      let low = least-held leave c cs in
      let out : nat_lt t (leave low.0) ≡ false = ap (nat_lt t) low.2 ∙ e in
      by low.0 low.1 out b f
    where
      by : (low : Choice) → Contains (c ∷ cs) low → nat_lt t (leave low) ≡ false → (b : Bool) → surely come (c ∷ cs) ≡ b → Found true false b
      by low i out true g = take low i true false true false (come low) out refl (omega (arith, at-most (come low) j))
      by low i out false g = let other = one-fails come (c ∷ cs) g in beside low other.0 i other.1 h out other.2 (come low) refl

  found : (h a b : Bool) → there ≡ h → nat_lt t (least leave (c ∷ cs)) ≡ a → surely come (c ∷ cs) ≡ b → Found h a b
  found true false b h e f = left b h e f
  found true true true h e f = take c (contains_here c cs) true true true (nat_lt t (leave c)) (come c) refl refl (omega (arith, at-most (nat_lt t (leave c)) k, at-most (come c) j))
  found false a true h e f = take c (contains_here c cs) false a true (nat_lt t (leave c)) (come c) refl refl (omega (arith, at-most (come c) j))
  found true true false h e f = let other = one-fails come (c ∷ cs) f in take other.0 other.1 true true false (nat_lt t (leave other.0)) false refl other.2 (omega (arith, at-most (nat_lt t (leave other.0)) k))
  found false a false h e f = let other = one-fails come (c ∷ cs) f in take other.0 other.1 false a false (nat_lt t (leave other.0)) false refl other.2 (omega arith)

  pub least_in_parts : least (in_parts leave come there k j t) (c ∷ cs) ≡ cond (there && nat_lt t (least leave (c ∷ cs))) k 0 + cond (surely come (c ∷ cs)) j 0
  least_in_parts =
      let x = found there (nat_lt t (least leave (c ∷ cs))) (surely come (c ∷ cs)) refl refl refl in
      least-is (in_parts leave come there k j t) _ c cs x.0 x.1 x.2
      (λ d i. more there (nat_lt t (least leave (c ∷ cs))) (nat_lt t (leave d)) (surely come (c ∷ cs)) (come d) k j (stays d i) (surely_each come (c ∷ cs) d i))

-- ---- values of items

lowest-same : (f g : Choice → ℕ) → ((c : Choice) → f c ≡ g c) → (cs : List Choice) → lowest f cs ≡ lowest g cs
lowest-same f g same [] = refl
lowest-same f g same (c ∷ cs) = rw (same c, lowest-same f g same cs) refl

pub least_same : (f g : Choice → ℕ) → ((c : Choice) → f c ≡ g c) → (cs : List Choice) → least f cs ≡ least g cs
least_same f g same cs = rw (lowest-same f g same cs) refl

-- all values are above 0 where the least is
pub positive_each : (f : Choice → ℕ) (cs : List Choice) → cs ≢ [] → surely (λ c. nat_lt 0 (f c)) cs ≡ nat_lt 0 (least f cs)
positive_each f [] some = absurd (some refl)
positive_each f (c ∷ []) some = by (nat_lt 0 (f c))
  where
    by : (b : Bool) → (b && true) ≡ b
    by true = refl
    by false = refl
positive_each f (c ∷ d ∷ cs) some = rw (positive_each f (d ∷ cs) (λ e. cc)) (by (f c) (least f (d ∷ cs)))
  where
    by : (a b : ℕ) → (nat_lt 0 a && nat_lt 0 b) ≡ nat_lt 0 (min a b)
    by a b = grind (arith, nat_tests)
