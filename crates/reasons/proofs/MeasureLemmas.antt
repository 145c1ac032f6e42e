-- Measures that fall until a start and are least at the ends of a row: where no end starts, what is sure does not grow.
use Rattle.std.proofs.Common.{IsTrue}
use Rattle.base.proofs.Public.{◌≡◌, ◌⊎◌, inl, inr, ℕ, suc, ◌<◌, ◌≤◌, Bool, true, false, cond, List, [], ◌∷◌, refl, ap, arith, Contains, and_from, cases_lt, false≢true, or_cases, positive_above}
use Rattle.reasons.specs.Prelude.{Act, action_at, action_count, Choice, Element, held_at, Instance, IsLeastAtEnds, IsPartOf, IsQuiet, least, lower, lowest, may, node, Nodes, powered_at, powered_count, Presence, present_at, Progress, Sets, sure, surely, unusable_count, usable_at, vm, Weight}
use Rattle.cluster.specs.declared.choices.Place.{Place}
use Rattle.slices.proofs.Public.{action_at_ends, action_quiet, held_at_ends, held_quiet, powered_at_ends, powered_quiet, unusable_at_ends, usable_quiet}
use Rattle.domains.proofs.Public.{least_of_each, may_each, surely_each}
use Rattle.reasons.proofs.MemberLemmas.{first-in, later-in}

-- ---- measures

record IsFalling (f : ℕ → Choice → ℕ) : Type 0 where
  falls : (u t : ℕ) (c : Choice) → u ≤ t → IsQuiet c u t → f t c ≤ f u c
  ends : (u : ℕ) → IsLeastAtEnds (f u)

held-falling : (p : Instance) (v : ℕ) (w : Weight) (set : Nodes) → IsFalling (held_at p v w set)
held-falling p v w set = record { falls = λ u t c l q. held_quiet p v w set u t c l q; ends = λ u. held_at_ends p v w set u }

counts-le : (a b : Bool) → (IsTrue a → IsTrue b) → cond a 1 0 ≤ cond b 1 0
counts-le true true f = omega arith
counts-le true false f = absurd (false≢true (f refl))
counts-le false b f = omega arith

counts-from : (a b : Bool) → cond a 1 0 ≤ cond b 1 0 → IsTrue a → IsTrue b
counts-from true true l x = refl
counts-from true false l x = absurd (omega arith)
counts-from false b l x = absurd (false≢true x)

misses-le : (a b : Bool) → (IsTrue b → IsTrue a) → cond a 0 1 ≤ cond b 0 1
misses-le true b f = omega arith
misses-le false true f = absurd (false≢true (f refl))
misses-le false false f = omega arith

misses-from : (a b : Bool) → cond a 0 1 ≤ cond b 0 1 → IsTrue b → IsTrue a
misses-from true b l x = refl
misses-from false true l x = absurd (omega arith)
misses-from false false l x = absurd (false≢true x)

unusable-falling : (p : Instance) (n : ℕ) → IsFalling (unusable_count p n)
unusable-falling p n = record { falls = λ u t c l q. misses-le _ _ (usable_quiet p n u t c l q); ends = λ u. unusable_at_ends p n u }

powered-falling : (p : Instance) (n : ℕ) → IsFalling (powered_count p n)
powered-falling p n = record { falls = λ u t c l q. counts-le _ _ (powered_quiet p n u t c l q); ends = λ u. powered_at_ends p n u }

action-falling : (p : Instance) (v : ℕ) (far : Progress) → IsFalling (action_count p v far)
action-falling p v far = record { falls = λ u t c l q. counts-le _ _ (action_quiet p v far u t c l q); ends = λ u. action_at_ends p v far u }

-- ---- a choice of the set that measures no more at the next instant

-- the choice starts between two others of the set at its place, one that starts earlier than the next instant, and one later
pub record IsBetween (cs : List Choice) (u : ℕ) (c : Choice) : Type 0 where
  pub place : Place
  pub low : ℕ
  pub start : ℕ
  pub high : ℕ
  pub is : c ≡ Act place start
  pub below : low ≤ start
  pub above : start ≤ high
  pub low_in : Contains cs (Act place low)
  pub high_in : Contains cs (Act place high)
  pub early : low ≤ u
  pub late : suc u < high

abbrev pub IsFine : List Choice → ℕ → Choice → Type 0
IsFine cs u c = IsQuiet c u (suc u) ⊎ IsBetween cs u c

early-quiet : (place : Place) (s u t : ℕ) → s ≤ u → IsQuiet (Act place s) u t
early-quiet place s u t l x e = let same : s ≡ x = cc in inl (omega arith)

late-quiet : (place : Place) (s u t : ℕ) → t < s → IsQuiet (Act place s) u t
late-quiet place s u t l x e = let same : s ≡ x = cc in inr (omega arith)

no-more : (f : ℕ → Choice → ℕ) → IsFalling f → (cs : List Choice) (u : ℕ) (c : Choice) → Contains cs c → IsFine cs u c → (d : Choice) × Contains cs d × (f (suc u) d ≤ f u c)
no-more f falling cs u c i (inl quiet) = (c, i, falling.falls u (suc u) c (omega arith) quiet)
no-more f falling cs u c i (inr b) =
    let least = falling.ends u b.place b.low b.start b.high b.below b.above in
    let low = falling.falls u (suc u) (Act b.place b.low) (omega arith) (early-quiet b.place b.low u (suc u) b.early) in
    let high = falling.falls u (suc u) (Act b.place b.high) (omega arith) (late-quiet b.place b.high u (suc u) b.late) in
    let here : f u c ≡ f u (Act b.place b.start) = ap (f u) b.is in
    elim (cases_lt (f u (Act b.place b.low)) (f u (Act b.place b.high))) [
      | inl less ↦ (Act b.place b.low, b.low_in, omega (arith, least, low, high, here, less))
      | inr more ↦ (Act b.place b.high, b.high_in, omega (arith, least, low, high, here, more))
    ]

-- ---- so the least, what is sure and what may be

-- the least is that of a choice
least-at : (g : Choice → ℕ) (c : Choice) (cs : List Choice) → (d : Choice) × Contains (c ∷ cs) d × (least g (c ∷ cs) ≡ g d)
least-at g c [] = (c, first-in c [], refl)
least-at g c (x ∷ xs) =
    let rest = least-at g x xs in
    let is : lower (g x) (lowest g xs) ≡ g rest.0 = rest.2 in
    elim (cases_lt (g rest.0) (g c)) [
      | inl less ↦ (rest.0, later-in c rest.0 (x ∷ xs) rest.1, omega (arith, is, less))
      | inr more ↦ (c, first-in c (x ∷ xs), omega (arith, is, more))
    ]

least-below : (f g : Choice → ℕ) (cs : List Choice) → ((c : Choice) → Contains cs c → (d : Choice) × Contains cs d × (f d ≤ g c)) → least f cs ≤ least g cs
least-below f g [] h = omega arith
least-below f g (c ∷ cs) h =
    let at = least-at g c cs in
    let under = h at.0 at.1 in
    omega (arith, at.2, under.2, least_of_each f (c ∷ cs) under.0 under.1)

surely-from : (test : Choice → Bool) (cs : List Choice) → ((c : Choice) → Contains cs c → IsTrue (test c)) → IsTrue (surely test cs)
surely-from test [] h = refl
surely-from test (c ∷ cs) h = and_from (test c) (surely test cs) (h c (first-in c cs)) (surely-from test cs (λ d i. h d (later-in c d cs i)))

may-some : (test : Choice → Bool) (cs : List Choice) → IsTrue (may test cs) → (c : Choice) × Contains cs c × IsTrue (test c)
may-some test [] h = absurd (false≢true h)
may-some test (c ∷ cs) h =
    elim (or_cases (test c) (may test cs) h) [
      | inl here ↦ (c, first-in c cs, here)
      | inr later ↦ let rest = may-some test cs later in (rest.0, later-in c rest.0 cs rest.1, rest.2)
    ]

module _ (p : Instance) (s : Sets) (u : ℕ) (fine : (e : Element) (c : Choice) → Contains (s e) c → IsFine (s e) u c) where
  under : (f : ℕ → Choice → ℕ) → IsFalling f → (e : Element) (c : Choice) → Contains (s e) c → (d : Choice) × Contains (s e) d × (f (suc u) d ≤ f u c)
  under f falling e c i = no-more f falling (s e) u c i (fine e c i)

  pub sure-next : IsPartOf (sure p s (suc u)) (sure p s u)
  unfolding sure
  sure-next = record {
    held = λ v w set. least-below (held_at p v w set (suc u)) (held_at p v w set u) (s (vm v)) (under (held_at p v w set) (held-falling p v w set) (vm v));
    present = λ v set x. surely-from (present_at p v set u) (s (vm v)) (λ c i.
        let d = under (held_at p v Presence set) (held-falling p v Presence set) (vm v) c i in
        positive_above _ _ d.2 (surely_each (present_at p v set (suc u)) (s (vm v)) d.0 d.1 x));
    usable = λ n x.
        let c = may-some (usable_at p n u) (s (node n)) x in
        let d = under (unusable_count p n) (unusable-falling p n) (node n) c.0 c.1 in
        may_each (usable_at p n (suc u)) (s (node n)) d.0 d.1 (misses-from _ _ d.2 c.2);
    powered = λ n x. surely-from (powered_at p n u) (s (node n)) (λ c i.
        let d = under (powered_count p n) (powered-falling p n) (node n) c i in
        counts-from _ _ d.2 (surely_each (powered_at p n (suc u)) (s (node n)) d.0 d.1 x));
    action = λ v far x. surely-from (action_at p v far u) (s (vm v)) (λ c i.
        let d = under (action_count p v far) (action-falling p v far) (vm v) c i in
        counts-from _ _ d.2 (surely_each (action_at p v far (suc u)) (s (vm v)) d.0 d.1 x));
  }
