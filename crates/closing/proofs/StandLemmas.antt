-- Where a machine stands, by one of its choices.
use Rattle.closing.proofs.Prelude.{IsTrue, ◌≡◌, ℕ, ◌<◌, Bool, true, false, ◌&&◌, ◌||◌, ◌==◌, List, [], Option, Some, None, is_some, refl, sym, ap, ◌∙◌, arith, Contains, eq-eqb, false≢true, or_left, or_right, nat_tests, At, Choice, FailAtEnds, goes_in, has_node_of, hosted_in, Instance, is_node, IsEnd, IsEndThat, IsOn, IsWithin, NodeId, On, one, PassOnlyAt, Presence, present_at, Sets, Stands, state_of, sure, surely, vm, surely_each, away}
use Rattle.closing.proofs.EndLemmas.{goes_elsewhere}
use Rattle.closing.specs.Stands.{AreWithin}

-- ---- who has no choice stands everywhere; else where one choice has it, and all others

pub empty_stands : (p : Instance) (s : Sets) (v t n : ℕ) → s (vm v) ≡ [] → true ≡ (sure p s t).present v (one n)
unfolding sure
empty_stands p s v t n e = sym (ap (surely (present_at p v (one n) t)) e)

both : (x y b : Bool) → (b ≡ true → (x || y) ≡ true) → ((x && b) || (y && b)) ≡ b
both true y true f = refl
both false true true f = refl
both false false true f = f refl
both true true false f = refl
both true false false f = refl
both false true false f = refl
both false false false f = refl

pub stands_by : (p : Instance) (s : Sets) (v t n : ℕ) (c : Choice) → Contains (s (vm v)) c → (x y a b : Bool) → present_at p v (one n) t c ≡ (x || y) → a ≡ (x && (sure p s t).present v (one n)) → b ≡ (y && (sure p s t).present v (one n)) → (a || b) ≡ (sure p s t).present v (one n)
unfolding sure
stands_by p s v t n c h x y a b at first second =
    rw (first, second) (both x y (surely (present_at p v (one n) t) (s (vm v))) (λ e. sym at ∙ surely_each (present_at p v (one n) t) (s (vm v)) c h e))

-- ---- a node where it stands

node_there : (nodes : ℕ) (o : Option NodeId) → IsWithin nodes o → IsTrue (is_some o) → (n : ℕ) × (n < nodes) × IsTrue (is_node o n)
node_there nodes None within h = cc
node_there nodes (Some m) within h = (m.0, within, eq-eqb m.0 m.0 refl)

pub first_there : (nodes : ℕ) (s : Stands) (a b : Option NodeId) → s ≡ On a b → AreWithin nodes s → IsTrue (is_some a) → (n : ℕ) × (n < nodes) × IsTrue (has_node_of s n)
first_there nodes s a b is within h =
    let both = rw is at within in
    let w = node_there nodes a both.0 h in
    rw is (w.0, w.1, or_left (is_node a w.0) (is_node b w.0) w.2)

pub second_there : (nodes : ℕ) (s : Stands) (a b : Option NodeId) → s ≡ On a b → AreWithin nodes s → IsTrue (is_some b) → (n : ℕ) × (n < nodes) × IsTrue (has_node_of s n)
second_there nodes s a b is within h =
    let both = rw is at within in
    let w = node_there nodes b both.1 h in
    rw is (w.0, w.1, or_right (is_node a w.0) (is_node b w.0) w.2)

-- ---- on a node under a choice

is-this : (m k : ℕ) → IsTrue ((m == k) || false) → m ≡ k
is-this m k h = grind (arith, nat_tests)

first-of : (x : Bool) → IsTrue (x || false) → IsTrue x
first-of true h = h
first-of false h = h

-- a machine that is hosted elsewhere is on the node only where it goes there
pub on_only_at : (p : Instance) (v t : ℕ) (n : NodeId) → hosted_in (state_of p v) (one n.0) ≡ false → PassOnlyAt (At n) (IsOn p v (has_node_of (On (Some n) None)) t)
on_only_at p v t n apart = record { elsewhere = λ c out h. by c (goes_elsewhere n c out) h.0 (is-this h.0 n.0 h.2) h.3 }
  where
    by : (c : Choice) → goes_in c (one n.0) ≡ false → (m : ℕ) → m ≡ n.0 → IsTrue (present_at p v (one m) t c) → ⊥
    by c off m same h = false≢true (rw (same, away p v Presence (one n.0) t c apart off) at h)

module _ (p : Instance) (v t : ℕ) (cs : List Choice) where
  pub fail_on_none : FailAtEnds (IsOn p v (has_node_of (On None None)) t) cs
  fail_on_none = record { ends = λ c end h. false≢true h.2 }

  pub fail_on_both : (a b : Option NodeId) → FailAtEnds (IsOn p v (has_node_of (On a None)) t) cs → FailAtEnds (IsOn p v (has_node_of (On b None)) t) cs → FailAtEnds (IsOn p v (has_node_of (On a b)) t) cs
  fail_on_both a b first second = record { ends = λ c end h. by c end h (is_node a h.0) refl }
    where
      by : (c : Choice) → IsEnd cs c → (h : IsOn p v (has_node_of (On a b)) t c) → (x : Bool) → is_node a h.0 ≡ x → ⊥
      by c end h true e = first.ends c end (h.0, h.1, or_left (is_node a h.0) false e, h.3)
      by c end h false e = second.ends c end (h.0, h.1, or_left (is_node b h.0) false (rw e at h.2), h.3)

  pub end_on_first : (a b : Option NodeId) (c : Choice) → IsEndThat (IsOn p v (has_node_of (On a None)) t) cs c → IsEndThat (IsOn p v (has_node_of (On a b)) t) cs c
  end_on_first a b c end = record { is_end = end.is_end; passes = let h = end.passes in (h.0, h.1, or_left (is_node a h.0) (is_node b h.0) (first-of (is_node a h.0) h.2), h.3) }

  pub end_on_second : (a b : Option NodeId) (c : Choice) → IsEndThat (IsOn p v (has_node_of (On b None)) t) cs c → IsEndThat (IsOn p v (has_node_of (On a b)) t) cs c
  end_on_second a b c end = record { is_end = end.is_end; passes = let h = end.passes in (h.0, h.1, or_right (is_node a h.0) (is_node b h.0) (first-of (is_node b h.0) h.2), h.3) }
