-- What a machine has on a node to which it goes under each of some choices.
use Rattle.base.proofs.Public.{cond, Contains, eqb-true, false, false≢true, le-leb, leb-true, lt-ltb, nat_le, ◌≢◌}
use Rattle.domains.specs.Prelude.{place_index, same_place}
use Rattle.quick_checks.proofs.Prelude.{◌≡◌, ◌<◌, ◌≤◌, ◌+◌, ◌&&◌, ◌∙◌, ◌∷◌, [], and_parts, ap, arith, Bool, Choice, eq-eqb, Instance, IsStanding, IsTrue, kept_law, least, List, lower, lowest, nat_lt, nat_tests, never, None, one, Option, Presence, present_at, refl, Sets, Some, Standing, suc, surely, sym, true, vm, Weight, ℕ}
use Rattle.quick_checks.specs.Prelude.{held_at, sure}
use Rattle.standings.specs.declared.numbers.Arrival.{Arrival}
use Rattle.standings.specs.Prelude.{Act, At, base, comes_by, gain, has_come, hosted_in, leave_of, NodeId, Nowhere, state_of}
use Rattle.relax.specs.Prelude.{in_part, Part, Upto}
use Rattle.cluster.specs.declared.choices.{Choice.TheVariants.Idle, Place.Place}

-- ---- one choice

abbrev arrival : Choice → Option Arrival
arrival Idle = None
arrival (Act Nowhere s) = None
arrival (Act (At n) s) = Some (record { node = n; last = s })

abbrev pub numbers : Instance → ℕ → Choice → Standing
numbers p v c = record { leave = leave_of p v c; come = arrival c }

and-true : (b : Bool) → (b && true) ≡ b
and-true true = refl
and-true false = refl

arrived : (n t : ℕ) (c : Choice) → comes_by n t (arrival c) ≡ has_come n t c
arrived n t Idle = refl
arrived n t (Act Nowhere s) = refl
arrived n t (Act (At m) s) = refl

pub of_one : (p : Instance) (v : ℕ) (c : Choice) → IsStanding p v (c ∷ []) (numbers p v c)
of_one p v c = record { leave = refl; come = λ n t. arrived n t c ∙ sym (and-true (has_come n t c)) }

held_parts : (p : Instance) (v : ℕ) (w : Weight) (n t : ℕ) (c : Choice) → t < never → held_at p v w (one n) t c ≡ cond (hosted_in (state_of p v) (one n) && nat_lt t (leave_of p v c)) (base p v w) 0 + cond (has_come n t c) (gain p v w n) 0
held_parts p v w n t c short =
    kept_law p v w n t (c ∷ []) (numbers p v c) short (of_one p v c)
    ∙ ap (λ b. cond (hosted_in (state_of p v) (one n) && nat_lt t (leave_of p v c)) (base p v w) 0 + cond b (gain p v w n) 0) (arrived n t c)

brings : (p : Instance) (v : ℕ) (w : Weight) (n t : ℕ) (c : Choice) → t < never → IsTrue (has_come n t c) → gain p v w n ≤ held_at p v w (one n) t c
brings p v w n t c short come = let held = held_parts p v w n t c short in omega (arith, rw come at held)

-- a start at a node that is inside a part of such starts
comes : (m : NodeId) (n last t : ℕ) → m.0 ≡ n → last ≤ t → (c : Choice) → in_part (Upto (At m) last) c ≡ true → IsTrue (has_come n t c)
comes m n last t at late Idle inside = absurd (false≢true inside)
comes m n last t at late (Act Nowhere s) inside = let both = and_parts (same_place Nowhere (At m)) (nat_le s last) inside in let is = eqb-true (place_index Nowhere) (place_index (At m)) both.0 in absurd (omega (arith, is))
comes m n last t at late (Act (At q) s) inside =
    let both = and_parts (same_place (At q) (At m)) (nat_le s last) inside in
    let is = eqb-true (place_index (At q)) (place_index (At m)) both.0 in
    let there : one n q.0 ≡ true = eq-eqb q.0 n (omega (arith, is, at)) in
    rw (there, le-leb s t (omega (arith, leb-true s last both.1, late))) refl

pub part_comes : (part : Part) (q : Place) (n last t : ℕ) → part ≡ Upto q last → (m : NodeId) × (q ≡ At m) × (m.0 ≡ n) → last ≤ t → (c : Choice) → in_part part c ≡ true → IsTrue (has_come n t c)
part_comes part q n last t is at late c inside = comes at.0 n last t at.2 late c (rw (is, at.1) at inside)

-- ---- all of them

surely-each : (f : Choice → Bool) (cs : List Choice) → ((c : Choice) → Contains cs c → IsTrue (f c)) → IsTrue (surely f cs)
surely-each f [] h = refl
surely-each f (c ∷ cs) h = let first : f c ≡ true = h c (0, omega arith, refl) in rw first (surely-each f cs (λ d i. h d (suc i.0, omega (arith, i.1), i.2)))

-- one that brings a presence is there
pub comes_present : (p : Instance) (s : Sets) (v n t : ℕ) → t < never → ((c : Choice) → Contains (s (vm v)) c → IsTrue (has_come n t c)) → 0 < gain p v Presence n → IsTrue ((sure p s t).present v (one n))
unfolding sure
comes_present p s v n t short come some = surely-each (present_at p v (one n) t) (s (vm v)) (λ c i. lt-ltb 0 (held_at p v Presence (one n) t c) (omega (arith, brings p v Presence n t c short (come c i), some)))

lower-both : (m n : ℕ) (o : Option ℕ) → m ≤ n → ((x : ℕ) → o ≡ Some x → m ≤ x) → m ≤ lower n o
lower-both m n None l h = l
lower-both m n (Some x) l h = let k = h x refl in grind (arith, nat_tests)

lowest-above : (f : Choice → ℕ) (m : ℕ) (cs : List Choice) → ((c : Choice) → Contains cs c → m ≤ f c) → (x : ℕ) → lowest f cs ≡ Some x → m ≤ x
lowest-above f m [] h x e = cc
lowest-above f m (c ∷ cs) h x e =
    let first : m ≤ f c = h c (0, omega arith, refl) in
    let rest : (y : ℕ) → lowest f cs ≡ Some y → m ≤ y = lowest-above f m cs (λ d i. h d (suc i.0, omega (arith, i.1), i.2)) in
    let here : m ≤ lower (f c) (lowest f cs) = lower-both m (f c) (lowest f cs) first rest in
    let same : lower (f c) (lowest f cs) ≡ x = cc in
    rw same at here

-- a number that no choice is below is no more than the least, where there is a choice
pub least_above : (f : Choice → ℕ) (m : ℕ) (cs : List Choice) → cs ≢ [] → ((c : Choice) → Contains cs c → m ≤ f c) → m ≤ least f cs
least_above f m [] some h = absurd (some refl)
least_above f m (d ∷ cs) some h = lowest-above f m (d ∷ cs) h (least f (d ∷ cs)) refl

pub contains_some : (cs : List Choice) (c : Choice) → Contains cs c → cs ≢ []
contains_some [] c i e = absurd (omega (arith, i.1))
contains_some (d ∷ cs) c i e = cc

-- one has what it brings
pub brought_held : (p : Instance) (s : Sets) (v : ℕ) (w : Weight) (n t : ℕ) → t < never → s (vm v) ≢ [] → ((c : Choice) → Contains (s (vm v)) c → IsTrue (has_come n t c)) → gain p v w n ≤ (sure p s t).held v w (one n)
unfolding sure
brought_held p s v w n t short some come = least_above (held_at p v w (one n) t) (gain p v w n) (s (vm v)) some (λ c i. brings p v w n t c short (come c i))
