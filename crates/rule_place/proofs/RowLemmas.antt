-- Why a row of a machine may be cut that goes where a constraint lets it not be.
use Rattle.rule_place.proofs.Prelude.{IsTrue, slice_get, ◌≡◌, ℕ, ◌+◌, ◌<◌, ◌≤◌, ◌||◌, ◌==◌, Bool, true, false, false≢true, nat_le, nat_tests, List, [], ◌∷◌, filter, Option, Some, None, refl, arith, and_parts, eqb-true, Decides-eqb, IsSomeAnd, Stay}
use Rattle.rule_place.specs.Prelude.{Act, Applies, At, Choice, Constraint, Element, FailHolds, ForbidsPlace, gain, has_come, in_part, Instance, is_continuous, IsInstance, IsNamed, IsPlace, keeping, NodeId, Nowhere, one, Part, PlaceReason, Presence, present_at, Sets, sure, surely, Upto, Vm, vm, VmId}
use Rattle.rule_place.proofs.PresentLemmas.{come_there}

-- the starts up to one at a node have all come there by any later instant
pub come_by : (n : NodeId) (last t : ℕ) (c : Choice) → last ≤ t → IsTrue (in_part (Upto (At n) last) c) → has_come n.0 t c ≡ true
come_by n last t Stay l h = absurd (false≢true h)
come_by n last t (Act Nowhere s) l h =
    let two = and_parts (0 == n.0 + 1) (nat_le s last) h in
    let same : 0 ≡ n.0 + 1 = eqb-true 0 (n.0 + 1) two.0 in
    absurd (omega (arith, same))
come_by n last t (Act (At m) s) l h =
    let two = and_parts (m.0 + 1 == n.0 + 1) (nat_le s last) h in
    let same : m.0 + 1 ≡ n.0 + 1 = eqb-true (m.0 + 1) (n.0 + 1) two.0 in
    let here : one n.0 m.0 ≡ true = (Decides-eqb m.0 n.0).1 (omega (arith, same)) in
    let by : nat_le s t ≡ true = grind (arith, nat_tests, two.1, l) in
    rw (here, by) refl

surely-kept : (f test : Choice → Bool) (cs : List Choice) → ((c : Choice) → IsTrue (f c) → test c ≡ true) → surely test (filter f cs) ≡ true
surely-kept f test [] each = refl
surely-kept f test (c ∷ cs) each = by (f c) refl (surely-kept f test cs each)
  where
    by : (b : Bool) → f c ≡ b → surely test (filter f cs) ≡ true → surely test (filter f (c ∷ cs)) ≡ true
    by true e rest = rw e (rw (each c e, rest) refl)
    by false e rest = rw e rest

mapped : (o : Option Constraint) (due from to : Constraint → Type 0) → ((k : Constraint) → from k → to k) → IsSomeAnd o (λ k. due k × from k) → IsSomeAnd o (λ k. due k × to k)
mapped None due from to each h = h
mapped (Some k) due from to each h = (h.0, each k h.1)

pub row_refutes : (p : Instance) (s : Sets) (e : Element) (part : Part) (c t : ℕ) (v : VmId) (n : NodeId) → IsInstance p → IsNamed p (PlaceReason c t v n) → Applies p c t (λ k. ForbidsPlace p k v.0 n.0) → 0 < gain p v.0 Presence n.0 → e ≡ Vm v → ((d : Choice) → IsTrue (in_part part d) → has_come n.0 t d ≡ true) → FailHolds p (keeping e (in_part part) s) (PlaceReason c t v n)
unfolding sure
row_refutes p s e part c t v n sound named forbids brings same come = record {
  may = tt;
  refuted = record {
    named = named;
    says = mapped (slice_get p.constraints c) (λ k. IsTrue (is_continuous k || (t == p.horizon))) (λ k. ForbidsPlace p k v.0 n.0) (λ k. IsPlace p (sure p (keeping e (in_part part) s) t) k v.0 n.0) (λ k not_there. record { forbidden = not_there; present = there }) forbids;
  };
}
  where
    there : IsTrue ((sure p (keeping e (in_part part) s) t).present v.0 (one n.0))
    there =
        let own : (v.0 == v.0) ≡ true = (Decides-eqb v.0 v.0).1 refl in
        rw (same, own) (surely-kept (in_part part) (present_at p v.0 (one n.0) t) (s (vm v.0)) (λ d inside. come_there p v.0 n.0 t (omega (arith, named.1, sound.horizon)) d (come d inside) brings))
