-- An action that waits is ready exactly where it starts before the least end of what has not ended.
use Rattle.base.proofs.Public.{◌≡◌, inl, inr, ℕ, ◌+◌, ◌<◌, ◌≤◌, Bool, true, false, not, ◌&&◌, nat_le, List, length, Option, Some, None, refl, sym, subst, ◌∙◌, arith, cases_eq, cases_lt, false≢true, leb-true, le-leb, lt-ltb, ltb-true, min, if◌then◌else◌, IfSome, IsTrue, slice_index_or}
use Rattle.executor.specs.Prelude.{is_ended, IsLeastOpenEnd, IsReadyAt, lesser, open_end, open_end_at, Phase, phase_at, starts_before, Times, Waiting, waits_between}

-- ---- the least end

pub none_below : (times : List (Option Times)) (phases : List Phase) → IsLeastOpenEnd times phases 0 None
none_below times phases = λ x low. absurd (omega arith)

-- no end but later ones
abbrev NoneBefore : ℕ → Option ℕ → Type 0
NoneBefore end o = IfSome o (λ other. end ≤ other)

later : (a b : ℕ) (o : Option ℕ) → a ≤ b → NoneBefore b o → NoneBefore a o
later a b None low h = tt
later a b (Some other) low h = omega (arith, low, h)

pub one_more : (times : List (Option Times)) (phases : List Phase) (k : ℕ) (least end : Option ℕ) → end ≡ open_end_at times phases k → IsLeastOpenEnd times phases k least → IsLeastOpenEnd times phases (k + 1) (lesser least end)
one_more times phases k least end is h = by least end is h
  where
    end_at : ℕ → Option ℕ
    end_at = open_end_at times phases

    each : (P : Option ℕ → Type 0) → ((x : ℕ) → x < k → P (end_at x)) → P (end_at k) → (x : ℕ) → x < k + 1 → P (end_at x)
    each P earlier here x low = elim (cases_eq x k) [ inl e ↦ subst (λ y. P (end_at y)) (sym e) here | inr n ↦ earlier x (omega arith) ]

    by : (l e : Option ℕ) → e ≡ end_at k → IsLeastOpenEnd times phases k l → IsLeastOpenEnd times phases (k + 1) (lesser l e)
    by None None q g = each (λ o. o ≡ None) g (sym q)
    by None (Some b) q g = (
      (k, omega arith, sym q),
      each (NoneBefore b) (λ x low. subst (NoneBefore b) (sym (g x low)) tt) (subst (NoneBefore b) q (omega arith)),
    )
    by (Some a) None q g = (
      (g.0.0, omega (arith, g.0.1), g.0.2),
      each (NoneBefore a) g.1 (subst (NoneBefore a) q tt),
    )
    by (Some a) (Some b) q g = (
      elim (cases_lt a b) [
        | inl low ↦ let m : min a b ≡ a = omega (arith, low) in (g.0.0, omega (arith, g.0.1), subst (λ y. end_at g.0.0 ≡ Some y) (sym m) g.0.2)
        | inr high ↦ let m : min a b ≡ b = omega (arith, high) in (k, omega arith, subst (λ y. end_at k ≡ Some y) (sym m) (sym q))
      ],
      each (NoneBefore (min a b)) (λ x low. later (min a b) a (end_at x) (omega arith) (g.1 x low)) (subst (NoneBefore (min a b)) q (omega arith)),
    )

-- ---- readiness

-- an end, if there is one, is at most an action's start
abbrev is_reached : Option ℕ → Option Times → Bool
is_reached None a = false
is_reached (Some end) None = false
is_reached (Some end) (Some a) = nat_le end a.start

none_reached : (b : Times) (ended : Bool) → is_reached (if ended then None else Some b.end) None ≡ false
none_reached b true = refl
none_reached b false = refl

end_reached : (a b : Times) (ended : Bool) → (nat_le b.end a.start && not ended) ≡ is_reached (if ended then None else Some b.end) (Some a)
end_reached a b true = and_false (nat_le b.end a.start)
  where
    and_false : (c : Bool) → (c && false) ≡ false
    and_false true = refl
    and_false false = refl
end_reached a b false = and_true (nat_le b.end a.start)
  where
    and_true : (c : Bool) → (c && true) ≡ c
    and_true true = refl
    and_true false = refl

-- an action waits for one that has not ended where the end of that one is reached
waits_reached : (a b : Option Times) (f : Phase) → (waits_between a b && not (is_ended f)) ≡ is_reached (open_end b f) a
waits_reached None None f = refl
waits_reached None (Some b) f = sym (none_reached b (is_ended f))
waits_reached (Some a) None f = refl
waits_reached (Some a) (Some b) f = end_reached a b (is_ended f)

-- an action that starts before an end reaches no later one
not_reached : (a : Option Times) (least : ℕ) (end : Option ℕ) → IsTrue (starts_before a (Some least)) → NoneBefore least end → ¬ IsTrue (is_reached end a)
not_reached a least None before later h = false≢true h
not_reached None least (Some end) before later h = false≢true h
not_reached (Some a) least (Some end) before later h =
    omega (arith, ltb-true a.start least before, leb-true end a.start h, later)

-- what starts before the least end waits for none that has not ended
pub before_ready : (times : List (Option Times)) (phases : List Phase) (least : Option ℕ) (x : ℕ) → IsLeastOpenEnd times phases (length phases) least →
    phase_at phases x ≡ Waiting → IsTrue (starts_before (slice_index_or times x None) least) → IsReadyAt times phases x
before_ready times phases least x is waiting before = record {
  waiting = waiting;
  none_open = λ b low still.
      none least is before b low (sym (waits_reached (slice_index_or times x None) (slice_index_or times b None) (phase_at phases b)) ∙ still);
}
  where
    none : (l : Option ℕ) → IsLeastOpenEnd times phases (length phases) l → IsTrue (starts_before (slice_index_or times x None) l) →
        (b : ℕ) → b < length phases → ¬ IsTrue (is_reached (open_end_at times phases b) (slice_index_or times x None))
    none None h starts b low reached = false≢true (subst (λ o. IsTrue (is_reached o (slice_index_or times x None))) (h b low) reached)
    none (Some end) h starts b low reached =
        not_reached (slice_index_or times x None) end (open_end_at times phases b) starts (h.1 b low) reached

-- what waits for none that has not ended starts before the least end
pub ready_before : (times : List (Option Times)) (phases : List Phase) (least : Option ℕ) (x : ℕ) → IsLeastOpenEnd times phases (length phases) least →
    IsReadyAt times phases x → IsTrue (starts_before (slice_index_or times x None) least)
ready_before times phases least x is ready = by (slice_index_or times x None) least refl is
  where
    by : (a : Option Times) (l : Option ℕ) → slice_index_or times x None ≡ a → IsLeastOpenEnd times phases (length phases) l → IsTrue (starts_before a l)
    by None l q h = refl
    by (Some a) None q h = refl
    by (Some a) (Some end) q h =
        elim (cases_lt a.start end) [
          | inl low ↦ lt-ltb a.start end low
          | inr high ↦
              let reached : IsTrue (is_reached (open_end_at times phases h.0.0) (slice_index_or times x None)) =
              subst (λ o. IsTrue (is_reached o (slice_index_or times x None))) (sym h.0.2) (subst (λ o. IsTrue (is_reached (Some end) o)) (sym q) (le-leb end a.start high))
              in
              absurd (ready.none_open h.0.0 h.0.1 (waits_reached (slice_index_or times x None) (slice_index_or times h.0.0 None) (phase_at phases h.0.0) ∙ reached))
        ]

pub ready_waits : (times : List (Option Times)) (phases : List Phase) (x : ℕ) → IsReadyAt times phases x → phase_at phases x ≡ Waiting
ready_waits times phases x ready = ready.waiting
