-- Under which choices a machine is on a node.
use Rattle.rule_place.proofs.Prelude.{IsTrue, ◌≡◌, inl, inr, ℕ, ◌+◌, ◌<◌, ◌≤◌, ◌&&◌, Bool, true, false, nat_lt, nat_tests, cond, List, [], ◌∷◌, refl, ◌∙◌, arith, cases_lt, Contains, Stay, Place, arrival, arrived, first_of, kept_law, last_of, no_less, numbers, of_one}
use Rattle.rule_place.specs.Prelude.{Act, At, base, Choice, comes_by, gain, has_come, held_at, hosted_in, Instance, IsEnd, leave_climbs, leave_of, never, Nowhere, one, Presence, present_at, state_of}

as-long : (host : Bool) (t a b m : ℕ) → a ≤ b → cond (host && nat_lt t a) m 0 ≤ cond (host && nat_lt t b) m 0
as-long false t a b m l = omega arith
as-long true t a b m l = by (nat_lt t a) refl
  where
    by : (x : Bool) → nat_lt t a ≡ x → cond x m 0 ≤ cond (nat_lt t b) m 0
    by false e = omega arith
    by true e = let later : nat_lt t b ≡ true = grind (arith, nat_tests, e, l) in rw later (omega arith)

module _ (p : Instance) (v n t : ℕ) (short : t < never) where
  -- what it still has there, and what it has brought
  abbrev kept : Choice → ℕ
  kept c = cond (hosted_in (state_of p v) (one n) && nat_lt t (leave_of p v c)) (base p v Presence) 0

  abbrev came : Choice → ℕ
  came c = cond (comes_by n t (arrival c)) (gain p v Presence n) 0

  both : (c : Choice) → held_at p v Presence (one n) t c ≡ kept c + came c
  both c = kept_law p v Presence n t (c ∷ []) (numbers p v c) short (of_one p v c)

  -- the last start of a row keeps it longest, the first one brings it soonest
  kept-last : (q : Place) (s u : ℕ) → s ≤ u → kept (Act q s) ≤ kept (Act q u)
  kept-last q s u l = as-long (hosted_in (state_of p v) (one n)) t (leave_of p v (Act q s)) (leave_of p v (Act q u)) (base p v Presence) (leave_climbs p v q s u l)

  came-first : (q : Place) (u s : ℕ) → u ≤ s → came (Act q s) ≤ came (Act q u)
  came-first Nowhere u s l = omega arith
  came-first (At m) u s l = no_less (one n m.0) u s t (gain p v Presence n) l

  is-there : (c : Choice) → 0 < kept c + came c → IsTrue (present_at p v (one n) t c)
  is-there c more = let holds : 0 < held_at p v Presence (one n) t c = omega (arith, both c, more) in grind (arith, nat_tests, holds)

  there-more : (c : Choice) → IsTrue (present_at p v (one n) t c) → 0 < kept c + came c
  there-more c on = let holds : 0 < held_at p v Presence (one n) t c = grind (arith, nat_tests, on) in omega (arith, both c, holds)

  -- where it has come, and brings presence
  pub come_there : (c : Choice) → has_come n t c ≡ true → 0 < gain p v Presence n → IsTrue (present_at p v (one n) t c)
  come_there c come brings =
      let here : comes_by n t (arrival c) ≡ true = arrived n t c ∙ come in
      let got : came c ≡ gain p v Presence n = rw here refl in
      is-there c (omega (arith, got, brings))

  -- where it is under a choice, it is under an end of the choices
  pub end_there : (old : List Choice) (c : Choice) → Contains old c → IsTrue (present_at p v (one n) t c) → (d : Choice) × IsEnd old d × IsTrue (present_at p v (one n) t d)
  end_there old Stay there on = (Stay, there, on)
  end_there old (Act q s) there on =
      elim (cases_lt 0 (kept (Act q s))) [
        | inl has ↦ let last = last_of old q s there in (Act q last.0, (last.1, inr last.2), is-there (Act q last.0) (omega (arith, has, kept-last q s last.0 (last.2 s there))))
        | inr none ↦ let first = first_of old q s there in (Act q first.0, (first.1, inl first.2), is-there (Act q first.0) (omega (arith, none, there-more (Act q s) on, came-first q first.0 s (first.2 s there))))
      ]
