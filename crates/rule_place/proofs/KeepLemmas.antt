-- A machine that loses choices and gives its host up no later than before needs it no longer.
use Rattle.rule_place.proofs.Prelude.{IsTrue, ◌≡◌, ◌≢◌, inl, inr, ℕ, ◌<◌, ◌≤◌, ◌&&◌, Bool, true, false, nat_lt, cond, List, [], ◌∷◌, refl, ◌∙◌, arith, nat_tests, cases_lt, Contains, IsMachineLess, Stay, surely_each, arrival, arrived, kept_law, numbers, of_one, last_of, least_of_each, contains_here, later_in}
use Rattle.rule_place.specs.Prelude.{Act, AreFewer, base, Choice, comes_by, gain, GivesUp, held_at, hosted_in, Instance, IsEnd, IsInstance, IsStill, least, leave_climbs, leave_of, never, one, Presence, present_at, state_of, surely, usable_watch, Vm, VmId, Weight}

-- ---- the least of a measure over choices

least-attained : (f : Choice → ℕ) (c : Choice) (cs : List Choice) → (d : Choice) × Contains (c ∷ cs) d × (f d ≤ least f (c ∷ cs))
least-attained f c [] = (c, contains_here c [], omega arith)
least-attained f c (d ∷ ds) =
    let rest = least-attained f d ds in
    elim (cases_lt (f c) (least f (d ∷ ds))) [
      | inl l ↦ (c, contains_here c (d ∷ ds), omega (arith, l))
      | inr l ↦ (rest.0, later_in c rest.0 (d ∷ ds) rest.1, omega (arith, l, rest.2))
    ]

least-above : (f : Choice → ℕ) (m : ℕ) (cs : List Choice) (c : Choice) → Contains cs c → ((d : Choice) → Contains cs d → m ≤ f d) → m ≤ least f cs
least-above f m [] c h each = absurd (omega (arith, h.1))
least-above f m (x ∷ xs) c h each = let one = least-attained f x xs in omega (arith, each one.0 one.1, one.2)

-- ---- the host

module _ (p : Instance) (sound : IsInstance p) (v : VmId) (old now : List Choice) (k : ℕ) (fewer : AreFewer now old) (given : GivesUp p v.0 old now k) where
  -- a choice that comes to no node before the horizon keeps what it has there until it leaves
  mine : (w : Weight) (t : ℕ) (c : Choice) → t ≤ p.horizon → Contains now c → held_at p v.0 w (one k) t c ≡ cond (hosted_in (state_of p v.0) (one k) && nat_lt t (leave_of p v.0 c)) (base p v.0 w) 0
  mine w t c l there =
      let short : t < never = omega (arith, sound.horizon, l) in
      let law = kept_law p v.0 w k t (c ∷ []) (numbers p v.0 c) short (of_one p v.0 c) in
      let off : comes_by k t (arrival c) ≡ false = arrived k t c ∙ given.away c t there l in
      omega (arith, law, nothing (comes_by k t (arrival c)) (gain p v.0 w k) off)
    where
      nothing : (b : Bool) (m : ℕ) → b ≡ false → cond b m 0 ≡ 0
      nothing b m e = rw e refl

  other : (w : Weight) (t : ℕ) (d : Choice) → t ≤ p.horizon → cond (hosted_in (state_of p v.0) (one k) && nat_lt t (leave_of p v.0 d)) (base p v.0 w) 0 ≤ held_at p v.0 w (one k) t d
  other w t d l =
      let short : t < never = omega (arith, sound.horizon, l) in
      omega (arith, kept_law p v.0 w k t (d ∷ []) (numbers p v.0 d) short (of_one p v.0 d))

  as-long : (h : Bool) (t a b m : ℕ) → a ≤ b → cond (h && nat_lt t a) m 0 ≤ cond (h && nat_lt t b) m 0
  as-long false t a b m l = omega arith
  as-long true t a b m l = by (nat_lt t a) refl
    where
      by : (x : Bool) → nat_lt t a ≡ x → cond x m 0 ≤ cond (nat_lt t b) m 0
      by false e = omega arith
      by true e = let later : nat_lt t b ≡ true = grind (arith, nat_tests, e, l) in rw later (omega arith)

  no-more : (w : Weight) (t : ℕ) (c d : Choice) → t ≤ p.horizon → Contains now c → leave_of p v.0 c ≤ leave_of p v.0 d → held_at p v.0 w (one k) t c ≤ held_at p v.0 w (one k) t d
  no-more w t c d l there longer = omega (arith, mine w t c l there, other w t d l, as-long (hosted_in (state_of p v.0) (one k)) t (leave_of p v.0 c) (leave_of p v.0 d) (base p v.0 w) longer)

  present-too : (t : ℕ) (c d : Choice) → t ≤ p.horizon → Contains now c → leave_of p v.0 c ≤ leave_of p v.0 d → IsTrue (present_at p v.0 (one k) t c) → IsTrue (present_at p v.0 (one k) t d)
  present-too t c d l there longer on = let more = no-more Presence t c d l there longer in grind (arith, nat_tests, on, more)

  -- the one that gives the host up first is there still
  soonest : (c : Choice) × Contains now c × (leave_of p v.0 c ≤ least (leave_of p v.0) old)
  soonest = by now given.some given.soon
    where
      by : (cs : List Choice) → cs ≢ [] → least (leave_of p v.0) cs ≤ least (leave_of p v.0) old → (c : Choice) × Contains cs c × (leave_of p v.0 c ≤ least (leave_of p v.0) old)
      by [] some e = absurd (some refl)
      by (c ∷ cs) some e = let one = least-attained (leave_of p v.0) c cs in (one.0, one.1, omega (arith, e, one.2))

  later-than-it : (d : Choice) → Contains old d → leave_of p v.0 soonest.0 ≤ leave_of p v.0 d
  later-than-it d h = omega (arith, soonest.2, least_of_each (leave_of p v.0) old d h)

  sure-held : (w : Weight) (t : ℕ) → t ≤ p.horizon → least (held_at p v.0 w (one k) t) now ≤ least (held_at p v.0 w (one k) t) old
  sure-held w t l =
      let all = least-above (held_at p v.0 w (one k) t) (held_at p v.0 w (one k) t soonest.0) old soonest.0 (fewer soonest.0 soonest.1) (λ d h. no-more w t soonest.0 d l soonest.1 (later-than-it d h)) in
      omega (arith, least_of_each (held_at p v.0 w (one k) t) now soonest.0 soonest.1, all)

  each-surely : (test : Choice → Bool) (cs : List Choice) → ((d : Choice) → Contains cs d → test d ≡ true) → surely test cs ≡ true
  each-surely test [] h = refl
  each-surely test (c ∷ cs) h = rw (h c (contains_here c cs), each-surely test cs (λ d i. h d (later_in c d cs i))) refl

  sure-present : (t : ℕ) → t ≤ p.horizon → IsTrue (surely (present_at p v.0 (one k) t) now) → IsTrue (surely (present_at p v.0 (one k) t) old)
  sure-present t l on = each-surely (present_at p v.0 (one k) t) old (λ d h. present-too t soonest.0 d l soonest.1 (later-than-it d h) (surely_each (present_at p v.0 (one k) t) now soonest.0 soonest.1 on))

  alone : (b : Bool) → IsTrue b → IsTrue (b && true)
  alone true h = h
  alone false h = h

  of-alone : (b : Bool) → IsTrue (b && true) → IsTrue b
  of-alone true h = h
  of-alone false h = h

  end-less : (t : ℕ) (c d : Choice) → t ≤ p.horizon → Contains now c → leave_of p v.0 c ≤ leave_of p v.0 d → IsMachineLess p (usable_watch p k).scope v.0 t (c ∷ []) (d ∷ [])
  end-less t c d l there longer = record {
    held = λ w set i. rw i.1 (no-more w t c d l there longer);
    present = λ set i x. rw i (alone (present_at p v.0 (one k) t d) (present-too t c d l there longer (of-alone (present_at p v.0 (one k) t c) (rw i at x))));
    action = λ far i. absurd i;
  }

  ends : (c : Choice) → IsEnd now c → (t : ℕ) → t ≤ p.horizon → (d : Choice) × IsEnd old d × IsMachineLess p (usable_watch p k).scope v.0 t (c ∷ []) (d ∷ [])
  ends Stay end t l = (Stay, fewer Stay end, end-less t Stay Stay l end (omega arith))
  ends (Act q s) end t l =
      let last = last_of old q s (fewer (Act q s) end.0) in
      (Act q last.0, (last.1, inr last.2), end-less t (Act q s) (Act q last.0) l end.0 (leave_climbs p v.0 q s last.0 (last.2 s (fewer (Act q s) end.0))))

  pub given_up_still : IsStill p (usable_watch p k).scope (Vm v) old now
  given_up_still = record {
    sure = λ t l. record { held = λ w set i. rw i.1 (sure-held w t l); present = λ set i x. rw i (sure-present t l (rw i at x)); action = λ far i. absurd i };
    ends = λ c end t l. inr (ends c end t l);
  }
