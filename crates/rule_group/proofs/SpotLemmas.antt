-- Where a machine may be under a choice, whenever a constraint is due.
use Rattle.rule_group.proofs.Prelude.{and_parts, ap, arith, if◌then◌else◌, inl, inr, ◌⊎◌, ◌+◌, Bool, eqb-true, false, false≢true, IsTrue, kept_law, nat_lt, nat_tests, None, not, Option, present_somewhere, refl, Some, sym, true, ◌&&◌, ◌<◌, ◌==◌, ◌||◌, ◌∙◌, ◌≡◌, ◌≤◌, ℕ, [], ◌∷◌, arrived, arrival, numbers, of_one}
use Rattle.rule_group.specs.Prelude.{Act, AnyPlace, AreSpots, At, Choice, comes_by, HasHost, HasSpots, hosted_in, Idle, Instance, IsDue, IsInside, IsInstance, IsPlaceSpot, IsSpot, IsSpotIn, leave_of, never, NodeId, Nodes, Nowhere, one, Presence, present_at, Spots, state_of}

-- a constraint that is not continuous is due at the horizon alone
at-horizon : (b : Bool) (t h : ℕ) → b ≡ false → IsTrue (b || (t == h)) → t ≡ h
at-horizon true t h e due = cc
at-horizon false t h e due = eqb-true t h due

gone : (b : Bool) (t leave : ℕ) → leave ≤ t → IsTrue (b && nat_lt t leave) → ⊥
gone true t leave l h = grind (arith, nat_tests, h, l)
gone false t leave l h = false≢true h

module _ (p : Instance) (a : Bool) (v : ℕ) (c : Choice) where
  pub no_host : ((set : Nodes) → hosted_in (state_of p v) set ≡ false) → HasHost p a v c None
  no_host none = record { each = λ n t due h. let no = none (one n) in false≢true (sym no ∙ (and_parts (hosted_in (state_of p v) (one n)) _ h).0) }

  pub has_left : a ≡ false → leave_of p v c ≤ p.horizon → HasHost p a v c None
  has_left discrete leaves = record {
    each = λ n t due h.
        let at : t ≡ p.horizon = at-horizon a t p.horizon discrete due.1 in
        gone (hosted_in (state_of p v) (one n)) t (leave_of p v c) (omega (arith, leaves, at)) h;
  }

  pub has_host : (h : NodeId) → ((set : Nodes) → hosted_in (state_of p v) set ≡ set h.0) → HasHost p a v c (Some h)
  has_host h is = record { each = λ n t due there. eqb-true h.0 n (sym (is (one n)) ∙ (and_parts (hosted_in (state_of p v) (one n)) _ there).0) }

pub some_place : (n : NodeId) → IsPlaceSpot (At n) (Some n)
some_place n = record { each = λ m t s h. eqb-true n.0 m (and_parts (one m n.0) _ h).0 }

pub no_place : IsPlaceSpot Nowhere None
no_place = record { each = λ m t s h. false≢true h }

pub idle_spots : (p : Instance) (a : Bool) (v : ℕ) (host : Option NodeId) → HasHost p a v Idle host → AreSpots p a v Idle (record { host = host; place = None })
idle_spots p a v host h = record { host = h; place = λ n t x. false≢true x }

pub row_spots : (p : Instance) (a : Bool) (v : ℕ) (q : AnyPlace) (s : ℕ) (x : Spots) → HasHost p a v (Act q s) x.host → IsPlaceSpot q x.place → AreSpots p a v (Act q s) x
row_spots p a v q s x h q-is = record { host = h; place = λ n t there. q-is.each n t s there }

-- ---- inside a set

spot-in : (set : Nodes) (spot : Option NodeId) (n : ℕ) → IsSpotIn set spot → IsSpot spot n → IsTrue (set n)
spot-in set None n inside at = absurd at
spot-in set (Some m) n inside at = rw (← at) inside

-- what is held on a node is so by the host or by the place
by-number : (a b : Bool) (x y : ℕ) → IsTrue (nat_lt 0 ((if a then x else 0) + (if b then y else 0))) → IsTrue a ⊎ IsTrue b
by-number true b x y h = inl refl
by-number false true x y h = inr refl
by-number false false x y h = absurd (false≢true h)

both-ways : (b : Bool) → IsTrue b → IsTrue (not b) → ⊥
both-ways true h n = false≢true n
both-ways false h n = false≢true h

-- a machine whose nodes are all in a set is inside it
pub inside_by_spots : (p : Instance) (a : Bool) (v : ℕ) (c : Choice) (set : Nodes) (x : Spots) → IsInstance p → p.horizon < never → AreSpots p a v c x → HasSpots set x → IsInside p a v set c
inside_by_spots p a v c set x sound short spots has = record { inside = λ t due. by t due (present_at p v (λ n. not (set n)) t c) refl }
  where
    there : (n t : ℕ) → IsDue p a t → IsTrue (present_at p v (one n) t c) → IsTrue (set n)
    there n t due h =
        let law = kept_law p v Presence n t (c ∷ []) (numbers p v c) (omega (arith, due.0, short)) (of_one p v c) in
        elim (by-number (hosted_in (state_of p v) (one n) && nat_lt t (leave_of p v c)) (comes_by n t (arrival c)) _ _ (sym (ap (λ (m : ℕ). nat_lt 0 m) law) ∙ h)) [
          | inl stays ↦ spot-in set x.host n has.host (spots.host.each n t due stays)
          | inr comes ↦ spot-in set x.place n has.place (spots.place n t (sym (arrived n t c) ∙ comes))
        ]

    by : (t : ℕ) → IsDue p a t → (b : Bool) → present_at p v (λ n. not (set n)) t c ≡ b → b ≡ false
    by t due false e = refl
    by t due true e =
        let w = present_somewhere p sound v (λ n. not (set n)) t c e in
        absurd (both-ways (set w.0) (there w.0 t due w.3) w.2)
