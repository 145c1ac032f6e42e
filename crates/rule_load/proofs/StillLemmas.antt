-- A change of a machine does not weigh on the load of a node that is not its host, unless all its choices come there sooner now.
use Rattle.rule_load.proofs.Prelude.{◌≡◌, ◌≢◌, ◌⊎◌, inl, inr, ℕ, ◌<◌, ◌≤◌, Bool, true, false, cond, List, [], ◌∷◌, refl, sym, ◌∙◌, arith, false≢true, nat_tests, Contains, Act, Amount, AreFewer, At, Choice, comes_by, gain, has_come, have_come, held_at, hosted_in, Idle, Instance, IsEnd, IsLess, IsMachineLess, IsStanding, IsStill, kept_use, least, leave_of, load_scope, never, node, Nowhere, one, Standing, state_of, vm, Weight, contains_here, first_of, no_less, unseen_still, kept_law}
use Rattle.load_bounds.proofs.Public.{arrival_of, choice_stands, come_is, least_above}

-- ---- one choice, away from the host

-- who is not on its host there has only what it brings
brought_alone : (p : Instance) (v : ℕ) (w : Weight) (n t : ℕ) (k : Standing) → hosted_in (state_of p v) (one n) ≡ false → kept_use p v w n t k ≡ cond (comes_by n t k.come) (gain p v w n) 0
brought_alone p v w n t k off = rw off (omega arith)

held_alone : (p : Instance) (v : ℕ) (w : Weight) (n t : ℕ) (c : Choice) → t < never → hosted_in (state_of p v) (one n) ≡ false → held_at p v w (one n) t c ≡ cond (comes_by n t (arrival_of c)) (gain p v w n) 0
held_alone p v w n t c h off = kept_law p v w n t (c ∷ []) (record { leave = leave_of p v c; come = arrival_of c }) h (choice_stands p v c) ∙ brought_alone p v w n t (record { leave = leave_of p v c; come = arrival_of c }) off

-- ---- a change

module _ (p : Instance) (v n : ℕ) (old now : List Choice) (k : Standing) (short : p.horizon < never) (fewer : AreFewer now old) (is : IsStanding p v now k) (off : hosted_in (state_of p v) (one n) ≡ false) (came : (t : ℕ) → comes_by n t k.come ≡ true → (c : Choice) → Contains old c → has_come n t c ≡ true) where
  less : (t : ℕ) (cs ds : List Choice) → ((r : ℕ) → least (held_at p v (Amount r) (one n) t) cs ≤ least (held_at p v (Amount r) (one n) t) ds) → IsMachineLess p (load_scope (one n)) v t cs ds
  less t cs ds le = record {
    held = λ w set i. rw (i.1, i.2) (le i.0);
    present = λ set x. absurd x;
    action = λ far x. absurd x;
  }

  alone : (r t : ℕ) (c : Choice) → t ≤ p.horizon → held_at p v (Amount r) (one n) t c ≡ cond (comes_by n t (arrival_of c)) (gain p v (Amount r) n) 0
  alone r t c l = held_alone p v (Amount r) n t c (omega (arith, short, l)) off

  -- where all come now, all did
  no_more : (r t : ℕ) → t ≤ p.horizon → least (held_at p v (Amount r) (one n) t) now ≤ least (held_at p v (Amount r) (one n) t) old
  no_more r t l = by (comes_by n t k.come) refl
    where
      by : (b : Bool) → comes_by n t k.come ≡ b → least (held_at p v (Amount r) (one n) t) now ≤ least (held_at p v (Amount r) (one n) t) old
      by false e =
          let none : least (held_at p v (Amount r) (one n) t) now ≡ 0 = kept_law p v (Amount r) n t now k (omega (arith, short, l)) is ∙ brought_alone p v (Amount r) n t k off ∙ rw e refl in
          omega (arith, none)
      by true e =
          let some : least (held_at p v (Amount r) (one n) t) now ≡ gain p v (Amount r) n = kept_law p v (Amount r) n t now k (omega (arith, short, l)) is ∙ brought_alone p v (Amount r) n t k off ∙ rw e refl in
          let have : have_come n t now ≡ true = sym (is.come n t) ∙ e in
          let some_one = one_of now have in
          let all = least_above (held_at p v (Amount r) (one n) t) (gain p v (Amount r) n) old some_one.0 (fewer some_one.0 some_one.1) (λ d h. each d (came t e d h)) in
          omega (arith, some, all)
        where
          one_of : (cs : List Choice) → have_come n t cs ≡ true → (c : Choice) × Contains cs c
          one_of [] f = absurd (false≢true f)
          one_of (c ∷ cs) f = (c, contains_here c cs)

          each : (d : Choice) → has_come n t d ≡ true → gain p v (Amount r) n ≤ held_at p v (Amount r) (one n) t d
          each d f = let come : comes_by n t (arrival_of d) ≡ true = come_is d n t ∙ f in let held : held_at p v (Amount r) (one n) t d ≡ gain p v (Amount r) n = alone r t d l ∙ rw come refl in omega (arith, held)

  ends : (c : Choice) → IsEnd now c → (t : ℕ) → t ≤ p.horizon → IsLess p (load_scope (one n)) (vm v) t (c ∷ []) old ⊎ ((d : Choice) × IsEnd old d × IsLess p (load_scope (one n)) (vm v) t (c ∷ []) (d ∷ []))
  ends Idle end t l = inl (less t (Idle ∷ []) old (λ r. omega (arith, alone r t Idle l)))
  ends (Act Nowhere s) end t l = inl (less t (Act Nowhere s ∷ []) old (λ r. omega (arith, alone r t (Act Nowhere s) l)))
  ends (Act (At m) s) end t l =
      let first = first_of old (At m) s (fewer (Act (At m) s) end.0) in
      inr (
        Act (At m) first.0,
        (first.1, inl first.2),
        less t (Act (At m) s ∷ []) (Act (At m) first.0 ∷ []) (λ r. omega (
          arith,
          alone r t (Act (At m) s) l,
          alone r t (Act (At m) first.0) l,
          no_less (one n m.0) first.0 s t (gain p v (Amount r) n) (first.2 s (fewer (Act (At m) s) end.0)),
        )),
      )

  pub machine_still : IsStill p (load_scope (one n)) (vm v) old now
  machine_still = record {
    sure = λ t l. less t now old (λ r. no_more r t l);
    ends = λ c end t l. ends c end t l;
  }

-- a node that is another one is not looked at
pub node_still : (p : Instance) (m n : ℕ) (old now : List Choice) → n ≢ m → IsStill p (load_scope (one n)) (node m) old now
node_still p m n old now ne = unseen_still p (load_scope (one n)) (node m) old now (record {
  usable = λ on. let off : one n m ≡ false = grind (arith, nat_tests, ne) in false≢true (sym off ∙ on);
  powered = λ x. x;
})
