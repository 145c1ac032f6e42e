-- A change of a machine does not weigh on its host, where it surely keeps that as long as before; and where all its choices came before.
use Rattle.rule_load.proofs.Prelude.{min, ◌≡◌, ◌≢◌, inl, inr, ℕ, ◌+◌, ◌<◌, ◌≤◌, ◌&&◌, Bool, true, false, nat_le, nat_lt, cond, Option, Some, None, unwrap_or, List, [], ◌∷◌, refl, sym, ap, subst, ◌∙◌, arith, false≢true, Decides-eqb, nat_tests, Contains, filter, Act, Amount, AreFewer, Arrival, At, base, CameBefore, Choice, choices, comes_by, DomainView, From, gain, goes_in, has_come, have_come, held_at, hosted_in, Idle, in_part, Instance, IsEnd, IsMachineLess, IsStill, KeepsHost, least, leave_climbs, leave_of, load_scope, Lost, lost_choices, lower_option, lowest, never, NodeId, Nowhere, one, restored, state_of, vm, contains_filter, least_of_each, lowest_before, restored_is_both, surely_each, last_of}
use Rattle.load_bounds.proofs.Public.{held_parts, least_above, least_attained}
pub use Rattle.load_bounds.proofs.Public.{row_came}

-- ---- until when the host is kept

some-lowest : (f : Choice → ℕ) (cs : List Choice) → cs ≢ [] → (a : ℕ) × (lowest f cs ≡ Some a)
some-lowest f [] some = absurd (some refl)
some-lowest f (x ∷ xs) some = (_, refl)

before-is : (f : Choice → ℕ) (lost : Lost) (d : DomainView) (a : ℕ) → AreFewer (choices d) (choices (restored lost d)) → lowest f (choices d) ≡ Some a → (o : Option ℕ) → lowest f (lost_choices lost) ≡ o → least f (choices (restored lost d)) ≡ unwrap_or (lower_option (Some a) o) 0
before-is f lost d a fewer some o lost-is = ap (λ x. unwrap_or x 0) (rw (some, lost-is) at (lowest_before f lost d fewer))

-- nothing was lost
pub least_was : (f : Choice → ℕ) (lost : Lost) (d : DomainView) (leave : ℕ) → AreFewer (choices d) (choices (restored lost d)) → choices d ≢ [] → leave ≡ least f (choices d) → lowest f (lost_choices lost) ≡ None → leave ≡ least f (choices (restored lost d))
least_was f lost d leave fewer has is none =
    let some = some-lowest f (choices d) has in
    let now : leave ≡ some.0 = is ∙ ap (λ x. unwrap_or x 0) some.1 in
    now ∙ sym (before-is f lost d some.0 fewer some.1 None none)

-- or what was lost keeps it as long
pub least_was_so : (f : Choice → ℕ) (lost : Lost) (d : DomainView) (leave x : ℕ) → AreFewer (choices d) (choices (restored lost d)) → choices d ≢ [] → leave ≡ least f (choices d) → lowest f (lost_choices lost) ≡ Some x → leave ≤ x → leave ≡ least f (choices (restored lost d))
least_was_so f lost d leave x fewer has is lost-is longer =
    let some = some-lowest f (choices d) has in
    let now : leave ≡ some.0 = is ∙ ap (λ x. unwrap_or x 0) some.1 in
    let was : least f (choices (restored lost d)) ≡ min some.0 x = before-is f lost d some.0 fewer some.1 (Some x) lost-is in
    omega (arith, now, was, longer)

-- ---- where it acts

-- no choice acts at a node
pub none_at : (cs : List Choice) (h : NodeId) (n : ℕ) (c : Choice) → filter (in_part (From (At h) 0)) cs ≡ [] → one n h.0 ≡ true → Contains cs c → goes_in c (one n) ≡ false
none_at cs h n Idle none same there = refl
none_at cs h n (Act Nowhere s) none same there = refl
none_at cs h n (Act (At m) s) none same there = by (one n m.0) refl
  where
    by : (b : Bool) → one n m.0 ≡ b → b ≡ false
    by false e = refl
    by true e =
        let number : m.0 ≡ h.0 = grind (arith, nat_tests, same, e) in
        let inside : in_part (From (At h) 0) (Act (At m) s) ≡ true = grind (arith, nat_tests, number) in
        let held = contains_filter (in_part (From (At h) 0)) cs (Act (At m) s) there inside in
        absurd (let none-there : Contains [] (Act (At m) s) = subst (λ xs. Contains xs (Act (At m) s)) none held in omega (arith, none-there.1))

-- ---- a change

module _ (p : Instance) (v n : ℕ) (old now : List Choice) (leave : ℕ) (short : p.horizon < never) (fewer : AreFewer now old) (is : leave ≡ least (leave_of p v) now) (keeps : KeepsHost p v old now leave) (away : (c : Choice) → Contains now c → goes_in c (one n) ≡ false) where
  less : (t : ℕ) (cs ds : List Choice) → ((r : ℕ) → least (held_at p v (Amount r) (one n) t) cs ≤ least (held_at p v (Amount r) (one n) t) ds) → IsMachineLess p (load_scope (one n)) v t cs ds
  less t cs ds le = record {
    held = λ w set i. rw (i.1, i.2) (le i.0);
    present = λ set x. absurd x;
    action = λ far x. absurd x;
  }

  off-node : (c : Choice) (t : ℕ) → goes_in c (one n) ≡ false → has_come n t c ≡ false
  off-node Idle t e = refl
  off-node (Act Nowhere s) t e = refl
  off-node (Act (At m) s) t e = rw e refl

  as-long : (h : Bool) (t a b m k : ℕ) → a ≤ b → cond (h && nat_lt t a) m 0 ≤ cond (h && nat_lt t b) m 0 + k
  as-long false t a b m k l = omega arith
  as-long true t a b m k l = by (nat_lt t a) refl
    where
      by : (x : Bool) → nat_lt t a ≡ x → cond x m 0 ≤ cond (nat_lt t b) m 0 + k
      by false e = omega arith
      by true e = let later : nat_lt t b ≡ true = grind (arith, nat_tests, e, l) in rw later (omega arith)

  -- a choice that keeps the host as long holds no less there
  no-more : (r t : ℕ) (c d : Choice) → t ≤ p.horizon → has_come n t c ≡ false → leave_of p v c ≤ leave_of p v d → held_at p v (Amount r) (one n) t c ≤ held_at p v (Amount r) (one n) t d
  no-more r t c d l off longer =
      let mine = held_parts p v (Amount r) n t c (omega (arith, short, l)) ∙ ap (λ b. cond (hosted_in (state_of p v) (one n) && nat_lt t (leave_of p v c)) (base p v (Amount r)) 0 + cond b (gain p v (Amount r) n) 0) off in
      let other = held_parts p v (Amount r) n t d (omega (arith, short, l)) in
      let host = as-long (hosted_in (state_of p v) (one n)) t (leave_of p v c) (leave_of p v d) (base p v (Amount r)) (cond (has_come n t d) (gain p v (Amount r) n) 0) longer in
      omega (arith, mine, other, host)

  -- the one that gives the host up first is there still
  sooner : (c : Choice) × Contains now c × (leave_of p v c ≤ leave)
  sooner = by now keeps.some is
    where
      by : (cs : List Choice) → cs ≢ [] → leave ≡ least (leave_of p v) cs → (c : Choice) × Contains cs c × (leave_of p v c ≤ leave)
      by [] some e = absurd (some refl)
      by (c ∷ cs) some e = let one = least_attained (leave_of p v) c cs in (one.0, one.1, omega (arith, e, one.2))

  no-more-now : (r t : ℕ) → t ≤ p.horizon → least (held_at p v (Amount r) (one n) t) now ≤ least (held_at p v (Amount r) (one n) t) old
  no-more-now r t l =
      let mine = least_of_each (held_at p v (Amount r) (one n) t) now sooner.0 sooner.1 in
      let all = least_above (held_at p v (Amount r) (one n) t) (held_at p v (Amount r) (one n) t sooner.0) old sooner.0 (fewer sooner.0 sooner.1)
      (λ d h. no-more r t sooner.0 d l (off-node sooner.0 t (away sooner.0 sooner.1)) (omega (arith, sooner.2, keeps.same, least_of_each (leave_of p v) old d h))) in
      omega (arith, mine, all)

  ends : (c : Choice) → IsEnd now c → (t : ℕ) → t ≤ p.horizon → (d : Choice) × IsEnd old d × IsMachineLess p (load_scope (one n)) v t (c ∷ []) (d ∷ [])
  ends Idle end t l = (Idle, fewer Idle end, less t (Idle ∷ []) (Idle ∷ []) (λ r. omega arith))
  ends (Act q s) end t l =
      let last = last_of old q s (fewer (Act q s) end.0) in (
        Act q last.0,
        (last.1, inr last.2),
        less t (Act q s ∷ []) (Act q last.0 ∷ []) (λ r. no-more r t (Act q s) (Act q last.0) l (off-node (Act q s) t (away (Act q s) end.0)) (leave_climbs p v q s last.0 (last.2 s (fewer (Act q s) end.0)))),
      )

  pub host_still : IsStill p (load_scope (one n)) (vm v) old now
  host_still = record {
    sure = λ t l. less t now old (λ r. no-more-now r t l);
    ends = λ c end t l. inr (ends c end t l);
  }

-- ---- where all its choices come

two : (a b : Bool) → (a && b) ≡ true → (a ≡ true) × (b ≡ true)
two true b e = (refl, e)
two false b e = absurd (false≢true e)

-- what has come to a node by an instant has come there by a later one
come-later : (node last n t : ℕ) (c : Choice) → (one n node && nat_le last t) ≡ true → has_come node last c ≡ true → has_come n t c ≡ true
come-later node last n t Idle e f = absurd (false≢true f)
come-later node last n t (Act Nowhere s) e f = absurd (false≢true f)
come-later node last n t (Act (At m) s) e f =
    let at = two (one n node) (nat_le last t) e in
    let came = two (one node m.0) (nat_le s last) f in
    let there : one n m.0 ≡ true = grind (arith, nat_tests, at.0, came.0) in
    let by : nat_le s t ≡ true = grind (arith, nat_tests, at.1, came.1) in
    rw (there, by) refl

pub came_before : (d : DomainView) (lost : Lost) (a : Arrival) → ((n t : ℕ) → comes_by n t (Some a) ≡ have_come n t (choices d)) → ((c : Choice) → Contains (lost_choices lost) c → has_come a.node.0 a.last c ≡ true) → CameBefore (choices (restored lost d)) (Some a)
came_before d lost a is gone n t e c h =
    come-later a.node.0 a.last n t c e (elim (restored_is_both lost d c h) [ inl has ↦ each (choices d) (sym (is a.node.0 a.last) ∙ at_last) c has | inr left ↦ gone c left ])
  where
    at_last : comes_by a.node.0 a.last (Some a) ≡ true
    at_last = let here : one a.node.0 a.node.0 ≡ true = (Decides-eqb a.node.0 a.node.0).1 refl in let by : nat_le a.last a.last ≡ true = grind (arith, nat_tests) in rw (here, by) refl

    each : (cs : List Choice) → have_come a.node.0 a.last cs ≡ true → (c : Choice) → Contains cs c → has_come a.node.0 a.last c ≡ true
    each [] f c i = absurd (false≢true f)
    each (x ∷ xs) f c i = surely_each (has_come a.node.0 a.last) (x ∷ xs) c i f

pub none_came : (cs : List Choice) → CameBefore cs None
none_came cs n t e = absurd (false≢true e)
