-- What all machines have at present, what those hold more that may not stay, and that both stay within an amount.
use Rattle.rule_setload.proofs.Prelude.{◌≡◌, inl, inr, ℕ, zero, suc, ◌+◌, ◌-◌, ◌<◌, ◌≤◌, max, Bool, true, false, ◌&&◌, ◌==◌, nat_le, nat_lt, cond, Option, Some, None, List, [], ◌∷◌, ◌++◌, length, get_or, take, refl, ap, subst, ◌∙◌, arith, slice_index_or, Contains, flat_map, sum_by, cases_eq, cases_lt, ne_eqb, take_all, take-suc, sum_by_push, sum_to-add, sum_to-le, sum_to-none, sum_to-one, sum_to-term, Place, OfImage, use_of_le, held_by_node, contains_here, least_of_each, end_is_choice, all_over, kept_law, arrival, numbers, of_one, row_end}
use Rattle.rule_setload.specs.Prelude.{Act, Amount, AreExtra, AreMovers, AreStayersTo, At, base, brought, Choice, choices, Climbs, comes_by, Demand, DomainView, gain, goes_in, Gone, has_started, held_at, hosted_in, Idle, if_so, Image, Init, Instance, IsExtra, IsInstance, kept_use, kind_of, leave_of, machine_count, max_amount, never, no_row, node_count, Nodes, Nowhere, one, Presence, Raise, Ready, Row, row_choices, Running, Sets, Sleeping, State, state_of, stay_of, Stayers, StaysIn, sum_to, sure, unit_of, Use, vm, Weight, weight_if, What}

-- ---- one machine on one node

module _ (p : Instance) (v : ℕ) (w : Weight) where
  weight-most : (o : Option What) → weight_if p v w o ≤ unit_of p v w
  weight-most o = at w o
    where
      at : (w : Weight) (o : Option What) → weight_if p v w o ≤ unit_of p v w
      at w None = omega arith
      at (Amount r) (Some Use) = use_of_le p v r
      at (Amount r) (Some Demand) = omega arith
      at (Amount r) (Some Raise) = omega arith
      at (Amount r) (Some OfImage) = omega arith
      at Presence (Some Use) = omega arith
      at Presence (Some Demand) = omega arith
      at Presence (Some Raise) = omega arith
      at Presence (Some OfImage) = omega arith
      at Image (Some Use) = omega arith
      at Image (Some Demand) = omega arith
      at Image (Some Raise) = omega arith
      at Image (Some OfImage) = omega arith

  had : (a b : Bool) (x : ℕ) → cond (a && b) x 0 ≤ if_so a (if_so b x)
  had true true x = omega arith
  had true false x = omega arith
  had false b x = omega arith

  brings : (n t g : ℕ) (c : Choice) → g ≤ unit_of p v w → cond (comes_by n t (arrival c)) g 0 ≤ if_so (goes_in c (one n)) (if_so (has_started t c) (unit_of p v w))
  brings n t g Idle l = omega arith
  brings n t g (Act Nowhere s) l = omega arith
  brings n t g (Act (At m) s) l = at (one n m.0) (nat_le s t)
    where
      at : (a b : Bool) → cond (a && b) g 0 ≤ if_so a (if_so b (unit_of p v w))
      at true true = l
      at true false = omega arith
      at false b = omega arith

  -- what it has there at present until it leaves, and what it brings if it goes there, once it has started
  on-node : (n t : ℕ) (c : Choice) → t < never → held_at p v w (one n) t c ≤ if_so (hosted_in (state_of p v) (one n)) (if_so (nat_lt t (leave_of p v c)) (base p v w)) + if_so (goes_in c (one n)) (if_so (has_started t c) (unit_of p v w))
  on-node n t c short =
      let law : held_at p v w (one n) t c ≡ kept_use p v w n t (numbers p v c) = kept_law p v w n t (c ∷ []) (numbers p v c) short (of_one p v c) in
      omega (arith, law, had (hosted_in (state_of p v) (one n)) (nat_lt t (leave_of p v c)) (base p v w), brings n t (gain p v w n) c (weight-most (brought (kind_of p (vm v) (At (record { 0 = n }))))))

-- ---- on a set of nodes

nothing : (b : Bool) → let none : ℕ = 0 in cond b none none ≡ none
nothing true = refl
nothing false = refl

-- what counts at one place counts where that is in the set
one-place : (count place a : ℕ) (set : Nodes) → sum_to count (λ k. cond (set k) (cond (place == k) a 0) 0) ≤ cond (set place) a 0
one-place count place a set =
    elim (cases_lt place count) [
      | inl low ↦ omega (arith, sum_to-one count place a set low)
      | inr past ↦ omega (arith, sum_to-none count (λ k. cond (set k) (cond (place == k) a 0) 0) (λ k low. let off : (place == k) ≡ false = ne_eqb place k (λ e. omega (arith, past, low, e)) in rw off (nothing (set k))))
    ]

none-in : (count : ℕ) (set : Nodes) → sum_to count (λ k. cond (set k) 0 0) ≤ 0
none-in count set = omega (arith, sum_to-none count (λ k. cond (set k) 0 0) (λ k low. nothing (set k)))

hosts-in : (count a : ℕ) (set : Nodes) (s : State) → sum_to count (λ n. cond (set n) (if_so (hosted_in s (one n)) a) 0) ≤ if_so (hosted_in s set) a
hosts-in count a set Init = none-in count set
hosts-in count a set Ready = none-in count set
hosts-in count a set (Running h) = one-place count h.0 a set
hosts-in count a set (Sleeping h) = one-place count h.0 a set
hosts-in count a set Gone = none-in count set

goes-to : (count a : ℕ) (set : Nodes) (c : Choice) → sum_to count (λ n. cond (set n) (if_so (goes_in c (one n)) a) 0) ≤ if_so (goes_in c set) a
goes-to count a set Idle = none-in count set
goes-to count a set (Act Nowhere s) = none-in count set
goes-to count a set (Act (At m) s) = one-place count m.0 a set

parted : (b : Bool) (x y z : ℕ) → x ≤ y + z → cond b x 0 ≤ cond b y 0 + cond b z 0
parted true x y z h = h
parted false x y z h = omega arith

module _ (p : Instance) (sound : IsInstance p) (w : Weight) (set : Nodes) where
  swapped : (a b : Bool) (n : ℕ) → if_so a (if_so b n) ≤ if_so b (if_so a n)
  swapped true b n = omega arith
  swapped false true n = omega arith
  swapped false false n = omega arith

  -- a machine holds no more than what it has at present until it leaves, and what it brings where it goes to the set, once it has started
  pub held_parts : (v t : ℕ) (c : Choice) → t ≤ p.horizon → held_at p v w set t c ≤ if_so (nat_lt t (leave_of p v c)) (stay_of p w set v) + if_so (goes_in c set) (if_so (has_started t c) (unit_of p v w))
  held_parts v t c l =
      let short : t < never = omega (arith, sound.horizon, l) in
      let old : ℕ = if_so (nat_lt t (leave_of p v c)) (base p v w) in
      let come : ℕ = if_so (has_started t c) (unit_of p v w) in
      let had : ℕ → ℕ = λ n. cond (set n) (if_so (hosted_in (state_of p v) (one n)) old) 0 in
      let new : ℕ → ℕ = λ n. cond (set n) (if_so (goes_in c (one n)) come) 0 in
      let all = sum_to-le (node_count p) (λ n. cond (set n) (held_at p v w (one n) t c) 0) (λ n. had n + new n) (λ n low. parted (set n) (held_at p v w (one n) t c) (if_so (hosted_in (state_of p v) (one n)) old) (if_so (goes_in c (one n)) come) (on-node p v w n t c short)) in
      omega (arith, held_by_node p sound v w set t c, all, sum_to-add (node_count p) had new, hosts-in (node_count p) old set (state_of p v), goes-to (node_count p) come set c, swapped (hosted_in (state_of p v) set) (nat_lt t (leave_of p v c)) (base p v w))

  pub so_most : (b : Bool) (n : ℕ) → if_so b n ≤ n
  so_most true n = omega arith
  so_most false n = omega arith

  so-so : (a b : Bool) (n : ℕ) → if_so a (if_so b n) ≤ if_so a n
  so-so true b n = so_most b n
  so-so false b n = omega arith

  -- so it holds no more than what it has at present, and what it brings where it goes to the set
  pub held_most : (v t : ℕ) (c : Choice) → t ≤ p.horizon → held_at p v w set t c ≤ stay_of p w set v + if_so (goes_in c set) (unit_of p v w)
  held_most v t c l = omega (arith, held_parts v t c l, so_most (nat_lt t (leave_of p v c)) (stay_of p w set v), so-so (goes_in c set) (has_started t c) (unit_of p v w))

  pub held_ever : (v t : ℕ) (c : Choice) → t ≤ p.horizon → held_at p v w set t c ≤ stay_of p w set v + unit_of p v w
  held_ever v t c l = omega (arith, held_most v t c l, so_most (goes_in c set) (unit_of p v w))

  module _ (s : Sets) (v : ℕ) where
    -- by one choice
    by-choice : (c : Choice) (extra : ℕ) → Contains (s (vm v)) c → ((t : ℕ) → t ≤ p.horizon → held_at p v w set t c ≤ stay_of p w set v + extra) → IsExtra p s w set v extra
    unfolding sure
    by-choice c extra there most = record { each = λ t l. omega (arith, least_of_each (held_at p v w set t) (s (vm v)) c there, most t l) }

    by-outer : (c : Choice) → goes_in c set ≡ false → Contains (s (vm v)) c → IsExtra p s w set v 0
    by-outer c out there = by-choice c 0 there (λ t l. let h : held_at p v w set t c ≤ stay_of p w set v + if_so false (unit_of p v w) = rw out at (held_most v t c l) in omega (arith, h))

    -- one that may stay
    pub idle_extra : (d : DomainView) → s (vm v) ≡ choices d → d.idle ≡ true → IsExtra p s w set v 0
    idle_extra d seen idle = by-outer Idle refl (rw (seen, idle) (contains_here Idle (flat_map row_choices d.rows)))

    -- one that may go elsewhere
    goes-any : (place : Place) (a b : ℕ) → goes_in (Act place a) set ≡ goes_in (Act place b) set
    goes-any Nowhere a b = refl
    goes-any (At n) a b = refl

    pub row_extra : (d : DomainView) (rows : List Row) (k : ℕ) → s (vm v) ≡ choices d → rows ≡ d.rows → Climbs 0 rows → k < length rows → goes_in (Act (slice_index_or rows k no_row).place 0) set ≡ false → IsExtra p s w set v 0
    row_extra d rows k seen same climbs low out =
        let c : Choice = Act (slice_index_or rows k no_row).place (slice_index_or rows k no_row).lo in
        by-outer c (goes-any (slice_index_or rows k no_row).place (slice_index_or rows k no_row).lo 0 ∙ out) (rw seen (end_is_choice (choices d) c (row_end d rows k same climbs low)))

    -- any other
    pub unit_extra : (extra : ℕ) → extra ≡ unit_of p v w → IsExtra p s w set v extra
    unfolding sure
    unit_extra extra is = by (s (vm v)) refl
      where
        by : (cs : List Choice) → s (vm v) ≡ cs → IsExtra p s w set v extra
        by [] none = record { each = λ t l. rw none (omega arith) }
        by (c ∷ cs) some = by-choice c extra (rw some (contains_here c cs)) (λ t l. omega (arith, held_ever v t c l, is))

-- ---- all machines

pub no_machine : (p : Instance) (w : Weight) (set : Nodes) (x : Stayers) → x.total ≡ 0 → x.most ≡ 0 → AreStayersTo p w set 0 x
no_machine p w set x total most = record {
  total = total;
  most = λ v low. absurd (omega (arith, low));
  small = omega (arith, total);
  small_most = omega (arith, most);
}

pub one_more : (p : Instance) (w : Weight) (set : Nodes) (i stay unit : ℕ) (x y : Stayers) → AreStayersTo p w set i x → stay ≡ stay_of p w set i → stay ≤ max_amount → unit ≡ unit_of p i w → unit ≤ max_amount → y.total ≡ x.total + stay → y.most ≡ max x.most unit → AreStayersTo p w set (i + 1) y
one_more p w set i stay unit x y before is small unit_is small_unit total most =
    let next : i + 1 ≡ suc i = omega arith in
    rw next (record {
      total = omega (arith, before.total, is, total);
      most = λ v low. elim (cases_eq v i) [
        | inl same ↦ rw same (omega (arith, unit_is, most))
        | inr other ↦ omega (arith, before.most v (omega (arith, low, other)), most)
      ];
      small = omega (arith, before.small, small, total);
      small_most = omega (arith, before.small_most, small_unit, most);
    })

module _ (p : Instance) (s : Sets) (w : Weight) (set : Nodes) where
  pub none_extra : AreExtra p s w set [] 0
  none_extra = record { each = λ t l. omega arith }

  pub next_extra : (xs : List ℕ) (v total extra : ℕ) → AreExtra p s w set xs total → IsExtra p s w set v extra → AreExtra p s w set (xs ++ v ∷ []) (total + extra)
  next_extra xs v total extra before here = record {
    each = λ t l. omega (arith, sum_by_push (λ k. (sure p s t).held k w set - stay_of p w set k) xs v, before.each t l, here.each t l);
  }

  -- over the first machines of a list, and one more
  pub take_extra : (xs : List ℕ) (i total extra : ℕ) → i < length xs → AreExtra p s w set (take i xs) total → IsExtra p s w set (get_or xs i 0) extra → AreExtra p s w set (take (i + 1) xs) (total + extra)
  take_extra xs i total extra low before here =
      let one_more : i + 1 ≡ suc i = omega arith in
      rw (one_more, take-suc xs i 0 low) (next_extra (take i xs) (get_or xs i 0) total extra before here)

  pub all_extra : (xs : List ℕ) (i total : ℕ) → length xs ≤ i → AreExtra p s w set (take i xs) total → AreExtra p s w set xs total
  all_extra xs i total past extra = subst (λ ys. AreExtra p s w set ys total) (take_all i xs past) extra

-- with what each has more than the other, two sums are the same
both-more : (m : ℕ) (f g : ℕ → ℕ) → sum_to m f + sum_to m (λ v. g v - f v) ≡ sum_to m g + sum_to m (λ v. f v - g v)
both-more zero f g = refl
both-more (suc m) f g = omega (arith, both-more m f g)

pub stays_in : (p : Instance) (s : Sets) (w : Weight) (set : Nodes) (xs : List ℕ) (y : Stayers) (extra amount : ℕ) → IsInstance p → AreStayersTo p w set (machine_count p) y → AreMovers p s xs → AreExtra p s w set xs extra → y.total + extra + y.most ≤ amount → StaysIn p s w set amount
stays_in p s w set xs y extra amount sound stayers movers more fits t l = record {
  base = omega (arith, all t l, stayers.total, more.each t l, fits);
  each = λ v c low end. omega (arith, all t l, less t v low, held_ever p sound w set v t c l, stayers.most v low, stayers.total, more.each t l, fits);
}
  where
    -- who may stay holds no more than what it has at present
    may-stay : (t v : ℕ) → t ≤ p.horizon → v < machine_count p → ¬ Contains xs v → (sure p s t).held v w set - stay_of p w set v ≡ 0
    may-stay t v l low out = omega (arith, (by-outer p sound w set s v Idle refl (movers.others v low out)).each t l)

    all : (t : ℕ) → t ≤ p.horizon → sum_to (machine_count p) (λ k. (sure p s t).held k w set) + sum_to (machine_count p) (λ k. stay_of p w set k - (sure p s t).held k w set) ≡ sum_to (machine_count p) (stay_of p w set) + sum_by (λ k. (sure p s t).held k w set - stay_of p w set k) xs
    all t l =
        both-more (machine_count p) (λ k. (sure p s t).held k w set) (stay_of p w set)
        ∙ ap (λ k. sum_to (machine_count p) (stay_of p w set) + k) (all_over xs (machine_count p) (λ k. (sure p s t).held k w set - stay_of p w set k) movers.machines.once movers.machines.each (λ v low out. may-stay t v l low out))

    less : (t v : ℕ) → v < machine_count p → stay_of p w set v - (sure p s t).held v w set ≤ sum_to (machine_count p) (λ k. stay_of p w set k - (sure p s t).held k w set)
    less t v low = sum_to-term (machine_count p) (λ k. stay_of p w set k - (sure p s t).held k w set) v low
