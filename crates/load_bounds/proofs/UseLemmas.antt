-- What one machine uses of a node at the most during a period.
use Rattle.load_bounds.proofs.Prelude.{end_is_choice, ◌≡◌, ◌≢◌, ℕ, ◌+◌, ◌-◌, ◌<◌, ◌≤◌, ◌==◌, Bool, true, false, ◌&&◌, nat_lt, nat_le, cond, Option, Some, None, List, [], ◌∷◌, ◌++◌, length, refl, sym, ap, subst, ◌∙◌, arith, IfSome, slice_index_or, Contains, filter, false≢true, get_or_default, Decides-eqb, nat_tests, contains_filter, least_of_each, surely_each, kept_law, all_over, sum_by}
use Rattle.load_bounds.specs.Prelude.{Act, Allocate, Amount, AreFirstAt, AreKeptAt, AreMost, AreNearAt, AreStanding, Arrival, At, base, Boot, brought, Choice, choices, comes_by, demand_of, DomainView, FixedView, Forge, gain, has_come, HasLeft, have_come, hosted_in, Idle, in_part, Inside, Instance, IsDuring, IsMost, IsMostBrought, IsMostLeft, IsStanding, kept_use, Kill, Kind, kind_of, least, leave_of, left_over, machine_count, Migrate, most_kept, never, no_standing, NodeBoot, NodeId, NodeShutdown, Nowhere, on_side, one, Period, Resume, Row, Sets, Shutdown, Standing, StartsPast, state_of, sum_to, sure, Suspend, Upto, vm, Weight, weight_if}
use Rattle.load_bounds.proofs.HeldLemmas.{held_parts}

-- ---- what counts only where a test holds

more : (a b : Bool) (k : ℕ) → (a ≡ true → b ≡ true) → cond a k 0 ≤ cond b k 0
more true b k f = rw (f refl) (omega arith)
more false b k f = omega arith

most : (a : Bool) (k : ℕ) → cond a k 0 ≤ k
most true k = omega arith
most false k = omega arith

-- ---- by the numbers of a machine

still-here : (h : Bool) (from t leave : ℕ) → from ≤ t → (h && nat_lt t leave) ≡ true → (h && nat_lt from leave) ≡ true
still-here true from t leave l e = grind (arith, nat_tests, l, e)
still-here false from t leave l e = e

and-later : (b : Bool) (a t to : ℕ) → t ≤ to → (b && nat_le a t) ≡ true → (b && nat_le a to) ≡ true
and-later true a t to l e = grind (arith, nat_tests, l, e)
and-later false a t to l e = e

come-later : (n t to : ℕ) (o : Option Arrival) → t ≤ to → comes_by n t o ≡ true → comes_by n to o ≡ true
come-later n t to None l e = e
come-later n t to (Some a) l e = and-later (one n a.node.0) a.last t to l e

kept-most : (p : Instance) (v : ℕ) (w : Weight) (n t : ℕ) (x : Period) (k : Standing) → IsDuring x t → kept_use p v w n t k ≤ most_kept p v w n x k
kept-most p v w n t x k h =
    let host = more (hosted_in (state_of p v) (one n) && nat_lt t k.leave) (hosted_in (state_of p v) (one n) && nat_lt x.from k.leave) (base p v w) (still-here (hosted_in (state_of p v) (one n)) x.from t k.leave h.0) in
    let come = more (comes_by n t k.come) (comes_by n x.to k.come) (gain p v w n) (come-later n t x.to k.come h.1) in
    omega (arith, host, come)

pub sure_most : (p : Instance) (s : Sets) (ks : List Standing) (r n : ℕ) (x : Period) → x.to < never → AreStanding p s ks → AreMost p s r (one n) x (λ v. most_kept p v (Amount r) n x (slice_index_or ks v no_standing))
unfolding sure
sure_most p s ks r n x short are = record {
  each = λ v t l h.
      let law = kept_law p v (Amount r) n t (s (vm v)) (slice_index_or ks v no_standing) (omega (arith, short, h.1)) (are.each v l) in
      let less = kept-most p v (Amount r) n t x (slice_index_or ks v no_standing) h in
      omega (arith, law, less);
}

-- ---- by the choices of a machine

pub fits_now : (p : Instance) (v : ℕ) (cs : List Choice) (r n : ℕ) (x : Period) (left come bound : ℕ) → x.to < never → IsMostLeft p v cs n r x.from left → IsMostBrought p v cs n r x.to come → left + come ≤ bound → IsMost p v cs r (one n) x bound
fits_now p v cs r n x left come bound short a b fits = record {
  each = λ c t i h.
      let parts = held_parts p v (Amount r) n t c (omega (arith, short, h.1)) in
      let first = a.each c t (end_is_choice cs c i) h.0 in
      let second = b.each c t (end_is_choice cs c i) h.1 in
      omega (arith, parts, first, second, fits);
}

-- ---- what is left of what it has

pub all_left : (p : Instance) (v : ℕ) (cs : List Choice) (by x : ℕ) → by < never → x ≡ least (left_over p v) cs → never - by ≤ x → HasLeft p v cs by
all_left p v cs by x short is enough = record {
  each = λ c i.
      let some = least_of_each (left_over p v) cs c i in
      omega (arith, short, is, enough, some);
}

off-left : (h : Bool) (t leave k : ℕ) → leave ≤ t → cond (h && nat_lt t leave) k 0 ≤ 0
off-left true t leave k l = let gone : nat_lt t leave ≡ false = grind (arith, nat_tests, l) in rw gone (omega arith)
off-left false t leave k l = omega arith

pub none_left : (p : Instance) (v : ℕ) (cs : List Choice) (n r from : ℕ) → HasLeft p v cs from → IsMostLeft p v cs n r from 0
none_left p v cs n r from left = record {
  each = λ c t i l. off-left (hosted_in (state_of p v) (one n)) t (leave_of p v c) (base p v (Amount r)) (omega (arith, left.each c i, l));
}

here-left : (h b : Bool) (k : ℕ) → cond (h && b) k 0 ≤ cond h k 0
here-left true b k = most b k
here-left false b k = omega arith

pub some_left : (p : Instance) (v : ℕ) (cs : List Choice) (n r from here : ℕ) → here ≡ cond (hosted_in (state_of p v) (one n)) (base p v (Amount r)) 0 → IsMostLeft p v cs n r from here
some_left p v cs n r from here is = record {
  each = λ c t i l. rw is (here-left (hosted_in (state_of p v) (one n)) (nat_lt t (leave_of p v c)) (base p v (Amount r)));
}

-- ---- what it brings

in-empty : (c : Choice) → Contains [] c → ⊥
in-empty c h = omega (arith, h.1)

both : (a b : Bool) → (a && b) ≡ true → (a ≡ true) × (b ≡ true)
both true b e = (refl, e)
both false b e = absurd (false≢true e)

in-here : (m n : NodeId) (s t to : ℕ) → t ≤ to → (one n.0 m.0 && nat_le s t) ≡ true → in_part (Upto (At n) to) (Act (At m) s) ≡ true
in-here m n s t to l e =
    let two = both (one n.0 m.0) (nat_le s t) e in
    let same : m.0 ≡ n.0 = (Decides-eqb m.0 n.0).0 two.0 in
    let place : (m.0 + 1 == n.0 + 1) ≡ true = (Decides-eqb (m.0 + 1) (n.0 + 1)).1 (ap (λ i. i + 1) same) in
    let by : nat_le s to ≡ true = and-later true s t to l two.1 in
    rw (place, by) refl

not-come : (n : NodeId) (cs : List Choice) (c : Choice) (t to : ℕ) → filter (on_side Inside (Upto (At n) to)) cs ≡ [] → Contains cs c → t ≤ to → has_come n.0 t c ≡ true → ⊥
not-come n cs Idle t to none i l e = false≢true e
not-come n cs (Act Nowhere s) t to none i l e = false≢true e
not-come n cs (Act (At m) s) t to none i l e =
    in-empty (Act (At m) s) (subst (λ ds. Contains ds (Act (At m) s)) none (contains_filter (on_side Inside (Upto (At n) to)) cs (Act (At m) s) i (in-here m n s t to l e)))

unless : (b : Bool) (k : ℕ) → (b ≡ true → ⊥) → cond b k 0 ≤ 0
unless true k f = absurd (f refl)
unless false k f = omega arith

pub none_brought : (p : Instance) (v : ℕ) (cs : List Choice) (n : NodeId) (r by : ℕ) → filter (on_side Inside (Upto (At n) by)) cs ≡ [] → IsMostBrought p v cs n.0 r by 0
none_brought p v cs n r by none = record { each = λ c t i l. unless (has_come n.0 t c) (gain p v (Amount r) n.0) (not-come n cs c t by none i l) }

-- Idle alone goes nowhere
pub no_rows_brought : (p : Instance) (v : ℕ) (d : DomainView) (rows : List Row) → rows ≡ d.rows → length rows < 1 → (n r by : ℕ) → IsMostBrought p v (choices d) n r by 0
no_rows_brought p v d rows same none n r by = none_brought p v (choices d) (record { 0 = n }) r by (rw (sym same, empty rows none) (at d.idle))
  where
    empty : (xs : List Row) → length xs < 1 → xs ≡ []
    empty [] h = refl
    empty (y ∷ ys) h = absurd (omega (arith, h))

    at : (b : Bool) → filter (on_side Inside (Upto (At (record { 0 = n })) by)) (cond b (Idle ∷ []) [] ++ []) ≡ []
    at true = refl
    at false = refl

pub some_brought : (p : Instance) (v : ℕ) (cs : List Choice) (n r by : ℕ) → IsMostBrought p v cs n r by (gain p v (Amount r) n)
some_brought p v cs n r by = record { each = λ c t i l. most (has_come n t c) (gain p v (Amount r) n) }

brought-small : (p : Instance) (v r : ℕ) (o : Option Kind) → weight_if p v (Amount r) (brought o) ≤ demand_of p v r
brought-small p v r None = omega arith
brought-small p v r (Some Forge) = omega arith
brought-small p v r (Some Boot) = omega arith
brought-small p v r (Some Shutdown) = omega arith
brought-small p v r (Some Suspend) = omega arith
brought-small p v r (Some Resume) = omega arith
brought-small p v r (Some Migrate) = omega arith
brought-small p v r (Some Allocate) = omega arith
brought-small p v r (Some Kill) = omega arith
brought-small p v r (Some NodeBoot) = omega arith
brought-small p v r (Some NodeShutdown) = omega arith

pub demand_brought : (p : Instance) (v : ℕ) (cs : List Choice) (n r by : ℕ) → IsMostBrought p v cs n r by (demand_of p v r)
demand_brought p v cs n r by = record {
  each = λ c t i l.
      let less = most (has_come n t c) (gain p v (Amount r) n) in
      let small : gain p v (Amount r) n ≤ demand_of p v r = brought-small p v r (kind_of p (vm v) (At (record { 0 = n }))) in
      omega (arith, less, small);
}

pub fits_ever : (p : Instance) (v : ℕ) (cs : List Choice) (r n : ℕ) (x : Period) (here come bound : ℕ) → x.to < never → here ≡ cond (hosted_in (state_of p v) (one n)) (base p v (Amount r)) 0 → IsMostBrought p v cs n r x.to come → here + come ≤ bound → IsMost p v cs r (one n) x bound
fits_ever p v cs r n x here come bound short is brings fits = fits_now p v cs r n x here come bound short (some_left p v cs n r x.from here is) brings fits

keep : (h : Bool) (from leave : ℕ) → from < leave → h ≡ true → (h && nat_lt from leave) ≡ true
keep true from leave l e = grind (arith, nat_tests, l)
keep false from leave l e = absurd (false≢true e)

-- one that goes nowhere uses what it surely uses for as long as it surely keeps its host
pub still_fits : (p : Instance) (s : Sets) (ks : List Standing) (n v r spare : ℕ) (x : Period) (d : Standing) → AreStanding p s ks → v < machine_count p → x.to < never → x.from < (slice_index_or ks v d).leave → IsMostBrought p v (s (vm v)) n r x.to 0 → IsMost p v (s (vm v)) r (one n) x (spare + most_kept p v (Amount r) n x (slice_index_or ks v no_standing))
still_fits p s ks n v r spare x d are low short stays brings =
    let same : slice_index_or ks v d ≡ slice_index_or ks v no_standing = get_or_default ks v d no_standing (omega (arith, low, are.count)) in
    let long : x.from < (slice_index_or ks v no_standing).leave = subst (λ (k : Standing). x.from < k.leave) same stays in
    let here = more (hosted_in (state_of p v) (one n)) (hosted_in (state_of p v) (one n) && nat_lt x.from (slice_index_or ks v no_standing).leave) (base p v (Amount r)) (keep (hosted_in (state_of p v) (one n)) x.from (slice_index_or ks v no_standing).leave long) in
    fits_ever p v (s (vm v)) r n x (cond (hosted_in (state_of p v) (one n)) (base p v (Amount r)) 0) 0 (spare + most_kept p v (Amount r) n x (slice_index_or ks v no_standing)) short refl brings (omega (arith, here))

-- what any machine has and brings is spare
pub fits_at_once : (p : Instance) (v : ℕ) (cs : List Choice) (r n : ℕ) (x : Period) (most spare kept : ℕ) → x.to < never → base p v (Amount r) + demand_of p v r ≤ most → most ≤ spare → IsMost p v cs r (one n) x (spare + kept)
fits_at_once p v cs r n x most spare kept short uses fits =
    fits_ever p v cs r n x (cond (hosted_in (state_of p v) (one n)) (base p v (Amount r)) 0) (demand_of p v r) (spare + kept) short refl (demand_brought p v cs n r x.to) (omega (arith, at (hosted_in (state_of p v) (one n)), uses, fits))
  where
    at : (b : Bool) → cond b (base p v (Amount r)) 0 ≤ base p v (Amount r)
    at true = omega arith
    at false = omega arith

-- ---- a machine that does not come

pub late_is_past : (p : Instance) (s : Sets) (n v by d : ℕ) (fs : List ℕ) → AreFirstAt p s n fs → v < machine_count p → by < slice_index_or fs v d → StartsPast (s (vm v)) n by
late_is_past p s n v by d fs are low late = record {
  after = λ start h. omega (arith, (are.each v low).each start h, late, get_or_default fs v d 0 (omega (arith, low, are.count)));
}

pub elsewhere_is_past : (p : Instance) (s : Sets) (ks : List Standing) (n v by : ℕ) (d : Standing) → AreStanding p s ks → v < machine_count p → (slice_index_or ks v d).come ≢ None → IfSome (slice_index_or ks v d).come (λ a. a.node.0 ≢ n) → StartsPast (s (vm v)) n by
elsewhere_is_past p s ks n v by d are low some other = record {
  after = λ start h. absurd (at (slice_index_or ks v d).come some other (subst (λ k. IsStanding p v (s (vm v)) k) (get_or_default ks v no_standing d (omega (arith, low, are.count))) (are.each v low)).come start h);
}
  where
    at : (come : Option Arrival) → come ≢ None → IfSome come (λ a. a.node.0 ≢ n) → ((m t : ℕ) → comes_by m t come ≡ have_come m t (s (vm v))) → (start : ℕ) → Contains (s (vm v)) (Act (At (record { 0 = n })) start) → ⊥
    at None some other is start h = some refl
    at (Some a) some other is start h =
        let here : one a.node.0 a.node.0 ≡ true = (Decides-eqb a.node.0 a.node.0).1 refl in
        let last : nat_le a.last a.last ≡ true = grind (arith, nat_tests) in
        let all : have_come a.node.0 a.last (s (vm v)) ≡ true = sym (is a.node.0 a.last) ∙ rw (here, last) refl in
        let one_came = each (s (vm v)) all (Act (At (record { 0 = n })) start) h in
        other (sym ((Decides-eqb n a.node.0).0 (both (one a.node.0 n) (nat_le start a.last) one_came).0))
      where
        each : (cs : List Choice) → have_come a.node.0 a.last cs ≡ true → (c : Choice) → Contains cs c → has_come a.node.0 a.last c ≡ true
        each [] f c i = absurd (false≢true f)
        each (x ∷ xs) f c i = surely_each (has_come a.node.0 a.last) (x ∷ xs) c i f

past-come : (cs : List Choice) (n by : ℕ) (c : Choice) (t : ℕ) → StartsPast cs n by → Contains cs c → t ≤ by → has_come n t c ≡ true → ⊥
past-come cs n by Idle t past i l e = false≢true e
past-come cs n by (Act Nowhere s) t past i l e = false≢true e
past-come cs n by (Act (At m) s) t past i l e =
    let two = both (one n m.0) (nat_le s t) e in
    let same : m.0 ≡ n = (Decides-eqb m.0 n).0 two.0 in
    let late = past.after s (subst (λ k. Contains cs (Act (At (record { 0 = k })) s)) same i) in
    let soon : s ≤ t = grind (arith, nat_tests, two.1) in
    omega (arith, late, soon, l)

pub past_brought : (p : Instance) (v : ℕ) (cs : List Choice) (n r by : ℕ) → StartsPast cs n by → IsMostBrought p v cs n r by 0
past_brought p v cs n r by past = record { each = λ c t i l. unless (has_come n t c) (gain p v (Amount r) n) (past-come cs n by c t past i l) }

-- one that is not near a node uses no more of it than it demands
pub demand_fits : (p : Instance) (s : Sets) (n v r bound : ℕ) (x : Period) (xs : List ℕ) → AreNearAt p s n xs → v < machine_count p → x.to < never → demand_of p v r ≤ bound → ¬ Contains xs v → IsMost p v (s (vm v)) r (one n) x bound
demand_fits p s n v r bound x xs near low short fits out = by (hosted_in (state_of p v) (one n)) refl
  where
    by : (h : Bool) → hosted_in (state_of p v) (one n) ≡ h → IsMost p v (s (vm v)) r (one n) x bound
    by true is = absurd (out (near.hosted v low is))
    by false is = fits_ever p v (s (vm v)) r n x 0 (demand_of p v r) bound short (sym (rw is refl)) (demand_brought p v (s (vm v)) n r x.to) (omega (arith, fits))

-- one that is not near a node, and starts there past a period, uses nothing of it
pub away_fits : (p : Instance) (s : Sets) (n v r d bound : ℕ) (x : Period) (xs fs : List ℕ) → AreNearAt p s n xs → AreFirstAt p s n fs → v < machine_count p → x.to < never → x.to < slice_index_or fs v d → ¬ Contains xs v → IsMost p v (s (vm v)) r (one n) x bound
away_fits p s n v r d bound x xs fs near firsts low short late out = by (hosted_in (state_of p v) (one n)) refl
  where
    by : (h : Bool) → hosted_in (state_of p v) (one n) ≡ h → IsMost p v (s (vm v)) r (one n) x bound
    by true is = absurd (out (near.hosted v low is))
    by false is = fits_ever p v (s (vm v)) r n x 0 0 bound short (sym (rw is refl)) (past_brought p v (s (vm v)) n r x.to (late_is_past p s n v x.to d fs firsts low late)) (omega arith)

-- ---- by those near the node

none-kept : (p : Instance) (s : Sets) (n : ℕ) (ks : List Standing) (xs : List ℕ) (w : Weight) (x : Period) (v : ℕ) → AreStanding p s ks → AreNearAt p s n xs → v < machine_count p → ¬ Contains xs v → most_kept p v w n x (slice_index_or ks v no_standing) ≡ 0
none-kept p s n ks xs w x v are near low out = by (hosted_in (state_of p v) (one n)) refl (comes_by n x.to (slice_index_or ks v no_standing).come) refl
  where
    by : (h : Bool) → hosted_in (state_of p v) (one n) ≡ h → (c : Bool) → comes_by n x.to (slice_index_or ks v no_standing).come ≡ c → cond (h && nat_lt x.from (slice_index_or ks v no_standing).leave) (base p v w) 0 + cond c (gain p v w n) 0 ≡ 0
    by true hosted c e = absurd (out (near.hosted v low hosted))
    by false hosted true come = absurd (out (near.come v x.to low (sym ((are.each v low).come n x.to) ∙ come)))
    by false hosted false e = refl

pub near_sum : (p : Instance) (s : Sets) (n : ℕ) (f : FixedView) (ks : List Standing) (xs fs : List ℕ) (w : Weight) (x : Period) (total : ℕ) → AreKeptAt p s n f ks xs fs →
    total ≡ sum_by (λ v. most_kept p v w n x (slice_index_or ks v no_standing)) xs → total ≡ sum_to (machine_count p) (λ v. most_kept p v w n x (slice_index_or ks v no_standing))
near_sum p s n f ks xs fs w x total kept is =
    is ∙ sym (all_over xs (machine_count p) (λ v. most_kept p v w n x (slice_index_or ks v no_standing)) kept.near.machines.once kept.near.machines.each (λ v low out. none-kept p s n ks xs w x v kept.standing kept.near low out))
