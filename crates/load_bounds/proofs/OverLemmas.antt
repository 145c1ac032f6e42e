-- What machines surely use of a node in what is seen.
use Rattle.load_bounds.proofs.Prelude.{◌≡◌, ◌≢◌, ℕ, zero, suc, ◌+◌, ◌-◌, ◌<◌, ◌≤◌, true, false, List, [], ◌∷◌, length, take, refl, sym, ap, ◌∙◌, append-nil, arith, slice_index_or, Contains, sum_by, get_or_default, sum_by-cons, contains_here, over_once, kept_law}
use Rattle.load_bounds.specs.Prelude.{Amount, AreMachines, AreStanding, At, Choice, choices, Climbs, DomainView, gain, has_come, held_at, Instance, IsStanding, kept_use, least, load, machine_count, never, no_standing, NodeId, one, Row, row_choices, Sets, Snapshot, Standing, sure, vm}
use Rattle.load_bounds.proofs.HeldLemmas.{held_parts, least_above, row_came}

pub kept_is_held : (p : Instance) (s seen : Sets) (ks : List Standing) (d : Standing) (v r n t : ℕ) → t < never → AreStanding p s ks → v < machine_count p → seen (vm v) ≡ s (vm v) → kept_use p v (Amount r) n t (slice_index_or ks v d) ≡ (sure p seen t).held v (Amount r) (one n)
unfolding sure
kept_is_held p s seen ks d v r n t short are low same =
    ap (kept_use p v (Amount r) n t) (get_or_default ks v d no_standing (omega (arith, low, are.count)))
    ∙ sym (kept_law p v (Amount r) n t (s (vm v)) (slice_index_or ks v no_standing) short (are.each v low)) ∙ ap (least (held_at p v (Amount r) (one n) t)) (sym same)

-- ---- all choices at one node

first-in : (cs : List Choice) → cs ≢ [] → (c : Choice) × Contains cs c
first-in [] some = absurd (some refl)
first-in (c ∷ cs) some = (c, contains_here c cs)

-- a list of one row
pub one_row : (rows : List Row) (d : Row) → 1 ≤ length rows → length rows < 2 → rows ≡ slice_index_or rows 0 d ∷ []
one_row [] d some few = absurd (omega (arith, some))
one_row (r ∷ []) d some few = refl
one_row (r ∷ q ∷ rs) d some few = absurd (omega (arith, few))

pub row_comes : (d : DomainView) (rows : List Row) (n : NodeId) (t : ℕ) (r : Row) → rows ≡ r ∷ [] → rows ≡ d.rows → Climbs 0 rows → d.idle ≡ false → (m : NodeId) × (r.place ≡ At m) × (m.0 ≡ n.0) → r.hi ≤ t → ((c : Choice) → Contains (choices d) c → has_come n.0 t c ≡ true) × (choices d ≢ [])
row_comes d rows n t r one same climbs idle at late = (λ c h. row_came n t r at.0 at.1 at.2 late c (rw is at h), λ e. empty (sym is ∙ e))
  where
    is : choices d ≡ row_choices r
    is = rw (idle, sym same ∙ one) (append-nil (row_choices r))

    some : r.lo ≤ r.hi
    some = (rw one at climbs).1

    empty : row_choices r ≢ []
    empty e = let more : r.hi + 1 - r.lo ≡ suc (r.hi - r.lo) = omega (arith, some) in absurd (cc (rw more at e))

-- what a guest brings, it holds under each choice
pub guest_holds : (p : Instance) (v r n t : ℕ) (cs : List Choice) → t < never → cs ≢ [] → ((c : Choice) → Contains cs c → has_come n t c ≡ true) → gain p v (Amount r) n ≤ least (held_at p v (Amount r) (one n) t) cs
guest_holds p v r n t cs short some come =
    let first = first-in cs some in
    least_above (held_at p v (Amount r) (one n) t) (gain p v (Amount r) n) cs first.0 first.1 (λ d h. let held = held_parts p v (Amount r) n t d short in omega (arith, rw (come d h) at held))

pub host_holds : (p : Instance) (v r n t : ℕ) (cs : List Choice) (k : Standing) → t < never → IsStanding p v cs k → kept_use p v (Amount r) n t k ≡ least (held_at p v (Amount r) (one n) t) cs
host_holds p v r n t cs k short is = sym (kept_law p v (Amount r) n t cs k short is)

-- ---- the machines of a list

-- the first of a list are no more than all of it
pub sum_front : (f : ℕ → ℕ) (xs : List ℕ) (k : ℕ) → sum_by f (take k xs) ≤ sum_by f xs
sum_front f xs zero = omega arith
sum_front f [] (suc k) = omega arith
sum_front f (x ∷ xs) (suc k) = omega (arith, sum_front f xs k, sum_by-cons f x xs, sum_by-cons f x (take k xs))

pub near_alone : (p : Instance) (s : Snapshot) (r n : ℕ) (xs : List ℕ) → AreMachines p xs → 0 + sum_by (λ v. s.held v (Amount r) (one n)) xs ≤ load p s r (one n)
near_alone p s r n xs are = let all = over_once xs (machine_count p) (λ v. s.held v (Amount r) (one n)) are.once are.each in omega (arith, all)

pub near_with : (p : Instance) (s : Snapshot) (r n v used : ℕ) (xs : List ℕ) → AreMachines p xs → v < machine_count p → ¬ Contains xs v → used ≤ s.held v (Amount r) (one n) → used + sum_by (λ v. s.held v (Amount r) (one n)) xs ≤ load p s r (one n)
near_with p s r n v used xs are low out less =
    let all = over_once (v ∷ xs) (machine_count p) (λ v. s.held v (Amount r) (one n)) (out, are.once) below in
    omega (arith, all, sum_by-cons (λ v. s.held v (Amount r) (one n)) v xs, less)
  where
    below : (w : ℕ) → Contains (v ∷ xs) w → w < machine_count p
    below w (zero, h, e) = omega (arith, low, e)
    below w (suc k, h, e) = are.each w (k, omega arith, e)
