-- What one machine uses at the most on the nodes of any set.
use Rattle.load_bounds.proofs.Prelude.{slice_index_or, Contains, sum_by, nat_lt, ◌≡◌, inl, inr, ℕ, suc, ◌+◌, ◌-◌, ◌*◌, ◌<◌, ◌≤◌, Bool, true, false, not, ◌&&◌, nat_le, cond, Option, Some, None, List, [], ◌∷◌, length, refl, sym, ◌∙◌, arith, cases_lt, false≢true, nat_tests, Place, ends_by_duration, contains_here, ends_of_rows, least_of_each, may_each, sum_but_for, sum_by-cons}
use Rattle.load_bounds.specs.Prelude.{Act, acting_slices, action_duration, Allocate, Amount, AreMost, AreMovers, AreStanding, At, base, Boot, Choice, choices, Climbs, demand_of, DomainView, end_of, Gone, had_there, held_at, held_by, Idle, idle_slices, Init, Instance, IsDuring, IsMost, IsMostUnder, IsRowEnd, IsStanding, kept_until, Kill, Kind, kind_of, least, leave_of, machine_count, may, may_wait, Migrate, most_anywhere, never, no_row, no_standing, Nodes, Period, Ready, RegionView, Resume, Row, Running, sets, Shutdown, Sleeping, Slices, slices_by, slices_of, Stage, stage_at, stage_from, Standing, State, state_of, sum_to, sure, Suspend, use_of, vm, waits, weigh, weight_if}
use Rattle.profiles.specs.Fixed.{IsMostUse}
use Rattle.std.proofs.Math.Nat.{suc-mul}
use Rattle.load_bounds.proofs.HeldLemmas.{least_attained}

-- ---- what slices weigh

-- all that slices weigh on a set
abbrev all-in : Instance → ℕ → ℕ → Nodes → Stage → Slices → ℕ
all-in p v r set g x = weigh p v (Amount r) x.source g set + weigh p v (Amount r) x.target g set + weigh p v (Amount r) x.image g set

most : (a : Bool) (k : ℕ) → cond a k 0 ≤ k
most true k = omega arith
most false k = omega arith

-- what is covered by a test that fails weighs nothing
gone : (a b : Bool) (k : ℕ) → b ≡ false → cond (a && b) k 0 ≤ 0
gone true b k e = rw e (omega arith)
gone false b k e = omega arith

-- what a machine in a state has at present
abbrev had : Instance → ℕ → ℕ → State → ℕ
had p v r s = weight_if p v (Amount r) (had_there s)

idle-most : (p : Instance) (v r : ℕ) (set : Nodes) (g : Stage) (s : State) → all-in p v r set g (idle_slices s) ≤ had p v r s
idle-most p v r set g Init = omega arith
idle-most p v r set g Ready = omega arith
idle-most p v r set g (Running h) = let a = most (set h.0 && true) (use_of p.machines v r) in omega (arith, a)
idle-most p v r set g (Sleeping h) = let a = most (set h.0 && true) 0 in omega (arith, a)
idle-most p v r set g Gone = omega arith

acting-most : (p : Instance) (v r : ℕ) (set : Nodes) (g : Stage) (s : State) (k : Kind) (place : Place) → all-in p v r set g (acting_slices s k place) ≤ had p v r s + demand_of p v r
acting-most p v r set g (Running h) Migrate (At n) = let a = most (set h.0 && not g.ended) (use_of p.machines v r) in let b = most (set n.0 && g.started) (demand_of p v r) in omega (arith, a, b)
acting-most p v r set g (Running h) Allocate place = let a = most (set h.0 && true) (use_of p.machines v r) in let b = most (set h.0 && g.started) (demand_of p v r - use_of p.machines v r) in omega (arith, a, b)
acting-most p v r set g (Running h) Shutdown place = let a = most (set h.0 && not g.ended) (use_of p.machines v r) in omega (arith, a)
acting-most p v r set g (Running h) Kill place = let a = most (set h.0 && not g.ended) (use_of p.machines v r) in omega (arith, a)
acting-most p v r set g (Running h) Suspend place = let a = most (set h.0 && not g.ended) (use_of p.machines v r) in let b = most (set h.0 && g.started) 0 in omega (arith, a, b)
acting-most p v r set g Ready Boot (At n) = let b = most (set n.0 && g.started) (demand_of p v r) in omega (arith, b)
acting-most p v r set g (Sleeping h) Resume (At n) = let b = most (set n.0 && g.started) (demand_of p v r) in let c = most (set h.0 && not g.ended) 0 in omega (arith, b, c)
acting-most p v r set g (Sleeping h) Kill place = let c = most (set h.0 && not g.ended) 0 in omega (arith, c)
acting-most p v r set g s k place = omega arith

-- before its start
unstarted-most : (p : Instance) (v r : ℕ) (set : Nodes) (g : Stage) (s : State) (k : Kind) (place : Place) → g.started ≡ false → all-in p v r set g (acting_slices s k place) ≤ had p v r s
unstarted-most p v r set g (Running h) Migrate (At n) e = let a = most (set h.0 && not g.ended) (use_of p.machines v r) in let b = gone (set n.0) g.started (demand_of p v r) e in omega (arith, a, b)
unstarted-most p v r set g (Running h) Allocate place e = let a = most (set h.0 && true) (use_of p.machines v r) in let b = gone (set h.0) g.started (demand_of p v r - use_of p.machines v r) e in omega (arith, a, b)
unstarted-most p v r set g (Running h) Shutdown place e = let a = most (set h.0 && not g.ended) (use_of p.machines v r) in omega (arith, a)
unstarted-most p v r set g (Running h) Kill place e = let a = most (set h.0 && not g.ended) (use_of p.machines v r) in omega (arith, a)
unstarted-most p v r set g (Running h) Suspend place e = let a = most (set h.0 && not g.ended) (use_of p.machines v r) in let b = most (set h.0 && g.started) 0 in omega (arith, a, b)
unstarted-most p v r set g Ready Boot (At n) e = let b = gone (set n.0) g.started (demand_of p v r) e in omega (arith, b)
unstarted-most p v r set g (Sleeping h) Resume (At n) e = let b = gone (set n.0) g.started (demand_of p v r) e in let c = most (set h.0 && not g.ended) 0 in omega (arith, b, c)
unstarted-most p v r set g (Sleeping h) Kill place e = let c = most (set h.0 && not g.ended) 0 in omega (arith, c)
unstarted-most p v r set g s k place e = omega arith

-- after its end, where that gives the host up
off : (b : Bool) → b ≡ true → not b ≡ false
off b e = rw e refl

ended-most : (p : Instance) (v r t e : ℕ) (set : Nodes) (g : Stage) (s : State) (k : Kind) (place : Place) → t < never → kept_until (Some k) e ≤ t → (e ≤ t → g.ended ≡ true) → all-in p v r set g (acting_slices s k place) ≤ demand_of p v r
ended-most p v r t e set g (Running h) Migrate (At n) short l done = let a = gone (set h.0) (not g.ended) (use_of p.machines v r) (off g.ended (done l)) in let b = most (set n.0 && g.started) (demand_of p v r) in omega (arith, a, b)
ended-most p v r t e set g (Running h) Allocate place short l done = absurd (omega (arith, short, l))
ended-most p v r t e set g (Running h) Shutdown place short l done = let a = gone (set h.0) (not g.ended) (use_of p.machines v r) (off g.ended (done l)) in omega (arith, a)
ended-most p v r t e set g (Running h) Kill place short l done = let a = gone (set h.0) (not g.ended) (use_of p.machines v r) (off g.ended (done l)) in omega (arith, a)
ended-most p v r t e set g (Running h) Suspend place short l done = let a = gone (set h.0) (not g.ended) (use_of p.machines v r) (off g.ended (done l)) in let b = most (set h.0 && g.started) 0 in omega (arith, a, b)
ended-most p v r t e set g Ready Boot (At n) short l done = let b = most (set n.0 && g.started) (demand_of p v r) in omega (arith, b)
ended-most p v r t e set g (Sleeping h) Resume (At n) short l done = let b = most (set n.0 && g.started) (demand_of p v r) in let c = most (set h.0 && not g.ended) 0 in omega (arith, b, c)
ended-most p v r t e set g (Sleeping h) Kill place short l done = let c = most (set h.0 && not g.ended) 0 in omega (arith, c)
ended-most p v r t e set g s k place short l done = omega arith

-- ---- what a choice holds

by-most : (p : Instance) (v r : ℕ) (set : Nodes) (g : Stage) (s : State) (place : Place) (o : Option Kind) → all-in p v r set g (slices_by s place o) ≤ had p v r s + demand_of p v r
unfolding slices_by
by-most p v r set g s place None = omega arith
by-most p v r set g s place (Some k) = acting-most p v r set g s k place

by-unstarted : (p : Instance) (v r : ℕ) (set : Nodes) (g : Stage) (s : State) (place : Place) (o : Option Kind) → g.started ≡ false → all-in p v r set g (slices_by s place o) ≤ had p v r s
unfolding slices_by
by-unstarted p v r set g s place None e = omega arith
by-unstarted p v r set g s place (Some k) e = unstarted-most p v r set g s k place e

by-ended : (p : Instance) (v r t e : ℕ) (set : Nodes) (g : Stage) (s : State) (place : Place) (o : Option Kind) → t < never → kept_until o e ≤ t → (e ≤ t → g.ended ≡ true) → all-in p v r set g (slices_by s place o) ≤ demand_of p v r
unfolding slices_by
by-ended p v r t e set g s place None short l done = omega arith
by-ended p v r t e set g s place (Some k) short l done = ended-most p v r t e set g s k place short l done

pub held-idle : (p : Instance) (v r : ℕ) (set : Nodes) (t : ℕ) → held_at p v (Amount r) set t Idle ≤ base p v (Amount r)
unfolding held_at held_by stage_at slices_of
held-idle p v r set t = idle-most p v r set (record { started = false; ended = false }) (state_of p v)

pub held-ever : (p : Instance) (v r : ℕ) (set : Nodes) (t : ℕ) (c : Choice) → held_at p v (Amount r) set t c ≤ base p v (Amount r) + demand_of p v r
unfolding held_at held_by stage_at slices_of
held-ever p v r set t Idle = let a = idle-most p v r set (record { started = false; ended = false }) (state_of p v) in omega (arith, a)
held-ever p v r set t (Act place start) = by-most p v r set (stage_from start (action_duration p (vm v) place) t) (state_of p v) place (kind_of p (vm v) place)

pub held-before : (p : Instance) (v r : ℕ) (set : Nodes) (t : ℕ) (place : Place) (start : ℕ) → t < start → held_at p v (Amount r) set t (Act place start) ≤ base p v (Amount r)
unfolding held_at held_by stage_at slices_of
held-before p v r set t place start l =
    let not_yet : nat_le start t ≡ false = grind (arith, nat_tests, l) in
    by-unstarted p v r set (stage_from start (action_duration p (vm v) place) t) (state_of p v) place (kind_of p (vm v) place) not_yet

pub held-after : (p : Instance) (v r : ℕ) (set : Nodes) (t : ℕ) (c : Choice) → t < never → leave_of p v c ≤ t → held_at p v (Amount r) set t c ≤ demand_of p v r
unfolding held_at held_by stage_at slices_of
held-after p v r set t Idle short l = absurd (omega (arith, short, l))
held-after p v r set t (Act place start) short l =
    by-ended p v r t (end_of p (vm v) (Act place start)) set (stage_from start (action_duration p (vm v) place) t) (state_of p v) place (kind_of p (vm v) place) short l
    (λ late. let over : start + action_duration p (vm v) place ≤ t = omega (arith, ends_by_duration p (vm v) place start, late) in let done : nat_le (start + action_duration p (vm v) place) t ≡ true = grind (arith, nat_tests, over) in done)

-- ---- what is sure

least-some : (f : Choice → ℕ) (m : ℕ) (cs : List Choice) (c : Choice) → Contains cs c → f c ≤ m → least f cs ≤ m
least-some f m cs c i l = omega (arith, least_of_each f cs c i, l)

least-all : (f : Choice → ℕ) (m : ℕ) (cs : List Choice) → ((c : Choice) → f c ≤ m) → least f cs ≤ m
least-all f m [] h = omega arith
least-all f m (c ∷ cs) h = least-some f m (c ∷ cs) c (contains_here c cs) (h c)

later : (x : Choice) (xs : List Choice) (c : Choice) → Contains xs c → Contains (x ∷ xs) c
later x xs c h = (suc h.0, omega (arith, h.1), h.2)

sure-left : (p : Instance) (v r : ℕ) (set : Nodes) (t : ℕ) (cs : List Choice) → t < never → least (leave_of p v) cs ≤ t → least (held_at p v (Amount r) set t) cs ≤ demand_of p v r
sure-left p v r set t [] short l = omega arith
sure-left p v r set t (c ∷ cs) short l =
    let first = least_attained (leave_of p v) c cs in
    least-some (held_at p v (Amount r) set t) (demand_of p v r) (c ∷ cs) first.0 first.1 (held-after p v r set t first.0 short (omega (arith, first.2, l)))

both : (a b : Bool) → (a && b) ≡ true → (a ≡ true) × (b ≡ true)
both true b e = (refl, e)
both false b e = absurd (false≢true e)

-- a choice that waits holds no more than the machine has
held-waiting : (p : Instance) (v r : ℕ) (set : Nodes) (t to : ℕ) (c : Choice) → t ≤ to → waits p.horizon to c ≡ true → held_at p v (Amount r) set t c ≤ base p v (Amount r)
held-waiting p v r set t to Idle l e = held-idle p v r set t
held-waiting p v r set t to (Act place s) l e =
    let late : to < s = let test = (both (nat_lt to p.horizon) (nat_lt to s) e).1 in grind (arith, nat_tests, test) in held-before p v r set t place s (omega (arith, l, late))

some-waits : (last to : ℕ) (cs : List Choice) → may (waits last to) cs ≡ true → (c : Choice) × Contains cs c × (waits last to c ≡ true)
some-waits last to [] e = absurd (false≢true e)
some-waits last to (c ∷ cs) e = by (waits last to c) refl (λ rest. some-waits last to cs rest)
  where
    by : (b : Bool) → waits last to c ≡ b → (may (waits last to) cs ≡ true → (d : Choice) × Contains cs d × (waits last to d ≡ true)) → (d : Choice) × Contains (c ∷ cs) d × (waits last to d ≡ true)
    by true is tail = (c, contains_here c cs, is)
    by false is tail = let rest = tail (rw is at e) in (rest.0, later c cs rest.0 rest.1, rest.2)

sure-most : (p : Instance) (v r : ℕ) (set : Nodes) (x : Period) (t : ℕ) (cs : List Choice) (b : Bool) (k : Standing) → x.to < never → IsStanding p v cs k → may (waits p.horizon x.to) cs ≡ b → IsDuring x t →
    least (held_at p v (Amount r) set t) cs ≤ most_anywhere p v r x b k
sure-most p v r set x t cs true k short is e h =
    let one = some-waits p.horizon x.to cs e in
    least-some (held_at p v (Amount r) set t) (base p v (Amount r)) cs one.0 one.1 (held-waiting p v r set t x.to one.0 h.1 one.2)
sure-most p v r set x t cs false k short is e h = by (nat_le k.leave x.from) refl
  where
    by : (b : Bool) → nat_le k.leave x.from ≡ b → least (held_at p v (Amount r) set t) cs ≤ cond b (demand_of p v r) (base p v (Amount r) + demand_of p v r)
    by true e =
        elim (cases_lt x.from k.leave) [
          | inl l ↦ let off : nat_le k.leave x.from ≡ false = grind (arith, nat_tests, l) in absurd (false≢true (sym off ∙ e))
          | inr l ↦ sure-left p v r set t cs (omega (arith, h.1, short)) (omega (arith, is.leave, l, h.0))
        ]
    by false e = least-all (held_at p v (Amount r) set t) (base p v (Amount r) + demand_of p v r) cs (held-ever p v r set t)

pub are_most : (p : Instance) (g : RegionView) (ks : List Standing) (r : ℕ) (set : Nodes) (x : Period) → x.to < never → AreStanding p (sets g) ks →
    AreMost p (sets g) r set x (λ v. most_anywhere p v r x (may_wait p (sets g) x v) (slice_index_or ks v no_standing))
unfolding sure
are_most p g ks r set x short are = record {
  each = λ v t l h. sure-most p v r set x t (sets g (vm v)) (may_wait p (sets g) x v) (slice_index_or ks v no_standing) short (are.each v l) refl h;
}

-- what all use is what they have at present, but for the machines that may not stay
pub base_but_for : (p : Instance) (g : RegionView) (ks : List Standing) (r : ℕ) (x : Period) (xs : List ℕ) → AreMovers p (sets g) xs →
    sum_to (machine_count p) (λ v. most_anywhere p v r x (may_wait p (sets g) x v) (slice_index_or ks v no_standing)) + sum_by (λ v. base p v (Amount r) - most_anywhere p v r x (may_wait p (sets g) x v) (slice_index_or ks v no_standing)) xs
    ≡ sum_to (machine_count p) (λ v. base p v (Amount r)) + sum_by (λ v. most_anywhere p v r x (may_wait p (sets g) x v) (slice_index_or ks v no_standing) - base p v (Amount r)) xs
base_but_for p g ks r x xs are =
    sum_but_for (machine_count p) (λ v. most_anywhere p v r x (may_wait p (sets g) x v) (slice_index_or ks v no_standing)) (λ v. base p v (Amount r)) xs are.machines.once are.machines.each
    (λ v low out. let stays : may_wait p (sets g) x v ≡ true = may_each (waits p.horizon x.to) (sets g (vm v)) Idle (are.others v low out) refl in rw stays refl)

-- ---- at once

most-ever : (p : Instance) (v r : ℕ) (x : Period) (b : Bool) (k : Standing) → most_anywhere p v r x b k ≤ base p v (Amount r) + demand_of p v r
most-ever p v r x true k = omega arith
most-ever p v r x false k = at (nat_le k.leave x.from)
  where
    at : (b : Bool) → cond b (demand_of p v r) (base p v (Amount r) + demand_of p v r) ≤ base p v (Amount r) + demand_of p v r
    at true = omega arith
    at false = omega arith

sum-under : (f : ℕ → ℕ) (bound : ℕ) (xs : List ℕ) → ((v : ℕ) → Contains xs v → f v ≤ bound) → sum_by f xs ≤ length xs * bound
sum-under f bound [] h = omega arith
sum-under f bound (x ∷ xs) h =
    omega (arith, sum_by-cons f x xs, suc-mul (length xs) bound, h x (0, omega arith, refl), sum-under f bound xs (λ v i. h v (suc i.0, omega (arith, i.1), i.2)))

-- what all use is no more than what they have at present, and for each machine that may not stay the most that one uses
pub total_at_once : (p : Instance) (g : RegionView) (ks : List Standing) (r : ℕ) (x : Period) (xs : List ℕ) (most : ℕ) → AreMovers p (sets g) xs → IsMostUse p r (machine_count p) most →
    sum_to (machine_count p) (λ v. most_anywhere p v r x (may_wait p (sets g) x v) (slice_index_or ks v no_standing)) ≤ sum_to (machine_count p) (λ v. base p v (Amount r)) + length xs * most
total_at_once p g ks r x xs most are is =
    omega (arith, base_but_for p g ks r x xs are, sum-under (λ v. most_anywhere p v r x (may_wait p (sets g) x v) (slice_index_or ks v no_standing) - base p v (Amount r)) most xs (λ v i. beside v (are.machines.each v i)))
  where
    beside : (v : ℕ) → v < machine_count p → most_anywhere p v r x (may_wait p (sets g) x v) (slice_index_or ks v no_standing) - base p v (Amount r) ≤ most
    beside v low = omega (arith, most-ever p v r x (may_wait p (sets g) x v) (slice_index_or ks v no_standing), is.each v low)

-- ---- under its choices

pub ever_most : (p : Instance) (v : ℕ) (cs : List Choice) (r : ℕ) (set : Nodes) (x : Period) (had demand bound : ℕ) → had ≡ base p v (Amount r) → demand ≡ demand_of p v r → had + demand ≤ bound → IsMost p v cs r set x bound
ever_most p v cs r set x had demand bound a b fits = record { each = λ c t i h. omega (arith, a, b, fits, held-ever p v r set t c) }

pub ever_under : (p : Instance) (v : ℕ) (c : Choice) (r : ℕ) (set : Nodes) (x : Period) (had demand bound : ℕ) → had ≡ base p v (Amount r) → demand ≡ demand_of p v r → had + demand ≤ bound → IsMostUnder p v c r set x bound
ever_under p v c r set x had demand bound a b fits = record { each = λ t h. omega (arith, a, b, fits, held-ever p v r set t c) }

pub left_under : (p : Instance) (v : ℕ) (c : Choice) (r : ℕ) (set : Nodes) (x : Period) (demand bound : ℕ) → x.to < never → demand ≡ demand_of p v r → demand ≤ bound → leave_of p v c ≤ x.from → IsMostUnder p v c r set x bound
left_under p v c r set x demand bound short is fits left = record { each = λ t h. omega (arith, is, fits, held-after p v r set t c (omega (arith, short, h.1)) (omega (arith, left, h.0))) }

pub later_under : (p : Instance) (v : ℕ) (place : Place) (start r : ℕ) (set : Nodes) (x : Period) (had bound : ℕ) → had ≡ base p v (Amount r) → had ≤ bound → x.to < start → IsMostUnder p v (Act place start) r set x bound
later_under p v place start r set x had bound is fits late = record { each = λ t h. omega (arith, is, fits, held-before p v r set t place start (omega (arith, h.1, late))) }

idle-under : (p : Instance) (v r : ℕ) (set : Nodes) (x : Period) (had bound : ℕ) → had ≡ base p v (Amount r) → had ≤ bound → IsMostUnder p v Idle r set x bound
idle-under p v r set x had bound is fits = record { each = λ t h. omega (arith, is, fits, held-idle p v r set t) }

-- both ends of the first rows
module _ (p : Instance) (v r : ℕ) (set : Nodes) (x : Period) (bound : ℕ) where
  abbrev pub RowsUnder : List Row → ℕ → Type 0
  RowsUnder rows count = (i : ℕ) → i < count → IsMostUnder p v (Act (slice_index_or rows i no_row).place (slice_index_or rows i no_row).lo) r set x bound × IsMostUnder p v (Act (slice_index_or rows i no_row).place (slice_index_or rows i no_row).hi) r set x bound

  pub ends_under : (cs : List Choice) (d : DomainView) (rows : List Row) (count had : ℕ) → cs ≡ choices d → rows ≡ d.rows → Climbs 0 rows → length rows ≤ count → had ≡ base p v (Amount r) → (d.idle ≡ true → had ≤ bound) → RowsUnder rows count → IsMost p v cs r set x bound
  ends_under cs d rows count had seen same climbs past is idle under = record { each = λ c t end h. (at c ((ends_of_rows d (rw same at climbs) c).0 (rw seen at end))).each t h }
    where
      at : (c : Choice) → IsRowEnd d c → IsMostUnder p v c r set x bound
      at Idle e = idle-under p v r set x had bound is (idle e)
      at (Act place start) e =
          let both = under e.0 (let low : e.0 < length rows = rw same e.1 in omega (arith, past, low)) in
          elim e.3 [ inl lo ↦ rw (← e.2, ← lo) (rw same at both.0) | inr hi ↦ rw (← e.2, ← hi) (rw same at both.1) ]
