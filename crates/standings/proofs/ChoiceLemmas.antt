-- What one choice holds on one node: what its machine has on the host until it is left, and what it brings.
use Rattle.standings.proofs.Prelude.{◌≡◌, ◌⊎◌, inl, inr, ℕ, ◌+◌, ◌<◌, Bool, true, false, not, ◌&&◌, ◌==◌, nat_lt, nat_le, cond, Option, Some, None, refl, sym, ap, subst, ◌∙◌, arith, false≢true, lt-ltb, Decides-eqb, nat_tests, Act, acting_slices, action_duration, Allocate, Amount, At, base, Boot, brought, Choice, Demand, end_of, Forge, gain, Gone, had_there, has_come, held_at, held_by, hosted_in, idle_slices, Image, Init, Instance, is_place, is_raised, kept_until, Kill, Killed as ToKilled, Kind, kind_of, leave_of, machine_kind, Migrate, never, Nowhere, one, Presence, Ready as ToReady, Resume, Shutdown, Sleeping as ToSleeping, Slices, slices_by, slices_of, Stage, stage_at, stage_from, State, state_of, Suspend, To, Use, vm, wanted_state, weigh, Weight, weight_if, weight_of, Wish, Idle, Place, Running, ends_by_duration}
use Rattle.standings.specs.Prelude.{Running as ToRunning}
use Rattle.cluster.specs.declared.states.State.TheVariants.{Ready, Sleeping}
use Rattle.slices.specs.declared.slice.What.TheVariants.{Image as OfImage}

-- ---- which actions there are, and where

abbrev pub Fits : State → Kind → Place → Type 0
Fits Init Forge Nowhere = Unit {0}
Fits Ready Boot (At n) = Unit {0}
Fits Ready Kill Nowhere = Unit {0}
Fits (Running h) Migrate (At n) = (n.0 == h.0) ≡ false
Fits (Running h) Allocate (At n) = n.0 ≡ h.0
Fits (Running h) Shutdown Nowhere = Unit {0}
Fits (Running h) Suspend (At n) = n.0 ≡ h.0
Fits (Running h) Kill Nowhere = Unit {0}
Fits (Sleeping h) Resume (At n) = Unit {0}
Fits (Sleeping h) Kill Nowhere = Unit {0}
Fits s k place = ⊥

some-is : (P : Kind → Type 0) (a k : Kind) → Some a ≡ Some k → P a → P k
some-is P a k e x = let same : a ≡ k = cc in subst P same x

fits : (s : State) (w : Wish) (raised : Bool) (place : Place) (k : Kind) → machine_kind s w raised place ≡ Some k → Fits s k place
fits Init (To ToReady) raised Nowhere k e = some-is (λ k. Fits Init k Nowhere) Forge k e tt
fits Ready (To ToRunning) raised (At n) k e = some-is (λ k. Fits Ready k (At n)) Boot k e tt
fits Ready (To ToKilled) raised Nowhere k e = some-is (λ k. Fits Ready k Nowhere) Kill k e tt
fits (Running h) (To ToRunning) raised (At n) k e = by (n.0 == h.0) raised refl e
  where
    by : (there raised : Bool) → (n.0 == h.0) ≡ there → cond there (cond raised (Some Allocate) None) (Some Migrate) ≡ Some k → Fits (Running h) k (At n)
    by true true i e = some-is (λ k. Fits (Running h) k (At n)) Allocate k e ((Decides-eqb n.0 h.0).0 i)
    by true false i e = cc
    by false raised i e = some-is (λ k. Fits (Running h) k (At n)) Migrate k e i
fits (Running h) (To ToReady) raised Nowhere k e = some-is (λ k. Fits (Running h) k Nowhere) Shutdown k e tt
fits (Running h) (To ToSleeping) raised (At n) k e = by (n.0 == h.0) refl e
  where
    by : (there : Bool) → (n.0 == h.0) ≡ there → cond there (Some Suspend) None ≡ Some k → Fits (Running h) k (At n)
    by true i e = some-is (λ k. Fits (Running h) k (At n)) Suspend k e ((Decides-eqb n.0 h.0).0 i)
    by false i e = cc
fits (Running h) (To ToKilled) raised Nowhere k e = some-is (λ k. Fits (Running h) k Nowhere) Kill k e tt
fits (Sleeping h) (To ToRunning) raised (At n) k e = some-is (λ k. Fits (Sleeping h) k (At n)) Resume k e tt
fits (Sleeping h) (To ToKilled) raised Nowhere k e = some-is (λ k. Fits (Sleeping h) k Nowhere) Kill k e tt
fits s w raised place k e = cc

pub fits_of : (p : Instance) (v : ℕ) (place : Place) (k : Kind) → kind_of p (vm v) place ≡ Some k → Fits (state_of p v) k place
unfolding kind_of
fits_of p v place k e = by (is_place p place) e
  where
    by : (there : Bool) → cond there (machine_kind (state_of p v) (wanted_state p v) (is_raised p v) place) None ≡ Some k → Fits (state_of p v) k place
    by true e = fits (state_of p v) (wanted_state p v) (is_raised p v) place k e
    by false e = cc

-- ---- what is held

not-le : (a t : ℕ) → not (nat_le a t) ≡ nat_lt t a
not-le a t = grind (arith, nat_tests)

-- all that slices weigh on node n
abbrev all_on : Instance → ℕ → Weight → ℕ → Stage → Slices → ℕ
all_on p v w n g x = weigh p v w x.source g (one n) + weigh p v w x.target g (one n) + weigh p v w x.image g (one n)

-- what is had on the host until an instant, and what is brought
abbrev pub parts_of : Instance → ℕ → Weight → ℕ → ℕ → State → ℕ → Bool → Option Kind → ℕ
parts_of p v w n t s until come k = cond (hosted_in s (one n) && nat_lt t until) (weight_if p v w (had_there s)) 0 + cond come (weight_if p v w (brought k)) 0

idle-parts : (p : Instance) (v : ℕ) (w : Weight) (n t : ℕ) (g : Stage) (s : State) → t < never → all_on p v w n g (idle_slices s) ≡ parts_of p v w n t s never false None
idle-parts p v w n t g Init h = refl
idle-parts p v w n t g Ready h = refl
idle-parts p v w n t g (Running a) h = rw (lt-ltb t never h) (omega arith)
idle-parts p v w n t g (Sleeping a) h = rw (lt-ltb t never h) (omega arith)
idle-parts p v w n t g Gone h = refl

acting-parts : (p : Instance) (v : ℕ) (w : Weight) (n t start d : ℕ) (s : State) (k : Kind) (place : Place) → t < never → Fits s k place → all_on p v w n (stage_from start d t) (acting_slices s k place) ≡ parts_of p v w n t s (kept_until (Some k) (start + d)) (has_come n t (Act place start)) (Some k)
acting-parts p v w n t start d Init Forge Nowhere h f = refl
acting-parts p v w n t start d Ready Boot (At m) h f = omega arith
acting-parts p v w n t start d Ready Kill Nowhere h f = refl
acting-parts p v w n t start d (Running a) Migrate (At m) h f = rw (not-le (start + d) t) (omega arith)
acting-parts p v w n t start d (Running a) Allocate (At m) h f = rw (f, lt-ltb t never h) (omega arith)
acting-parts p v w n t start d (Running a) Shutdown Nowhere h f = rw (not-le (start + d) t) (omega arith)
acting-parts p v w n t start d (Running a) Suspend (At m) h f = rw (f, not-le (start + d) t) (omega arith)
acting-parts p v w n t start d (Running a) Kill Nowhere h f = rw (not-le (start + d) t) (omega arith)
acting-parts p v w n t start d (Sleeping a) Resume (At m) h f = rw (not-le (start + d) t) (omega arith)
acting-parts p v w n t start d (Sleeping a) Kill Nowhere h f = rw (not-le (start + d) t) (omega arith)
acting-parts p v w n t start d s k place h f = absurd f

by-parts : (p : Instance) (v : ℕ) (w : Weight) (n t start d : ℕ) (place : Place) (o : Option Kind) → t < never → kind_of p (vm v) place ≡ o → all_on p v w n (stage_from start d t) (slices_by (state_of p v) place o) ≡ parts_of p v w n t (state_of p v) (kept_until o (start + d)) (has_come n t (Act place start)) o
unfolding slices_by
by-parts p v w n t start d place None h e = none (hosted_in (state_of p v) (one n)) (has_come n t (Act place start)) (weight_if p v w (had_there (state_of p v)))
  where
    none : (b c : Bool) (k : ℕ) → ◌≡◌ {A = ℕ} (0 + 0 + 0) (cond (b && nat_lt t 0) k 0 + cond c 0 0)
    none b c k = let never_before : nat_lt t 0 ≡ false = grind (arith, nat_tests) in rw never_before (at b c)
      where
        at : (b c : Bool) → ◌≡◌ {A = ℕ} 0 (cond (b && false) k 0 + cond c 0 0)
        at true true = refl
        at true false = refl
        at false true = refl
        at false false = refl
by-parts p v w n t start d place (Some k) h e = acting-parts p v w n t start d (state_of p v) k place h (fits_of p v place k e)

-- what is brought to the place is what is brought to node n, where that is the place
brought-there : (p : Instance) (v : ℕ) (w : Weight) (n t start : ℕ) (place : Place) → cond (has_come n t (Act place start)) (weight_if p v w (brought (kind_of p (vm v) place))) 0 ≡ cond (has_come n t (Act place start)) (gain p v w n) 0
brought-there p v w n t start Nowhere = refl
brought-there p v w n t start (At m) = by (m.0 == n) refl
  where
    by : (there : Bool) → (m.0 == n) ≡ there → cond (there && nat_le start t) (weight_if p v w (brought (kind_of p (vm v) (At m)))) 0 ≡ cond (there && nat_le start t) (gain p v w n) 0
    by true e = ap (λ (k : ℕ). cond (nat_le start t) (weight_if p v w (brought (kind_of p (vm v) (At (record { 0 = k }))))) 0) ((Decides-eqb m.0 n).0 e)
    by false e = refl

pub held_one : (p : Instance) (v : ℕ) (w : Weight) (n t : ℕ) (c : Choice) → t < never → held_at p v w (one n) t c ≡ cond (hosted_in (state_of p v) (one n) && nat_lt t (leave_of p v c)) (base p v w) 0 + cond (has_come n t c) (gain p v w n) 0
unfolding held_at held_by stage_at slices_of
held_one p v w n t Idle h = idle-parts p v w n t (record { started = false; ended = false }) (state_of p v) h
held_one p v w n t (Act place start) h =
    by-parts p v w n t start (action_duration p (vm v) place) place (kind_of p (vm v) place) h refl
    ∙ rw (ends_by_duration p (vm v) place start, brought-there p v w n t start place) refl

-- ---- who has come to the host and has left it, has there only what it had not

suspended : (p : Instance) (v : ℕ) (w : Weight) → (weight_of p v w Use ≡ 0) ⊎ (weight_of p v w OfImage ≡ 0)
suspended p v (Amount r) = inr refl
suspended p v Presence = inr refl
suspended p v Image = inl refl

resumed : (p : Instance) (v : ℕ) (w : Weight) → (weight_of p v w OfImage ≡ 0) ⊎ (weight_of p v w Demand ≡ 0)
resumed p v (Amount r) = inl refl
resumed p v Presence = inl refl
resumed p v Image = inr refl

-- no migration comes to the host
no-return : (a m n t start : ℕ) → (m == a) ≡ false → (a == n) ≡ true → ((m == n) && nat_le start t) ≡ true → ⊥
no-return a m n t start differ host come = by (m == n) refl come
  where
    by : (b : Bool) → (m == n) ≡ b → (b && nat_le start t) ≡ true → ⊥
    by true e c = let same : m ≡ a = (Decides-eqb m n).0 e ∙ sym ((Decides-eqb a n).0 host) in false≢true (sym differ ∙ (Decides-eqb m a).1 same)
    by false e c = false≢true c

acting-apart : (p : Instance) (v : ℕ) (w : Weight) (n t start e : ℕ) (s : State) (k : Kind) (place : Place) → t < never → Fits s k place → hosted_in s (one n) ≡ true → nat_lt t (kept_until (Some k) e) ≡ false → has_come n t (Act place start) ≡ true → (weight_if p v w (had_there s) ≡ 0) ⊎ (weight_if p v w (brought (Some k)) ≡ 0)
acting-apart p v w n t start e Init Forge Nowhere h f there out come = inr refl
acting-apart p v w n t start e Ready Boot (At m) h f there out come = inl refl
acting-apart p v w n t start e Ready Kill Nowhere h f there out come = inr refl
acting-apart p v w n t start e (Running a) Migrate (At m) h f there out come = absurd (no-return a.0 m.0 n t start f there come)
acting-apart p v w n t start e (Running a) Allocate (At m) h f there out come = absurd (false≢true (sym out ∙ lt-ltb t never h))
acting-apart p v w n t start e (Running a) Shutdown Nowhere h f there out come = inr refl
acting-apart p v w n t start e (Running a) Suspend (At m) h f there out come = suspended p v w
acting-apart p v w n t start e (Running a) Kill Nowhere h f there out come = inr refl
acting-apart p v w n t start e (Sleeping a) Resume (At m) h f there out come = resumed p v w
acting-apart p v w n t start e (Sleeping a) Kill Nowhere h f there out come = inr refl
acting-apart p v w n t start e s k place h f there out come = absurd f

-- what comes is what the action brings
gain-is : (p : Instance) (v : ℕ) (w : Weight) (n t start : ℕ) (place : Place) → has_come n t (Act place start) ≡ true → weight_if p v w (brought (kind_of p (vm v) place)) ≡ gain p v w n
gain-is p v w n t start place come = rw come at (brought-there p v w n t start place)

pub apart : (p : Instance) (v : ℕ) (w : Weight) (n t : ℕ) (c : Choice) → t < never → hosted_in (state_of p v) (one n) ≡ true → nat_lt t (leave_of p v c) ≡ false → has_come n t c ≡ true → (base p v w ≡ 0) ⊎ (gain p v w n ≡ 0)
apart p v w n t Idle h there out come = absurd (false≢true come)
apart p v w n t (Act place start) h there out come = by (kind_of p (vm v) place) refl
  where
    by : (o : Option Kind) → kind_of p (vm v) place ≡ o → (base p v w ≡ 0) ⊎ (gain p v w n ≡ 0)
    by None e = inr (sym (gain-is p v w n t start place come) ∙ rw e refl)
    by (Some k) e = elim (acting-apart p v w n t start (end_of p (vm v) (Act place start)) (state_of p v) k place h (fits_of p v place k e) there (rw e at out) come) [
      | inl had ↦ inl had
      | inr none ↦ inr (sym (gain-is p v w n t start place come) ∙ rw e none)
    ]
