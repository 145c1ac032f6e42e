-- A machine holds nothing on nodes of which none is its host and none is where it goes.
use Rattle.relax.proofs.Prelude.{◌≡◌, ℕ, zero, suc, ◌+◌, ◌-◌, ◌<◌, true, false, cond, Option, Some, None, List, [], ◌∷◌, length, get_or, refl, arith, Contains, flat_map, Contains-append_right, Act, acting_slices, Allocate, At, Boot, Choice, choices, Climbs, DomainView, goes_in, Gone, held_at, held_by, hosted_in, idle_slices, Init, Instance, Kill, Kind, kind_of, least, Migrate, Nodes, Nowhere, place_index, Resume, Row, row_choices, Shutdown, Slice, Slices, slices_by, slices_of, Stage, stage_at, State, state_of, Suspend, vm, weigh, Weight, Idle, Place, Ready, Running, Sleeping, least_of_each}

-- the slice, if there is one, is on no node of the set
abbrev IsOutside : Nodes → Option Slice → Type 0
IsOutside set None = Unit {0}
IsOutside set (Some s) = set s.node.0 ≡ false

record AreOutside (set : Nodes) (x : Slices) : Type 0 where
  source : IsOutside set x.source
  target : IsOutside set x.target
  image : IsOutside set x.image

none-outside : (set : Nodes) → AreOutside set (record { source = None; target = None; image = None })
none-outside set = record { source = tt; target = tt; image = tt }

idle-outside : (set : Nodes) (s : State) → hosted_in s set ≡ false → AreOutside set (idle_slices s)
idle-outside set (Running h) e = record { source = e; target = tt; image = tt }
idle-outside set (Sleeping h) e = record { source = tt; target = tt; image = e }
idle-outside set Init e = none-outside set
idle-outside set Ready e = none-outside set
idle-outside set Gone e = none-outside set

acting-outside : (set : Nodes) (s : State) (k : Kind) (place : Place) → hosted_in s set ≡ false → goes_in (Act place 0) set ≡ false → AreOutside set (acting_slices s k place)
acting-outside set (Running h) Migrate (At n) e g = record { source = e; target = g; image = tt }
acting-outside set (Running h) Allocate place e g = record { source = e; target = e; image = tt }
acting-outside set (Running h) Shutdown place e g = record { source = e; target = tt; image = tt }
acting-outside set (Running h) Kill place e g = record { source = e; target = tt; image = tt }
acting-outside set (Running h) Suspend place e g = record { source = e; target = tt; image = e }
acting-outside set Ready Boot (At n) e g = record { source = tt; target = g; image = tt }
acting-outside set (Sleeping h) Resume (At n) e g = record { source = tt; target = g; image = e }
acting-outside set (Sleeping h) Kill place e g = record { source = tt; target = tt; image = e }
acting-outside set s k place e g = none-outside set

by-outside : (set : Nodes) (s : State) (place : Place) (o : Option Kind) → hosted_in s set ≡ false → goes_in (Act place 0) set ≡ false → AreOutside set (slices_by s place o)
unfolding slices_by
by-outside set s place None e g = none-outside set
by-outside set s place (Some k) e g = acting-outside set s k place e g

goes-later : (place : Place) (start : ℕ) (set : Nodes) → goes_in (Act place start) set ≡ false → goes_in (Act place 0) set ≡ false
goes-later Nowhere start set g = g
goes-later (At n) start set g = g

slices-outside : (p : Instance) (v : ℕ) (set : Nodes) (c : Choice) → hosted_in (state_of p v) set ≡ false → goes_in c set ≡ false → AreOutside set (slices_of p v c)
unfolding slices_of
slices-outside p v set Idle e g = idle-outside set (state_of p v) e
slices-outside p v set (Act place start) e g = by-outside set (state_of p v) place (kind_of p (vm v) place) e (goes-later place start set g)

weigh-outside : (p : Instance) (v : ℕ) (w : Weight) (o : Option Slice) (g : Stage) (set : Nodes) → IsOutside set o → weigh p v w o g set ≡ 0
weigh-outside p v w None g set h = refl
weigh-outside p v w (Some s) g set h = rw h refl

pub away : (p : Instance) (v : ℕ) (w : Weight) (set : Nodes) (t : ℕ) (c : Choice) → hosted_in (state_of p v) set ≡ false → goes_in c set ≡ false → held_at p v w set t c ≡ 0
unfolding held_at held_by
away p v w set t c e g =
    let x = slices-outside p v set c e g in
    let stage = stage_at p (vm v) c t in
    omega (arith, weigh-outside p v w (slices_of p v c).source stage set x.source, weigh-outside p v w (slices_of p v c).target stage set x.target, weigh-outside p v w (slices_of p v c).image stage set x.image)

-- ---- by one choice

pub away_least : (p : Instance) (v : ℕ) (w : Weight) (set : Nodes) (t : ℕ) (cs : List Choice) (c : Choice) → hosted_in (state_of p v) set ≡ false → Contains cs c → goes_in c set ≡ false → least (held_at p v w set t) cs ≡ 0
away_least p v w set t cs c e h g = omega (arith, least_of_each (held_at p v w set t) cs c h, away p v w set t c e g)

pub idle_in : (d : DomainView) → d.idle ≡ true → Contains (choices d) Idle
idle_in d e = rw e (0, omega arith, refl)

-- the first start of each row is a choice
start-in : (rows : List Row) (k : ℕ) (x : Row) → Climbs 0 rows → k < length rows → Contains (flat_map row_choices rows) (Act (get_or rows k x).place (get_or rows k x).lo)
start-in rows k x climbs l = by 0 rows k climbs l
  where
    by : (from : ℕ) (rows : List Row) (k : ℕ) → Climbs from rows → k < length rows → Contains (flat_map row_choices rows) (Act (get_or rows k x).place (get_or rows k x).lo)
    by from [] k climbs l = absurd (omega arith)
    by from (r ∷ rs) zero climbs l = let more : r.hi + 1 - r.lo ≡ suc (r.hi - r.lo) = omega (arith, climbs.1) in rw more (0, omega arith, refl)
    by from (r ∷ rs) (suc k) climbs l = Contains-append_right (row_choices r) (flat_map row_choices rs) (Act (get_or rs k x).place (get_or rs k x).lo) (by (place_index r.place + 1) rs k climbs.2 (omega arith))

pub start_in : (d : DomainView) (k : ℕ) (x : Row) → Climbs 0 d.rows → k < length d.rows → Contains (choices d) (Act (get_or d.rows k x).place (get_or d.rows k x).lo)
start_in d k x climbs l = Contains-append_right (cond d.idle (Idle ∷ []) []) (flat_map row_choices d.rows) (Act (get_or d.rows k x).place (get_or d.rows k x).lo) (start-in d.rows k x climbs l)
