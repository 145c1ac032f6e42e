-- The most that machines hold, and sums of it.
use Rattle.closing.proofs.Prelude.{slice_index_or, ◌≡◌, inl, inr, ℕ, suc, ◌+◌, ◌<◌, ◌≤◌, ◌&&◌, Bool, true, false, cond, List, [], length, Option, Some, None, refl, sym, ◌∙◌, arith, Contains, cases_eq, false≢true, Act, acting_slices, Allocate, Always, Amount, AreWithin, At, BeforeEnd, Boot, Choice, choices, Climbs, covers, Demand, DomainView, FromStart, goes_in, Gone, held_at, held_by, hosted_in, idle_slices, if_so, Image, Init, Instance, IsEnd, IsMostOf, IsMostSure, IsSpared, Kill, Kind, kind_of, machine_count, Migrate, no_row, NodeId, Nodes, Presence, Raise, Ready, Resume, Row, row_at, Running, Sets, Shutdown, Sleeping, slice, Slices, slices_by, slices_of, Span, Stage, stage_at, State, state_of, StaysWithin, sum_to, sure, Suspend, unit_of, Use, vm, weigh, Weight, weight_of, What, Idle, Place, use_of_le, least_of_each, ends_of_rows, goes_same}
use Rattle.slices.specs.declared.slice.What.TheVariants.{Image as OfImage}

idle-held : (p : Instance) (v : ℕ) (w : Weight) (set : Nodes) (g h : Stage) → held_by p v w set Idle g ≡ held_by p v w set Idle h
unfolding held_by slices_of
idle-held p v w set g h = at (state_of p v)
  where
    at : (s : State) → weigh p v w (idle_slices s).source g set + weigh p v w (idle_slices s).target g set + weigh p v w (idle_slices s).image g set ≡ weigh p v w (idle_slices s).source h set + weigh p v w (idle_slices s).target h set + weigh p v w (idle_slices s).image h set
    at Init = refl
    at Ready = refl
    at (Running n) = refl
    at (Sleeping n) = refl
    at Gone = refl

-- a machine that stays holds the same at each instant
idle_always : (p : Instance) (v : ℕ) (w : Weight) (set : Nodes) (t u : ℕ) → held_at p v w set t Idle ≡ held_at p v w set u Idle
unfolding held_at
idle_always p v w set t u = idle-held p v w set (stage_at p (vm v) Idle t) (stage_at p (vm v) Idle u)

-- ---- in one place

module _ (p : Instance) (v : ℕ) where
  unit-most : (w : Weight) (what : What) → weight_of p v w what ≤ unit_of p v w
  unit-most (Amount r) Use = use_of_le p v r
  unit-most (Amount r) Demand = omega arith
  unit-most (Amount r) Raise = omega arith
  unit-most (Amount r) OfImage = omega arith
  unit-most Presence Use = omega arith
  unit-most Presence Demand = omega arith
  unit-most Presence Raise = omega arith
  unit-most Presence OfImage = omega arith
  unit-most Image Use = omega arith
  unit-most Image Demand = omega arith
  unit-most Image Raise = omega arith
  unit-most Image OfImage = omega arith

  -- the use and its raise are the demand; who has an image beside its use has no more of either
  raised : (w : Weight) → weight_of p v w Use + weight_of p v w Raise ≤ unit_of p v w
  raised (Amount r) = omega (arith, use_of_le p v r)
  raised Presence = omega arith
  raised Image = omega arith

  imaged : (w : Weight) → weight_of p v w Use + weight_of p v w OfImage ≤ unit_of p v w
  imaged (Amount r) = omega (arith, use_of_le p v r)
  imaged Presence = omega arith
  imaged Image = omega arith

  one-most : (here covered : Bool) (k most : ℕ) → k ≤ most → cond (here && covered) k 0 ≤ if_so here most
  one-most true true k most h = h
  one-most true false k most h = omega arith
  one-most false covered k most h = omega arith

  two-most : (here first second : Bool) (k l most : ℕ) → k + l ≤ most → cond (here && first) k 0 + cond (here && second) l 0 ≤ if_so here most
  two-most true true true k l most h = h
  two-most true true false k l most h = omega (arith, h)
  two-most true false true k l most h = omega (arith, h)
  two-most true false false k l most h = omega arith
  two-most false first second k l most h = omega arith

  -- ---- on the host, and where an action goes

  module _ (w : Weight) (set : Nodes) (g : Stage) where
    abbrev all-of : Slices → ℕ
    all-of x = weigh p v w x.source g set + weigh p v w x.target g set + weigh p v w x.image g set

    abbrev one-of : Bool → ℕ
    one-of b = if_so b (unit_of p v w)

    by-one : (n : NodeId) (span : Span) (what : What) → weigh p v w (slice n span what) g set ≤ one-of (set n.0)
    by-one n span what = one-most (set n.0) (covers span g) (weight_of p v w what) (unit_of p v w) (unit-most w what)

    idle-most : (s : State) → all-of (idle_slices s) ≤ one-of (hosted_in s set)
    idle-most Init = omega arith
    idle-most Ready = omega arith
    idle-most (Running h) = omega (arith, by-one h Always Use)
    idle-most (Sleeping h) = omega (arith, by-one h Always OfImage)
    idle-most Gone = omega arith

    acting-most : (s : State) (k : Kind) (place : Place) → all-of (acting_slices s k place) ≤ one-of (hosted_in s set) + one-of (goes_in (Act place 0) set)
    acting-most (Running h) Migrate (At n) = omega (arith, by-one h BeforeEnd Use, by-one n FromStart Demand)
    acting-most (Running h) Allocate place = omega (arith, two-most (set h.0) true g.started (weight_of p v w Use) (weight_of p v w Raise) (unit_of p v w) (raised w))
    acting-most (Running h) Shutdown place = omega (arith, by-one h BeforeEnd Use)
    acting-most (Running h) Kill place = omega (arith, by-one h BeforeEnd Use)
    acting-most (Running h) Suspend place = omega (arith, two-most (set h.0) (covers BeforeEnd g) (covers FromStart g) (weight_of p v w Use) (weight_of p v w OfImage) (unit_of p v w) (imaged w))
    acting-most Ready Boot (At n) = omega (arith, by-one n FromStart Demand)
    acting-most (Sleeping h) Resume (At n) = omega (arith, by-one n FromStart Demand, by-one h BeforeEnd OfImage)
    acting-most (Sleeping h) Kill place = omega (arith, by-one h BeforeEnd OfImage)
    acting-most s k place = omega arith

    by-most : (s : State) (o : Option Kind) (place : Place) → all-of (slices_by s place o) ≤ one-of (hosted_in s set) + one-of (goes_in (Act place 0) set)
    unfolding slices_by
    by-most s None place = omega arith
    by-most s (Some k) place = acting-most s k place

  pub held_most : (w : Weight) (set : Nodes) (t : ℕ) (c : Choice) → held_at p v w set t c ≤ if_so (hosted_in (state_of p v) set) (unit_of p v w) + if_so (goes_in c set) (unit_of p v w)
  unfolding held_at held_by slices_of
  held_most w set t Idle = omega (arith, idle-most w set (stage_at p (vm v) Idle t) (state_of p v))
  held_most w set t (Act place start) = rw (goes_same place start 0 set) (by-most w set (stage_at p (vm v) (Act place start) t) (state_of p v) (kind_of p (vm v) place) place)

  so-most : (b : Bool) (n : ℕ) → if_so b n ≤ n
  so-most true n = omega arith
  so-most false n = omega arith

  more-most : (b goes : Bool) (n : ℕ) → (goes ≡ false → b ≡ false) → if_so b n ≤ if_so goes n
  more-most b true n f = so-most b n
  more-most true false n f = absurd (false≢true (sym (f refl)))
  more-most false false n f = omega arith

  -- ---- as the code finds it

  module _ (w : Weight) (set : Nodes) (one : ℕ) (is : one ≡ unit_of p v w) where
    pub ever_most : (hosted : Bool) (a t : ℕ) (c : Choice) → hosted ≡ hosted_in (state_of p v) set → a ≡ if_so hosted one → held_at p v w set t c ≤ a + one
    ever_most hosted a t c host ha = let h : held_at p v w set t c ≤ if_so hosted one + if_so (goes_in c set) one = rw (host, is) (held_most w set t c) in omega (arith, h, so-most (goes_in c set) one, ha)

    pub act_most : (hosted goes : Bool) (a b t : ℕ) (c : Choice) (place : Place) (start : ℕ) → c ≡ Act place start → hosted ≡ hosted_in (state_of p v) set → goes ≡ goes_in (Act place start) set → a ≡ if_so hosted one → b ≡ if_so goes one → held_at p v w set t c ≤ a + b
    act_most hosted goes a b t c place start acts host there ha hb = let h : held_at p v w set t (Act place start) ≤ if_so hosted one + if_so goes one = rw (host, is, there) (held_most w set t (Act place start)) in rw acts (omega (arith, h, ha, hb))

    -- a machine that stays holds the same at each instant
    pub idle_most : (h t : ℕ) (c : Choice) → c ≡ Idle → h ≡ held_at p v w set 0 Idle → held_at p v w set t c ≤ h
    idle_most h t c stays at_first = rw stays (omega (arith, at_first, idle_always p v w set t 0))

    pub idle_small : (h : ℕ) → h ≡ held_at p v w set 0 Idle → h ≤ one
    idle_small h at_first = let most : held_at p v w set 0 Idle ≤ if_so (hosted_in (state_of p v) set) one + 0 = rw is (held_most w set 0 Idle) in omega (arith, at_first, most, so-most (hosted_in (state_of p v) set) one)

    -- where no row goes to the set, no end does
    row-out : (d : DomainView) → Climbs 0 d.rows → ((k : ℕ) → k < length d.rows → goes_in (Act (row_at d k).place (row_at d k).lo) set ≡ false) → (c : Choice) → IsEnd (choices d) c → goes_in c set ≡ false
    row-out d climbs none Idle end = refl
    row-out d climbs none (Act q s) end = let r = (ends_of_rows d climbs (Act q s)).0 end in rw (← r.2) (goes_same (row_at d r.0).place s (row_at d r.0).lo set ∙ none r.0 r.1)

    by-rows : (s : Sets) (d : DomainView) (hosted goes : Bool) (a b : ℕ) → s (vm v) ≡ choices d → Climbs 0 d.rows → hosted ≡ hosted_in (state_of p v) set → (goes ≡ false → (k : ℕ) → k < length d.rows → goes_in (Act (row_at d k).place (row_at d k).lo) set ≡ false) → a ≡ if_so hosted one → b ≡ if_so goes one → IsMostOf p s w set v (a + b)
    by-rows s d hosted goes a b seen climbs host none ha hb = record {
      each = λ t c end. let h : held_at p v w set t c ≤ if_so hosted one + if_so (goes_in c set) one = rw (host, is) (held_most w set t c) in omega (arith, h, more-most (goes_in c set) goes one (λ e. row-out d climbs (none e) c (rw seen at end)), ha, hb);
    }

    pub rows_most : (s : Sets) (d : DomainView) (rows : List Row) (hosted goes : Bool) (a b : ℕ) → s (vm v) ≡ choices d → rows ≡ d.rows → Climbs 0 rows → hosted ≡ hosted_in (state_of p v) set → (goes ≡ false → (k : ℕ) → k < length rows → goes_in (Act (slice_index_or rows k no_row).place (slice_index_or rows k no_row).lo) set ≡ false) → a ≡ if_so hosted one → b ≡ if_so goes one → IsMostOf p s w set v (a + b)
    rows_most s d rows hosted goes a b seen same climbs host none ha hb = by-rows s d hosted goes a b seen (rw same at climbs) host (rw same at none) ha hb

-- without rows a machine stays
pub stay_most : (p : Instance) (v : ℕ) (w : Weight) (set : Nodes) (s : Sets) (d : DomainView) (rows : List Row) (h : ℕ) → s (vm v) ≡ choices d → rows ≡ d.rows → Climbs 0 rows → length rows ≡ 0 → ((t : ℕ) → held_at p v w set t Idle ≤ h) → IsMostOf p s w set v h
stay_most p v w set s d rows h seen same climbs none idle = record { each = λ t c end. by t c (rw seen at end) }
  where
    by : (t : ℕ) (c : Choice) → IsEnd (choices d) c → held_at p v w set t c ≤ h
    by t Idle end = idle t
    by t (Act q start) end = let r = (ends_of_rows d (rw same at climbs) (Act q start)).0 end in absurd (omega (arith, r.1, rw same at none))

-- what is surely held is no more than what is held under one choice
pub most_of_one : (p : Instance) (s : Sets) (w : Weight) (set : Nodes) (v most : ℕ) (c : Choice) → Contains (s (vm v)) c → ((t : ℕ) → held_at p v w set t c ≤ most) → IsMostSure p s w set v most
unfolding sure
most_of_one p s w set v most c there less = record { each = λ t. omega (arith, least_of_each (held_at p v w set t) (s (vm v)) c there, less t) }

pub most_of_none : (p : Instance) (s : Sets) (w : Weight) (set : Nodes) (v : ℕ) → s (vm v) ≡ [] → IsMostSure p s w set v 0
unfolding sure
most_of_none p s w set v none = record { each = λ t. rw none (omega arith) }

-- a bound for all choices is one for the ends of a machine's own
pub most_of_all : (p : Instance) (s : Sets) (w : Weight) (set : Nodes) (v most more : ℕ) → ((t : ℕ) (c : Choice) → held_at p v w set t c ≤ most) → most ≤ more → IsMostOf p s w set v more
most_of_all p s w set v most more each h = record { each = λ t c end. omega (arith, each t c, h) }

pub most_of_less : (p : Instance) (s : Sets) (w : Weight) (set : Nodes) (v most more : ℕ) → IsMostOf p s w set v most → most ≤ more → IsMostOf p s w set v more
most_of_less p s w set v most more is h = record { each = λ t c end. omega (arith, is.each t c end, h) }

-- a machine that holds no more than is spare
pub spared_by_most : (p : Instance) (s : Sets) (w : Weight) (set : Nodes) (t spare v : ℕ) → IsMostOf p s w set v spare → IsSpared p s w set t spare v
spared_by_most p s w set t spare v is = record { ends = λ c end above. omega (arith, above, is.each t c end) }

-- ---- sums

pub none_within : (p : Instance) (s : Sets) (w : Weight) (set : Nodes) → AreWithin p s w set 0 0 0
none_within p s w set = record { base = λ t. omega arith; each = λ v t c h end. absurd (omega (arith, h)) }

-- one machine more
pub within_more : (p : Instance) (s : Sets) (w : Weight) (set : Nodes) (i total more held next : ℕ) → AreWithin p s w set i total more → IsMostSure p s w set i held → more ≤ next → IsMostOf p s w set i (held + next) → AreWithin p s w set (i + 1) (total + held) next
within_more p s w set i total more held next before here grows most =
    let one-more : i + 1 ≡ suc i = omega arith in
    rw one-more (record { base = λ t. omega (arith, before.base t, here.each t); each = at })
  where
    at : (v t : ℕ) (c : Choice) → v < suc i → IsEnd (s (vm v)) c → sum_to (suc i) (λ k. (sure p s t).held k w set) + held_at p v w set t c ≤ total + held + next + (sure p s t).held v w set
    at v t c h end =
        elim (cases_eq v i) [
          | inl same ↦ rw same (let e : IsEnd (s (vm i)) c = rw same at end in omega (arith, before.base t, most.each t c e))
          | inr other ↦ omega (arith, before.each v t c (omega (arith, h, other)) end, here.each t, grows)
        ]

pub within_all : (p : Instance) (s : Sets) (w : Weight) (set : Nodes) (i total more amount : ℕ) → AreWithin p s w set i total more → i ≡ machine_count p → total + more ≤ amount → StaysWithin p s w set amount
within_all p s w set i total more amount before all fits = record {
  base = λ t. let h = rw all at before in omega (arith, h.base t, fits);
  each = λ v t c l end. let h = rw all at before in omega (arith, h.each v t c l end, fits);
}
