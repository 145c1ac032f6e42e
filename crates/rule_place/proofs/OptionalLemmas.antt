-- Nodes that may stay usable or shut down.
use Rattle.rule_place.proofs.Prelude.{slice_index_or, ◌≡◌, inl, inr, ℕ, ◌<◌, ◌≤◌, ◌&&◌, true, false, nat_lt, List, length, refl, arith, Contains, Idle, may_each, end_is_choice, ends_of_rows}
use Rattle.rule_place.specs.Prelude.{Act, At, Choice, choices, Climbs, DomainView, goes_in, has_come, held_at, hosted_in, Image, Instance, IsAway, IsEnd, IsShutdown, leave_of, LetsGo, never, no_row, node, Nowhere, one, Presence, Row, Sets, Shutdown, stage_at, state_of, sure, usable_at, vm, Weight}
use Rattle.rule_place.proofs.ShutdownLemmas.{ends_usable, surely-gone, holds_none, too-late}

-- a node that is usable at first stays so where it does nothing
stays-usable : (p : Instance) (n t : ℕ) → usable_at p n 0 Idle ≡ true → usable_at p n t Idle ≡ true
unfolding usable_at stage_at
stays-usable p n t on = on

pub option_is : (p : Instance) (s : Sets) (n last : ℕ) (d : DomainView) (rows : List Row) → usable_at p n 0 Idle ≡ true → s (node n) ≡ choices d → d.idle ≡ true → rows ≡ d.rows → Climbs 0 rows → length rows ≡ 1 →
    (slice_index_or rows 0 no_row).lo ≤ p.horizon → p.horizon < last → IsShutdown p s n (record { first = (slice_index_or rows 0 no_row).lo; last = last })
unfolding sure
option_is p s n last d rows on is idle same climbs single low late = record {
  order = omega (arith, low, late);
  ends = λ c t end early. by c t end early;
  may = λ t early. rw is (may_each (usable_at p n t) (choices d) Idle (end_is_choice (choices d) Idle stay) (stays-usable p n t on));
}
  where
    stay : IsEnd (choices d) Idle
    stay = (ends_of_rows d (rw same at climbs) Idle).1 idle

    by : (c : Choice) (t : ℕ) → IsEnd (s (node n)) c → t < (slice_index_or rows 0 no_row).lo → usable_at p n t c ≡ true
    by Idle t end early = stays-usable p n t on
    by (Act q u) t end early = ends_usable p n t d rows on same climbs single q u (rw is at end) early

-- ---- a machine

comes-none : (n t : ℕ) (c : Choice) → goes_in c (one n) ≡ false → has_come n t c ≡ false
comes-none n t Idle g = refl
comes-none n t (Act Nowhere s) g = refl
comes-none n t (Act (At m) s) g = rw g refl

pub away_goes : (p : Instance) (s : Sets) (v n : ℕ) (x : Shutdown) → p.horizon < never → p.horizon < x.last → (c : Choice) × Contains (s (vm v)) c × IsAway p v n x.first c → LetsGo p s v n x
away_goes p s v n x short late (c, there, away) = record {
  surely = λ t l h. surely-gone p s v n t c there (none t l h Presence) (none t l h Image);
  ends = λ d t end l h. absurd (omega (arith, l, h, late));
}
  where
    left : (t : ℕ) → x.first ≤ t → (hosted_in (state_of p v) (one n) && nat_lt t (leave_of p v c)) ≡ false
    left t h = elim away.1 [ inl other ↦ rw other refl | inr by ↦ too-late (hosted_in (state_of p v) (one n)) t (leave_of p v c) x.first by h ]

    none : (t : ℕ) → t ≤ p.horizon → x.first ≤ t → (w : Weight) → held_at p v w (one n) t c ≡ 0
    none t l h w = holds_none p v n t w c (omega (arith, l, short)) (left t h) (comes-none n t c away.0)
