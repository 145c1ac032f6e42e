-- Ends of choices by rows, and a case that is one.
use Rattle.rule_load.proofs.Prelude.{◌≡◌, ◌⊎◌, ℕ, ◌<◌, ◌≤◌, true, List, length, slice_index_or, Act, Choice, choices, Climbs, Cut, domain_at, DomainView, Element, Idle, Instance, IsElement, IsEnd, IsLook, IsOverloaded, load_watch, no_row, one, RegionView, Row, sets, setting, sure, Place, ends_of_rows}

pub idle_is_end : (d : DomainView) (rows : List Row) → rows ≡ d.rows → Climbs 0 rows → d.idle ≡ true → IsEnd (choices d) Idle
idle_is_end d rows same climbs idle = (ends_of_rows d (rw same at climbs) Idle).1 idle

pub row_is_end : (d : DomainView) (rows : List Row) (place : Place) (start : ℕ) → rows ≡ d.rows → Climbs 0 rows →
    (i : ℕ) × (i < length rows) × ((slice_index_or rows i no_row).place ≡ place) × (((slice_index_or rows i no_row).lo ≡ start) ⊎ ((slice_index_or rows i no_row).hi ≡ start)) →
    IsEnd (choices d) (Act place start)
row_is_end d rows place start same climbs found = (ends_of_rows d (rw same at climbs) (Act place start)).1 (rw same at found)

pub cut_is_look : (p : Instance) (g : RegionView) (n : ℕ) (e : Element) (c : Choice) (t : ℕ) (d : DomainView) → t ≤ p.horizon → IsElement p e → d ≡ domain_at g e → IsEnd (choices d) c →
    IsOverloaded p (one n) (sure p (setting e c (sets g)) t) → IsLook (load_watch p n) p (sets g) (Cut e c t)
cut_is_look p g n e c t d within element same end met = (within, record { element = element; is_end = rw same at end; is_met = met })
