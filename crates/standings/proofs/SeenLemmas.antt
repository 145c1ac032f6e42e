-- Nodes that are online and stay so.
use Rattle.standings.proofs.Prelude.{◌≡◌, ℕ, true, refl, domain_at, idle_seen, Instance, is_online, Lens, node, RegionView, seen, sight_at, sure, usable_at, seen_by_rows}

-- a node that is online is usable where it stays
pub idle_usable : (p : Instance) (g : RegionView) (lens : Lens) (n t : ℕ) → is_online p.nodes n ≡ true → idle_seen (sight_at lens (node n)) (domain_at g (node n)) ≡ true → (sure p (seen g lens) t).usable n ≡ true
unfolding sure usable_at
idle_usable p g lens n t on idle = rw (seen_by_rows g lens (node n), idle, on) refl
