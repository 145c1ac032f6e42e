-- When actions end.
use Rattle.relax.proofs.Prelude.{ℕ, ◌≤◌, arith, Act, Element, end_of, Instance, Place, ends_by_duration}

-- what starts later at a place ends no sooner
pub end_climbs : (p : Instance) (e : Element) (place : Place) (lo hi : ℕ) → lo ≤ hi → end_of p e (Act place lo) ≤ end_of p e (Act place hi)
end_climbs p e place lo hi l = omega (arith, ends_by_duration p e place lo, ends_by_duration p e place hi)
