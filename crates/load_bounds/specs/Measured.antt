-- Helping only: over the starts at one place what is measured is least at the first or the last.
use Rattle.std.specs.Prelude.{ℕ, ◌≤◌, ◌-◌, ◌&&◌, nat_lt, min}
use Rattle.std.proofs.Common.{Bool, true, false, cond, arith}
use Rattle.std.proofs.lemmas.Bool.Decides.{nat_tests}
use Rattle.profiles.specs.Prelude.{action_duration, Instance, is_online, IsLeastAtEnds, leave_climbs, leave_of, never, node, stage_at, stage_of, usable_at, usable_of}
use Rattle.cluster.specs.declared.choices.Choice.TheVariants.{Act}
use Rattle.load_bounds.specs.Totals.{hurry_count}
use Rattle.load_bounds.specs.Parts.{left_over, usable_count}

less-left : (a b : ℕ) → a ≤ b → never - b ≤ never - a
less-left a b l = omega arith

pub left_at_ends : (p : Instance) (v : ℕ) → IsLeastAtEnds (left_over p v)
left_at_ends p v place lo s hi l h =
    let less = less-left (leave_of p v (Act place s)) (leave_of p v (Act place hi)) (leave_climbs p v place s hi h) in
    omega (arith, less)

pub usable_at_ends : (p : Instance) (n t : ℕ) → IsLeastAtEnds (usable_count p n t)
unfolding usable_at stage_at
usable_at_ends p n t place lo s hi l h = at (is_online p.nodes n) (action_duration p (node n) place)
  where
    at : (b : Bool) (d : ℕ) → min (cond (usable_of b (Act place lo) (stage_of d (Act place lo) t)) 1 0) (cond (usable_of b (Act place hi) (stage_of d (Act place hi) t)) 1 0) ≤ cond (usable_of b (Act place s) (stage_of d (Act place s) t)) 1 0
    at true d = grind (arith, nat_tests)
    at false d = grind (arith, nat_tests)

pub hurry_at_ends : (last t : ℕ) → IsLeastAtEnds (hurry_count last t)
hurry_at_ends last t place lo s hi l h = at (nat_lt t last)
  where
    at : (b : Bool) → min (cond (b && nat_lt t lo) 0 1) (cond (b && nat_lt t hi) 0 1) ≤ cond (b && nat_lt t s) 0 1
    at true = grind (arith, nat_tests, l, h)
    at false = omega arith
