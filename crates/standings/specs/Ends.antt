-- Helping only: of the choices at one place, one that starts later keeps the host no shorter.
use Rattle.std.specs.Prelude.{ℕ, ◌≤◌, Option, Some, None}
use Rattle.std.proofs.Common.{arith}
use Rattle.relax.specs.Prelude.{end_of, Instance, IsLeastAtEnds, kind_of, vm}
use Rattle.cluster.specs.declared.{kinds.Kind.Kind, kinds.Kind.TheVariants.Forge, kinds.Kind.TheVariants.Boot, kinds.Kind.TheVariants.Shutdown, kinds.Kind.TheVariants.Suspend, kinds.Kind.TheVariants.Resume, kinds.Kind.TheVariants.Migrate, kinds.Kind.TheVariants.Allocate, kinds.Kind.TheVariants.Kill, kinds.Kind.TheVariants.NodeBoot, kinds.Kind.TheVariants.NodeShutdown, choices.Choice.TheVariants.Act, choices.Place.Place}
use Rattle.slices.proofs.Public.{ends_by_duration}
use Rattle.standings.specs.Standings.{kept_until, leave_of}

-- what ends later keeps the host no shorter
kept-longer : (o : Option Kind) (a b : ℕ) → a ≤ b → kept_until o a ≤ kept_until o b
kept-longer None a b l = omega arith
kept-longer (Some Forge) a b l = l
kept-longer (Some Boot) a b l = l
kept-longer (Some Shutdown) a b l = l
kept-longer (Some Suspend) a b l = l
kept-longer (Some Resume) a b l = l
kept-longer (Some Migrate) a b l = l
kept-longer (Some Allocate) a b l = omega arith
kept-longer (Some Kill) a b l = l
kept-longer (Some NodeBoot) a b l = l
kept-longer (Some NodeShutdown) a b l = l

pub leave_climbs : (p : Instance) (v : ℕ) (place : Place) (lo hi : ℕ) → lo ≤ hi → leave_of p v (Act place lo) ≤ leave_of p v (Act place hi)
leave_climbs p v place lo hi l =
    let later : end_of p (vm v) (Act place lo) ≤ end_of p (vm v) (Act place hi) = omega (arith, ends_by_duration p (vm v) place lo, ends_by_duration p (vm v) place hi) in
    kept-longer (kind_of p (vm v) place) (end_of p (vm v) (Act place lo)) (end_of p (vm v) (Act place hi)) later

pub leave_at_ends : (p : Instance) (v : ℕ) → IsLeastAtEnds (leave_of p v)
leave_at_ends p v place lo s hi l h = omega (arith, leave_climbs p v place lo s l)
