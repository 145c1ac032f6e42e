use Rattle.domains.proofs.Public.{filter_contains}
use Rattle.quick_checks.proofs.Prelude.{sets, vm}
use Rattle.quick_checks.specs.Prelude.{in_part}
use Rattle.quick_checks.proofs.coming.has_come.Goals as goal

pub returns-in-In : goal.returns-in-In
returns-in-In c =
    λ yes g d i. c.comes_by.ensures yes d (filter_contains (in_part c.in-In.part) (sets g (vm c.args.v.0)) d (rw (c.shown.ensures.seen g, c.in-In.is) at i)).1
