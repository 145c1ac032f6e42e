use Rattle.base.proofs.Public.{◌≡◌, All, map, range_with_len}
use Rattle.picture.specs.Prelude.{choices_of, IsCurve, resource_of_curve}
use Rattle.picture.proofs.curves.curves_of.Given as goal

abbrev pub invariant-loop-r : goal.invariant-loop-r
invariant-loop-r l = record {
  resources : map resource_of_curve l.curves.items ≡ range_with_len 0 l.r;
  loads : All (IsCurve l.p.given (choices_of l.plan) l.n.0 l.instants) l.curves.items;
}
