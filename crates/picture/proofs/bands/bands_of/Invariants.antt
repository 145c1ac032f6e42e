use Rattle.base.proofs.Public.{◌≡◌, ◌+◌, ◌*◌, ◌^◌, ◌≤◌, All, filter, map, range_with_len}
use Rattle.picture.specs.Prelude.{choices_of, IsBand, is_shown, node_of_band}
use Rattle.picture.proofs.bands.bands_of.Given as goal

abbrev pub invariant-loop-n : goal.invariant-loop-n
invariant-loop-n l = record {
  nodes : map node_of_band l.made.bands.items ≡ filter (is_shown l.p.given (choices_of l.plan) l.actions) (range_with_len 0 l.n);
  drawn : All (IsBand l.p.given (choices_of l.plan) l.actions l.span l.instants) l.made.bands.items;
  foot : l.made.foot ≤ 98 + 67108864 * l.n;
}
