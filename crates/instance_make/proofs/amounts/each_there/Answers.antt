use Rattle.std.proofs.Common.{map}
use Rattle.base.proofs.Public.{◌≡◌, ◌∙◌, length, Some, None, sym, arith, rules, ext_get_or, get_or-map, length-map}
use Rattle.instance_make.specs.Prelude.{kind_count, one_instant}
use Rattle.instance_make.proofs.amounts.each_there.Goals as goal

pub returns : goal.returns
returns c =
    let ds = c.args.durations.now in
    let long : length ds ≡ kind_count = omega arith in
    ext_get_or None c.map.result (map Some ds) (c.map.ensures.items.long ∙ sym (length-map ds Some ∙ long))
    (λ i lt.
    let called = (c.map.ensures.items.at i one_instant None (omega arith)).2 in
    let same = get_or-map Some ds i one_instant None (omega arith) in
    sym (same ∙ search rules))
