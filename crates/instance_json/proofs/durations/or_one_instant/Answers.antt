use Rattle.std.proofs.Common.{map}
use Rattle.base.proofs.Public.{◌≡◌, ◌∙◌, length, unwrap_or, None, sym, arith, rules, ext_get_or, get_or-map, length-map}
use Rattle.instance_json.specs.Prelude.{kind_count, one_instant}
use Rattle.instance_json.proofs.durations.or_one_instant.Goals as goal

pub returns : goal.returns
returns c =
    let long : length c.args.durations ≡ kind_count = omega arith in
    ext_get_or one_instant c.map.result (map (λ d. unwrap_or d one_instant) c.args.durations) (c.map.ensures.items.long ∙ sym (length-map c.args.durations (λ d. unwrap_or d one_instant) ∙ long))
    (λ i lt.
    let called = (c.map.ensures.items.at i None one_instant (omega arith)).2 in
    let same = get_or-map (λ d. unwrap_or d one_instant) c.args.durations i None one_instant (omega arith) in
    sym (same ∙ search rules))
