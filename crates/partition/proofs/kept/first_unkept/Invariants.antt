use Rattle.base.proofs.Public.{◌≡◌, ◌-◌, ◌&&◌, false, find, get_or, not, range_with_len}
use Rattle.slices.specs.Actions.{wanted_state}
use Rattle.slices.specs.Elements.{machine_count}
use Rattle.parts.specs.Groups.{is_to_run}
use Rattle.partition.proofs.kept.first_unkept.Given as goal

abbrev pub invariant-loop-v : goal.invariant-loop-v
invariant-loop-v l =
    find (λ v. is_to_run (wanted_state l.p.given v) && not (get_or l.kept v false)) (range_with_len 0 (machine_count l.p.given)) ≡
    find (λ v. is_to_run (wanted_state l.p.given v) && not (get_or l.kept v false)) (range_with_len l.v (machine_count l.p.given - l.v))
