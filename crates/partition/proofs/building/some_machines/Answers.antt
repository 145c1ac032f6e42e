use Rattle.base.proofs.Public.{◌==◌, ap, length, option_map, refl, slice_get, slice_get_read}
use Rattle.partition.specs.Cutting.{machine_by}
use Rattle.partition.specs.Reach.{at}
use Rattle.partition.proofs.DealLemmas.{given_step}
use Rattle.partition.proofs.building.some_machines.Goals as goal

pub loop-v-preserved : goal.loop-v-preserved
loop-v-preserved c =
    given_step (λ v. option_map (machine_by c.args.numbers.now) (slice_get c.args.machines.now v)) (λ v. at c.args.groups.now v == c.args.i) c.loop-v.v c.loop-v.kept.items _ (machine_by c.args.numbers.now c.index-machines-v.result) c.loop-v.invariant
    (ap (option_map (machine_by c.args.numbers.now)) (slice_get_read c.args.machines.now (length c.args.machines.now) c.loop-v.v c.index-machines-v.result refl c.loop-v-test.true c.index-machines-v.is)) c.in_ok-push_machine.ensures
