use Rattle.std.specs.List.{range_with_len}
use Rattle.base.proofs.Public.{◌≡◌, List, map, subst, ℕ}
use Rattle.slices.specs.Elements.{machine_count}
use Rattle.partition.specs.Division.{group_by}
use Rattle.partition.proofs.DivisionLemmas.{divides}
use Rattle.partition.proofs.faults.divide.Goals as goal

pub returns : goal.returns
returns c =
    divides c.args.p.now.given c.args.groups.now c.in_ok-nodes.nodes.items c.in_ok-machines.machines.items c.requires.groups c.requires.covered c.in_ok-nodes.ensures
    (subst (λ (t : List ℕ). c.in_ok-machines.machines.items ≡ map (group_by c.args.p.now.given t) (range_with_len 0 (machine_count c.args.p.now.given))) c.deref.ensures.value c.in_ok-machines.ensures)
