use Rattle.std.proofs.Common.{◌∙◌}
use Rattle.judge.specs.Prelude.{choices_of, machine_count}
use Rattle.catalogue.proofs.Public.{below_parts}
use Rattle.judge.proofs.Starting.{parts_matter}
use Rattle.judge.proofs.next.next_apart.Goals as goal

pub next_in_parts-requires-clause-machines : goal.next_in_parts-requires-clause-machines
next_in_parts-requires-clause-machines c =
    rw c.items-in-Between.ensures (below_parts (machine_count c.args.p.now.given) c.in-Between.parts.now ∙ (rw c.in-Between.is at c.requires.machines))

pub returns-in-Between : goal.returns-in-Between
returns-in-Between c =
    let all = rw c.in-Between.is at c.requires.machines in
    rw c.in-Between.is (parts_matter c.args.p.now.given (choices_of c.args.plan.now) c.args.t c.args.next c.next_in_parts.result c.in-Between.parts.now all (rw c.items-in-Between.ensures at c.next_in_parts.ensures))
