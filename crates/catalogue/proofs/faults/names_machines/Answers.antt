use Rattle.std.proofs.Common.{◌∙◌, length, ap}
use Rattle.catalogue.specs.Faults.{all_of, are_machines}
use Rattle.catalogue.proofs.TwiceLemmas.{below_parts}
use Rattle.catalogue.proofs.faults.names_machines.Goals as goal

pub returns-in-Split : goal.returns-in-Split
returns-in-Split c =
    rw c.in-Split.is
    (c.are_parts_machines.ensures
    ∙ below_parts (length c.args.cluster.now.given.machines) c.items.result.now
    ∙ ap (λ ps. are_machines c.args.cluster.now.given (all_of ps)) c.items.ensures)
