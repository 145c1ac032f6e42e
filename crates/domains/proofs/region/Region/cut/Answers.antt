use Rattle.std.proofs.Common.{List, ap}
use Rattle.domains.specs.Prelude.{DomainView, RegionView}
use Rattle.domains.proofs.RegionLemmas.{cut_back}
use Rattle.domains.proofs.region.Region.cut.Goals as goal

pub returns-in-Vm-clause-undone : goal.returns-in-Vm-clause-undone
returns-in-Vm-clause-undone c =
    let g : List DomainView → RegionView = λ ds. record { machines = ds; nodes = c.self.inside.nodes } in
    rw (c.in-Vm.is, ← c.self.view_is) (ap g (cut_back c.self.inside.machines c.cut.new.self c.in-Vm.v.0 c.cut.result c.cut.ensures.others c.cut.ensures.undone))

pub returns-in-Node-clause-undone : goal.returns-in-Node-clause-undone
returns-in-Node-clause-undone c =
    let g : List DomainView → RegionView = λ ds. record { machines = c.self.inside.machines; nodes = ds } in
    rw (c.in-Node.is, ← c.self.view_is) (ap g (cut_back c.self.inside.nodes c.cut-in-Node.new.self c.in-Node.n.0 c.cut-in-Node.result c.cut-in-Node.ensures.others c.cut-in-Node.ensures.undone))
