use Rattle.cluster.specs.declared.ids.Element.{Element}
use Rattle.cluster.specs.declared.ids.Element.TheVariants.{Vm}
use Rattle.domains.specs.Parts.{on_side}
use Rattle.bound.proofs.Public.{narrowing_tells}
use Rattle.plan_tests.proofs.costs.narrow.Goals as goal

pub told-requires-clause-legal : goal.told-requires-clause-legal
told-requires-clause-legal c =
    let tells = narrowing_tells c.args.p.now.given c.args.trail.now.region c.apply_told.new.self.region (Vm (record { 0 = 0 })) (on_side c.args.side c.args.part) c.requires.sized c.requires.legal c.requires.machine c.in_ok-before.ensures.machines c.in_ok-before.ensures.nodes c.in_ok-before.ensures.sets in
    rw c.region.ensures tells.legal

pub told-requires-clause-narrowed : goal.told-requires-clause-narrowed
told-requires-clause-narrowed c =
    let tells = narrowing_tells c.args.p.now.given c.args.trail.now.region c.apply_told.new.self.region (Vm (record { 0 = 0 })) (on_side c.args.side c.args.part) c.requires.sized c.requires.legal c.requires.machine c.in_ok-before.ensures.machines c.in_ok-before.ensures.nodes c.in_ok-before.ensures.sets in
    rw (c.region.ensures, c.in_ok-before.ensures.before) tells.narrowed

pub returns-clause-legal : goal.returns-clause-legal
returns-clause-legal c =
    let tells = narrowing_tells c.args.p.now.given c.args.trail.now.region c.apply_told.new.self.region (Vm (record { 0 = 0 })) (on_side c.args.side c.args.part) c.requires.sized c.requires.legal c.requires.machine c.in_ok-before.ensures.machines c.in_ok-before.ensures.nodes c.in_ok-before.ensures.sets in
    tells.legal
