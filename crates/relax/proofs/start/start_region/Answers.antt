use Rattle.relax.proofs.{Prelude.sets, StartLemmas.start_legal, StartLemmas.start_of_domains}
use Rattle.relax.proofs.start.start_region.Goals as goal

pub returns-clause-sets : goal.returns-clause-sets
returns-clause-sets c =
    rw c.new.ensures (start_of_domains c.args.p.now.given (record { machines = c.in_ok-machines.machines.items; nodes = c.in_ok-nodes.nodes.items }) c.in_ok-machines.ensures.count c.in_ok-nodes.ensures.count c.in_ok-machines.ensures.sets c.in_ok-nodes.ensures.sets)

pub returns-clause-legal : goal.returns-clause-legal
returns-clause-legal c =
    rw c.new.ensures (start_legal c.args.p.now.given (sets (record { machines = c.in_ok-machines.machines.items; nodes = c.in_ok-nodes.nodes.items })) (start_of_domains c.args.p.now.given (record { machines = c.in_ok-machines.machines.items; nodes = c.in_ok-nodes.nodes.items }) c.in_ok-machines.ensures.count c.in_ok-nodes.ensures.count c.in_ok-machines.ensures.sets c.in_ok-nodes.ensures.sets))
