use Rattle.std.proofs.Common.{subst}
use Rattle.executor.specs.Views.{IsMonitor}
use Rattle.executor.proofs.monitor.Monitor.known.Goals as goal

pub returns : goal.returns
returns c =
    let known = c.self.invariant in
    subst IsMonitor c.self.view_is (record { plan = known.plan; valid = known.valid; execution = known.execution })
