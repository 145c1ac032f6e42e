use Rattle.std.proofs.Common.{◌+◌, ap, arith}
use Rattle.domains.specs.Choices.{DomainView}
use Rattle.bench_regions.proofs.Rows.{All-next}
use Rattle.bench_regions.proofs.domain.Goals as goal

pub loop-n-preserved : goal.loop-n-preserved
loop-n-preserved c = rw c.in_ok-push.ensures.ok (All-next c.loop-n.domain.rows _ (c.loop-n.n + 1) ((c.loop-n.n + 1) + 1) c.loop-n.invariant (omega arith) (omega arith))
