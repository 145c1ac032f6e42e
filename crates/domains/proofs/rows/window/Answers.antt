use Rattle.std.proofs.Common.{arith}
use Rattle.domains.proofs.StartLemmas.{window_some, window_none}
use Rattle.domains.proofs.rows.window.Goals as goal

pub returns-then-lo-hi-clause-set : goal.returns-then-lo-hi-clause-set
returns-then-lo-hi-clause-set c test k =
    window_none test c.args.row c.args.from c.args.to c.if-row-from.lo c.if-row-to.hi k c.requires
    (grind arith) (grind arith) (grind arith) (grind arith) (grind arith)

pub returns-else-lo-hi-clause-set : goal.returns-else-lo-hi-clause-set
returns-else-lo-hi-clause-set c test k =
    window_some test c.args.row c.args.from c.args.to c.if-row-from.lo c.if-row-to.hi k
    (grind arith) (grind arith) (grind arith) (grind arith) (grind arith) (grind arith) (grind arith)
