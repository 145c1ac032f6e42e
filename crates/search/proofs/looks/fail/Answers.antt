use Rattle.std.proofs.Common.{ap, rules}
use Rattle.search.specs.Prelude.{bytes_of, Fail}
use Rattle.search.proofs.TextLemmas.{leaves_line, leaves_lined}
use Rattle.search.proofs.looks.fail.Goals as goal

pub returns-in_err-step-clause-writes : goal.returns-in_err-step-clause-writes
returns-in_err-step-clause-writes g c = record { name = search rules; kept = search rules; cause = search rules; front = leaves_line _ _ _ _ (Fail c.args.reason) c.requires.reason c.step.ensures.cut c.step.ensures.stays }

pub returns-clause-writes : goal.returns-clause-writes
returns-clause-writes g c = record { name = search rules; kept = search rules; cause = search rules; front = leaves_lined _ _ _ _ (Fail c.args.reason) c.requires.reason (λ t. ap bytes_of (c.in_ok-step.ensures.grown t)) }
