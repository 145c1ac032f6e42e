use Rattle.rule_place.proofs.Prelude.{refl, sets}
use Rattle.rule_place.proofs.RowLemmas.{row_refutes}
use Rattle.rule_place.proofs.forbidden.refutes_place.Goals as goal

pub gain-requires-clause-machine : goal.gain-requires-clause-machine
gain-requires-clause-machine c = c.requires.2

pub forbids_at-requires-clause-constraint : goal.forbids_at-requires-clause-constraint
forbids_at-requires-clause-constraint c = c.requires.0

pub forbids_at-requires-clause-machine : goal.forbids_at-requires-clause-machine
forbids_at-requires-clause-machine c = c.requires.2

pub returns-then-gain-gt0 : goal.returns-then-gain-gt0
returns-then-gain-gt0 c =
    λ yes. row_refutes c.args.p.now.given (sets c.args._g.now) c.args.e c.args.part c.args.c c.args.t c.args.v c.args.n c.args.p.now.sound c.requires (c.forbids_at.ensures yes)
    (rw c.gain.ensures.gain at c.if-gain-gt0.true) (c.if-not-is_machine.ensures refl) (c.if-not-is_there_by.ensures refl)
