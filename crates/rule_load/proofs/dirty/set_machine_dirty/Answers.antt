use Rattle.rule_load.proofs.Prelude.{arith, choices, domain_at, domain_before, sets, Vm}
use Rattle.rule_load.proofs.DirtyLemmas.{machine_spared}
use Rattle.rule_load.proofs.dirty.set_machine_dirty.Goals as goal

pub returns : goal.returns
returns c =
    machine_spared c.args.p.now.given c.args.v (choices (domain_before c.args.before c.args.kept.now (domain_at c.args.g.now (Vm c.args.v)))) (sets c.args.g.now (Vm c.args.v)) c.of-now.result c.args.dirty.now c.set_left_dirty.new.dirty c.set_come_dirty.new.dirty
    (omega (arith, c.args.p.now.sound.horizon)) c.requires.fewer c.of-now.ensures c.set_left_dirty.ensures (rw c.domain.ensures.domain at c.set_come_dirty.ensures)
