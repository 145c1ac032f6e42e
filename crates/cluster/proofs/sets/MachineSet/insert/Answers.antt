use Rattle.std.proofs.Common.{◌<◌, ◌/◌, ap, sym, subst, arith, length, ◌∙◌}
use Rattle.cluster.specs.Prelude.{has_bit, has_machine, IsBits, IsBits-with_bit, max_machines}
use Rattle.cluster.proofs.BitLemmas.{has_bit-with_bit}
use Rattle.cluster.proofs.sets.MachineSet.insert.Goals as goal

pub returns : goal.returns
unfolding has_machine
returns c = λ m.
    let within : c.args.v.0 / 64 < length c.args.self.now.words = omega (arith, c.requires, c.args.self.now.bits.long) in
    ap (λ words. has_bit words m) c.set_bit.ensures ∙ has_bit-with_bit c.args.self.now.words c.args.v.0 m within

pub invariant_of-self : goal.invariant_of-self
invariant_of-self c = record { bits = subst (IsBits (max_machines / 64)) (sym c.set_bit.ensures) (IsBits-with_bit (max_machines / 64) c.args.self.now.words c.args.v.0 c.args.self.now.bits) }
