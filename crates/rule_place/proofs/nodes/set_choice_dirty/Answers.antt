use Rattle.std.proofs.Common.{refl}
use Rattle.rule_place.proofs.NodeLemmas.{goes_started, none_spared, spared_weaker}
use Rattle.rule_place.proofs.nodes.set_choice_dirty.Goals as goal

pub returns-in-Idle : goal.returns-in-Idle
returns-in-Idle c = rw c.in-Idle.is (none_spared c.args.p.now.given _ c.args.dirty.now (λ k. refl))

pub returns-in-Act : goal.returns-in-Act
returns-in-Act c = rw c.in-Act.is (spared_weaker c.args.p.now.given _ _ c.args.dirty.now c.set_place_dirty.new.dirty (λ k g. goes_started c.in-Act.place _ k g) c.set_place_dirty.ensures)
