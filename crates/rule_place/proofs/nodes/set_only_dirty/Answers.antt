use Rattle.rule_place.proofs.NodeLemmas.{all_dirty, spared_weaker}
use Rattle.rule_place.proofs.nodes.set_only_dirty.Goals as goal

pub returns-in-None : goal.returns-in-None
returns-in-None c = all_dirty c.args.p.now.given _ c.args.dirty.now c.set_all_dirty.new.dirty c.set_all_dirty.ensures

pub returns-in-Some : goal.returns-in-Some
returns-in-Some c = spared_weaker c.args.p.now.given _ _ c.args.dirty.now c.set_choice_dirty.new.dirty (λ k g. (c.in-Some.c, c.in-Some.ensures.some, g)) c.set_choice_dirty.ensures
