use Rattle.rule_setload.proofs.Prelude.{narrowed_is_fewer, rules, sets_before}
use Rattle.rule_setload.proofs.KeptLemmas.{amounts_told, kept_standings}
use Rattle.rule_setload.proofs.amounts.AmountKeeperKeeper.told.Goals as goal

pub told-requires-clause-fewer : goal.told-requires-clause-fewer
told-requires-clause-fewer c = narrowed_is_fewer c.args.p.now.given c.args.g.now c.args.change c.args.before c.args.kept.now c.requires.narrowed

pub told-requires-clause-right : goal.told-requires-clause-right
told-requires-clause-right c = kept_standings c.args.p.now.given (sets_before c.args.g.now c.args.change.element c.args.before c.args.kept.now) c.args.self.now.bounded c.args.self.now.index.lists c.args.self.now.table c.args.self.now.movers c.args.self.now.stayers.items c.args.self.now.holders (search rules) c.requires.right

pub returns-clause-told : goal.returns-clause-told
returns-clause-told c =
    amounts_told c.args.p.now.given c.args.g.now c.args.change.element c.args.before c.args.kept.now c.args.self.now.bounded c.args.self.now.index.lists c.args.self.now.table c.told.new.self c.args.self.now.movers c.told-2.new.self c.args.self.now.stayers.items c.args.self.now.holders (search rules) c.in_ok-told.ensures.older c.in_ok-told-2.ensures.older c.in_ok-told.ensures.top c.requires.right c.in_ok-told-2.ensures.grown c.in_ok-told-2.ensures.told
