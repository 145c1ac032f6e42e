use Rattle.rule_pair.proofs.Prelude.{narrowed_is_fewer, sets}
use Rattle.domains.specs.SetsBefore.{sets_before}
use Rattle.rule_pair.proofs.KeptLemmas.{gone_still, unwanted_told}
use Rattle.rule_pair.proofs.keeper.PairKeeperKeeper.told.Goals as goal

pub told-requires-clause-fewer : goal.told-requires-clause-fewer
told-requires-clause-fewer c = narrowed_is_fewer c.args.p.now.given c.args.g.now c.args.change c.args.before c.args.kept.now c.requires.narrowed

pub told-requires-then-self-clause-right : goal.told-requires-then-self-clause-right
told-requires-then-self-clause-right c =
    gone_still c.args.p.now.given c.args.g.now c.args.change.element c.args.before c.args.kept.now c.args.self.now.index.lists c.args.self.now.table c.args.self.now.gone c.args.self.now.is_wanted (narrowed_is_fewer c.args.p.now.given c.args.g.now c.args.change c.args.before c.args.kept.now c.requires.narrowed) c.requires.right

-- nothing that is kept is changed where it is not wanted
pub returns-else-self-clause-told : goal.returns-else-self-clause-told
returns-else-self-clause-told c =
    unwanted_told c.args.p.now.given (sets c.args.g.now) (sets_before c.args.g.now c.args.change.element c.args.before c.args.kept.now) c.args.self.now.index.lists c.args.self.now.table c.args.self.now.gone c.args.self.now.is_wanted c.if-self.false c.requires.right
    (gone_still c.args.p.now.given c.args.g.now c.args.change.element c.args.before c.args.kept.now c.args.self.now.index.lists c.args.self.now.table c.args.self.now.gone c.args.self.now.is_wanted (narrowed_is_fewer c.args.p.now.given c.args.g.now c.args.change c.args.before c.args.kept.now c.requires.narrowed) c.requires.right)
