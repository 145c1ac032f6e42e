use Rattle.closing.proofs.{Prelude.arith, Prelude.sets, EndLemmas.sized_is_of, SomeLemmas.change_instants_suffice}
use Rattle.closing.proofs.watch.look.Goals as goal

pub returns : goal.returns
returns g c =
    change_instants_suffice c.args.change_instants.now (g.W.Watched.watch c.args.watched.now c.args.p.now.given) c.args.p.now.given (sets c.args.g.now) c.requires.local c.requires.suffice (sized_is_of c.args.p.now.given c.args.g.now c.requires.region)
    (λ t l change. c.instants.invariant.clean t (omega arith) change)
