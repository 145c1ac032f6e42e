use Rattle.profiles.proofs.{Prelude.ℕ, Prelude.Vec, Prelude.sym, Prelude.Global, NumberListLemmas.pushed}
use Rattle.profiles.proofs.number_lists.NumberLists.push.Goals as goal

pub returns : goal.returns
returns c =
    rw (← c.self.view_is)
    (pushed (λ (v : Vec ℕ Global). v.items) c.self.inside.lists.items c.args.i c.args.number c.index_mut.result.now c.push.new.self (rw (← c.self.view_is) at c.requires) (sym c.index_mut.ensures.value) c.in_ok-push.ensures.items)
