use Rattle.standings.proofs.{Prelude.rules, LevelLemmas.few_marks}
use Rattle.standings.proofs.levels.Levelled.mark.Goals as goal

pub overflow_add-self : goal.overflow_add-self
overflow_add-self g c =
    let v = c.self.inside.log in
    let few = few_marks c.self.inside.top.items v.items c.self.inside.marks c.self.invariant in
    search (rules, few, v.ok.0, v.ok.1, v.small)
