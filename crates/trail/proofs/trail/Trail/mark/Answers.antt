use Rattle.std.proofs.Common.{rules}
use Rattle.trail.proofs.LogLemmas.{few_marks}
use Rattle.trail.proofs.trail.Trail.mark.Goals as goal

pub overflow_add-self : goal.overflow_add-self
overflow_add-self c =
    let v = c.self.inside.log in
    let few = few_marks c.self.inside.region v.items c.self.inside.marks c.self.invariant in
    search (rules, few, v.ok.0, v.ok.1, v.small)
