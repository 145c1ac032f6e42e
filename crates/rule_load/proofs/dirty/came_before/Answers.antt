use Rattle.rule_load.proofs.StayLemmas.{came_before}
use Rattle.rule_load.proofs.dirty.came_before.Goals as goal

pub returns-in-Lost : goal.returns-in-Lost
returns-in-Lost c = λ yes n t e d h.
    came_before c.args._domain.now c.in-Lost.lost c.in-Some.a (rw c.in-Some.is at c.requires.come) (c.came_by.ensures yes) n t (rw c.in-Some.is at e) d (rw c.in-Lost.is at h)
