use Rattle.base.proofs.Public.{arith, length-append}
use Rattle.domains.proofs.RowLemmas.{Climbs-push}
use Rattle.domains.proofs.domain.Domain.push.Goals as goal

pub invariant_of-self-2 : goal.invariant_of-self-2
invariant_of-self-2 c = record {
  climb = rw c.in_ok-push.ensures.ok (Climbs-push 0 c.self.inside.rows.rows c.args.row c.self.invariant.climb (omega arith) c.requires.holds_one (rw (← c.self.view_is) at c.requires.last));
  fit = rw (c.in_ok-push.ensures.ok, length-append c.self.inside.rows.rows _) (omega (arith, c.self.invariant.fit));
}
