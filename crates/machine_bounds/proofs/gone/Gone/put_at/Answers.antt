use Rattle.base.proofs.Public.{arith, ap, subst, ℕ, ◌+◌, ◌≡◌, slice_index_or}
use Rattle.std.proofs.Common.{◌%◌}
use Rattle.machine_bounds.specs.Prelude.{choices, max_nodes, StartsFrom}
use Rattle.machine_bounds.proofs.gone.Gone.put_at.Goals as goal

pub put-requires-clause-from : goal.put-requires-clause-from
put-requires-clause-from c =
    let n : ℕ = c.in-At.n.0 in
    let same : n % max_nodes ≡ n = omega (arith, c.if-first-ge-MAX_NODES.false) in
    rw same
    (subst (λ cs. StartsFrom cs n (slice_index_or c.args.self.now.bounds n 0)) (ap choices c.domain-domain.ensures.domain)
    (subst (λ bs. StartsFrom (choices c.domain-domain.result.now) n (slice_index_or bs n 0)) (ap (λ s. s.bounds) c.self.view_is) (c.starts_from-2.ensures c.if-starts_from.true)))

pub put-requires-else-starts_from-clause-from : goal.put-requires-else-starts_from-clause-from
put-requires-else-starts_from-clause-from c =
    let n : ℕ = c.in-At.n.0 in
    let same : (512 + n) % max_nodes ≡ n = omega (arith, c.if-first-ge-MAX_NODES.false) in
    rw same
    (subst (λ cs. StartsFrom cs n (slice_index_or c.args.self.now.bounds (512 + n) 0)) (ap choices c.domain-domain.ensures.domain)
    (subst (λ bs. StartsFrom (choices c.domain-domain.result.now) n (slice_index_or bs (512 + n) 0)) (ap (λ s. s.bounds) c.self.view_is) (c.starts_from.ensures c.if-not-starts_from.false)))
