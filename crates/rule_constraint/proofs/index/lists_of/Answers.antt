use Rattle.base.proofs.Public.{◌≡◌, ◌<◌, length, get_or, refl, subst, slice_get_read}
use Rattle.rule_constraint.proofs.AddLemmas.{index_more}
use Rattle.rule_constraint.proofs.index.lists_of.Goals as goal

pub loop-c-preserved : goal.loop-c-preserved
loop-c-preserved c =
    index_more c.args.p.now.given c.loop-c.c c.index-constraints-c.result _ _
    (slice_get_read c.args.p.now.given.constraints (length c.args.p.now.given.constraints) c.loop-c.c c.index-constraints-c.result refl
    (subst (λ ks. c.loop-c.c < length ks) c.constraints-c-end.ensures.constraints c.loop-c-test.true)
    (subst (λ ks. c.index-constraints-c.result ≡ get_or ks c.loop-c.c c.index-constraints-c.result) c.constraints.ensures.constraints c.index-constraints-c.is))
    c.loop-c.invariant c.in_ok-add.ensures
