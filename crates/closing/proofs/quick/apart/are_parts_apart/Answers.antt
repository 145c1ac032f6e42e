use Rattle.closing.proofs.Prelude.{below_more, ℕ, ◌<◌, ◌≢◌, [], length, slice_index_or, subst, AreApart, sets}
use Rattle.closing.proofs.MemberLemmas.{is_part}
use Rattle.closing.proofs.quick.apart.are_parts_apart.Goals as goal

pub loop-i-preserved : goal.loop-i-preserved
loop-i-preserved c =
    λ k j h.
    below_more (λ k. (j : ℕ) → j < length c.args.parts.now → k ≢ j → AreApart c.args.p.now.given (sets c.args.g.now) c.args.t (slice_index_or c.args.parts.now k []) (slice_index_or c.args.parts.now j [])) c.loop-i.i (λ k h j. c.loop-i.invariant k j h)
    (subst (λ vs. (j : ℕ) → j < length c.args.parts.now → c.loop-i.i ≢ j → AreApart c.args.p.now.given (sets c.args.g.now) c.args.t vs (slice_index_or c.args.parts.now j []))
    (is_part c.args.parts.now c.items.result.now c.index-parts-i.result c.loop-i.i c.loop-i-test.true c.items.ensures c.index-parts-i.is)
    (c.are_apart_of_others.ensures c.if-not-are_apart_of_others.false)) k h j
