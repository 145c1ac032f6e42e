use Rattle.closing.proofs.Prelude.{below_more, ◌≢◌, [], slice_index_or, subst, sym, arith, IsAnyOf, IsFreeOf, sets, ShareNode}
use Rattle.closing.proofs.{MemberLemmas.is_part, PairLemmas.others_free}
use Rattle.closing.proofs.exact.pairs.other_part_found.Goals as goal

pub loop-j-preserved-then-j-part : goal.loop-j-preserved-then-j-part
loop-j-preserved-then-j-part c = below_more (λ k. c.args.part ≢ k → IsFreeOf (IsAnyOf (slice_index_or c.args.parts.now k []) (ShareNode c.args.p.now.given c.args.v.0)) c.args.p.now.given (sets c.args.g.now) c.args.t) c.loop-j.j c.loop-j.invariant (λ ne. absurd (ne (sym c.if-j-part.true)))

pub loop-j-preserved : goal.loop-j-preserved
loop-j-preserved c =
    below_more (λ k. c.args.part ≢ k → IsFreeOf (IsAnyOf (slice_index_or c.args.parts.now k []) (ShareNode c.args.p.now.given c.args.v.0)) c.args.p.now.given (sets c.args.g.now) c.args.t) c.loop-j.j c.loop-j.invariant
    (λ ne. subst (λ vs. IsFreeOf (IsAnyOf vs (ShareNode c.args.p.now.given c.args.v.0)) c.args.p.now.given (sets c.args.g.now) c.args.t)
    (is_part c.args.parts.now c.items.result.now c.index-parts-j.result c.loop-j.j c.loop-j-test.true c.items.ensures c.index-parts-j.is) c.in-Clean.ensures)

pub returns : goal.returns
returns c = others_free c.args.p.now.given (sets c.args.g.now) c.args.t c.args.parts.now c.args.part c.args.v.0 (λ k l. c.loop-j.invariant k (omega (arith, l)))
