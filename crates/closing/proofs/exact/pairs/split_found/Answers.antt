use Rattle.closing.proofs.Prelude.{below_more, [], slice_index_or, subst, arith, IsAnyOf, IsFreeOf, IsMetWith, MeetsOtherPart, sets, sure}
use Rattle.closing.proofs.{ApartLemmas.split_free, MemberLemmas.is_part, PairLemmas.parts_free, PairLemmas.parts_met}
use Rattle.closing.proofs.exact.pairs.split_found.Goals as goal

pub returns-in-Fail : goal.returns-in-Fail
returns-in-Fail c =
    let h = c.in-Fail.ensures in (
      h.0,
      (
        c.loop-i.i,
        c.loop-i-test.true,
        subst (λ vs. IsAnyOf vs (MeetsOtherPart c.args.p.now.given c.args.parts.now c.loop-i.i) (sure c.args.p.now.given (sets c.args.g.now) c.args.t))
            (is_part c.args.parts.now c.items.result.now c.index-parts-i.result c.loop-i.i c.loop-i-test.true c.items.ensures c.index-parts-i.is) h.1,
      ),
    )

pub returns-in-Cut : goal.returns-in-Cut
returns-in-Cut c =
    let h = c.in-Cut.ensures in (
      h.0,
      parts_met c.args.p.now.given (sets c.args.g.now) c.args.t c.args.parts.now c.loop-i.i c.loop-i-test.true c.in-Cut.e c.in-Cut.c
          (subst (λ vs. IsMetWith (IsAnyOf vs (MeetsOtherPart c.args.p.now.given c.args.parts.now c.loop-i.i)) c.args.p.now.given (sets c.args.g.now) c.args.t c.in-Cut.e c.in-Cut.c)
          (is_part c.args.parts.now c.items.result.now c.index-parts-i.result c.loop-i.i c.loop-i-test.true c.items.ensures c.index-parts-i.is) h.1),
    )

pub loop-i-preserved : goal.loop-i-preserved
loop-i-preserved c =
    below_more (λ k. IsFreeOf (IsAnyOf (slice_index_or c.args.parts.now k []) (MeetsOtherPart c.args.p.now.given c.args.parts.now k)) c.args.p.now.given (sets c.args.g.now) c.args.t) c.loop-i.i c.loop-i.invariant
    (subst (λ vs. IsFreeOf (IsAnyOf vs (MeetsOtherPart c.args.p.now.given c.args.parts.now c.loop-i.i)) c.args.p.now.given (sets c.args.g.now) c.args.t)
    (is_part c.args.parts.now c.items.result.now c.index-parts-i.result c.loop-i.i c.loop-i-test.true c.items.ensures c.index-parts-i.is) c.in-Clean.ensures)

pub returns : goal.returns
returns c = parts_free c.args.p.now.given (sets c.args.g.now) c.args.t c.args.parts.now (λ k l. c.loop-i.invariant k (omega (arith, l)))

pub returns-then-are_parts_apart : goal.returns-then-are_parts_apart
returns-then-are_parts_apart c = split_free c.args.p.now.given (sets c.args.g.now) c.args.t c.args.parts.now (c.are_parts_apart.ensures c.if-are_parts_apart.true)
