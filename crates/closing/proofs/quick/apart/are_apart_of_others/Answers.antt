use Rattle.closing.proofs.Prelude.{below_more, ◌≢◌, [], slice_index_or, subst, sym, AreApart, sets}
use Rattle.closing.proofs.MemberLemmas.{is_part}
use Rattle.closing.proofs.quick.apart.are_apart_of_others.Goals.{else-j-part-via-then-j-part+else-not-are_apart, else-j-part-via-else-j-part}
use Rattle.closing.proofs.quick.apart.are_apart_of_others.Goals as goal

pub loop-j-preserved : goal.loop-j-preserved
loop-j-preserved c =
    below_more (λ k. c.args.part ≢ k → AreApart c.args.p.now.given (sets c.args.g.now) c.args.t c.args.machines.now (slice_index_or c.args.parts.now k [])) c.loop-j.j c.loop-j.invariant
    (λ ne. elim c.else-j-part.branch [
      | else-j-part-via-then-j-part+else-not-are_apart w ↦
          subst (λ vs. AreApart c.args.p.now.given (sets c.args.g.now) c.args.t c.args.machines.now vs)
          (is_part c.args.parts.now w.items.result.now w.index-parts-j.result c.loop-j.j c.loop-j-test.true w.items.ensures w.index-parts-j.is) (w.are_apart.ensures w.if-not-are_apart.false)
      | else-j-part-via-else-j-part w ↦ absurd (ne (sym w.if-j-part.false))
    ])
