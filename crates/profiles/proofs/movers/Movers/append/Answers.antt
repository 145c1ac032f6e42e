use Rattle.profiles.proofs.Prelude.{◌≡◌, ◌++◌, ◌∷◌, [], ℕ, ◌<◌, List, length, slice_set, sym, ap, subst, arith, IsRanked}
use Rattle.profiles.proofs.RankLemmas.{older_push, ranked_push, ranked_wider}
use Rattle.profiles.proofs.movers.Movers.append.Goals as goal

pub invariant_of-self-2 : goal.invariant_of-self-2
invariant_of-self-2 c =
    let xs = c.self.inside.list.items in
    let ranks = c.widen.new.ranks.items in
    let marks = c.self.inside.marks.items in
    let room : c.args.v.0 < length ranks = omega (arith, c.in_ok-widen.ensures.room) in
    let wider = ranked_wider xs c.self.inside.ranks.items ranks marks c.in_ok-widen.ensures.same (omega (arith, c.in_ok-widen.ensures.more)) c.self.invariant in
    let end : length xs ≡ c.len-rank.result = omega (arith, c.len-rank.ensures) in
    let out = rw (← c.self.view_is) at c.requires in
    subst (λ ys. IsRanked ys (slice_set ranks c.args.v.0 c.len-rank.result) marks) (sym c.in_ok-push.ensures.items)
    (subst (λ k. IsRanked (xs ++ c.args.v.0 ∷ []) (slice_set ranks c.args.v.0 k) marks) end (ranked_push xs ranks marks c.args.v.0 room out wider))

pub returns : goal.returns
returns c =
    let xs = c.self.inside.list.items in
    let marks = c.self.inside.marks.items in
    let older = older_push xs c.self.inside.ranks.items marks c.args.v.0 c.self.invariant in
    rw (← c.self.view_is, c.in_ok-push.ensures.items) (ap (λ (older : List (List ℕ)). record { older = older; top = xs ++ c.args.v.0 ∷ [] }) older)
