use Rattle.profiles.proofs.Prelude.{◌≡◌, ◌<◌, get_or, length, ◌∙◌, arith, get_or_default}
use Rattle.profiles.proofs.RankLemmas.{high_tells, low_tells, past_tells}
use Rattle.profiles.proofs.movers.Movers.has.Goals as goal

pub returns-then-i-len : goal.returns-then-i-len
returns-then-i-len c = rw (← c.self.view_is) (past_tells c.self.inside.list.items c.self.inside.ranks.items c.self.inside.marks.items c.args.v.0 c.self.invariant (omega arith))

pub returns-then-rank-len : goal.returns-then-rank-len
returns-then-rank-len c =
    let low : c.args.v.0 < length c.self.inside.ranks.items = omega arith in
    let is : c.index-rank.result.now ≡ get_or c.self.inside.ranks.items c.args.v.0 0 = c.index-rank.ensures ∙ get_or_default c.self.inside.ranks.items c.args.v.0 c.index-rank.result.now 0 low in
    rw (← c.self.view_is) (high_tells c.self.inside.list.items c.self.inside.ranks.items c.self.inside.marks.items c.args.v.0 c.index-rank.result.now c.self.invariant is (omega arith))

pub returns : goal.returns
returns c =
    let low : c.args.v.0 < length c.self.inside.ranks.items = omega arith in
    let is : c.index-rank.result.now ≡ get_or c.self.inside.ranks.items c.args.v.0 0 = c.index-rank.ensures ∙ get_or_default c.self.inside.ranks.items c.args.v.0 c.index-rank.result.now 0 low in
    let within : c.index-rank.result.now < length c.self.inside.list.items = omega arith in
    let got : c.index.result.now ≡ get_or c.self.inside.list.items c.index-rank.result.now 0 = c.index.ensures ∙ get_or_default c.self.inside.list.items c.index-rank.result.now c.index.result.now 0 within in
    rw (← c.self.view_is) (low_tells c.self.inside.list.items c.self.inside.ranks.items c.self.inside.marks.items c.args.v.0 c.index-rank.result.now c.index.result.now c.self.invariant is within got)
