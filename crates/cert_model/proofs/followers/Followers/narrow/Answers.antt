use Rattle.cert_model.proofs.Prelude.{on_side, sets}
use Rattle.cert_model.proofs.FollowLemmas.{agreed_told, following_told, region_told}
use Rattle.cert_model.proofs.CountedLemmas.{counted_told, fewer_told, right_told}
use Rattle.cert_model.proofs.followers.Followers.narrow.Goals as goal

pub rules_told-self-requires-clause-region : goal.rules_told-self-requires-clause-region
rules_told-self-requires-clause-region g c =
    let t = c.in_ok-before.ensures in
    λ yes. rw c.region-g.ensures (region_told _ _ c.args.trail.now c.applied.new.trail c.args.change t.machines t.nodes t.sets _ (c.requires.follow.following yes))

pub rules_told-self-requires-clause-agreed : goal.rules_told-self-requires-clause-agreed
rules_told-self-requires-clause-agreed g c =
    let t = c.in_ok-before.ensures in
    λ yes. rw c.region-g.ensures (agreed_told _ _ c.args.trail.now c.applied.new.trail c.args.change t.machines t.nodes t.sets _ (c.requires.follow.following yes) c.in-Some.before c.applied.new.kept (rw c.in-Some.is at t.before))

pub table_told-self-requires-clause-fewer : goal.table_told-self-requires-clause-fewer
table_told-self-requires-clause-fewer g c =
    let t = c.in_ok-before.ensures in
    λ yes. rw c.region-g.ensures (fewer_told _ c.args.trail.now c.applied.new.trail c.args.change c.args.self.now.table t.sets (c.requires.follow.counting yes) c.in-Some.before c.applied.new.kept (rw c.in-Some.is at t.before))

pub table_told-self-requires-clause-right : goal.table_told-self-requires-clause-right
table_told-self-requires-clause-right g c =
    let t = c.in_ok-before.ensures in
    λ yes. rw c.region-g.ensures (right_told _ c.args.trail.now c.applied.new.trail c.args.change c.args.self.now.table t.sets (c.requires.follow.counting yes) c.in-Some.before c.applied.new.kept (rw c.in-Some.is at t.before))

pub returns-clause-follow : goal.returns-clause-follow
returns-clause-follow g c =
    let t = c.in_ok-before.ensures in
    record {
      following = λ yes. following_told _ _ c.args.trail.now c.applied.new.trail c.args.change t.machines t.nodes t.sets _ (c.requires.follow.following (c.rules_told-self.ensures.follow yes)) _ t.marks (rw c.region-g.ensures at (c.rules_told-self.ensures.told yes));
      counting = λ yes. counted_told _ c.args.trail.now c.applied.new.trail c.args.change c.args.self.now.table t.sets (c.requires.follow.counting (c.table_told-self.ensures.counted yes)) c.table_told-self.new.table t.machines t.nodes t.marks c.table_told-self.ensures.older (rw c.region-g.ensures at (c.table_told-self.ensures.top yes));
      telling = (rw c.region-g.ensures at c.tally_told-self.ensures) (sets c.args.trail.now.region) (on_side c.args.change.side c.args.change.part) t.sets c.requires.follow.telling;
    }
