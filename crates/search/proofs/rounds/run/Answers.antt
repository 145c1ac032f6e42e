use Rattle.std.proofs.Common.{refl, rules}
use Rattle.prop_core.proofs.Public.{covered_after}
use Rattle.search.proofs.{RoundLemmas.goes_start_open, RoundLemmas.paired_start, WorkLemmas.cover_same, WorkLemmas.cover_trans, WorkLemmas.goes_front, WorkLemmas.goes_then}
use Rattle.search.proofs.rounds.run.Goals as goal

pub rounds-init : goal.rounds-init
rounds-init g c = record {
  paired = paired_start c.args.p.now.given c.args.ground.now.trail _ c.requires.unmarked c.new-splits.ensures.items;
  name = refl;
  kept = search rules;
  faults = refl;
  covers = cover_same _ _;
  follow = c.requires.follow;
  ground = c.requires.ground;
  some = c.requires.some;
  goes = goes_start_open _ _ c.args.budget _ c.args.progress.now _ _ c.args.ground.now.trail _ c.requires.unmarked c.new-splits.ensures.items;
}

pub round-requires-clause-covered : goal.round-requires-clause-covered
round-requires-clause-covered g c = covered_after _ _ _ c.rounds.invariant.covers c.requires.covered

pub returns-in_err-more-clause-writes : goal.returns-in_err-more-clause-writes
returns-in_err-more-clause-writes g c = record { name = search rules; kept = search rules; cause = search rules; front = goes_front _ _ _ _ _ _ _ _ _ _ _ _ _ c.rounds.invariant.goes (rw c.rounds.invariant.name at c.round.ensures.writes.front) }

pub returns-in_err-more-clause-covers : goal.returns-in_err-more-clause-covers
returns-in_err-more-clause-covers g c = cover_trans _ _ _ _ c.rounds.invariant.covers c.round.ensures.covers

pub returns-then-not-more-clause-writes : goal.returns-then-not-more-clause-writes
returns-then-not-more-clause-writes g c = record { name = search rules; kept = search rules; cause = search rules; front = goes_front _ _ _ _ _ _ _ _ _ _ _ _ _ c.rounds.invariant.goes (rw c.rounds.invariant.name at c.in_ok-more.ensures.writes.front) }

pub returns-then-not-more-clause-goes : goal.returns-then-not-more-clause-goes
returns-then-not-more-clause-goes g c =
    let done = rw (c.if-not-more.true, c.rounds.invariant.name) at c.in_ok-more.ensures.done in
    goes_then _ _ c.args.budget _ c.args.progress.now _ _ _ _ _ _ _ _ _ _ _ c.rounds.invariant.covers.count c.in_ok-more.ensures.covers.count c.rounds.invariant.goes done

pub rounds-preserved : goal.rounds-preserved
rounds-preserved g c =
    let ok = c.in_ok-more.ensures in
    let done = rw (c.if-not-more.false, c.rounds.invariant.name) at c.in_ok-more.ensures.done in
    record {
      paired = done.paired;
      name = search rules;
      kept = search rules;
      faults = search rules;
      covers = cover_trans _ _ _ _ c.rounds.invariant.covers ok.covers;
      follow = ok.follow;
      ground = ok.ground;
      some = done.some;
      goes = goes_then _ _ c.args.budget _ c.args.progress.now _ _ _ _ _ _ _ _ _ _ _ c.rounds.invariant.covers.count ok.covers.count c.rounds.invariant.goes done.goes;
    }
