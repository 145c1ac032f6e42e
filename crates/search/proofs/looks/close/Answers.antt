use Rattle.std.proofs.Common.{◌∙◌, refl, rules}
use Rattle.prop_core.proofs.Public.{covered_after}
use Rattle.search.proofs.WorkLemmas.{cover_same, cover_trans, rise_none, works_front, works_none, works_then}
use Rattle.search.proofs.looks.close.Goals as goal

pub looks-init : goal.looks-init
looks-init g c = record {
  name = refl;
  kept = search rules;
  faults = refl;
  covers = cover_same _ _;
  follow = c.requires.follow;
  ground = c.requires.ground;
  some = c.requires.some;
  marks = refl;
  works = λ budget. works_none _ _ budget _ c.args.progress.now _ _ _ _ (rise_none _ _);
}

pub look_once-requires-clause-covered : goal.look_once-requires-clause-covered
look_once-requires-clause-covered g c = covered_after _ _ _ c.looks.invariant.covers c.requires.covered

pub returns-in_err-look_once-clause-writes : goal.returns-in_err-look_once-clause-writes
returns-in_err-look_once-clause-writes g c = record { name = search rules; kept = search rules; cause = search rules; front = works_front _ _ _ _ _ _ _ _ _ _ _ _ _ (c.looks.invariant.works 0) (rw c.looks.invariant.name at c.look_once.ensures.writes.front) }

pub returns-in-Clear-clause-writes : goal.returns-in-Clear-clause-writes
returns-in-Clear-clause-writes g c = record { name = search rules; kept = search rules; cause = search rules; front = works_front _ _ _ _ _ _ _ _ _ _ _ _ _ (c.looks.invariant.works 0) (rw c.looks.invariant.name at c.in_ok-look_once.ensures.writes.front) }

pub returns-in-Clear-clause-works : goal.returns-in-Clear-clause-works
returns-in-Clear-clause-works g c =
    let w = rw (c.in-Clear.is, c.looks.invariant.name) at c.in_ok-look_once.ensures.works in
    λ budget. works_then _ _ budget _ _ _ _ _ _ _ _ _ _ _ _ _ c.looks.invariant.covers.count c.in_ok-look_once.ensures.covers.count (c.looks.invariant.works budget) (w budget)

pub returns-in-Refuted-clause-writes : goal.returns-in-Refuted-clause-writes
returns-in-Refuted-clause-writes g c = record { name = search rules; kept = search rules; cause = search rules; front = works_front _ _ _ _ _ _ _ _ _ _ _ _ _ (c.looks.invariant.works 0) (rw c.looks.invariant.name at c.in_ok-look_once.ensures.writes.front) }

pub returns-in-Refuted-clause-works : goal.returns-in-Refuted-clause-works
returns-in-Refuted-clause-works g c =
    let w = rw (c.in-Refuted.is, c.looks.invariant.name) at c.in_ok-look_once.ensures.works in
    λ budget. works_then _ _ budget _ _ _ _ _ _ _ _ _ _ _ _ _ c.looks.invariant.covers.count c.in_ok-look_once.ensures.covers.count (c.looks.invariant.works budget) (w budget)

pub looks-preserved : goal.looks-preserved
looks-preserved g c =
    let ok = c.in_ok-look_once.ensures in
    let w = rw (c.in-Narrowed.is, c.looks.invariant.name) at c.in_ok-look_once.ensures.works in
    record {
      name = search rules;
      kept = search rules;
      faults = search rules;
      covers = cover_trans _ _ _ _ c.looks.invariant.covers ok.covers;
      follow = ok.follow;
      ground = ok.ground;
      some = ok.some c.in-Narrowed.is;
      marks = ok.marks ∙ c.looks.invariant.marks;
      works = λ budget. works_then _ _ budget _ _ _ _ _ _ _ _ _ _ _ _ _ c.looks.invariant.covers.count ok.covers.count (c.looks.invariant.works budget) (w budget);
    }
