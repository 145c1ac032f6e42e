use Rattle.std.proofs.Common.{rules}
use Rattle.search.proofs.{TextLemmas.text_some, WholeLemmas.found_whole, WholeLemmas.whole_shown, WholeLemmas.whole_text, WholeLemmas.whole_true}
use Rattle.search.proofs.solving.search.Goals as goal

pub returns-in_err-progress-clause-writes : goal.returns-in_err-progress-clause-writes
returns-in_err-progress-clause-writes g c = record { name = search rules; kept = search rules; cause = search rules; front = text_some _ _ _ _ c.write_tree.ensures.writes.front }

pub goal_of-requires : goal.goal_of-requires
goal_of-requires g c = found_whole _ _ c.args.budget _ c.in_ok-progress.progress _ _ _ _ c.found_of-found.result c.in_ok-progress.ensures.goes c.found_of-found.ensures

pub returns-in_err-end-clause-writes : goal.returns-in_err-end-clause-writes
returns-in_err-end-clause-writes g c = record { name = search rules; kept = search rules; cause = search rules; front = whole_text _ _ c.args.budget _ _ c.in_ok-progress.progress _ _ _ _ _ _ _ c.goal_of.result c.goal_of.ensures.fits c.in_ok-progress.ensures.goes (rw c.in_ok-progress.ensures.writes.name at c.end.ensures.cut) (rw c.in_ok-progress.ensures.writes.name at c.end.ensures.stays) }

pub returns-clause-writes : goal.returns-clause-writes
returns-clause-writes g c = record { name = search rules; kept = search rules; cause = search rules; front = whole_text _ _ c.args.budget _ _ c.in_ok-progress.progress _ _ _ _ _ _ _ c.goal_of.result c.goal_of.ensures.fits c.in_ok-progress.ensures.goes (rw c.in_ok-progress.ensures.writes.name at c.in_ok-end.ensures.cut) (rw c.in_ok-progress.ensures.writes.name at c.in_ok-end.ensures.stays) }

pub returns-clause-shown : goal.returns-clause-shown
returns-clause-shown g c =
    whole_shown _ _ c.args.budget _ c.in_ok-progress.progress _ _ _ _ _ c.found_of-found.result c.goal_of.result c.in_ok-progress.ensures.goes c.found_of-found.ensures c.goal_of.ensures.is (rw c.in_ok-progress.ensures.writes.name at c.in_ok-end.ensures.grown)

pub returns-clause-true_of : goal.returns-clause-true_of
returns-clause-true_of g c =
    whole_true _ _ c.args.budget _ c.args.p.now.sound c.in_ok-progress.progress _ _ _ _ c.found_of-found.result c.in_ok-progress.ensures.goes c.found_of-found.ensures
