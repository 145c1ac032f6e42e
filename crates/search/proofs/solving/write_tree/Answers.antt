use Rattle.std.proofs.Common.{◌≡◌, ◌∙◌, [], ap, refl, sym, rules}
use Rattle.search.specs.Prelude.{bytes_of, Marked, none_yet, sets}
use Rattle.prop_core.proofs.Public.{all_posted, covered_after}
use Rattle.trees.proofs.Public.{same_sets}
use Rattle.search.proofs.{TextLemmas.leaves_none, WholeLemmas.goes_start, WholeLemmas.start_empty, WorkLemmas.cover_rule, WorkLemmas.cover_same, WorkLemmas.cover_trans}
use Rattle.search.proofs.solving.write_tree.Goals as goal

pub returns-in_err-start-clause-writes : goal.returns-in_err-start-clause-writes
returns-in_err-start-clause-writes g c = record { name = search rules; kept = search rules; cause = search rules; front = leaves_none _ _ _ }

pub returns-in_err-start-clause-covers : goal.returns-in_err-start-clause-covers
returns-in_err-start-clause-covers g c = cover_same _ _

pub returns-in_err-post_all-clause-writes : goal.returns-in_err-post_all-clause-writes
returns-in_err-post_all-clause-writes g c = record { name = search rules; kept = search rules; cause = search rules; front = leaves_none _ _ _ }

pub returns-in_err-post_all-clause-covers : goal.returns-in_err-post_all-clause-covers
returns-in_err-post_all-clause-covers g c = cover_rule _ _ _ c.post_all.ensures.same

pub returns-in_err-ground-clause-writes : goal.returns-in_err-ground-clause-writes
returns-in_err-ground-clause-writes g c = record { name = search rules; kept = search rules; cause = search rules; front = leaves_none _ _ _ }

pub returns-in_err-ground-clause-covers : goal.returns-in_err-ground-clause-covers
returns-in_err-ground-clause-covers g c = cover_rule _ _ _ c.in_ok-post_all.ensures.same

pub run-requires-clause-covered : goal.run-requires-clause-covered
run-requires-clause-covered g c = covered_after _ _ _ (cover_rule _ _ _ c.in_ok-post_all.ensures.same) c.requires.covered

pub run-requires-clause-follow : goal.run-requires-clause-follow
run-requires-clause-follow g c = rw c.in_ok-ground.ensures.trail (all_posted _ _ _ _ _ c.in_ok-post_all.ensures.posted refl)

pub returns-in_err-run-clause-covers : goal.returns-in_err-run-clause-covers
returns-in_err-run-clause-covers g c = cover_trans _ _ _ _ (cover_rule _ _ _ c.in_ok-post_all.ensures.same) c.run.ensures.covers

pub returns-clause-covers : goal.returns-clause-covers
returns-clause-covers g c = cover_trans _ _ _ _ (cover_rule _ _ _ c.in_ok-post_all.ensures.same) c.in_ok-run.ensures.covers

pub returns-clause-goes : goal.returns-clause-goes
returns-clause-goes g c =
    goes_start _ _ c.args.budget _ none_yet c.run.new.progress _ _ _ _ _ _ refl (ap (λ (v : Marked). sets v.region) c.in_ok-ground.ensures.trail ∙ same_sets _ _ c.in_ok-start.ensures.sets) c.in_ok-post_all.ensures.same c.in_ok-run.ensures.covers.count c.in_ok-run.ensures.goes

pub returns-in-Some-clause-covers : goal.returns-in-Some-clause-covers
returns-in-Some-clause-covers g c = cover_rule _ _ _ c.in_ok-post_all.ensures.same

pub returns-in-Some-clause-goes : goal.returns-in-Some-clause-goes
returns-in-Some-clause-goes g c =
    let x = rw c.region.ensures at c.in-Some.ensures in
    let none : sets c.in_ok-ground.ground.trail.region c.in-Some.x ≡ [] = x.1 in
    let same = ap (λ (v : Marked). sets v.region c.in-Some.x) c.in_ok-ground.ensures.trail ∙ c.in_ok-start.ensures.sets c.in-Some.x in
    start_empty _ _ c.args.budget _ none_yet _ _ _ _ _ c.in-Some.x x.0 (sym same ∙ none) (λ t. ap bytes_of (c.in_ok-fail.ensures.written t)) c.in_ok-post_all.ensures.same
