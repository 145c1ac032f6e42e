-- From section to section.
use Rattle.base.proofs.Public.{◌≡◌, ◌∙◌, ℕ, ◌+◌, ◌<◌, ◌≤◌, ◌&&◌, Bool, List, [], ◌∷◌, ◌++◌, length, take, drop, Option, Result, Ok, Err, sym, ap, ap₂, subst, add-one, and-true, drop-cons, list_all, list_all-append, slice_index_or, take-append-drop, take_all, take_more}
use Rattle.std.specs.List.{AllZip}
use Rattle.cluster.specs.declared.sets.NodeSet.{NodeSet}
use Rattle.catalogue.specs.Prelude.{Instance}
use Rattle.slices.specs.Plans.{PlanChoices}
use Rattle.cert_parts.specs.Sections.{IsCutInto, SectionText}
use Rattle.cert_parts.proofs.Public.{texts_are_cut_one_way}
use Rattle.trees.specs.declared.steps.Goal.{Goal}
use Rattle.cert_check.specs.declared.verdict.CheckFault.{CheckFault}
use Rattle.cert_check.specs.declared.verdict.CheckFault.TheVariants as check_fault
use Rattle.cert_check.specs.declared.verdict.Verdict.{Verdict}
use Rattle.cert_check.specs.declared.verdict.Verdict.TheVariants as said
use Rattle.part_check.specs.declared.seen.Seen.{Seen}
use Rattle.part_check.specs.declared.verdict.PartsFault.{PartsFault}
use Rattle.part_check.specs.declared.verdict.PartsFault.TheVariants.{Line, Memory}
use Rattle.part_check.specs.Judging.{AreTaken, FaultGives, PartGoalIsSo, seen_of}
use Rattle.part_check.specs.Verdicts.{AreWanted, HasSections, is_infeasible_goal, is_optimal_goal, SaysYes, SectionGives, SectionsGive, StopsAt}

-- ---- one section and one goal more

zip_more : (IsSo : SectionText → Goal → Type 0) (sections : List SectionText) (goals : List Goal) (s : SectionText) (goal : Goal) → AllZip IsSo sections goals → IsSo s goal → AllZip IsSo (sections ++ s ∷ []) (goals ++ goal ∷ [])
zip_more IsSo [] [] s goal so here = (here, tt)
zip_more IsSo [] (g ∷ goals) s goal so here = absurd so
zip_more IsSo (x ∷ sections) [] s goal so here = absurd so
zip_more IsSo (x ∷ sections) (g ∷ goals) s goal so here = (so.0, zip_more IsSo sections goals s goal so.1 here)

zip_at : (IsSo : SectionText → Goal → Type 0) (sections : List SectionText) (goals : List Goal) (at : ℕ) (s : SectionText) (goal : Goal) → at < length sections → s ≡ slice_index_or sections at s → AllZip IsSo (take at sections) goals → IsSo s goal → AllZip IsSo (take (at + 1) sections) (goals ++ goal ∷ [])
zip_at IsSo sections goals at s goal within is so here =
    let front : take (at + 1) sections ≡ take at sections ++ s ∷ [] = take_more sections at s within ∙ ap (λ (x : SectionText). take at sections ++ x ∷ []) (sym is) in
    subst (λ (l : List SectionText). AllZip IsSo l (goals ++ goal ∷ [])) (sym front) (zip_more IsSo (take at sections) goals s goal so here)

all_more : (test : Goal → Bool) (goals : List Goal) (goal : Goal) → (list_all test goals && test goal) ≡ list_all test (goals ++ goal ∷ [])
all_more test goals goal = ap (λ (b : Bool). list_all test goals && b) (sym (and-true (test goal))) ∙ sym (list_all-append test goals (goal ∷ []))

seen_more : (seen : Seen) (goals : List Goal) (goal : Goal) → seen ≡ seen_of goals → record { all_optimal = seen.all_optimal && is_optimal_goal goal; all_infeasible = seen.all_infeasible && is_infeasible_goal goal } ≡ seen_of (goals ++ goal ∷ [])
seen_more seen goals goal is =
    ap (λ (x : Seen). record { all_optimal = x.all_optimal && is_optimal_goal goal; all_infeasible = x.all_infeasible && is_infeasible_goal goal }) is
    ∙ ap₂ (λ (a b : Bool). record { all_optimal = a; all_infeasible = b }) (all_more is_optimal_goal goals goal) (all_more is_infeasible_goal goals goal)

module _ (p : Instance) (groups : List NodeSet) (plan : Option PlanChoices) (sections : List SectionText) where
  pub taken_none : (seen : Seen) → seen ≡ seen_of [] → AreTaken p groups plan [] seen
  taken_none seen is = record { goals = []; yes = tt; so = tt; seen_is = is }

  -- one section more
  pub taken_more : (at : ℕ) (s : SectionText) (seen now : Seen) (goal : Goal) (least : Option ℕ) → at < length sections → s ≡ slice_index_or sections at s → AreTaken p groups plan (take at sections) seen → SectionGives p groups plan s (Ok (said.Yes goal least)) → PartGoalIsSo p groups plan s.part goal →
      now ≡ record { all_optimal = seen.all_optimal && is_optimal_goal goal; all_infeasible = seen.all_infeasible && is_infeasible_goal goal } → AreTaken p groups plan (take (at + 1) sections) now
  taken_more at s seen now goal least within is taken gives so now_is = record {
    goals = taken.goals ++ goal ∷ [];
    yes = zip_at (SaysYes p groups plan) sections taken.goals at s goal within is taken.yes (least, gives);
    so = zip_at (λ s goal. PartGoalIsSo p groups plan s.part goal) sections taken.goals at s goal within is taken.so so;
    seen_is = now_is ∙ seen_more seen taken.goals goal taken.seen_is;
  }

  -- the sections before one, that one, and those after it
  split_at : (at : ℕ) (s : SectionText) → at < length sections → s ≡ slice_index_or sections at s → sections ≡ take at sections ++ s ∷ drop (at + 1) sections
  split_at at s within is =
      let here : drop at sections ≡ s ∷ drop (at + 1) sections = rw add-one (drop-cons sections at s within) ∙ ap (λ (x : SectionText). x ∷ drop (at + 1) sections) (sym is) in
      sym (take-append-drop at sections) ∙ ap (λ (l : List SectionText). take at sections ++ l) here

  -- the first that does not say yes
  pub stops_at : (at : ℕ) (s : SectionText) (seen : Seen) (given : Result Verdict CheckFault) → at < length sections → s ≡ slice_index_or sections at s → AreTaken p groups plan (take at sections) seen → SectionGives p groups plan s given → StopsAt p groups plan sections s.part given
  stops_at at s seen given within is taken gives = record {
    before = take at sections;
    body = s.body;
    after = drop (at + 1) sections;
    stands = split_at at s within is;
    goals = taken.goals;
    yes = taken.yes;
    gives = gives;
  }

  -- or that cannot be read
  pub fault_gives : (at : ℕ) (s : SectionText) (seen : Seen) → at < length sections → s ≡ slice_index_or sections at s → AreTaken p groups plan (take at sections) seen → (fault : PartsFault) → FaultGives p groups plan s fault → SectionsGive p groups plan sections (Err fault)
  fault_gives at s seen within is taken (Line part fault) gives = subst (λ (x : ℕ). StopsAt p groups plan sections x (Err (check_fault.Line fault))) (sym gives.0) (stops_at at s seen (Err (check_fault.Line fault)) within is taken gives.1)
  fault_gives at s seen within is taken Memory gives = tt

  -- all of them
  pub all_taken : (at : ℕ) (seen : Seen) → length sections ≤ at → AreTaken p groups plan (take at sections) seen → AreTaken p groups plan sections seen
  all_taken at seen past taken = subst (λ (l : List SectionText). AreTaken p groups plan l seen) (take_all at sections past) taken

-- ---- the text

-- it is cut into sections that are not wanted
pub none_wanted : (groups : List NodeSet) (plan : Option PlanChoices) (text : List ℕ) (found : List SectionText) → IsCutInto text found → ¬ AreWanted groups plan found → (sections : List SectionText) → ¬ HasSections groups plan text sections
none_wanted groups plan text found cut not sections has = not (subst (λ (l : List SectionText). AreWanted groups plan l) (texts_are_cut_one_way text sections found has.cut cut) has.wanted)
