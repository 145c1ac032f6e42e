-- What is written of a tree is accepted, and there is no other verdict on it.
use Rattle.cert_check.proofs.Prelude.{◌≡◌, ◌∙◌, inl, inr, ℕ, Bool, true, List, [], ◌∷◌, ◌++◌, map, Option, Some, None, Result, Ok, Err, refl, sym, ap, subst, append-nil, AreTaken, bound_of, certificate_text, CertificateIsAccepted, CheckFault, Choices, Cut, Decide, decisions, End, Fail, has_left, Instance, IsEndWhy, IsFault, IsFit, IsGoal, IsGoalRefused, IsHandedIn, IsInstance, IsLean, IsProof, IsRefused, IsStepRefused, IsTextWhy, IsWrong, IsYes, IsYesUnlessOutside, Leads, LeadsTo, Lean, least_along, least_cost, least_of, Left, left_set, Line, lines_of, LinesGive, lower_of, lowest, Memory, Name, named_step, No, Over, Part, PartHolds, PlanHolds, Position, Proves, ReadsOn, Reason, ReasonHolds, Sets, shown, start, start_sets, step_text, StepHolds, steps_of, StepText, Structure, Tree, turn, Verdict, WalkAt, Why, Yes, Goal, Step, Plan as PlanStep, gathered_whole, leads_same, leads_split, certificates_read_back, whole_of}
use Rattle.cert_check.proofs.{LineLemmas.front_named, LineLemmas.front_read, LineLemmas.goal_next, LineLemmas.no_fault, LineLemmas.no_fault_here, LineLemmas.read_up, LineLemmas.step_next, NamedLemmas.step_here, WrittenLemmas.AreNamedSteps, WrittenLemmas.all_here, WrittenLemmas.all_named, WrittenLemmas.all_written, WrittenLemmas.goal_fits, WrittenLemmas.one_named}
use Rattle.cert_check.specs.Prelude.{Goal as GoalWhy, Plan}

-- ---- nothing is wrong with a step that holds, and is lean where that is asked

part_holds : (p : Instance) (bound : Option ℕ) (s : Sets) (step : Step) → StepHolds p bound s step → PartHolds p s step
part_holds p bound s (Decide x part) holds = holds
part_holds p bound s (Cut x part why) holds = holds.element
part_holds p bound s (Fail why) holds = tt
part_holds p bound s (PlanStep cost) holds = tt
part_holds p bound s Left holds = tt

reason_holds : (p : Instance) (bound : Option ℕ) (s : Sets) (step : Step) → StepHolds p bound s step → ReasonHolds p bound s step
reason_holds p bound s (Decide x part) holds = tt
reason_holds p bound s (Cut x part why) holds = holds.refuted
reason_holds p bound s (Fail why) holds = holds
reason_holds p bound s (PlanStep cost) holds = tt
reason_holds p bound s Left holds = tt

plan_holds : (p : Instance) (bound : Option ℕ) (s : Sets) (step : Step) → StepHolds p bound s step → PlanHolds p bound s step
plan_holds p bound s (Decide x part) holds = tt
plan_holds p bound s (Cut x part why) holds = tt
plan_holds p bound s (Fail why) holds = tt
plan_holds p bound s (PlanStep cost) holds = holds
plan_holds p bound s Left holds = tt

no_step_fault : (p : Instance) (bound : Option ℕ) (s : Sets) (step : Step) (why : Why) → StepHolds p bound s step → ¬ IsFault p bound s step why
no_step_fault p bound s step Structure holds wrong = wrong
no_step_fault p bound s step Name holds wrong = wrong
no_step_fault p bound s step Part holds wrong = wrong (part_holds p bound s step holds)
no_step_fault p bound s step Reason holds wrong = wrong.1 (reason_holds p bound s step holds)
no_step_fault p bound s step Plan holds wrong = wrong (plan_holds p bound s step holds)
no_step_fault p bound s step GoalWhy holds wrong = wrong
no_step_fault p bound s step Lean holds wrong = wrong

not_wrong : (p : Instance) (bound : Option ℕ) (strict : Bool) (e : List Step) (s : Sets) (step : Step) (why : Why) → WalkAt p bound strict e s step → ¬ IsWrong p bound strict e s step why
not_wrong p bound strict e s step why holds (inl fault) = no_step_fault p bound s step why holds.0 fault
not_wrong p bound strict e s step why holds (inr (unlean, is)) = unlean.unlean (holds.1 unlean.asked)

no_end_why : (p : Instance) (bound : Option ℕ) (strict : Bool) (steps : List Step) (goal : Goal) (why : Why) → IsProof p bound strict steps → goal ≡ shown bound steps → ¬ IsEndWhy p bound strict steps goal why
no_end_why p bound strict steps goal Structure proof shows wrong = wrong proof
no_end_why p bound strict steps goal Name proof shows wrong = wrong
no_end_why p bound strict steps goal Part proof shows wrong = wrong
no_end_why p bound strict steps goal Reason proof shows wrong = wrong
no_end_why p bound strict steps goal Plan proof shows wrong = wrong
no_end_why p bound strict steps goal GoalWhy proof shows wrong = wrong.1 shows
no_end_why p bound strict steps goal Lean proof shows wrong = wrong

-- ---- the steps of a tree lead to its end

whole_tree : (p : Instance) (bound : Option ℕ) (strict : Bool) (t : Tree) → Proves p bound (start_sets p) t → (strict ≡ true → IsLean p (start_sets p) t) → LeadsTo p bound strict (steps_of t) []
whole_tree p bound strict t proves lean = whole_of p bound strict (steps_of t) (record { tree = t; same = refl; proves = proves; lean = lean })

least_of_tree : (p : Instance) (plan : Option Choices) (t : Tree) → least_along p (bound_of p plan) (steps_of t) ≡ least_of p plan t
least_of_tree p plan t = ap (λ sets. lower_of (bound_of p plan) (lowest (least_cost p) sets)) (gathered_whole left_set t (start_sets p))

-- ---- where steps lead to an end, each of them is due and holds after those before it

record IsDueNext (p : Instance) (bound : Option ℕ) (strict : Bool) (front : List Step) (step : Step) : Type 0 where
  due : Sets
  rest : List Sets
  leads : LeadsTo p bound strict front (due ∷ rest)
  holds : WalkAt p bound strict front due step

due_next : (p : Instance) (bound : Option ℕ) (strict : Bool) (front more : List Step) (step : Step) → LeadsTo p bound strict (front ++ step ∷ more) [] → IsDueNext p bound strict front step
due_next p bound strict front more step leads = by both.0 both.1 both.2
  where
    both : (mid : List Sets) × LeadsTo p bound strict front mid × Leads (WalkAt p bound strict) front mid (step ∷ more) []
    both = leads_split (WalkAt p bound strict) front [] (start_sets p ∷ []) (step ∷ more) [] leads

    by : (mid : List Sets) → LeadsTo p bound strict front mid → Leads (WalkAt p bound strict) front mid (step ∷ more) [] → IsDueNext p bound strict front step
    by [] before after = absurd after
    by (due ∷ rest) before after = record { due = due; rest = rest; leads = before; holds = after.0 }

module _ (p : Instance) (bound : Option ℕ) (strict : Bool) (front : List Step) (step : Step) (next : IsDueNext p bound strict front step) where
  one_open : (now : List Sets) → LeadsTo p bound strict front now → now ≡ next.due ∷ next.rest
  one_open now leads = leads_same (WalkAt p bound strict) front [] (start_sets p ∷ []) now (next.due ∷ next.rest) leads next.leads

  not_refused : (why : Why) → ¬ IsRefused p bound strict front step why
  not_refused why refused =
      let same = one_open (refused.due ∷ refused.rest) refused.leads in
      let due : next.due ≡ refused.due = cc in
      not_wrong p bound strict front refused.due step why (subst (λ s. WalkAt p bound strict front s step) due next.holds) refused.wrong

  no_text_why : (text : StepText) (why : Why) → named_step p text ≡ Some step → ¬ IsTextWhy p bound strict front text why
  no_text_why text why named (inl (whole, is)) = let same = one_open [] whole in absurd (cc)
  no_text_why text why named (inr (inl (opened, none, is))) = absurd (cc)
  no_text_why text why named (inr (inr (other, is, refused))) =
      let same : other ≡ step = cc in
      not_refused why (subst (λ k. IsRefused p bound strict front k why) same refused)

-- ---- the lines of the text of a proof

module _ (p : Instance) (sound : IsInstance p) (bound : Option ℕ) (strict : Bool) (file : List ℕ) (steps : List Step) (goal : Goal) (proof : IsProof p bound strict steps) (whole : LeadsTo p bound strict steps [])
    (shows : goal ≡ shown bound steps) (named : AreNamedSteps p steps) (reads : ReadsOn file start (lines_of p steps goal)) where
  -- yes
  pub lines_say_yes : IsYes p bound strict file goal (least_along p bound steps)
  lines_say_yes =
      let up = read_up p file goal start steps reads in
      record {
        next = up.next;
        shown_there = record {
          steps = steps;
          at = up.last;
          taken = record { texts = map (step_text p) steps; read = up.read; named = all_here p sound steps named; open_sets = []; leads = whole };
          read = up.ends;
          proof = proof;
          shows = shows;
          least_is = refl;
        };
        over = up.over;
      }

  -- the steps that were taken are the first ones
  record AreFirst (taken : List Step) (at : Position) : Type 0 where
    rest : List Step
    all : steps ≡ taken ++ rest
    reads_on : ReadsOn file at (lines_of p rest goal)

  are_first : (taken : List Step) (at : Position) → AreTaken p bound strict file taken at → AreFirst taken at
  are_first taken at t =
      let front = front_read p file goal t.texts steps start at reads t.read in
      let same : taken ≡ front.front = front_named p sound steps front.front front.rest taken t.texts named front.whole front.texts_are t.named in
      record { rest = front.rest; all = front.whole ∙ ap (λ k. k ++ front.rest) (sym same); reads_on = front.reads }

  no_step_refused : (line : ℕ) (why : Why) → ¬ IsStepRefused p bound strict file line why
  no_step_refused line why r =
      let first = are_first r.steps r.at r.taken in
      let next = step_next p file goal first.rest r.at r.text r.next first.reads_on r.read in
      let all : steps ≡ r.steps ++ next.0 ∷ next.1 = first.all ∙ ap (λ k. r.steps ++ k) next.2 in
      let due = due_next p bound strict r.steps next.1 next.0 (subst (λ k. LeadsTo p bound strict k []) all whole) in
      no_text_why p bound strict r.steps next.0 due r.text why (ap (named_step p) next.3 ∙ here next.0 next.1 r.steps all) r.refused
    where
      here : (step : Step) (more front : List Step) → steps ≡ front ++ step ∷ more → named_step p (step_text p step) ≡ Some step
      here step more front all = step_here p sound step (one_named p front more step (subst (AreNamedSteps p) all named))

  -- all of them were taken where the goal is read
  all_taken : (taken : List Step) (at : Position) (said : Goal) (next : Position) → AreTaken p bound strict file taken at → turn file at ≡ Ok (End said, next) → (taken ≡ steps) × (said ≡ goal) × (turn file next ≡ Ok (Over, next))
  all_taken taken at said next t read =
      let first = are_first taken at t in
      let ends = goal_next p file goal first.rest at said next first.reads_on read in
      (sym (first.all ∙ ap (λ k. taken ++ k) ends.0 ∙ append-nil taken), ends.1, ends.2)

  no_goal_refused : (line : ℕ) (why : Why) → ¬ IsGoalRefused p bound strict file line why
  no_goal_refused line why r =
      let same = all_taken r.steps r.at r.goal r.next r.taken r.read in
      no_end_why p bound strict r.steps r.goal why (subst (IsProof p bound strict) (sym same.0) proof) (same.1 ∙ shows ∙ ap (shown bound) (sym same.0)) r.refused

  pub lines_give : (answer : Result Verdict CheckFault) → LinesGive p bound strict file answer → IsYesUnlessOutside goal (least_along p bound steps) answer
  lines_give (Ok (Yes said least)) accepted =
      let s = accepted.shown_there in
      let same = all_taken s.steps s.at said accepted.next s.taken s.read in
      (same.1, s.least_is ∙ ap (least_along p bound) same.0)
  lines_give (Ok (No line why)) (inl refused) = no_step_refused line why refused
  lines_give (Ok (No line why)) (inr refused) = no_goal_refused line why refused
  lines_give (Err (Line fault)) (inl unread) =
      let first = are_first unread.steps unread.at unread.taken in
      no_fault_here p file goal first.rest unread.at fault first.reads_on unread.read
  lines_give (Err (Line fault)) (inr followed) =
      let s = followed.shown_there in
      let same = all_taken s.steps s.at followed.goal followed.next s.taken s.read in
      no_fault fault (turn file followed.next) Over followed.next same.2 followed.read
  lines_give (Err Memory) nothing = tt

-- ---- the verdict

fit : (p : Instance) (plan : Option Choices) → IsHandedIn p plan → IsFit p plan
fit p None handed = tt
fit p (Some plan) handed = handed.1

pub certificate_is_accepted : CertificateIsAccepted
certificate_is_accepted p sound plan handed goal t certificate writable strict lean =
    let bound = bound_of p plan in
    let proof : IsProof p bound strict (steps_of t) = record { tree = t; same = refl; proves = certificate.proves; lean = lean } in
    let named = all_named p sound bound t certificate.proves writable.parts in
    let good : IsGoal goal = subst IsGoal (sym certificate.shows) (goal_fits p sound plan handed (has_left (steps_of t)) (decisions (steps_of t)) writable.counted) in
    let reads = certificates_read_back p sound (steps_of t) (all_written p sound (steps_of t) named) goal good in
    let file = certificate_text p (steps_of t) goal in
    let whole = whole_tree p bound strict t certificate.proves lean in
    let least = least_of_tree p plan t in
    let yes = lines_say_yes p sound bound strict file (steps_of t) goal proof whole certificate.shows named reads in
    record {
      yes = (λ is. subst (λ o. IsYes p bound strict file goal o) least yes, λ not. absurd (not (fit p plan handed)));
      alone = λ answer gives. subst (λ o. IsYesUnlessOutside goal o answer) least (lines_give p sound bound strict file (steps_of t) goal proof whole certificate.shows named reads answer (gives.0 (fit p plan handed)));
    }
