-- An execution of a valid plan keeps the rules: it is a part of the plan at the last start among what has started.
use Rattle.base.proofs.Public.{◌≡◌, ◌≢◌, inl, inr, ℕ, ◌+◌, ◌≤◌, Bool, true, false, List, [], ◌∷◌, IsSome, Some, refl, sym, ap, subst, ◌∙◌, arith, cases_Bool, false≢true, le-leb, leb-true, IsTrue}
use Rattle.executor.specs.Prelude.{Act, action_duration, Choice, Choices, choices_of, Element, Ended, Event, EveryRunIsSafe, ExecutionsAreSafe, Failed, first_phases, Idle, Instance, is_legal, is_over_by, IsElement, IsExecution, IsInstance, IsPlanOf, IsStagePart, LastStart, None as NoAction, Phase, Phases, Place, PlanChoices, Running, Runs, stage_at, stage_in, stages_at, stages_in, start_of, Waiting, waits}
use Rattle.slices.proofs.Public.{ends_by_duration, execution_keeps, has_last_start, legal_acts_last, past-idle}
use Rattle.executor.proofs.StepLemmas.{begins_well, steps_keep}

-- ---- actions of plans

-- a choice with an action
pub record Acts (c : Choice) : Type 0 where
  pub place : Place
  pub start : ℕ
  pub is : c ≡ Act place start

pub acts : (c : Choice) → IsSome (start_of c) → Acts c
acts Idle h = absurd (false≢true h)
acts (Act place start) h = record { place = place; start = start; is = refl }

-- an action of a plan is one of an element of the problem, lasts, and ends by the horizon
pub record Lasts (p : Instance) (e : Element) (place : Place) (start : ℕ) : Type 0 where
  pub listed : IsElement p e
  pub lasts : 1 ≤ action_duration p e place
  pub in_time : start + action_duration p e place ≤ p.horizon

abbrev is_action : Choice → Bool
is_action Idle = false
is_action (Act place start) = true

pub lasts_in : (p : Instance) → IsInstance p → (plan : PlanChoices) → IsPlanOf p plan → (e : Element) (place : Place) (start : ℕ) → choices_of plan e ≡ Act place start → Lasts p e place start
lasts_in p sound plan is e place start q =
    elim (past-idle p plan is e) [
      | inl there ↦
          let legal : IsTrue (is_legal p e (Act place start)) = subst (λ c. IsTrue (is_legal p e c)) q (is.legal e there) in
          let last = legal_acts_last p sound e place start legal in
          record { listed = there; lasts = last.0; in_time = last.1 }
      | inr idle ↦ absurd (false≢true (ap is_action (sym idle ∙ q)))
    ]

-- ---- phases and stages

pub started_out : (f : Phase) → IsTrue (stage_in f).started → (f ≢ Waiting) × (f ≢ NoAction)
started_out NoAction s = absurd (false≢true s)
started_out Waiting s = absurd (false≢true s)
started_out Running s = ((λ h. cc), (λ h. cc))
started_out Ended s = ((λ h. cc), (λ h. cc))
started_out Failed s = ((λ h. cc), (λ h. cc))

-- an element with a phase has an action
pub some_action : (p : Instance) (plan : Choices) (phases : Phases) → IsExecution p plan phases → (e : Element) → phases e ≢ NoAction → IsSome (start_of (plan e))
some_action p plan phases ex e some =
    elim (cases_Bool _) [ inl sure ↦ sure | inr none ↦ absurd (some ((ex.idle e).1 none)) ]

pub started_at : (p : Instance) (e : Element) (place : Place) (start t : ℕ) → start ≤ t → IsTrue (stage_at p e (Act place start) t).started
unfolding stage_at
started_at p e place start t l = le-leb start t l

pub over_at : (p : Instance) (e : Element) (place : Place) (start t : ℕ) → IsTrue (stage_at p e (Act place start) t).ended → start + action_duration p e place ≤ t
unfolding stage_at
over_at p e place start t h = leb-true (start + action_duration p e place) t h

pub idle_is_never_over : (p : Instance) (e : Element) (c : Choice) (t : ℕ) → IsTrue (stage_at p e c t).ended → IsSome (start_of c)
unfolding stage_at
idle_is_never_over p e Idle t h = absurd (false≢true h)
idle_is_never_over p e (Act place start) t h = refl

-- an action waits for each that is over by its start
pub waits_from : (p : Instance) (plan : Choices) (a b : Element) (start : ℕ) (place : Place) (begun : ℕ) → start_of (plan a) ≡ Some start → plan b ≡ Act place begun →
    begun + action_duration p b place ≤ start → IsTrue (waits p plan a b)
waits_from p plan a b start place begun s q l =
    let over : IsTrue (is_over_by p b (Act place begun) start) = rw (ends_by_duration p b place begun) (le-leb (begun + action_duration p b place) start l) in
    rw (s, q) over

-- ---- the last start

module _ (p : Instance) (sound : IsInstance p) (plan : PlanChoices) (is : IsPlanOf p plan) (phases : Phases) (ex : IsExecution p (choices_of plan) phases) where
  abbrev has_started : Element → Bool
  has_started e = (stage_in (phases e)).started

  last : LastStart p (choices_of plan) has_started p.horizon
  last = has_last_start p (choices_of plan) has_started p.horizon

  -- what has started is due by the last start, and what is over by then has ended
  part_of_last : IsStagePart (stages_in phases) (stages_at p (choices_of plan) last.at)
  unfolding stages_in stages_at
  part_of_last = record {
    started = λ e s.
        let c = acts (choices_of plan e) (some_action p (choices_of plan) phases ex e (started_out (phases e) s).1) in
        let act = lasts_in p sound plan is e c.place c.start c.is in
        let due : c.start ≤ last.at =
        elim (last.quiet e act.listed s c.start (ap start_of c.is)) [
          | inl early ↦ early
          | inr late ↦ absurd (omega (arith, late, act.in_time))
        ]
        in
        rw c.is (started_at p e c.place c.start last.at due);
    ended = λ e h.
        let c = acts (choices_of plan e) (idle_is_never_over p e (choices_of plan e) last.at h) in
        let act = lasts_in p sound plan is e c.place c.start c.is in
        let over : c.start + action_duration p e c.place ≤ last.at = over_at p e c.place c.start last.at (rw c.is at h) in
        elim last.is_start [
          | inl none ↦ absurd (omega (arith, none, over, act.lasts))
          | inr a ↦
              let w = waits_from p (choices_of plan) a.0 e last.at c.place c.start a.3 c.is over in
              let ended : phases e ≡ Ended = ex.forerunners a.0 e (started_out (phases a.0) a.2).0 w in
              rw ended refl
        ];
  }

pub executions_are_safe : ExecutionsAreSafe
executions_are_safe p sound plan is valid phases ex r i =
    let l = last p sound plan is phases ex in
    execution_keeps p (choices_of plan) valid l.at l.early (stages_in phases) (part_of_last p sound plan is phases ex) r i

-- ---- lists of events

runs_keep : (p : Instance) (plan : Choices) (before : Phases) (events : List Event) (after : Phases) → IsExecution p plan before → Runs p plan before events after → IsExecution p plan after
runs_keep p plan before [] after ex same = rw same ex
runs_keep p plan before (e ∷ events) after ex run =
    runs_keep p plan run.0 events after (steps_keep p plan before run.0 e ex run.1) run.2

pub every_run_is_safe : EveryRunIsSafe
every_run_is_safe p sound plan is valid events after run =
    executions_are_safe p sound plan is valid after (runs_keep p (choices_of plan) (first_phases (choices_of plan)) events after (begins_well p (choices_of plan)) run)
