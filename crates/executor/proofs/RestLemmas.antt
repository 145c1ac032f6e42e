-- What has ended counts at once, and all else goes as planned: at an instant that is a part of the plan there, or at the last start among
-- what has ended.
use Rattle.base.proofs.Public.{◌≡◌, ◌≢◌, inl, inr, ℕ, ◌+◌, ◌<◌, ◌≤◌, Bool, true, false, ◌==◌, if◌then◌else◌, refl, ap, arith, cases_lt, false≢true, le-leb, leb-true, ne_eqb, IsTrue}
use Rattle.executor.specs.Prelude.{Act, action_duration, Choice, choices_of, Element, Ended, Idle, Instance, is_ended, IsExecution, IsInstance, IsPlanOf, IsStagePart, IsValid, LastStart, None as NoAction, Phase, Phases, PlanChoices, rest_stages, RestKeeps, stage_at, stages_at, start_of, Waiting}
use Rattle.slices.specs.Prelude.{snapshot, snapshot_at}
use Rattle.slices.specs.declared.stage.Stage.{Stage}
use Rattle.slices.proofs.Public.{execution_keeps, has_last_start, parts_keep, stage_parts_are_part}
use Rattle.executor.proofs.SafeLemmas.{acts, idle_is_never_over, lasts_in, over_at, some_action, started_at, waits_from}

-- ---- what has ended

pub ended_is : (f : Phase) → IsTrue (is_ended f) → f ≡ Ended
ended_is Ended h = refl
ended_is _ h = absurd (false≢true h)

pub ended_acts : (f : Phase) → IsTrue (is_ended f) → (f ≢ Waiting) × (f ≢ NoAction)
ended_acts f h = let is : f ≡ Ended = ended_is f h in ((λ e. cc), (λ e. cc))

abbrev over : Stage
over = record { started = true; ended = true }

-- what has started: an action that is over, or one that has started in the plan
rest_started : (ended : Bool) (g : Stage) (X : Type 0) → (IsTrue ended → X) → (IsTrue g.started → X) → IsTrue (if ended then over else g).started → X
rest_started true g X a b h = a refl
rest_started false g X a b h = b h

-- what is over in the plan is over
rest_ended : (ended : Bool) (g : Stage) → IsTrue g.ended → IsTrue (if ended then over else g).ended
rest_ended true g h = refl
rest_ended false g h = h

started_later : (p : Instance) (e : Element) (c : Choice) (u t : ℕ) → u ≤ t → IsTrue (stage_at p e c u).started → IsTrue (stage_at p e c t).started
unfolding stage_at
started_later p e Idle u t l h = h
started_later p e (Act place start) u t l h = let s : start ≤ u = leb-true start u h in le-leb start t (omega (arith, s, l))

-- ---- the last start among what has ended

module _ (p : Instance) (sound : IsInstance p) (plan : PlanChoices) (is : IsPlanOf p plan) (phases : Phases) (ex : IsExecution p (choices_of plan) phases) where
  abbrev has_ended : Element → Bool
  has_ended e = is_ended (phases e)

  last : LastStart p (choices_of plan) has_ended p.horizon
  last = has_last_start p (choices_of plan) has_ended p.horizon

  -- what has ended was due by then, and so at each later instant
  due : (e : Element) (t : ℕ) → last.at ≤ t → IsTrue (has_ended e) → IsTrue (stages_at p (choices_of plan) t e).started
  unfolding stages_at
  due e t l h =
      let c = acts (choices_of plan e) (some_action p (choices_of plan) phases ex e (ended_acts (phases e) h).1) in
      let act = lasts_in p sound plan is e c.place c.start c.is in
      let early : c.start ≤ last.at =
      elim (last.quiet e act.listed h c.start (ap start_of c.is)) [
        | inl before ↦ before
        | inr late ↦ absurd (omega (arith, late, act.in_time))
      ]
      in
      rw c.is (started_at p e c.place c.start t (omega (arith, early, l)))

  -- from then on it is a part of the plan at the same instant
  part_after : (t : ℕ) → last.at ≤ t → IsStagePart (rest_stages p (choices_of plan) phases t) (stages_at p (choices_of plan) t)
  unfolding rest_stages
  part_after t l = record {
    started = λ e s. rest_started (has_ended e) (stages_at p (choices_of plan) t e) _ (due e t l) (λ h. h) s;
    ended = λ e h. rest_ended (has_ended e) (stages_at p (choices_of plan) t e) h;
  }

  -- before, a part of the plan at that start: what is over there is waited for by what has ended
  part_before : (t : ℕ) → t < last.at → IsStagePart (rest_stages p (choices_of plan) phases t) (stages_at p (choices_of plan) last.at)
  unfolding rest_stages stages_at
  part_before t l = record {
    started = λ e s. rest_started (has_ended e) (stage_at p e (choices_of plan e) t) _ (due e last.at (omega arith)) (started_later p e (choices_of plan e) t last.at (omega (arith, l))) s;
    ended = λ e h.
        let c = acts (choices_of plan e) (idle_is_never_over p e (choices_of plan e) last.at h) in
        let past : c.start + action_duration p e c.place ≤ last.at = over_at p e c.place c.start last.at (rw c.is at h) in
        elim last.is_start [
          | inl none ↦ absurd (omega (arith, none, l))
          | inr a ↦
              let w = waits_from p (choices_of plan) a.0 e last.at c.place c.start a.3 c.is past in
              let ended : phases e ≡ Ended = ex.forerunners a.0 e (ended_acts (phases a.0) a.2).0 w in
              rw ended refl
        ];
  }

not_last : (t u h : ℕ) → t < u → u ≤ h → (t == h) ≡ false
not_last t u h a b = ne_eqb t h (λ e. absurd (omega (arith, e, a, b)))

pub rest_keeps : RestKeeps
unfolding IsValid
rest_keeps p sound plan is valid phases ex t within r i =
    let l = last p sound plan is phases ex in
    let now = rest_stages p (choices_of plan) phases t in
    elim (cases_lt t l.at) [
      | inl before ↦
          rw (not_last t l.at p.horizon before l.early)
          (execution_keeps p (choices_of plan) valid l.at l.early now (part_before p sound plan is phases ex t before) r i)
      | inr after ↦
          parts_keep p (snapshot p (choices_of plan) now) (snapshot_at p (choices_of plan) t)
          (stage_parts_are_part p (choices_of plan) now (stages_at p (choices_of plan) t) (part_after p sound plan is phases ex t after)) (t == p.horizon) r (valid t within r i)
    ]
