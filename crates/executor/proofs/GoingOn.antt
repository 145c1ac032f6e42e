-- An execution goes on as long as nothing fails, and ends where the plan does.
use Rattle.base.proofs.Public.{◌≡◌, ◌≢◌, ◌⊎◌, inl, inr, ℕ, zero, suc, ◌+◌, ◌<◌, ◌≤◌, true, false, IsSome, Option, Some, None, unwrap_or, refl, sym, ap, subst, ◌∙◌, arith, option_map_or, cases_eq, cases_lt, false≢true, leb-true, IsTrue}
use Rattle.executor.specs.Prelude.{Act, action_duration, Choice, Choices, choices_of, Element, element_at, element_count, element_number, Ended, EndsAsPlanned, Failed, Idle, Instance, inventory_of, is_over_by, IsElement, NeverStandsStill, None as NoAction, Phase, Phases, Place, Running, stages_in, start_of, Waiting, waits}
use Rattle.cluster.proofs.Public.{element_at-element_number, element_number-lt}
use Rattle.slices.proofs.Public.{ends_by_duration, over_as_planned}
use Rattle.executor.proofs.SafeLemmas.{lasts_in}

-- ---- phases

waiting_or_not : (f : Phase) → (f ≡ Waiting) ⊎ (f ≢ Waiting)
waiting_or_not NoAction = inr (λ h. cc)
waiting_or_not Waiting = inl refl
waiting_or_not Running = inr (λ h. cc)
waiting_or_not Ended = inr (λ h. cc)
waiting_or_not Failed = inr (λ h. cc)

only_ended : (f : Phase) → f ≢ NoAction → f ≢ Waiting → f ≢ Running → f ≢ Failed → f ≡ Ended
only_ended NoAction a b c d = absurd (a refl)
only_ended Waiting a b c d = absurd (b refl)
only_ended Running a b c d = absurd (c refl)
only_ended Ended a b c d = refl
only_ended Failed a b c d = absurd (d refl)

-- ---- what is waited for

-- an action and what it waits for, by their starts
pub record WaitsFor (p : Instance) (plan : Choices) (a b : Element) : Type 0 where
  pub start : ℕ
  pub starts : start_of (plan a) ≡ Some start
  pub place : Place
  pub begun : ℕ
  pub acts : plan b ≡ Act place begun
  pub over : begun + action_duration p b place ≤ start

pub waits_for : (p : Instance) (plan : Choices) (a b : Element) → IsTrue (waits p plan a b) → WaitsFor p plan a b
waits_for p plan a b w = by (start_of (plan a)) (plan b) refl refl w
  where
    by : (s : Option ℕ) (c : Choice) → start_of (plan a) ≡ s → plan b ≡ c → IsTrue (option_map_or (is_over_by p b c) s false) → WaitsFor p plan a b
    by None c q r h = absurd (false≢true h)
    by (Some start) Idle q r h = absurd (false≢true h)
    by (Some start) (Act place begun) q r h = record {
      start = start;
      starts = q;
      place = place;
      begun = begun;
      acts = r;
      over = leb-true (begun + action_duration p b place) start (rw (ends_by_duration p b place begun) at h);
    }

-- ---- the least waiting start

abbrev begins : Choices → Element → ℕ
begins plan e = unwrap_or (start_of (plan e)) 0

module _ (p : Instance) (plan : Choices) (phases : Phases) where
  abbrev element : ℕ → Element
  element x = element_at (inventory_of p) x

  -- the waiting action of the least start, among the first k elements
  record LeastWaiting (k : ℕ) : Type 0 where
    a : Element
    waiting : phases a ≡ Waiting
    least : (x : ℕ) → x < k → phases (element x) ≡ Waiting → begins plan a ≤ begins plan (element x)

  -- an action that waits is given, so that there is one
  least_waiting : (w : Element) (k : ℕ) → phases w ≡ Waiting → LeastWaiting k
  least_waiting w zero h = record { a = w; waiting = h; least = λ x within s. absurd (omega arith) }
  least_waiting w (suc k) h =
      let b : LeastWaiting k = least_waiting w k h in
      elim (cases_lt (begins plan (element k)) (begins plan b.a)) [
        | inl less ↦
            elim (waiting_or_not (phases (element k))) [
              | inl sure ↦ record {
                a = element k;
                waiting = sure;
                least = λ x within s. elim (cases_eq x k) [ inl e ↦ rw e (omega arith) | inr n ↦ omega (arith, less, b.least x (omega arith) s) ];
              }
              | inr not_so ↦ record {
                a = b.a;
                waiting = b.waiting;
                least = λ x within s. elim (cases_eq x k) [ inl e ↦ absurd (not_so (subst (λ y. phases (element y) ≡ Waiting) e s)) | inr n ↦ b.least x (omega arith) s ];
              }
            ]
        | inr more ↦ record {
          a = b.a;
          waiting = b.waiting;
          least = λ x within s. elim (cases_eq x k) [ inl e ↦ rw e more | inr n ↦ b.least x (omega arith) s ];
        }
      ]

  -- it starts no later than each element that waits
  least_of_all : (b : LeastWaiting (element_count (inventory_of p))) (e : Element) → IsElement p e → phases e ≡ Waiting → begins plan b.a ≤ begins plan e
  least_of_all b e there h =
      let same : element (element_number (inventory_of p) e) ≡ e = element_at-element_number (inventory_of p) e there in
      subst (λ x. begins plan b.a ≤ begins plan x) same
      (b.least (element_number (inventory_of p) e) (element_number-lt (inventory_of p) e there) (subst (λ x. phases x ≡ Waiting) (sym same) h))

pub never_stands_still : NeverStandsStill
never_stands_still p sound plan is phases ex idle =
    let b : LeastWaiting p (choices_of plan) phases (element_count (inventory_of p)) = least_waiting p (choices_of plan) phases idle.waiting (element_count (inventory_of p)) idle.waits in (
      b.a,
      record {
        waiting = b.waiting;
        none_failed = idle.none_failed;
        ended = λ e w.
            let f = waits_for p (choices_of plan) b.a e w in
            let act = lasts_in p sound plan is e f.place f.begun f.acts in
            let some : IsSome (start_of (choices_of plan e)) = subst (λ c. IsSome (start_of c)) (sym f.acts) refl in
            let at_a : begins (choices_of plan) b.a ≡ f.start = ap (λ o. unwrap_or o 0) f.starts in
            let at_e : begins (choices_of plan) e ≡ f.begun = ap (λ c. unwrap_or (start_of c) 0) f.acts in
            only_ended (phases e)
            (λ none. absurd (false≢true (sym ((ex.idle e).0 none) ∙ some)))
            (λ waiting. absurd (omega (arith, f.over, act.lasts, at_a, at_e, least_of_all p (choices_of plan) phases b e act.listed waiting)))
            (idle.none_runs e)
            (idle.none_failed e);
      },
    )

-- ---- the end

ended_is_over : (phases : Phases) (e : Element) → phases e ≡ Ended → stages_in phases e ≡ record { started = true; ended = true }
unfolding stages_in
ended_is_over phases e h = rw h refl

pub ends_as_planned : EndsAsPlanned
ends_as_planned p plan is phases ex over =
    over_as_planned p plan is (stages_in phases) (λ e there some.
    elim (over e) [
      | inl none ↦ absurd (false≢true (sym ((ex.idle e).0 none) ∙ some))
      | inr ended ↦ ended_is_over phases e ended
    ])
