-- What can be told of an execution: which action may start first, and whether all have ended.
use Rattle.base.proofs.Public.{◌≡◌, ◌≢◌, ◌⊎◌, inl, inr, ℕ, zero, suc, ◌<◌, refl, sym, subst, ◌∙◌, arith, cases_Bool, cases_eq, false≢true, ◌↔◌, IsNone, IsTrue}
use Rattle.transcript.specs.Prelude.{AllEnded, choices_of, Element, element_at, element_count, element_number, Ended, Failed, Instance, inventory_of, IsElement, IsExecution, IsFirst, IsPlanOf, MayStart, Moves, Node as TheNode, None as NoAction, Phase, Phases, PlanChoices, Running, start_of, Vm, Waiting, waits}
use Rattle.cluster.proofs.Public.{element_at-element_number, element_number-lt}
use Rattle.slices.proofs.Public.{past-idle}
use Rattle.executor.proofs.Public.{first_element, waited_is_listed}

-- ---- phases

pub is_or_not : (f g : Phase) → (f ≡ g) ⊎ (f ≢ g)
is_or_not NoAction NoAction = inl refl
is_or_not NoAction Waiting = inr (λ h. cc)
is_or_not NoAction Running = inr (λ h. cc)
is_or_not NoAction Ended = inr (λ h. cc)
is_or_not NoAction Failed = inr (λ h. cc)
is_or_not Waiting NoAction = inr (λ h. cc)
is_or_not Waiting Waiting = inl refl
is_or_not Waiting Running = inr (λ h. cc)
is_or_not Waiting Ended = inr (λ h. cc)
is_or_not Waiting Failed = inr (λ h. cc)
is_or_not Running NoAction = inr (λ h. cc)
is_or_not Running Waiting = inr (λ h. cc)
is_or_not Running Running = inl refl
is_or_not Running Ended = inr (λ h. cc)
is_or_not Running Failed = inr (λ h. cc)
is_or_not Ended NoAction = inr (λ h. cc)
is_or_not Ended Waiting = inr (λ h. cc)
is_or_not Ended Running = inr (λ h. cc)
is_or_not Ended Ended = inl refl
is_or_not Ended Failed = inr (λ h. cc)
is_or_not Failed NoAction = inr (λ h. cc)
is_or_not Failed Waiting = inr (λ h. cc)
is_or_not Failed Running = inr (λ h. cc)
is_or_not Failed Ended = inr (λ h. cc)
is_or_not Failed Failed = inl refl

-- ---- one phase is changed

pub same_or_not : (x y : Element) → (x ≡ y) ⊎ (x ≢ y)
same_or_not (Vm v) (Vm w) = elim (cases_eq v.0 w.0) [ inl e ↦ inl (λ i. Vm (record { 0 = e i })) | inr n ↦ inr (λ q. n (cc)) ]
same_or_not (Vm v) (TheNode n) = inr (λ q. cc)
same_or_not (TheNode n) (Vm v) = inr (λ q. cc)
same_or_not (TheNode n) (TheNode m) = elim (cases_eq n.0 m.0) [ inl e ↦ inl (λ i. TheNode (record { 0 = e i })) | inr n ↦ inr (λ q. n (cc)) ]

abbrev pick : {x e : Element} → (x ≡ e) ⊎ (x ≢ e) → Phase → Phase → Phase
pick (inl same) f g = f
pick (inr other) f g = g

-- the phases after the action of an element goes on to another
abbrev pub moved_to : Phases → Element → Phase → Phases
moved_to phases e f x = pick (same_or_not x e) f (phases x)

pub moves : (phases : Phases) (e : Element) (f : Phase) → Moves phases e f (moved_to phases e f)
moves phases e f = record { here = here (same_or_not e e); others = λ x n. there x n (same_or_not x e) }
  where
    here : (s : (e ≡ e) ⊎ (e ≢ e)) → pick s f (phases e) ≡ f
    here (inl same) = refl
    here (inr other) = absurd (other refl)

    there : (x : Element) → x ≢ e → (s : (x ≡ e) ⊎ (x ≢ e)) → pick s f (phases x) ≡ phases x
    there x n (inl same) = absurd (n same)
    there x n (inr other) = refl

-- ---- elements of a kind

-- the first place below a bound
record FirstBelow (those : ℕ → Type 0) (k : ℕ) : Type 0 where
  place : ℕ
  low : place < k
  here : those place
  earlier : (y : ℕ) → y < place → ¬ those y

search_to : (those : ℕ → Type 0) (k : ℕ) → ((x : ℕ) → x < k → those x ⊎ (¬ those x)) → FirstBelow those k ⊎ ((y : ℕ) → y < k → ¬ those y)
search_to those zero tell = inr (λ y low. absurd (omega arith))
search_to those (suc k) tell =
    elim (search_to those k (λ x low. tell x (omega arith))) [
      | inl f ↦ inl (record { place = f.place; low = omega (arith, f.low); here = f.here; earlier = f.earlier })
      | inr none ↦
          elim (tell k (omega arith)) [
            | inl here ↦ inl (record { place = k; low = omega arith; here = here; earlier = none })
            | inr not_here ↦ inr (λ y low. elim (cases_eq y k) [ inl e ↦ subst (λ x. ¬ those x) (sym e) not_here | inr n ↦ none y (omega arith) ])
          ]
    ]

-- the first element of a kind that can be told, or none
pub first_or_none : (p : Instance) (kind : Element → Type 0) → ((e : Element) → kind e → IsElement p e) → ((e : Element) → kind e ⊎ (¬ kind e)) →
    ((e : Element) × IsFirst p kind e) ⊎ ((e : Element) → ¬ kind e)
first_or_none p kind listed tell =
    elim (search_to there (element_count (inventory_of p)) (λ x low. tell (element_at (inventory_of p) x))) [
      | inl f ↦ inl (element_at (inventory_of p) f.place, first_element p there kind same f.place f.low f.here f.earlier)
      | inr none ↦
          inr (λ e h.
          let is = listed e h in
          none (element_number (inventory_of p) e) (element_number-lt (inventory_of p) e is) ((same e is).0 h))
    ]
  where
    there : ℕ → Type 0
    there x = kind (element_at (inventory_of p) x)

    same : (e : Element) → IsElement p e → kind e ↔ there (element_number (inventory_of p) e)
    same e is =
        let back : element_at (inventory_of p) (element_number (inventory_of p) e) ≡ e = element_at-element_number (inventory_of p) e is in
        (subst kind (sym back), subst kind back)

-- ---- what an execution tells

module _ (p : Instance) (plan : PlanChoices) (is : IsPlanOf p plan) (phases : Phases) (ex : IsExecution p (choices_of plan) phases) where
  -- an element with an action is listed
  acting_is_listed : (e : Element) → phases e ≢ NoAction → IsElement p e
  acting_is_listed e some =
      elim (past-idle p plan is e) [
        | inl there ↦ there
        | inr idle ↦ absurd (some ((ex.idle e).1 (subst (λ c. IsNone (start_of c)) (sym idle) refl)))
      ]

  -- whether one has failed
  failed_or_not : ((e : Element) × IsFirst p (λ e. phases e ≡ Failed) e) ⊎ ((e : Element) → phases e ≢ Failed)
  failed_or_not = first_or_none p (λ e. phases e ≡ Failed) (λ e h. acting_is_listed e (λ n. cc)) (λ e. is_or_not (phases e) Failed)

  -- a waits for b, which has not ended
  abbrev Open : Element → Element → Type 0
  Open a b = IsTrue (waits p (choices_of plan) a b) × (phases b ≢ Ended)

  open_or_not : (a b : Element) → Open a b ⊎ (¬ Open a b)
  open_or_not a b =
      elim (cases_Bool (waits p (choices_of plan) a b)) [
        | inl w ↦ elim (is_or_not (phases b) Ended) [ inl ended ↦ inr (λ o. o.1 ended) | inr n ↦ inl (w, n) ]
        | inr w ↦ inr (λ o. false≢true (sym w ∙ o.0))
      ]

  may_or_not : (a : Element) → MayStart p (choices_of plan) phases a ⊎ (¬ MayStart p (choices_of plan) phases a)
  may_or_not a =
      elim (is_or_not (phases a) Waiting) [
        | inr n ↦ inr (λ may. n may.waiting)
        | inl waiting ↦
            elim failed_or_not [
              | inl f ↦ inr (λ may. may.none_failed f.0 f.1.here)
              | inr none_failed ↦
                  elim (first_or_none p (Open a) (λ b o. waited_is_listed p plan is a b o.0) (open_or_not a)) [
                    | inl f ↦ inr (λ may. f.1.here.1 (may.ended f.0 f.1.here.0))
                    | inr none ↦
                        inl (record {
                          waiting = waiting;
                          none_failed = none_failed;
                          ended = λ b w. elim (is_or_not (phases b) Ended) [ inl ended ↦ ended | inr n ↦ absurd (none b (w, n)) ];
                        })
                  ]
            ]
      ]

  -- the first action that may start, or none may
  pub ready_or_quiet : ((e : Element) × IsFirst p (MayStart p (choices_of plan) phases) e) ⊎ ((e : Element) → ¬ MayStart p (choices_of plan) phases e)
  ready_or_quiet =
      first_or_none p (MayStart p (choices_of plan) phases)
      (λ e may. let waiting : phases e ≡ Waiting = may.waiting in acting_is_listed e (λ n. cc))
      may_or_not

  -- the element has an action that has not ended
  abbrev Lasts : Element → Type 0
  Lasts e = (phases e ≢ NoAction) × (phases e ≢ Ended)

  lasts_or_not : (e : Element) → Lasts e ⊎ (¬ Lasts e)
  lasts_or_not e =
      elim (is_or_not (phases e) NoAction) [
        | inl none ↦ inr (λ l. l.0 none)
        | inr some ↦ elim (is_or_not (phases e) Ended) [ inl ended ↦ inr (λ l. l.1 ended) | inr n ↦ inl (some, n) ]
      ]

  -- whether all have ended
  pub ended_or_not : AllEnded phases ⊎ (¬ AllEnded phases)
  ended_or_not =
      elim (first_or_none p Lasts (λ e l. acting_is_listed e l.0) lasts_or_not) [
        | inl f ↦ inr (λ all. elim (all f.0) [ inl none ↦ f.1.here.0 none | inr ended ↦ f.1.here.1 ended ])
        | inr none ↦
            inl (λ e.
            elim (is_or_not (phases e) NoAction) [
              | inl idle ↦ inl idle
              | inr some ↦ elim (is_or_not (phases e) Ended) [ inl ended ↦ inr ended | inr n ↦ absurd (none e (some, n)) ]
            ])
      ]
