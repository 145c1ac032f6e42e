-- What the tables of a monitor say of elements.
use Rattle.base.proofs.Public.{◌≡◌, ◌≢◌, ◌⊎◌, inl, inr, ℕ, ◌+◌, ◌<◌, Bool, true, false, not, ◌&&◌, List, length, Option, Some, None, refl, sym, ap, subst, ◌∙◌, arith, option_map_or, cases_lt, false≢true, lt-ltb, le-ltb, get_or_past, get_or-set_same, get_or-set_other, length-set, ◌↔◌, IsTrue, slice_index_or, slice_set}
use Rattle.executor.specs.Prelude.{Act, AllEnded, AreTimes, Choice, Choices, choices_of, Element, element_at, element_count, element_number, Ended, Failed, first_phase, first_phases, Idle, Instance, inventory_of, is_ended, is_open_at, is_over_by, IsElement, IsFirst, IsHindrance, IsOpen, IsPlanOf, IsReadyAt, machine_count, MayStart, Moves, Node as TheNode, None as NoAction, Phase, phase_at, phases_in, PlanChoices, Running, start_of, Times, times_of, Vm, Waiting, waits, waits_at, waits_between}
use Rattle.cluster.proofs.Public.{IsListed-element_at, element_at-element_number, element_number-element_at, element_number-lt}
use Rattle.slices.proofs.Public.{past-idle}

-- ---- numbers

-- the number of an element, and how many there are
abbrev pub number : Instance → Element → ℕ
number p e = element_number (inventory_of p) e

abbrev pub count : Instance → ℕ
count p = element_count (inventory_of p)

listed_or_not : (p : Instance) (e : Element) → IsElement p e ⊎ (¬ IsElement p e)
listed_or_not p (Vm v) = elim (cases_lt v.0 (length p.machines)) [ inl low ↦ inl low | inr high ↦ inr (λ low. omega arith) ]
listed_or_not p (TheNode n) = elim (cases_lt n.0 (length p.nodes)) [ inl low ↦ inl low | inr high ↦ inr (λ low. omega arith) ]

-- elements with one number are one
one_number : (p : Instance) (x y : Element) → IsElement p x → IsElement p y → number p x ≡ number p y → x ≡ y
one_number p x y a b q =
    sym (element_at-element_number (inventory_of p) x a) ∙ ap (element_at (inventory_of p)) q ∙ element_at-element_number (inventory_of p) y b

-- the first place with a property has the first element with it
pub first_element : (p : Instance) (those : ℕ → Type 0) (kind : Element → Type 0) → ((e : Element) → IsElement p e → kind e ↔ those (number p e)) →
    (x : ℕ) → x < count p → those x → ((y : ℕ) → y < x → ¬ those y) → IsFirst p kind (element_at (inventory_of p) x)
first_element p those kind same x low is none =
    let there = IsListed-element_at (inventory_of p) x low in
    let back : number p (element_at (inventory_of p) x) ≡ x = element_number-element_at (inventory_of p) x low in
    record {
      listed = there;
      here = (same (element_at (inventory_of p) x) there).1 (subst those (sym back) is);
      earlier = λ y listed before k. none (number p y) (subst (λ n. number p y < n) back before) ((same y listed).0 k);
    }

-- ---- phases

pub phase_by_number : (p : Instance) (table : List Phase) (e : Element) → IsElement p e → phases_in p table e ≡ phase_at table (number p e)
phase_by_number p table (Vm v) low = rw (lt-ltb v.0 (machine_count p) low) refl
phase_by_number p table (TheNode n) low = refl

phase_of_none : (p : Instance) (table : List Phase) (e : Element) → length table ≡ count p → ¬ IsElement p e → phases_in p table e ≡ NoAction
phase_of_none p table (Vm v) rows out =
    elim (cases_lt v.0 (machine_count p)) [ inl low ↦ absurd (out low) | inr high ↦ rw (le-ltb v.0 (machine_count p) high) refl ]
phase_of_none p table (TheNode n) rows out =
    elim (cases_lt n.0 (length p.nodes)) [
      | inl low ↦ absurd (out low)
      | inr high ↦ get_or_past table (machine_count p + n.0) NoAction (omega (arith, rows, high))
    ]

-- an element whose action is so far is listed
pub listed_by_phase : (p : Instance) (table : List Phase) (e : Element) → length table ≡ count p → phases_in p table e ≢ NoAction → IsElement p e
listed_by_phase p table e rows some =
    elim (listed_or_not p e) [ inl there ↦ there | inr out ↦ absurd (some (phase_of_none p table e rows out)) ]

-- where no place has a phase, no element has it
pub nowhere : (p : Instance) (table : List Phase) (f : Phase) → length table ≡ count p → f ≢ NoAction → ((y : ℕ) → y < length table → ¬ (phase_at table y ≡ f)) → (e : Element) → phases_in p table e ≢ f
nowhere p table f rows some none e h =
    let there = listed_by_phase p table e rows (λ q. some (sym h ∙ q)) in
    let low : number p e < length table = omega (arith, element_number-lt (inventory_of p) e there, rows) in
    none (number p e) low (sym (phase_by_number p table e there) ∙ h)

-- a new phase at the number of an element
pub moves_at : (p : Instance) (table : List Phase) (e : Element) (f : Phase) → length table ≡ count p → IsElement p e →
    Moves (phases_in p table) e f (phases_in p (slice_set table (number p e) f))
moves_at p table e f rows there = record {
  here =
      phase_by_number p (slice_set table (number p e) f) e there ∙
      get_or-set_same table (number p e) f NoAction (omega (arith, element_number-lt (inventory_of p) e there, rows));
  others = λ x n.
      elim (listed_or_not p x) [
        | inl at ↦
            phase_by_number p (slice_set table (number p e) f) x at ∙
            get_or-set_other table (number p e) (number p x) f NoAction (λ q. n (one_number p x e at there q)) ∙
            sym (phase_by_number p table x at)
        | inr out ↦
            phase_of_none p (slice_set table (number p e) f) x (length-set table (number p e) f ∙ rows) out ∙
            sym (phase_of_none p table x rows out)
      ];
}

-- ---- waits

times_by_number : (p : Instance) (plan : Choices) (times : List (Option Times)) → AreTimes p plan times → (e : Element) → IsElement p e → slice_index_or times (number p e) None ≡ times_of p e (plan e)
times_by_number p plan times t e there =
    subst (λ x. slice_index_or times (number p e) None ≡ times_of p x (plan x)) (element_at-element_number (inventory_of p) e there)
    (t.each (number p e) (element_number-lt (inventory_of p) e there))

waits_same : (p : Instance) (a b : Element) (c d : Choice) → waits_between (times_of p a c) (times_of p b d) ≡ option_map_or (is_over_by p b d) (start_of c) false
waits_same p a b Idle d = refl
waits_same p a b (Act place start) Idle = refl
waits_same p a b (Act place start) (Act there begun) = refl

waits_by_number : (p : Instance) (plan : Choices) (times : List (Option Times)) → AreTimes p plan times → (a b : Element) → IsElement p a → IsElement p b → waits_at times (number p a) (number p b) ≡ waits p plan a b
waits_by_number p plan times t a b x y =
    rw (times_by_number p plan times t a x, times_by_number p plan times t b y) (waits_same p a b (plan a) (plan b))

no_wait : (p : Instance) (b : Element) (s : Option ℕ) → IsTrue (option_map_or (is_over_by p b Idle) s false) → ⊥
no_wait p b None h = false≢true h
no_wait p b (Some start) h = false≢true h

-- what is waited for is listed
pub waited_is_listed : (p : Instance) (plan : PlanChoices) → IsPlanOf p plan → (a b : Element) → IsTrue (waits p (choices_of plan) a b) → IsElement p b
waited_is_listed p plan is a b w =
    elim (past-idle p plan is b) [
      | inl there ↦ there
      | inr idle ↦ absurd (no_wait p b (start_of (choices_of plan a)) (subst (λ c. IsTrue (option_map_or (is_over_by p b c) (start_of (choices_of plan a)) false)) idle w))
    ]

open_by_test : (w : Bool) (f : Phase) → (IsTrue w × (f ≢ Ended)) ↔ IsTrue (w && not (is_ended f))
open_by_test false f = ((λ h. h.0), (λ h. absurd (false≢true h)))
open_by_test true NoAction = ((λ h. refl), (λ h. (refl, λ q. cc)))
open_by_test true Waiting = ((λ h. refl), (λ h. (refl, λ q. cc)))
open_by_test true Running = ((λ h. refl), (λ h. (refl, λ q. cc)))
open_by_test true Ended = ((λ h. absurd (h.1 refl)), (λ h. absurd (false≢true h)))
open_by_test true Failed = ((λ h. refl), (λ h. (refl, λ q. cc)))

ended_or_not : (f : Phase) → (f ≡ Ended) ⊎ (f ≢ Ended)
ended_or_not NoAction = inr (λ h. cc)
ended_or_not Waiting = inr (λ h. cc)
ended_or_not Running = inr (λ h. cc)
ended_or_not Ended = inl refl
ended_or_not Failed = inr (λ h. cc)

-- ---- both tables of a plan

module _ (p : Instance) (plan : PlanChoices) (is : IsPlanOf p plan) (phases : List Phase) (rows : length phases ≡ count p) (times : List (Option Times)) (t : AreTimes p (choices_of plan) times) where
  open_by_number : (a b : Element) → IsElement p a → IsElement p b → IsOpen p (choices_of plan) (phases_in p phases) a b ↔ IsTrue (is_open_at times phases (number p a) (number p b))
  open_by_number a b x y =
      rw (phase_by_number p phases b y, sym (waits_by_number p (choices_of plan) times t a b x y)) (open_by_test (waits_at times (number p a) (number p b)) (phase_at phases (number p b)))

  -- the first failed place hinders each action
  pub failed_hinders : (a : Element) (x : ℕ) → x < length phases → phase_at phases x ≡ Failed → ((y : ℕ) → y < x → ¬ (phase_at phases y ≡ Failed)) →
      IsHindrance p (choices_of plan) (phases_in p phases) a (element_at (inventory_of p) x)
  failed_hinders a x low is none =
      inl (first_element p (λ y. phase_at phases y ≡ Failed) (λ e. phases_in p phases e ≡ Failed) (λ e there.
      let q = phase_by_number p phases e there in ((λ h. sym q ∙ h), (λ h. q ∙ h))) x (omega (arith, low, rows)) is none)

  -- where none has failed, so does the first open place of what an action waits for
  pub open_hinders : (a : Element) → IsElement p a → ((y : ℕ) → y < length phases → ¬ (phase_at phases y ≡ Failed)) →
      (x : ℕ) → x < length phases → IsTrue (is_open_at times phases (number p a) x) → ((y : ℕ) → y < x → ¬ IsTrue (is_open_at times phases (number p a) y)) →
      IsHindrance p (choices_of plan) (phases_in p phases) a (element_at (inventory_of p) x)
  open_hinders a there none_failed x low still none =
      inr (
        nowhere p phases Failed rows (λ h. cc) none_failed,
        first_element p (λ y. IsTrue (is_open_at times phases (number p a) y)) (IsOpen p (choices_of plan) (phases_in p phases) a) (λ e listed. open_by_number a e there listed) x (omega (arith, low, rows)) still none,
      )

  -- an action may start exactly where none has failed and its place is ready
  pub ready_may_start : ((y : ℕ) → y < length phases → ¬ (phase_at phases y ≡ Failed)) → (a : Element) → IsElement p a → MayStart p (choices_of plan) (phases_in p phases) a ↔ IsReadyAt times phases (number p a)
  ready_may_start none_failed a there = (forth, back)
    where
      forth : MayStart p (choices_of plan) (phases_in p phases) a → IsReadyAt times phases (number p a)
      forth may = record {
        waiting = sym (phase_by_number p phases a there) ∙ may.waiting;
        none_open = λ b low still.
            let listed = IsListed-element_at (inventory_of p) b (omega (arith, low, rows)) in
            let same : number p (element_at (inventory_of p) b) ≡ b = element_number-element_at (inventory_of p) b (omega (arith, low, rows)) in
            let o = (open_by_number a (element_at (inventory_of p) b) there listed).1 (subst (λ y. IsTrue (is_open_at times phases (number p a) y)) (sym same) still) in
            o.1 (may.ended (element_at (inventory_of p) b) o.0);
      }

      back : IsReadyAt times phases (number p a) → MayStart p (choices_of plan) (phases_in p phases) a
      back ready = record {
        waiting = phase_by_number p phases a there ∙ ready.waiting;
        none_failed = nowhere p phases Failed rows (λ h. cc) none_failed;
        ended = λ b w.
            let listed = waited_is_listed p plan is a b w in
            elim (ended_or_not (phases_in p phases b)) [
              | inl ended ↦ ended
              | inr unended ↦
                  let low : number p b < length phases = omega (arith, element_number-lt (inventory_of p) b listed, rows) in
                  absurd (ready.none_open (number p b) low ((open_by_number a b there listed).0 (w, unended)))
            ];
      }

  -- the first ready place has the first action that may start
  pub first_ready : ((y : ℕ) → y < length phases → ¬ (phase_at phases y ≡ Failed)) →
      (x : ℕ) → x < length phases → IsReadyAt times phases x → ((y : ℕ) → y < x → ¬ IsReadyAt times phases y) →
      IsFirst p (MayStart p (choices_of plan) (phases_in p phases)) (element_at (inventory_of p) x)
  first_ready none_failed x low ready none =
      first_element p (IsReadyAt times phases) (MayStart p (choices_of plan) (phases_in p phases)) (ready_may_start none_failed) x (omega (arith, low, rows)) ready none

  -- where no place is ready, no action may start
  pub none_ready : ((y : ℕ) → y < length phases → ¬ (phase_at phases y ≡ Failed)) → ((y : ℕ) → y < length phases → ¬ IsReadyAt times phases y) →
      (a : Element) → ¬ MayStart p (choices_of plan) (phases_in p phases) a
  none_ready none_failed none a may =
      let waiting : phases_in p phases a ≡ Waiting = may.waiting in
      let there = listed_by_phase p phases a rows (λ h. cc) in
      none (number p a) (omega (arith, element_number-lt (inventory_of p) a there, rows)) ((ready_may_start none_failed a there).0 may)

  -- where a place has failed, no action may start
  pub none_after_failure : (x : ℕ) → x < length phases → phase_at phases x ≡ Failed → (a : Element) → ¬ MayStart p (choices_of plan) (phases_in p phases) a
  none_after_failure x low failed a may =
      may.none_failed (element_at (inventory_of p) x)
      (phase_by_number p phases (element_at (inventory_of p) x) (IsListed-element_at (inventory_of p) x (omega (arith, low, rows))) ∙
      ap (phase_at phases) (element_number-element_at (inventory_of p) x (omega (arith, low, rows))) ∙ failed)

-- ---- the beginning and the end

-- a table of first phases tells the first phases
pub first_told : (p : Instance) (plan : PlanChoices) → IsPlanOf p plan → (table : List Phase) → length table ≡ count p →
    ((x : ℕ) → x < count p → phase_at table x ≡ first_phase (choices_of plan (element_at (inventory_of p) x))) → phases_in p table ≡ first_phases (choices_of plan)
first_told p plan is table rows each = λ i e. at e i
  where
    at : (e : Element) → phases_in p table e ≡ first_phase (choices_of plan e)
    at e =
        elim (listed_or_not p e) [
          | inl there ↦
              phase_by_number p table e there ∙ each (number p e) (element_number-lt (inventory_of p) e there) ∙
              ap (λ x. first_phase (choices_of plan x)) (element_at-element_number (inventory_of p) e there)
          | inr out ↦
              elim (past-idle p plan is e) [
                | inl there ↦ absurd (out there)
                | inr idle ↦ phase_of_none p table e rows out ∙ sym (ap first_phase idle)
              ]
        ]

-- all has ended exactly where it has at each place
pub all_by_place : (p : Instance) (table : List Phase) → length table ≡ count p →
    ((x : ℕ) → x < length table → (phase_at table x ≡ NoAction) ⊎ (phase_at table x ≡ Ended)) ↔ AllEnded (phases_in p table)
all_by_place p table rows = (forth, back)
  where
    forth : ((x : ℕ) → x < length table → (phase_at table x ≡ NoAction) ⊎ (phase_at table x ≡ Ended)) → AllEnded (phases_in p table)
    forth each e =
        elim (listed_or_not p e) [
          | inl there ↦
              subst (λ f. (f ≡ NoAction) ⊎ (f ≡ Ended)) (sym (phase_by_number p table e there))
              (each (number p e) (omega (arith, element_number-lt (inventory_of p) e there, rows)))
          | inr out ↦ inl (phase_of_none p table e rows out)
        ]

    back : AllEnded (phases_in p table) → (x : ℕ) → x < length table → (phase_at table x ≡ NoAction) ⊎ (phase_at table x ≡ Ended)
    back all x low =
        subst (λ f. (f ≡ NoAction) ⊎ (f ≡ Ended))
        (phase_by_number p table (element_at (inventory_of p) x) (IsListed-element_at (inventory_of p) x (omega (arith, low, rows))) ∙
        ap (phase_at table) (element_number-element_at (inventory_of p) x (omega (arith, low, rows))))
        (all (element_at (inventory_of p) x))
