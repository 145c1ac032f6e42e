-- The choices that actions name, one action more at a time; and they are a plan where no element has to act that none is of.
use Rattle.std.proofs.Common.{map, slice_set, option_map, IsTrue}
use Rattle.base.proofs.Public.{◌≡◌, ℕ, zero, suc, ◌+◌, ◌<◌, ◌&&◌, ◌==◌, Bool, true, false, not, List, [], ◌∷◌, ◌++◌, length, take, replicate, get_or, Option, Some, None, refl, sym, ap, subst, ◌∙◌, arith, ⊎_elim, zero-add, common_steps, cases_eq, ext_get_or, length-set, get_or-set_same, get_or-set_other, take_more, get_or_default, length-map-range_with_len, get_or-map-range_with_len, get_or-range_with_len, length-range_with_len, range_with_len, option_map_or, option_or}
use Rattle.plan_json.specs.Prelude.{Action, action_for, AreActions, as_choice, Choice, choice_for, choices_for, Element, element_at, element_count, element_number, first_to_act, Idle, Instance, inventory_of, is_idle, is_legal, is_same, IsElement, IsPlanOf, must_act, parted}
use Rattle.cluster.proofs.Public.{element_number-lt, element_at-element_number, IsListed-element_at, element_number-element_at}
use Rattle.slices.proofs.Public.{legal_is_plan}
use Rattle.plan_json.proofs.MarkLemmas.{apart_at}
use Rattle.plan_json.proofs.Finding.{is_same-self, is_same-equal, is_same-number, action_for-more, none_passes, found}

pub length-choices_for : (p : Instance) (actions : List Action) → length (choices_for p actions) ≡ element_count (inventory_of p)
unfolding choices_for
length-choices_for p actions = length-map-range_with_len (λ x. choice_for actions (element_at (inventory_of p) x)) 0 (element_count (inventory_of p))

pub choices_for-at : (p : Instance) (actions : List Action) (x : ℕ) → x < element_count (inventory_of p) → get_or (choices_for p actions) x Idle ≡ choice_for actions (element_at (inventory_of p) x)
unfolding choices_for
choices_for-at p actions x lt = get_or-map-range_with_len (λ x. choice_for actions (element_at (inventory_of p) x)) 0 (element_count (inventory_of p)) x x Idle lt (omega arith)

pub choices_for-none : (p : Instance) → replicate (element_count (inventory_of p)) Idle ≡ choices_for p []
unfolding choices_for
choices_for-none p = all_idle 0 (element_count (inventory_of p))
  where
    all_idle : (a n : ℕ) → replicate n Idle ≡ map (λ x. choice_for [] (element_at (inventory_of p) x)) (range_with_len a n)
    all_idle a zero = refl
    all_idle a (suc n) = ap (λ (cs : List Choice). Idle ∷ cs) (all_idle (a + 1) n)

choice_for-same : (actions : List Action) (action : Action) (e : Element) → is_same e action.element ≡ true → action_for actions e ≡ None → choice_for (actions ++ action ∷ []) e ≡ as_choice action
choice_for-same actions action e same new = rw (action_for-more actions action e, new, same) refl

choice_for-other : (actions : List Action) (action : Action) (e : Element) → is_same e action.element ≡ false → choice_for (actions ++ action ∷ []) e ≡ choice_for actions e
choice_for-other actions action e other = rw (action_for-more actions action e, other) (either (action_for actions e))
  where
    either : (o : Option Action) → option_map_or as_choice (option_or o None) Idle ≡ option_map_or as_choice o Idle
    either None = refl
    either (Some a) = refl

-- one more action of an element that has none
pub choices_for-more : (p : Instance) (actions : List Action) (action : Action) → IsElement p action.element → action_for actions action.element ≡ None
    → slice_set (choices_for p actions) (element_number (inventory_of p) action.element) (as_choice action) ≡ choices_for p (actions ++ action ∷ [])
choices_for-more p actions action there new =
    let k = inventory_of p in
    let i = element_number k action.element in
    let c = as_choice action in
    let long : length (slice_set (choices_for p actions) i c) ≡ element_count k = length-set (choices_for p actions) i c ∙ length-choices_for p actions in
    let within : i < length (choices_for p actions) = omega (arith, element_number-lt k action.element there, length-choices_for p actions) in
    ext_get_or Idle (slice_set (choices_for p actions) i c) (choices_for p (actions ++ action ∷ [])) (long ∙ sym (length-choices_for p (actions ++ action ∷ [])))
    (λ x lt.
    let below : x < element_count k = omega (arith, long) in
    let e = element_at k x in
    ⊎_elim
    (λ (same : x ≡ i).
    let is : e ≡ action.element = ap (element_at k) same ∙ element_at-element_number k action.element there in
    ap (λ y. get_or (slice_set (choices_for p actions) i c) y Idle) same
    ∙ get_or-set_same (choices_for p actions) i c Idle within
    ∙ sym (choices_for-at p (actions ++ action ∷ []) x below ∙ choice_for-same actions action e (ap (λ y. is_same y action.element) is ∙ is_same-self action.element) (ap (action_for actions) is ∙ new)))
    (λ other.
    let apart : is_same e action.element ≡ false = is_same-number k e action.element (IsListed-element_at k x below) there ∙ ap (λ y. y == i) (element_number-element_at k x below) ∙ differ i x other in
    get_or-set_other (choices_for p actions) i x c Idle other
    ∙ choices_for-at p actions x below
    ∙ sym (choices_for-at p (actions ++ action ∷ []) x below ∙ choice_for-other actions action e apart))
    (cases_eq x i))
  where
    differ : (i x : ℕ) → (x ≡ i → ⊥) → (x == i) ≡ false
    differ i x other = grind (arith, common_steps)

-- one more action of a list of elements that differ
pub choices_for-next : (p : Instance) (actions : List Action) (i : ℕ) (d : Action) (choices : List Choice) → AreActions p actions → i < length actions → choices ≡ choices_for p (take i actions)
    → slice_set choices (element_number (inventory_of p) (get_or actions i d).element) (as_choice (get_or actions i d)) ≡ choices_for p (take (i + 1) actions)
choices_for-next p actions i d choices are lt was =
    let a = get_or actions i d in
    let new = apart_at actions i a lt (get_or_default actions i d a lt) are.apart in
    rw (was, take_more actions i d lt) (choices_for-more p (take i actions) a (are.elements i d lt) new)

-- ---- no element has to act that none is of

nothing_found : {A B : Type 0} (f : A → B) (o : Option A) → option_map f o ≡ None → o ≡ None
nothing_found f None h = refl
nothing_found f (Some x) h = absurd (cc)

idle_is_legal : (p : Instance) (e : Element) → (is_idle Idle && not (is_legal p e Idle)) ≡ false → is_legal p e Idle ≡ true
idle_is_legal p e h = by (is_legal p e Idle) h
  where
    by : (b : Bool) → (true && not b) ≡ false → b ≡ true
    by true h = refl
    by false h = absurd (cc)

choice_is_legal : (p : Instance) (actions : List Action) (e : Element) (o : Option Action) → AreActions p actions → action_for actions e ≡ o
    → (is_idle (option_map_or as_choice o Idle) && not (is_legal p e Idle)) ≡ false → IsTrue (is_legal p e (option_map_or as_choice o Idle))
choice_is_legal p actions e None are is free = idle_is_legal p e free
choice_is_legal p actions e (Some action) are is free =
    let f = found (λ a. is_same e a.element) actions action is in
    let same : action.element ≡ e = sym (is_same-equal e action.element f.passes) in
    let legal : IsTrue (is_legal p action.element (as_choice action)) = subst (λ a. IsTrue (is_legal p a.element (as_choice a))) (sym f.is) (are.legal f.place action f.within) in
    subst (λ x. IsTrue (is_legal p x (as_choice action))) same legal

pub plan_is : (p : Instance) (actions : List Action) → AreActions p actions → first_to_act p (choices_for p actions) ≡ None → IsPlanOf p (parted p (choices_for p actions))
unfolding first_to_act
plan_is p actions are none =
    let k = inventory_of p in
    legal_is_plan p (choices_for p actions) (length-choices_for p actions)
    (λ x lt.
    let at = choices_for-at p actions x lt in
    let free : must_act p (choices_for p actions) x ≡ false =
    none_passes (must_act p (choices_for p actions)) (range_with_len 0 (element_count k)) x x (nothing_found (element_at k) _ none) (omega (arith, length-range_with_len 0 (element_count k))) (sym (get_or-range_with_len 0 (element_count k) x x lt ∙ zero-add x)) in
    rw at (choice_is_legal p actions (element_at k x) (action_for actions (element_at k x)) are refl (rw at at free)))
