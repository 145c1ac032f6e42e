-- Equal elements, and the action that is found for one.
use Rattle.std.proofs.Common.{if◌then◌else◌}
use Rattle.base.proofs.Public.{◌≡◌, ℕ, zero, suc, ◌+◌, ◌<◌, ◌||◌, ◌==◌, Bool, true, false, List, [], ◌∷◌, ◌++◌, length, get_or, Option, Some, None, is_some, ◌⊎◌, inl, inr, refl, sym, ap, ◌∙◌, arith, common_steps, eqb-true, eq-eqb, find-append, find, option_or, same_either_way}
use Rattle.plan_json.specs.Prelude.{Action, action_for, Element, element_number, Inventory, is_same, IsListed, Node, Vm}

-- ---- elements

pub is_same-self : (e : Element) → is_same e e ≡ true
is_same-self (Vm v) = eq-eqb v.0 v.0 refl
is_same-self (Node n) = eq-eqb n.0 n.0 refl

pub is_same-turned : (e f : Element) → is_same e f ≡ is_same f e
is_same-turned (Vm v) (Vm w) = same_either_way v.0 w.0
is_same-turned (Vm v) (Node n) = refl
is_same-turned (Node n) (Vm v) = refl
is_same-turned (Node m) (Node n) = same_either_way m.0 n.0

pub is_same-equal : (e f : Element) → is_same e f ≡ true → e ≡ f
is_same-equal (Vm v) (Vm w) h = ap (λ x. Vm (record { 0 = x })) (eqb-true v.0 w.0 h)
is_same-equal (Vm v) (Node n) h = absurd (cc)
is_same-equal (Node n) (Vm v) h = absurd (cc)
is_same-equal (Node m) (Node n) h = ap (λ x. Node (record { 0 = x })) (eqb-true m.0 n.0 h)

-- elements are the same where their numbers are
pub is_same-number : (k : Inventory) (e f : Element) → IsListed k e → IsListed k f → is_same e f ≡ (element_number k e == element_number k f)
is_same-number k (Vm v) (Vm w) a b = refl
is_same-number k (Vm v) (Node n) a b = grind (arith, common_steps)
is_same-number k (Node n) (Vm v) a b = grind (arith, common_steps)
is_same-number k (Node m) (Node n) a b = grind (arith, common_steps)

-- ---- actions

-- one more action is found where no other is
pub action_for-more : (actions : List Action) (action : Action) (e : Element)
    → action_for (actions ++ action ∷ []) e ≡ option_or (action_for actions e) (if is_same e action.element then Some action else None)
action_for-more actions action e = find-append (λ a. is_same e a.element) actions (action ∷ [])

pub none_of : {A : Type 0} (o : Option A) → is_some o ≡ false → o ≡ None
none_of None h = refl
none_of (Some x) h = absurd (cc)

found-more : {A : Type 0} (o : Option A) (b : Bool) (x : A) → is_some (option_or o (if b then Some x else None)) ≡ (b || is_some o)
found-more None true x = refl
found-more None false x = refl
found-more (Some y) true x = refl
found-more (Some y) false x = refl

pub has-more : (actions : List Action) (action : Action) (e : Element) → is_some (action_for (actions ++ action ∷ []) e) ≡ (is_same e action.element || is_some (action_for actions e))
has-more actions action e = ap is_some (action_for-more actions action e) ∙ found-more (action_for actions e) (is_same e action.element) action

if_none : {A : Type 0} (b : Bool) (x : A) (rest : Option A) → (if b then Some x else rest) ≡ None → (b ≡ false) × (rest ≡ None)
if_none true x rest h = absurd (cc)
if_none false x rest h = (refl, h)

pub if_some : {A : Type 0} (b : Bool) (x y : A) (rest : Option A) → (if b then Some x else rest) ≡ Some y → ((b ≡ true) × (x ≡ y)) ⊎ (rest ≡ Some y)
if_some true x y rest h = inl (refl, cc)
if_some false x y rest h = inr h

-- where none is found, none passes
pub none_passes : {A : Type 0} (p : A → Bool) (xs : List A) (i : ℕ) (x : A) → find p xs ≡ None → i < length xs → x ≡ get_or xs i x → p x ≡ false
none_passes p [] i x none lt is = absurd (omega arith)
none_passes p (y ∷ ys) zero x none lt is = ap p is ∙ (if_none (p y) y (find p ys) none).0
none_passes p (y ∷ ys) (suc i) x none lt is = none_passes p ys i x (if_none (p y) y (find p ys) none).1 (omega arith) is

-- what is found passes, and stands in the list
pub record IsFound {A : Type 0} (p : A → Bool) (xs : List A) (x : A) : Type 0 where
  pub passes : p x ≡ true
  pub place : ℕ
  pub within : place < length xs
  pub is : x ≡ get_or xs place x

pub found : {A : Type 0} (p : A → Bool) (xs : List A) (x : A) → find p xs ≡ Some x → IsFound p xs x
found p [] x h = absurd (cc)
found p (y ∷ ys) x h =
    elim (if_some (p y) y x (find p ys) h) [
      | inl here ↦ record { passes = ap p (sym here.1) ∙ here.0; place = 0; within = omega arith; is = sym here.1 }
      | inr later ↦ let r = found p ys x later in record { passes = r.passes; place = suc r.place; within = omega (arith, r.within); is = r.is }
    ]
