-- What a listing has: each action is one of the plan, and there are no more than elements.
use Rattle.std.proofs.lemmas.List.Sorted.{length_permutation}
use Rattle.base.proofs.Public.{◌≡◌, ℕ, zero, suc, ◌+◌, ◌<◌, ◌≤◌, List, [], ◌∷◌, ◌++◌, length, refl, arith, All, All-append, All-cons, All-nil, All-permutation, flat_map, length-append, range_with_len}
use Rattle.std.specs.List.Sorted.{IsPermutation}
use Rattle.show.specs.Prelude.{acting, action_of, actions_of, Choice, Choices, element_at, element_count, Element, Idle, Act, Instance, inventory_of, IsActionOf}
use Rattle.show.specs.Listing.{action_of as the_action}
use Rattle.show.specs.declared.actions.Action.{Action}

each_below : {A : Type 0} (P : A → Type 0) (f : ℕ → List A) (a n : ℕ) → ((k : ℕ) → a ≤ k → k < a + n → All P (f k)) → All P (flat_map f (range_with_len a n))
each_below P f a zero each = All-nil P
each_below P f a (suc n) each = All-append P (f a) (flat_map f (range_with_len (a + 1) n)) (each a (omega arith) (omega arith)) (each_below P f (a + 1) n (λ k low high. each k (omega arith) (omega arith)))

few_below : {A : Type 0} (f : ℕ → List A) (a n : ℕ) → ((k : ℕ) → length (f k) ≤ 1) → length (flat_map f (range_with_len a n)) ≤ n
few_below f a zero one = omega arith
few_below f a (suc n) one =
    let rest : length (flat_map f (range_with_len (a + 1) n)) ≤ n = few_below f (a + 1) n one in
    omega (arith, length-append (f a) (flat_map f (range_with_len (a + 1) n)), one a)

of_choice : (p : Instance) (plan : Choices) (e : Element) (x : ℕ) (c : Choice) → x < element_count (inventory_of p) → action_of p plan x ≡ acting p e x c → All (IsActionOf p plan) (acting p e x c)
of_choice p plan e x Idle low is = All-nil (IsActionOf p plan)
of_choice p plan e x (Act place start) low is = All-cons (IsActionOf p plan) _ [] (record { number = low; acts = is }) (All-nil (IsActionOf p plan))

of_number : (p : Instance) (plan : Choices) (x : ℕ) → x < element_count (inventory_of p) → All (IsActionOf p plan) (action_of p plan x)
unfolding the_action
of_number p plan x low = of_choice p plan (element_at (inventory_of p) x) x (plan (element_at (inventory_of p) x)) low refl

one_acting : (p : Instance) (e : Element) (x : ℕ) (c : Choice) → length (acting p e x c) ≤ 1
one_acting p e x Idle = omega arith
one_acting p e x (Act place start) = omega arith

one_action : (p : Instance) (plan : Choices) (x : ℕ) → length (action_of p plan x) ≤ 1
unfolding the_action
one_action p plan x = one_acting p (element_at (inventory_of p) x) x (plan (element_at (inventory_of p) x))

-- each action of a listing is one of the plan
pub each_listed : (p : Instance) (plan : Choices) (actions : List Action) → IsPermutation (actions_of p plan) actions → All (IsActionOf p plan) actions
each_listed p plan actions h = All-permutation (IsActionOf p plan) (actions_of p plan) actions h (each_below (IsActionOf p plan) (action_of p plan) 0 (element_count (inventory_of p)) (λ k low high. of_number p plan k (omega arith)))

-- there are no more of them than elements
pub few_listed : (p : Instance) (plan : Choices) (actions : List Action) → IsPermutation (actions_of p plan) actions → length actions ≤ element_count (inventory_of p)
few_listed p plan actions h =
    let few : length (actions_of p plan) ≤ element_count (inventory_of p) = few_below (action_of p plan) 0 (element_count (inventory_of p)) (one_action p plan) in
    omega (arith, few, length_permutation (actions_of p plan) actions h)
