-- What a printed plan is made of.
use Rattle.base.proofs.Public.{◌≡◌, ℕ, zero, suc, ◌+◌, List, ◌++◌, false, Option, Some, None, refl, flat_map, range_with_len}
use Rattle.plan_json.specs.Prelude.{Act, action_data, actions_data, At, Choice, choice_data, choices_of, Element, element_at, element_count, element_data, Idle, Instance, inventory_of, Nowhere, plan_data, PlanChoices}
use Rattle.serde_json.specs.Data.{Data}
use Rattle.serde_json.specs.View.{items_of}
use Rattle.serde_json.specs.Written.{has_float, items_have_float}

-- ---- no floats

plain_choice : (p : Instance) (e : Element) (c : Choice) (rest : List Data) → items_have_float (items_of rest) ≡ false → items_have_float (items_of (choice_data p e c ++ rest)) ≡ false
unfolding action_data
plain_choice p e Idle rest h = h
plain_choice p e (Act Nowhere start) rest h = h
plain_choice p e (Act (At n) start) rest h = h

plain_choices : (p : Instance) (plan : PlanChoices) (a n : ℕ) → items_have_float (items_of (flat_map (element_data p plan) (range_with_len a n))) ≡ false
plain_choices p plan a zero = refl
plain_choices p plan a (suc n) =
    plain_choice p (element_at (inventory_of p) a) (choices_of plan (element_at (inventory_of p) a)) (flat_map (element_data p plan) (range_with_len (a + 1) n)) (plain_choices p plan (a + 1) n)

pub plain_plan : (p : Instance) (plan : Option PlanChoices) → has_float (plan_data p plan) ≡ false
unfolding plan_data actions_data
plain_plan p None = refl
plain_plan p (Some plan) = rw (plain_choices p plan 0 (element_count (inventory_of p))) refl
