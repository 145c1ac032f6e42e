-- An execution has so many steps before it at most.
use Rattle.base.proofs.Public.{◌≡◌, inl, inr, ℕ, ◌+◌, ◌≤◌, length, refl, sym, ap, ◌∙◌, arith, cases_lt, lt-ltb, le-ltb, sum_to-bound, sum_to-change}
use Rattle.base.specs.Sums.{sum_to}
use Rattle.executor.specs.Prelude.{Choices, Element, element_at, element_count, element_number, End, Ended, Fail, Failed, Instance, inventory_of, IsElement, IsInstance, IsStep, Moves, None as NoAction, Phase, Phases, Running, Start, Waiting}
use Rattle.cluster.proofs.Public.{element_at-element_number, element_number-lt}

-- how many steps an action has before it at most
abbrev weight : Phase → ℕ
weight NoAction = 0
weight Waiting = 2
weight Running = 1
weight Ended = 0
weight Failed = 0

abbrev weight_at : Instance → Phases → ℕ → ℕ
weight_at p phases x = weight (phases (element_at (inventory_of p) x))

-- how many steps all actions have before them at most
unfoldable pub steps_left : Instance → Phases → ℕ
steps_left p phases = sum_to (element_count (inventory_of p)) (weight_at p phases)

weight_low : (f : Phase) → weight f ≤ 2
weight_low NoAction = omega arith
weight_low Waiting = omega arith
weight_low Running = omega arith
weight_low Ended = omega arith
weight_low Failed = omega arith

pub few_steps : (p : Instance) → IsInstance p → (phases : Phases) → steps_left p phases ≤ 9216
unfolding steps_left
few_steps p sound phases =
    omega (
      arith,
      sum_to-bound (element_count (inventory_of p)) 2 (weight_at p phases) (λ k low. weight_low (phases (element_at (inventory_of p) k))),
      sound.inventory.few_nodes,
      sound.inventory.few_machines,
    )

-- an element's number is that of its place, whether it is listed or not
number_at : (p : Instance) (x : ℕ) → element_number (inventory_of p) (element_at (inventory_of p) x) ≡ x
number_at p x =
    elim (cases_lt x (length p.machines)) [
      | inl low ↦ rw (lt-ltb x (length p.machines) low) refl
      | inr high ↦ rw (le-ltb x (length p.machines) high) (omega (arith, high))
    ]

moved : (p : Instance) (before after : Phases) (e : Element) (f : Phase) → IsElement p e → Moves before e f after →
    steps_left p after + weight (before e) ≡ steps_left p before + weight f
unfolding steps_left
moved p before after e f listed moves =
    let back : element_at (inventory_of p) (element_number (inventory_of p) e) ≡ e = element_at-element_number (inventory_of p) e listed in
    let change =
    sum_to-change (element_count (inventory_of p)) (weight_at p after) (weight_at p before) (element_number (inventory_of p) e) (element_number-lt (inventory_of p) e listed)
    (λ k n. ap weight (moves.others (element_at (inventory_of p) k) (λ q. n (sym (number_at p k) ∙ ap (element_number (inventory_of p)) q))))
    in
    let then : weight_at p after (element_number (inventory_of p) e) ≡ weight f = ap weight (ap after back ∙ moves.here) in
    let first : weight_at p before (element_number (inventory_of p) e) ≡ weight (before e) = ap weight (ap before back) in
    omega (arith, change, then, first)

-- each event leaves fewer steps
pub start_left : (p : Instance) (plan : Choices) (before after : Phases) (e : Element) → IsElement p e → IsStep p plan before (Start e) after → steps_left p after + 1 ≡ steps_left p before
start_left p plan before after e listed step =
    let waiting : weight (before e) ≡ 2 = ap weight step.0.waiting in
    omega (arith, moved p before after e Running listed step.1, waiting)

pub end_left : (p : Instance) (plan : Choices) (before after : Phases) (e : Element) → IsElement p e → IsStep p plan before (End e) after → steps_left p after + 1 ≡ steps_left p before
end_left p plan before after e listed step =
    let running : weight (before e) ≡ 1 = ap weight step.0 in
    omega (arith, moved p before after e Ended listed step.1, running)

pub fail_left : (p : Instance) (plan : Choices) (before after : Phases) (e : Element) → IsElement p e → IsStep p plan before (Fail e) after → steps_left p after + 1 ≡ steps_left p before
fail_left p plan before after e listed step =
    let running : weight (before e) ≡ 1 = ap weight step.0 in
    omega (arith, moved p before after e Failed listed step.1, running)
