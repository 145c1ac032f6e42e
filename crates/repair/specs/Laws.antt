-- The laws of what is left of an execution, and of events that are read.
use Rattle.std.specs.Prelude.{◌≡◌, ℕ, ◌<◌, List, IsTrue}
use Rattle.slices.specs.Prelude.{Choices, choices_of, cost_of, host_is_online, Instance, IsInstance, IsPlan, IsPlanOf, IsValid, machine_count, PlanChoices, state_of}
use Rattle.executor.specs.{Phases.Phases, Steps.IsExecution}
use Rattle.repair.specs.Events.{EndsFrom, Point}
use Rattle.repair.specs.Rest.{IsRest, open_cost, rest_choices}
use Rattle.repair.specs.declared.following.Ending.{Ending}

-- ---- what is left: none of these laws says that nothing runs; what runs counts as undone, as what has failed does

-- what is so of all that is left of each execution of a valid plan
abbrev pub OfEachRest : (Instance → Choices → Phases → Instance → Type 0) → Type 0
OfEachRest Claim =
    (p : Instance) → IsInstance p → (plan : PlanChoices) → IsPlanOf p plan → IsValid p (choices_of plan) →
    (phases : Phases) → IsExecution p (choices_of plan) phases → (q : Instance) → IsRest p (choices_of plan) phases q → Claim p (choices_of plan) phases q

-- the choices that are left are legal in the problem that is left
abbrev pub RestIsPlan : Type 0
RestIsPlan = OfEachRest (λ p plan phases q. IsPlan q (rest_choices plan phases))

-- and valid for it, so that it is never infeasible
abbrev pub RestIsValid : Type 0
RestIsValid = OfEachRest (λ p plan phases q. IsValid q (rest_choices plan phases))

-- each of its hosts is online
abbrev pub RestHosts : Type 0
RestHosts = OfEachRest (λ p plan phases q. (v : ℕ) → v < machine_count q → IsTrue (host_is_online q.nodes (state_of q v)))

-- it is sound
abbrev pub RestIsSound : Type 0
RestIsSound = OfEachRest (λ p plan phases q. IsInstance q)

-- the choices that are left cost the sum of the ends of what has not ended
abbrev pub RestCosts : Type 0
RestCosts = (p : Instance) (plan : Choices) (phases : Phases) (q : Instance) → IsRest p plan phases q → cost_of q (rest_choices plan phases) ≡ open_cost p plan phases

-- ---- events that are read

-- two endings of the reading of one text are the same
abbrev pub EndingIsOne : Type 0
EndingIsOne =
    (p : Instance) (plan : Choices) (first : Point) (a b : Ending) (phases phases' : Phases) (rest rest' : List ℕ) →
    EndsFrom p plan first a phases rest → EndsFrom p plan first b phases' rest' → (a ≡ b) × (phases ≡ phases') × (rest ≡ rest')
