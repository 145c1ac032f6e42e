-- A yes is sound.
use Rattle.cert_check.proofs.Prelude.{Bool, List, ℕ, IfOk, Option, Result, Ok, Err, subst, sym, bound_of, CheckFault, Choices, Concludes, GoalHolds, Instance, IsHandedIn, IsInstance, IsSound, No, Verdict, Yes, proofs_hold}

pub yes_is_sound : (p : Instance) → IsInstance p → (plan : Option Choices) → IsHandedIn p plan → (strict : Bool) (tells : Type 0) (file : List ℕ) (result : Result Verdict CheckFault) → Concludes p (bound_of p plan) strict tells file result → IfOk result (IsSound p plan)
yes_is_sound p sound plan handed strict tells file (Ok (Yes goal least)) said =
    let h = said.1 in
    record { handed_in = handed; holds = subst (λ o. GoalHolds p plan o goal) (sym h.least_is) (proofs_hold p sound plan handed strict h.steps goal h.proof h.shows) }
yes_is_sound p sound plan handed strict tells file (Ok (No line why)) said = tt
yes_is_sound p sound plan handed strict tells file (Err fault) said = tt
