-- The watches of rules over constraints.
use Rattle.std.specs.Prelude.{◌⊎◌, ℕ, Bool, true, false, List, length, slice_get, Option, Some, None}
use Rattle.rule_constraint.specs.Words.{AreFewer, Choice, Element, Instance, IsStill, nothing, rule_watch, Sets, StaysClean, Watch, Constraint, ReasonKind}
use Rattle.rule_constraint.specs.Given.{reason_kind}

-- nothing breaks it
abbrev pub no_watch : Watch
no_watch = record { scope = nothing; broken = λ s last. ⊥ }

abbrev pub choose : Bool → Watch → Watch → Watch
choose true a b = a
choose false a b = b

-- there is a kind, and it passes
abbrev pub passes : (ReasonKind → Bool) → Option ReasonKind → Bool
passes kinds None = false
passes kinds (Some kind) = kinds kind

-- a constraint, where it gives reasons of the kinds that pass
abbrev pub kept_watch : (ReasonKind → Bool) → Instance → Option Constraint → Watch
kept_watch kinds p None = no_watch
kept_watch kinds p (Some k) = choose (passes kinds (reason_kind k)) (rule_watch p k) no_watch

-- a watch for each constraint, by its number
abbrev pub watch_at : (ReasonKind → Bool) → Instance → ℕ → Watch
watch_at kinds p i = kept_watch kinds p (slice_get p.constraints i)

-- whatever choices x had besides, those that it has now weigh no more on the watch, or leave it clean where it was
abbrev pub IsHarmless : Watch → Instance → Sets → Element → Type 0
IsHarmless w p s x = (old : List Choice) → AreFewer (s x) old → IsStill p w.scope x old (s x) ⊎ StaysClean w p s x old

-- so it is of the constraint of a number
abbrev pub IsSpared : (ReasonKind → Bool) → Instance → Sets → Element → ℕ → Type 0
IsSpared kinds p s x c = IsHarmless (watch_at kinds p c) p s x

abbrev pub watch_count : Instance → ℕ
watch_count p = length p.constraints
