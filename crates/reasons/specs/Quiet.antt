-- Helping only: at which instants what is sure in a region can grow.
use Rattle.std.specs.Prelude.{◌≡◌, ◌⊎◌, ◌↔◌, ℕ, ◌≤◌, ◌==◌, [], ◌∷◌, Some}
use Rattle.slices.specs.Prelude.{Instance, IsElement, start_of}
use Rattle.cluster.specs.declared.choices.Choice.{Choice}
use Rattle.cluster.specs.declared.choices.Choice.TheVariants.{Idle}
use Rattle.cluster.specs.declared.ids.Element.{Element}
use Rattle.domains.specs.Sets.{Sets, setting}
use Rattle.reasons.specs.declared.reason.ReasonKind.{ReasonKind}
use Rattle.reasons.specs.Closed.{HaveChoices, IsClosed, IsEnd, IsFree, IsQuietKind, IsUnrefuted}
use Rattle.reasons.specs.Sure.{sure}

-- an element that the instance has not can only stay
abbrev pub AreOf : Instance → Sets → Type 0
AreOf p s = (e : Element) → IsElement p e ⊎ (s e ≡ Idle ∷ [])

-- the instant is the start of an end of an element's choices
pub record IsEndStart (s : Sets) (t : ℕ) : Type 0 where
  pub element : Element
  pub choice : Choice
  pub is_end : IsEnd (s element) choice
  pub starts : start_of choice ≡ Some t

-- the instant is 0, the horizon, or a start of an end: only there can what is sure grow
abbrev pub IsTurn : Instance → Sets → ℕ → Type 0
IsTurn p s t = (t ≡ 0) ⊎ ((t ≡ p.horizon) ⊎ IsEndStart s t)

-- what is free at each turn is free at each instant
abbrev pub TurnsDecide : Type 0
TurnsDecide =
    (p : Instance) (s : Sets) (kind : ReasonKind) → AreOf p s → ((t : ℕ) → t ≤ p.horizon → IsTurn p s t → IsFree p (sure p s t) (t == p.horizon) kind) →
    (t : ℕ) → t ≤ p.horizon → IsFree p (sure p s t) (t == p.horizon) kind

-- at an instant, with any element set to any end of its choices, there is no standard reason of the kind
abbrev pub IsQuietAt : Instance → Sets → ReasonKind → ℕ → Type 0
IsQuietAt p s kind t = (e : Element) (c : Choice) → IsElement p e → IsEnd (s e) c → IsFree p (sure p (setting e c s) t) (t == p.horizon) kind

-- so one pass over the turns decides for all ends
abbrev pub QuietAtTurns : Type 0
QuietAtTurns =
    (p : Instance) (s : Sets) (kind : ReasonKind) → AreOf p s → ((t : ℕ) → t ≤ p.horizon → IsTurn p s t → IsQuietAt p s kind t) → IsQuietKind p s kind

-- sets are closed where each element has a choice and each kind is quiet
abbrev pub ClosedByKinds : Type 0
ClosedByKinds = (p : Instance) (s : Sets) → IsClosed p s ↔ (HaveChoices p s × ((kind : ReasonKind) → IsQuietKind p s kind))

-- so turns decide whether sets are unrefuted, and whether they are closed
abbrev pub UnrefutedAtTurns : Type 0
UnrefutedAtTurns =
    (p : Instance) (s : Sets) → AreOf p s → ((kind : ReasonKind) (t : ℕ) → t ≤ p.horizon → IsTurn p s t → IsFree p (sure p s t) (t == p.horizon) kind) → IsUnrefuted p s

abbrev pub ClosedAtTurns : Type 0
ClosedAtTurns =
    (p : Instance) (s : Sets) → AreOf p s → HaveChoices p s → ((kind : ReasonKind) (t : ℕ) → t ≤ p.horizon → IsTurn p s t → IsQuietAt p s kind t) → IsClosed p s

-- where the instance has an element, a quiet kind has no reason in the sets as they are
abbrev pub QuietIsFree : Type 0
QuietIsFree =
    (p : Instance) (s : Sets) (kind : ReasonKind) (e : Element) → IsElement p e → HaveChoices p s → IsQuietKind p s kind → (t : ℕ) → t ≤ p.horizon →
    IsFree p (sure p s t) (t == p.horizon) kind
