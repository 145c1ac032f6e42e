-- Where all are quiet, and each standard kind is covered, the sets are closed.
use Rattle.prop_core.proofs.Prelude.{All, ◌≡◌, true, List, subst, Any-from_list_any, AllQuiet, AllRight, Covered, HaveChoices, Instance, is_covered, IsClosed, IsQuietKind, IsStandard, Meaning, Quiet, ReasonKind, Sets, closed_by_kinds}
use Rattle.reasons.specs.declared.reason.ReasonKind.TheVariants as kind

-- a kind that some propagator covers is quiet where all are
covered-quiet : {B : Type 0} (m : B → Meaning) (p : Instance) (s : Sets) (xs : List B) (k : ReasonKind) → is_covered m xs k ≡ true → All (λ b. AllQuiet p s (m b)) xs → IsQuietKind p s k
covered-quiet {B} m p s xs k some all =
    let a = Any-from_list_any (λ (b : B). (m b).covers k) xs some in
    let quiet : AllQuiet p s (m a.1) = subst (λ (b : B). AllQuiet p s (m b)) a.3 (all a.0 a.1 a.2) in
    quiet.each k a.4

pub closed_when_quiet : {B : Type 0} (m : B → Meaning) (p : Instance) (s : Sets) (xs : List B) → Covered m xs → AllRight m p s xs Quiet → HaveChoices p s → IsClosed p s
closed_when_quiet m p s xs cover all some = (closed_by_kinds p s).1 (some, quiet)
  where
    of : (k : ReasonKind) → IsStandard k → IsQuietKind p s k
    of k is = covered-quiet m p s xs k (cover.each k is) all

    quiet : (k : ReasonKind) → IsQuietKind p s k
    quiet kind.Empty = record { quiet = λ e c there end t l. tt }
    quiet kind.Bound = record { quiet = λ e c there end t l. tt }
    quiet kind.Load = of kind.Load tt
    quiet kind.Pair = of kind.Pair tt
    quiet kind.Place = of kind.Place tt
    quiet kind.Group = of kind.Group tt
    quiet kind.SetLoad = of kind.SetLoad tt
    quiet kind.Power = of kind.Power tt
    quiet kind.Usable = of kind.Usable tt
    quiet kind.Hall = record { quiet = λ e c there end t l. tt }
