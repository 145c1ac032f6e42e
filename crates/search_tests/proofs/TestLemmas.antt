-- What the propagator of the tests answers.
use Rattle.std.proofs.Common.{◌≢◌, true, List, [], ◌∷◌, None, refl}
use Rattle.std.specs.List.{Contains, filter}
use Rattle.cluster.specs.declared.choices.Choice.{Choice}
use Rattle.cluster.specs.declared.ids.Element.{Element}
use Rattle.catalogue.specs.Instance.{Instance, IsElement}
use Rattle.domains.specs.declared.parts.Part.{Part}
use Rattle.domains.specs.Parts.{in_part}
use Rattle.domains.specs.Sets.{Sets, keeping}
use Rattle.domains.proofs.Public.{contains_here, filter_contains}
use Rattle.reasons.specs.declared.reason.Reason.{Reason}
use Rattle.reasons.specs.Closed.{IsClosed}
use Rattle.reasons.specs.Reasons.{Refutes}
use Rattle.reasons.proofs.Public.{closed_by_kinds}
use Rattle.prop_core.specs.Propagators.{AllQuiet, CutHolds, MayAnswer}
use Rattle.prop_core.specs.Tests.{keeps_nothing}

pub quiet_of : (p : Instance) (s : Sets) → IsClosed p s → AllQuiet p s (keeps_nothing 0 0 true)
quiet_of p s closed = record { each = λ k _. ((closed_by_kinds p s).0 closed).1 k }

some_choice : (cs : List Choice) → cs ≢ [] → (c : Choice) × Contains cs c
some_choice [] some = absurd (some refl)
some_choice (c ∷ cs) some = (c, contains_here c cs)

pub cut_of : (p : Instance) (s : Sets) (x : Element) (part : Part) (reason : Reason) → IsElement p x → MayAnswer reason → filter (in_part part) (s x) ≢ [] → Refutes p None (keeping x (in_part part) s) reason → CutHolds p s x part reason
cut_of p s x part reason there may some refuted =
    let one = some_choice (filter (in_part part) (s x)) some in
    let held = filter_contains (in_part part) (s x) one.0 one.1 in
    record { exists = there; held = (one.0, held.0, held.1); may = may; refuted = refuted }
