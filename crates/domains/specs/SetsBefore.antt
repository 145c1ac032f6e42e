-- The sets of choices before a change.
use Rattle.std.specs.Prelude.{List, if◌then◌else◌}
use Rattle.cluster.specs.declared.choices.Choice.{Choice}
use Rattle.cluster.specs.declared.ids.Element.{Element}
use Rattle.domains.specs.declared.undo.Before.{Before}
use Rattle.domains.specs.Choices.{DomainView, choices}
use Rattle.domains.specs.Sets.{RegionView, Sets, domain_at, same_element, sets}
use Rattle.domains.specs.Undo.{domain_before}

-- the element x has these choices, the others keep theirs
abbrev pub putting : Element → List Choice → Sets → Sets
putting x cs s e = if same_element e x then cs else s e

-- the sets before a change of x, of which is told what the domain of x was
abbrev pub sets_before : RegionView → Element → Before → DomainView → Sets
sets_before g x before kept = putting x (choices (domain_before before kept (domain_at g x))) (sets g)
