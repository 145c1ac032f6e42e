-- Helping only: what a table of names finds.
use Rattle.std.specs.Prelude.{ℕ, List, Option, Vec}
use Rattle.std.specs.HashMap.{HashMap, get_by}
use Rattle.std.specs.Str.{bytes_eq}
use Rattle.cluster.specs.declared.ids.Element.{Element}

-- the element that stands under a name
abbrev pub at_name : {Y S : Type 0} → HashMap (Vec ℕ Y) Element S → List ℕ → Option Element
at_name by_name name = get_by (λ k. bytes_eq name k.items) by_name
