-- What is in a list of elements, and numbers by their places.
use Rattle.std.specs.Prelude.{◌==◌, ℕ, Bool, false, List, slice_get, unwrap_or}
use Rattle.std.specs.List.{list_any}
use Rattle.cluster.specs.declared.ids.Element.{Element}
use Rattle.cluster.specs.declared.ids.Element.TheVariants.{Node, Vm}

abbrev pub is_same : Element → Element → Bool
is_same (Vm v) (Vm w) = v.0 == w.0
is_same (Node n) (Node m) = n.0 == m.0
is_same (Vm v) (Node m) = false
is_same (Node n) (Vm w) = false

unfoldable pub in_list : List Element → Element → Bool
in_list xs e = list_any (is_same e) xs

-- the number at a place; 0 past the end
abbrev pub number_at : List ℕ → ℕ → ℕ
number_at numbers place = unwrap_or (slice_get numbers place) 0
