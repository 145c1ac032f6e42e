-- One set of choices for each element: regions, the plans in them, and what holds of all or some choices.
use Rattle.std.specs.Prelude.{◌≡◌, ◌<◌, ◌==◌, Bool, false, List, [], ◌∷◌, filter, length, slice_index_or, slice_set, if◌then◌else◌}
use Rattle.std.specs.List.{list_all, list_any, Contains}
use Rattle.cluster.specs.declared.ids.Element.{Element}
use Rattle.cluster.specs.declared.ids.Element.TheVariants.{Vm, Node}
use Rattle.cluster.specs.declared.choices.Choice.{Choice}
use Rattle.domains.specs.Choices.{DomainView, choices, staying}

-- a set of choices for each element, as a list without an order that matters
abbrev pub Sets : Type 0
Sets = Element → List Choice

-- what a contract sees of a `Region`
pub record RegionView : Type 0 where
  pub machines : List DomainView
  pub nodes : List DomainView

-- the element is one of the region's
abbrev pub HasElement : RegionView → Element → Type 0
HasElement g (Vm v) = v.0 < length g.machines
HasElement g (Node n) = n.0 < length g.nodes

-- an element's domain; one that the region has not can only stay
abbrev pub domain_at : RegionView → Element → DomainView
domain_at g (Vm v) = slice_index_or g.machines v.0 staying
domain_at g (Node n) = slice_index_or g.nodes n.0 staying

-- the sets that a region is
abbrev pub sets : RegionView → Sets
sets g e = choices (domain_at g e)

-- the region after one domain is set
abbrev pub with_domain : RegionView → Element → DomainView → RegionView
with_domain g (Vm v) d = record { machines = slice_set g.machines v.0 d; nodes = g.nodes }
with_domain g (Node n) d = record { machines = g.machines; nodes = slice_set g.nodes n.0 d }

abbrev pub same_element : Element → Element → Bool
same_element (Vm v) (Vm w) = v.0 == w.0
same_element (Vm v) (Node n) = false
same_element (Node m) (Vm w) = false
same_element (Node m) (Node n) = m.0 == n.0

-- the element x keeps the choices that pass a test, the others keep all
abbrev pub keeping : Element → (Choice → Bool) → Sets → Sets
keeping x test s e = if same_element e x then filter test (s e) else s e

-- the element x has one choice alone, the others keep all
abbrev pub setting : Element → Choice → Sets → Sets
setting x c s e = if same_element e x then c ∷ [] else s e

-- so it is under each choice
abbrev pub surely : (Choice → Bool) → List Choice → Bool
surely test cs = list_all test cs

-- so it is under some choice
abbrev pub may : (Choice → Bool) → List Choice → Bool
may test cs = list_any test cs

-- a plan, which has a choice for each element, is in the region
abbrev pub IsIn : Sets → (Element → Choice) → Type 0
IsIn s plan = (e : Element) → Contains (s e) (plan e)

-- and it is the only one
abbrev pub IsOnly : Sets → (Element → Choice) → Type 0
IsOnly s plan = (e : Element) → s e ≡ plan e ∷ []

-- the element has exactly one choice
abbrev pub IsFixedAt : RegionView → Element → Type 0
IsFixedAt g e = length (sets g e) ≡ 1

-- each element of the region has exactly one choice
abbrev pub IsFixed : RegionView → Type 0
IsFixed g = (e : Element) → HasElement g e → IsFixedAt g e

-- elements in their order: machines, and then nodes
abbrev pub ComesBefore : Element → Element → Type 0
ComesBefore (Vm v) (Vm w) = v.0 < w.0
ComesBefore (Vm v) (Node n) = Unit {0}
ComesBefore (Node m) (Vm w) = ⊥
ComesBefore (Node m) (Node n) = m.0 < n.0

-- the element is the first of the region that has not exactly one choice
pub record IsFirstUnfixed (g : RegionView) (x : Element) : Type 0 where
  pub there : HasElement g x
  pub unfixed : ¬ IsFixedAt g x
  pub before : (e : Element) → HasElement g e → ComesBefore e x → IsFixedAt g e
