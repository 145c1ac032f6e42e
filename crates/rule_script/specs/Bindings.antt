-- The values of variables: each name with the list that was bound to it last.
use Rattle.std.specs.Prelude.{ℕ, List, [], ◌∷◌, Option, Some, None, if◌then◌else◌}
use Rattle.std.specs.Str.{bytes_eq}
use Rattle.cluster.specs.declared.ids.Element.{Element}

abbrev pub Bindings : Type 0
Bindings = List (List ℕ × List Element)

-- a variable that is there gets the value, and another one is put at the end
unfoldable pub bind : Bindings → List ℕ → List Element → Bindings
bind [] x v = (x, v) ∷ []
bind (b ∷ bs) x v = if bytes_eq x b.0 then (b.0, v) ∷ bs else b ∷ bind bs x v

-- the value of a variable, if it has one
unfoldable pub lookup : Bindings → List ℕ → Option (List Element)
lookup [] x = None
lookup (b ∷ bs) x = if bytes_eq x b.0 then Some b.1 else lookup bs x

-- one variable has another value for a time, if there is one
abbrev pub bind_own : Bindings → Option (List ℕ × List Element) → Bindings
bind_own env None = env
bind_own env (Some own) = bind env own.0 own.1
