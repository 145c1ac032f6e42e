-- The name of what stands at a place, and of what stands nowhere.
use Rattle.std.proofs.Common.{◌≡◌, ℕ, zero, suc, List, [], ◌∷◌, map, slice_get, slice_index_or, Some, None, refl}
use Rattle.instance_make.specs.Prelude.{Machine, names_of_machines, names_of_nodes}
use Rattle.cluster.specs.declared.nodes.Node.{Node}

at_place : {A : Type 0} (f : A → List ℕ) (xs : List A) (i : ℕ) (x : A) → slice_get xs i ≡ Some x → slice_index_or (map f xs) i [] ≡ f x
at_place f [] i x is = absurd (cc)
at_place f (y ∷ ys) zero x is = cc
at_place f (y ∷ ys) (suc i) x is = at_place f ys i x is

at_none : {A : Type 0} (f : A → List ℕ) (xs : List A) (i : ℕ) → slice_get xs i ≡ None → slice_index_or (map f xs) i [] ≡ []
at_none f [] i is = refl
at_none f (y ∷ ys) zero is = absurd (cc)
at_none f (y ∷ ys) (suc i) is = at_none f ys i is

pub machine_at : (ms : List Machine) (i : ℕ) (m : Machine) → slice_get ms i ≡ Some m → slice_index_or (names_of_machines ms) i [] ≡ m.name
machine_at ms i m is = at_place (λ m. m.name) ms i m is

pub machine_past : (ms : List Machine) (i : ℕ) → slice_get ms i ≡ None → slice_index_or (names_of_machines ms) i [] ≡ []
machine_past ms i is = at_none (λ m. m.name) ms i is

pub node_at : (ns : List Node) (i : ℕ) (n : Node) → slice_get ns i ≡ Some n → slice_index_or (names_of_nodes ns) i [] ≡ n.name
node_at ns i n is = at_place (λ n. n.name) ns i n is

pub node_past : (ns : List Node) (i : ℕ) → slice_get ns i ≡ None → slice_index_or (names_of_nodes ns) i [] ≡ []
node_past ns i is = at_none (λ n. n.name) ns i is

pub ruleset name_rules = (machine_at, machine_past, node_at, node_past)
