-- Names that differ: each of a list is new beside those before and after it.
use Rattle.base.proofs.Public.{◌≡◌, ℕ, ◌≤◌, ◌||◌, Bool, true, false, not, List, [], ◌∷◌, ◌++◌, length, get_or, Option, Some, None, true≢false, refl, sym, ap, ◌∙◌, append_assoc, arith, rules, common_steps, and_parts, nat_list_eq_equiv, length-append, map-append, get_or-append_seam, All-same, list_any-append, list_any_at, list_any_none, fails_before_first, position-Some, All, list_any, position, position_or_len, bytes_eq}
use Rattle.catalogue.specs.Prelude.{are_distinct, Inventory, IsInventory, names_of_machines, names_of_nodes}
use Rattle.cluster.specs.declared.{machines.Machine.Machine, nodes.Node.Node}

-- ---- one item of all

-- what holds of all items holds of each
pub All_at : {X : Type 0} (P : X → Type 0) (all done : List X) (y : X) (rest : List X) → done ++ y ∷ rest ≡ all → All P all → P y
All_at P all done y rest whole h =
    let here : P (get_or (done ++ y ∷ rest) (length done) y) = All-same P (done ++ y ∷ rest) all whole h (length done) y (omega (arith, length-append done (y ∷ rest))) in
    rw (get_or-append_seam done y rest y) at here

-- ---- names that differ

pub apart_before : (xs : List (List ℕ)) (y : List ℕ) (ys : List (List ℕ)) → are_distinct (xs ++ y ∷ ys) ≡ true → list_any (bytes_eq y) xs ≡ false
apart_before [] y ys all = refl
apart_before (x ∷ xs) y ys all =
    let none : list_any (bytes_eq x) (xs ++ y ∷ ys) ≡ false = grind (arith, common_steps) in
    let split : (list_any (bytes_eq x) xs || (bytes_eq x y || list_any (bytes_eq x) ys)) ≡ false = sym (list_any-append (bytes_eq x) xs (y ∷ ys)) ∙ none in
    let here : bytes_eq y x ≡ false = nat_list_eq_equiv.symm y x ∙ middle (list_any (bytes_eq x) xs) (bytes_eq x y) (list_any (bytes_eq x) ys) split in
    let rest : list_any (bytes_eq y) xs ≡ false = apart_before xs y ys (and_parts (not (list_any (bytes_eq x) (xs ++ y ∷ ys))) _ all).1 in
    rw (here, rest) refl
  where
    middle : (a b c : Bool) → (a || (b || c)) ≡ false → b ≡ false
    middle true b c h = absurd (true≢false h)
    middle false true c h = absurd (true≢false h)
    middle false false c h = refl

apart_after : (xs : List (List ℕ)) (y : List ℕ) (ys : List (List ℕ)) → are_distinct (xs ++ y ∷ ys) ≡ true → list_any (bytes_eq y) ys ≡ false
apart_after [] y ys all = grind (arith, common_steps)
apart_after (x ∷ xs) y ys all = apart_after xs y ys (and_parts (not (list_any (bytes_eq x) (xs ++ y ∷ ys))) _ all).1

later_part : (test : List ℕ → Bool) (xs ys : List (List ℕ)) → list_any test (xs ++ ys) ≡ false → list_any test ys ≡ false
later_part test [] ys none = none
later_part test (x ∷ xs) ys none = later_part test xs ys (grind (arith, common_steps))

pub earlier_part : (test : List ℕ → Bool) (xs ys : List (List ℕ)) → list_any test (xs ++ ys) ≡ false → list_any test xs ≡ false
earlier_part test [] ys none = refl
earlier_part test (x ∷ xs) ys none =
    let rest : list_any test xs ≡ false = earlier_part test xs ys (grind (arith, common_steps)) in
    grind (arith, common_steps)

pub position_none : {X : Type 0} (test : X → Bool) (xs : List X) → list_any test xs ≡ false → position test xs ≡ None
position_none {X = X} test [] none = search rules
position_none {X = X} test (x ∷ xs) none = by (position test (x ∷ xs)) refl
  where
    by : (o : Option ℕ) → position test (x ∷ xs) ≡ o → o ≡ None
    by None _ = refl
    by (Some i) is =
        let at = position-Some test (x ∷ xs) i x is in
        absurd (true≢false (sym (list_any_at test (x ∷ xs) i x at.0 at.1) ∙ none))

pub none_at_position : {X : Type 0} (test : X → Bool) (xs : List X) → position test xs ≡ None → list_any test xs ≡ false
none_at_position test xs none =
    let past : length xs ≤ position_or_len test xs = grind (arith, common_steps) in
    list_any_none test xs (λ i d lt. fails_before_first test xs i d (omega arith))

-- ---- the names of a cluster

-- a node's name is not one of the nodes before it
pub node_is_new : (k : Inventory) → IsInventory k → (done : List Node) (x : Node) (rest : List Node) → done ++ x ∷ rest ≡ k.nodes → list_any (bytes_eq x.name) (names_of_nodes done) ≡ false
node_is_new k sound done x rest whole =
    let names : names_of_nodes done ++ x.name ∷ names_of_nodes rest ≡ names_of_nodes k.nodes = sym (map-append (λ n. n.name) done (x ∷ rest)) ∙ ap names_of_nodes whole in
    apart_before (names_of_nodes done) x.name (names_of_nodes rest) (ap are_distinct names ∙ distinct_right (names_of_machines k.machines) (names_of_nodes k.nodes) sound.apart)
  where
    distinct_right : (xs ys : List (List ℕ)) → are_distinct (xs ++ ys) ≡ true → are_distinct ys ≡ true
    distinct_right [] ys all = all
    distinct_right (x ∷ xs) ys all = distinct_right xs ys (and_parts (not (list_any (bytes_eq x) (xs ++ ys))) _ all).1

-- a machine's name is not one of the machines before it, nor of a node
pub machine_is_new : (k : Inventory) → IsInventory k → (done : List Machine) (m : Machine) (rest : List Machine) → done ++ m ∷ rest ≡ k.machines →
    (list_any (bytes_eq m.name) (names_of_machines done) ≡ false) × (list_any (bytes_eq m.name) (names_of_nodes k.nodes) ≡ false)
machine_is_new k sound done m rest whole =
    let names : names_of_machines done ++ m.name ∷ names_of_machines rest ≡ names_of_machines k.machines = sym (map-append (λ m. m.name) done (m ∷ rest)) ∙ ap names_of_machines whole in
    let distinct : are_distinct (names_of_machines done ++ m.name ∷ (names_of_machines rest ++ names_of_nodes k.nodes)) ≡ true =
    ap are_distinct (sym (append_assoc (names_of_machines done) (m.name ∷ names_of_machines rest) (names_of_nodes k.nodes)) ∙ ap (λ (l : List (List ℕ)). l ++ names_of_nodes k.nodes) names) ∙ sound.apart in (
      apart_before (names_of_machines done) m.name (names_of_machines rest ++ names_of_nodes k.nodes) distinct,
      later_part (bytes_eq m.name) (names_of_machines rest) (names_of_nodes k.nodes) (apart_after (names_of_machines done) m.name (names_of_machines rest ++ names_of_nodes k.nodes) distinct),
    )
