-- Lists of machines and sets of nodes, one more at a time.
use Rattle.std.proofs.lemmas.List.{append_assoc, append-nil}
use Rattle.base.proofs.Public.{◌≡◌, ℕ, ◌+◌, ◌<◌, ◌||◌, ◌==◌, Bool, true, false, not, List, [], ◌∷◌, ◌++◌, length, nat_lt, refl, sym, ap, ◌∙◌, arith, common_steps, and_from, and_parts, list_all-append, list_any-append, list_all}
use Rattle.instance_json.specs.Prelude.{all_of, are_machines, are_nodes, AreMarked, differ, has_machine, has_node, Inventory, is_member, IsWithin, MachineSet, max_nodes, no_nodes, NodeSet, VmId, with_node}
use Rattle.cluster.proofs.Public.{has_node-no_nodes, has_node-with_node}
use Rattle.catalogue.proofs.Public.{are_nodes-within, IsWithin-are_nodes}

-- one more item that passes
pub list_all_more : {X : Type 0} (p : X → Bool) (xs : List X) (x : X) → list_all p xs ≡ true → p x ≡ true → list_all p (xs ++ x ∷ []) ≡ true
list_all_more p xs x all here = list_all-append p xs (x ∷ []) ∙ and_from _ _ all (and_from _ _ here refl)

-- ---- machines

all_of-more : (ps : List (List VmId)) (vs : List VmId) → all_of (ps ++ vs ∷ []) ≡ all_of ps ++ vs
all_of-more [] vs = append-nil vs
all_of-more (ws ∷ ps) vs = ap (λ (us : List VmId). ws ++ us) (all_of-more ps vs) ∙ sym (append_assoc ws (all_of ps) vs)

either-way : (m n : ℕ) → (m == n) ≡ (n == m)
either-way m n = grind (arith, common_steps)

member-more : (vs : List VmId) (v : VmId) (m : ℕ) → is_member (vs ++ v ∷ []) m ≡ ((m == v.0) || is_member vs m)
member-more vs v m = list_any-append (λ x. x.0 == m) vs (v ∷ []) ∙ turned (is_member vs m) (v.0 == m) (m == v.0) (either-way v.0 m)
  where
    turned : (a b c : Bool) → b ≡ c → (a || (b || false)) ≡ (c || a)
    turned true true c h = sym (ap (λ d. d || true) (sym h))
    turned true false c h = sym (ap (λ d. d || true) (sym h))
    turned false true c h = sym (ap (λ d. d || false) (sym h))
    turned false false c h = sym (ap (λ d. d || false) (sym h))

differ-more : (vs : List VmId) (v : VmId) → differ vs ≡ true → is_member vs v.0 ≡ false → differ (vs ++ v ∷ []) ≡ true
differ-more [] v all new = refl
differ-more (x ∷ xs) v all new =
    let apart : (x.0 == v.0) ≡ false = grind (arith, common_steps) in
    let later : is_member xs v.0 ≡ false = grind (arith, common_steps) in
    let parts = and_parts (not (is_member xs x.0)) _ all in
    and_from _ _ (ap not (member-more xs v x.0) ∙ fresh (x.0 == v.0) (is_member xs x.0) apart parts.0) (differ-more xs v parts.1 later)
  where
    fresh : (a b : Bool) → a ≡ false → not b ≡ true → not (a || b) ≡ true
    fresh a b h k = rw h k

-- one more machine is marked
pub AreMarked-push : (s t : MachineSet) (vs ws : List VmId) (v : VmId) → AreMarked s (vs ++ ws) → is_member (vs ++ ws) v.0 ≡ false
    → ((m : ℕ) → has_machine t m ≡ ((m == v.0) || has_machine s m)) → AreMarked t (vs ++ (ws ++ v ∷ []))
AreMarked-push s t vs ws v old new marks = rw (← append_assoc vs ws (v ∷ [])) (record {
  same = λ m. marks m ∙ ap (λ b. (m == v.0) || b) (old.same m) ∙ sym (member-more (vs ++ ws) v m);
  apart = differ-more (vs ++ ws) v old.apart new;
})

-- a list is done
pub AreMarked-close : (s : MachineSet) (ps : List (List VmId)) (vs : List VmId) → AreMarked s (all_of ps ++ vs) → AreMarked s (all_of (ps ++ vs ∷ []) ++ [])
AreMarked-close s ps vs old = rw (append-nil (all_of (ps ++ vs ∷ [])), all_of-more ps vs) old

-- one more list of listed machines
pub are_machines-part : (k : Inventory) (ps : List (List VmId)) (vs : List VmId) → are_machines k (all_of ps) ≡ true → are_machines k vs ≡ true → are_machines k (all_of (ps ++ vs ∷ [])) ≡ true
are_machines-part k ps vs old new =
    ap (are_machines k) (all_of-more ps vs) ∙ list_all-append (λ (x : VmId). nat_lt x.0 (length k.machines)) (all_of ps) vs ∙ and_from _ _ old new

pub ruleset part_rules = (are_machines-part)

-- ---- nodes

pub are_nodes-none : (k : Inventory) → are_nodes k no_nodes ≡ true
are_nodes-none k = sym (are_nodes-within k no_nodes true (λ _ m past. has_node-no_nodes m, λ _. refl))

pub are_nodes-with : (k : Inventory) (s : NodeSet) (n : ℕ) → n < max_nodes → n < length k.nodes → are_nodes k s ≡ true → are_nodes k (with_node s n) ≡ true
are_nodes-with k s n small below old = sym (are_nodes-within k (with_node s n) true (λ _. within, λ _. refl))
  where
    within : IsWithin (with_node s n) (length k.nodes)
    within m past =
        let apart : (m == n) ≡ false = grind (arith, common_steps) in
        has_node-with_node s n m small ∙ ap (λ b. b || has_node s m) apart ∙ IsWithin-are_nodes k s old m past

pub ruleset set_rules = (are_nodes-none, are_nodes-with)
