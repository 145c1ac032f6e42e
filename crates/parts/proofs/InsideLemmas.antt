-- All that a joint constraint names is in its home part.
use Rattle.std.proofs.Common.{IsTrue, slice_get, slice_index_or}
use Rattle.base.proofs.Public.{◌≡◌, inl, inr, ℕ, zero, suc, ◌<◌, Bool, true, false, not, ◌==◌, ◌&&◌, List, [], ◌∷◌, length, Option, None, Some, unwrap_or, refl, sym, ap, subst, ◌∙◌, and_from, and_parts, arith, cases_Bool, cases_lt, eq-eqb, eqb-true, false≢true, get_or_from_slice_get, list_all, list_any, or_left, or_right, range_with_len, slice_get_within}
use Rattle.cluster.specs.declared.ids.VmId.{VmId}
use Rattle.cluster.specs.declared.sets.NodeSet.{NodeSet}
use Rattle.catalogue.specs.Prelude.{are_named_machines, are_named_nodes, are_nodes, differ, has_node, Instance, Inventory, inventory_of, is_fitting, is_named_resource, is_rule, machines_in}
use Rattle.catalogue.specs.declared.constraint.Constraint.{Constraint}
use Rattle.catalogue.specs.declared.constraint.Constraint.TheVariants.{Spread, Ban, Fence, Gather, Lonely, Among, Split as SplitOf, Root, Precedence, Serialize, Preserve, ResourceCapacity, RunningCapacity, MaxOnline, Overbook, Online, Offline, Running as WantedRunning, Sleeping as WantedSleeping, Ready as WantedReady, Killed}
use Rattle.catalogue.proofs.Public.{IsWithin-are_nodes}
use Rattle.slices.specs.Elements.{node_count}
use Rattle.slices.specs.Forms.{form_of, members}
use Rattle.slices.specs.Holds.{IsMember}
use Rattle.slices.proofs.Public.{sound_form}
use Rattle.parts.specs.Groups.{first_group, has_some, in_group, machine_group}
use Rattle.parts.specs.Laws.{Split}
use Rattle.parts.specs.Parts.{in_part}
use Rattle.parts.specs.Splits.{home, is_joint, joint_sets, names, spans}
use Rattle.parts.proofs.FindLemmas.{any_passes, found, none_at}
use Rattle.parts.proofs.SplitLemmas.{covered, group_in, whole}
use Rattle.parts.proofs.ViewLemmas.{IsInside}

-- the joint sets of a constraint without a fault have listed nodes alone
sets_listed : (k : Inventory) (c : Constraint) → are_named_nodes k c ≡ true → list_all (are_nodes k) (joint_sets (form_of c)) ≡ true
sets_listed k (Spread vs b) named = refl
sets_listed k (Ban vs ns b) named = refl
sets_listed k (Fence vs ns b) named = refl
sets_listed k (Gather vs b) named = refl
sets_listed k (Lonely vs b) named = refl
sets_listed k (Among vs sets b) named = named
sets_listed k (SplitOf parts b) named = refl
sets_listed k (Root vs) named = refl
sets_listed k (Precedence before after) named = refl
sets_listed k (Serialize vs) named = refl
sets_listed k (Preserve vs r amount) named = refl
sets_listed k (ResourceCapacity ns r amount b) named = and_from _ _ named refl
sets_listed k (RunningCapacity ns amount b) named = and_from _ _ named refl
sets_listed k (MaxOnline ns amount b) named = and_from _ _ named refl
sets_listed k (Overbook ns r num den) named = refl
sets_listed k (Online ns) named = refl
sets_listed k (Offline ns) named = refl
sets_listed k (WantedRunning vs) named = refl
sets_listed k (WantedSleeping vs) named = refl
sets_listed k (WantedReady vs) named = refl
sets_listed k (Killed vs) named = refl

named_nodes : (k : Inventory) (c : Constraint) → is_rule k c ≡ true → are_named_nodes k c ≡ true
named_nodes k c rule = by (are_named_machines k c) (are_named_nodes k c) (is_named_resource k c) (differ (machines_in c)) (is_fitting c) rule
  where
    by : (a b x y z : Bool) → (a && b && x && y && z) ≡ true → b ≡ true
    by true true x y z h = refl
    by true false x y z h = absurd (false≢true h)
    by false b x y z h = absurd (false≢true h)

-- an item at a place passes what all items pass
each_item : {A : Type 0} (test : A → Bool) (xs : List A) (c : ℕ) (d : A) → list_all test xs ≡ true → c < length xs → test (slice_index_or xs c d) ≡ true
each_item test [] c d all l = absurd (omega arith)
each_item test (x ∷ xs) zero d all l = (and_parts (test x) (list_all test xs) all).0
each_item test (x ∷ xs) (suc c) d all l = each_item test xs c d (and_parts (test x) (list_all test xs) all).1 (omega arith)

-- a test that implies another
any_implied : {A : Type 0} (few many : A → Bool) → ((x : A) → few x ≡ true → many x ≡ true) → (xs : List A) → list_any few xs ≡ true → list_any many xs ≡ true
any_implied few many implies [] any = any
any_implied few many implies (x ∷ xs) any =
    elim (cases_Bool (few x)) [
      | inl pass ↦ or_left (many x) _ (implies x pass)
      | inr fail ↦ let later : list_any few xs ≡ true = rw fail at any in or_right (many x) _ (any_implied few many implies xs later)
    ]

-- one item that passes
any_item : {A : Type 0} (test : A → Bool) (xs : List A) (c : ℕ) (x : A) → c < length xs → slice_index_or xs c x ≡ x → test x ≡ true → list_any test xs ≡ true
any_item test [] c x l at pass = absurd (omega arith)
any_item test (y ∷ xs) zero x l at pass = or_left (test y) _ (ap test at ∙ pass)
any_item test (y ∷ xs) (suc c) x l at pass = or_right (test y) _ (any_item test xs c x (omega arith) at pass)

module _ (p : Instance) (groups : List NodeSet) (split : Split p groups) (c : ℕ) (x : Constraint) (at : slice_get p.constraints c ≡ Some x) (joint : is_joint (form_of x) ≡ true) where
  rule : is_rule (inventory_of p) x ≡ true
  rule =
      let l : c < length p.constraints = slice_get_within p.constraints c x at in
      subst (λ (y : Constraint). is_rule (inventory_of p) y ≡ true) (get_or_from_slice_get p.constraints c x x at) (split.sound.rules c x l)

  no_span : spans p groups (form_of x) ≡ false
  no_span = none_at (λ y. spans p groups (form_of y)) p.constraints (whole p groups split).spanning c x at

  -- each group that it names is its home
  named_home : (i : ℕ) → i < length groups → names p groups (form_of x) i ≡ true → i ≡ home p groups (form_of x)
  named_home i l named =
      elim (cases_Bool (i == home p groups (form_of x))) [
        | inl same ↦ eqb-true _ _ same
        | inr other ↦
            let test : ℕ → Bool = λ j. names p groups (form_of x) j && not (j == home p groups (form_of x)) in
            let any : list_any (λ j. names p groups (form_of x) j && not (j == home p groups (form_of x))) (range_with_len 0 (length groups)) ≡ true =
            any_passes (λ j. names p groups (form_of x) j && not (j == home p groups (form_of x))) 0 (length groups) i (record { passes = and_from _ _ named (ap not other); low = omega arith; high = omega (arith, l) }) in
            absurd (false≢true (sym no_span ∙ and_from _ _ joint any))
      ]

  -- its home is a group
  pub home_in : home p groups (form_of x) < length groups
  home_in = by (first_group groups (names p groups (form_of x))) refl
    where
      by : (o : Option ℕ) → first_group groups (names p groups (form_of x)) ≡ o → unwrap_or o 0 < length groups
      by None e = split.are_groups.some
      by (Some i) e = omega (arith, (found (names p groups (form_of x)) 0 (length groups) i e).high)

  pub inside_home : IsInside p (in_part p groups (home p groups (form_of x))) (in_group groups (home p groups (form_of x))) (form_of x)
  inside_home = record {
    listed = (sound_form p x rule).listed;
    machines = machines_home;
    nodes = nodes_home;
  }
    where
      machines_home : (v : ℕ) → IsMember (members (form_of x)) v → IsTrue (in_part p groups (home p groups (form_of x)) v)
      machines_home v member =
          let named : list_any (λ (w : VmId). machine_group p groups w.0 == machine_group p groups v) (members (form_of x)) ≡ true =
          any_implied (λ (w : VmId). w.0 == v) (λ (w : VmId). machine_group p groups w.0 == machine_group p groups v) (λ w same. eq-eqb _ _ (ap (machine_group p groups) (eqb-true w.0 v same))) (members (form_of x)) member in
          eq-eqb _ _ (named_home (machine_group p groups v) (group_in p groups split v) (or_left _ (list_any (has_some p groups (machine_group p groups v)) (joint_sets (form_of x))) named))

      nodes_home : (set : NodeSet) (place : ℕ) → place < length (joint_sets (form_of x)) → slice_index_or (joint_sets (form_of x)) place set ≡ set → (n : ℕ) → IsTrue (has_node set n) → IsTrue (in_group groups (home p groups (form_of x)) n)
      nodes_home set place l here n has =
          let listed : are_nodes (inventory_of p) set ≡ true = subst (λ (s : NodeSet). are_nodes (inventory_of p) s ≡ true) here (each_item (are_nodes (inventory_of p)) (joint_sets (form_of x)) place set (sets_listed (inventory_of p) x (named_nodes (inventory_of p) x rule)) l) in
          let below : n < node_count p = elim (cases_lt n (node_count p)) [ inl low ↦ low | inr past ↦ absurd (false≢true (sym (IsWithin-are_nodes (inventory_of p) set listed n past) ∙ has)) ] in
          let g = covered p groups split n below in
          let in_g = found (λ j. in_group groups j n) 0 (length groups) g.0 g.1 in
          let some : has_some p groups g.0 set ≡ true = any_passes (λ m. has_node set m && in_group groups g.0 m) 0 (node_count p) n (record { passes = and_from _ _ has in_g.passes; low = omega arith; high = omega (arith, below) }) in
          let named : names p groups (form_of x) g.0 ≡ true = or_right (list_any (λ (w : VmId). machine_group p groups w.0 == g.0) (members (form_of x))) _ (any_item (has_some p groups g.0) (joint_sets (form_of x)) place set l here some) in
          subst (λ (j : ℕ). IsTrue (in_group groups j n)) (named_home g.0 (omega (arith, in_g.high)) named) in_g.passes
