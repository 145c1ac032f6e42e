-- What is cut down names the same machines and nodes, by their new numbers, and says the same of them.
use Rattle.std.proofs.Common.{IsTrue}
use Rattle.std.specs.List.{filter}
use Rattle.base.proofs.Public.{◌≡◌, inl, inr, ℕ, ◌<◌, ◌≤◌, Bool, true, false, ◌==◌, ◌&&◌, ◌||◌, List, [], ◌∷◌, length, map, nat_lt, Option, refl, sym, ap, ap₂, ◌∙◌, arith, all_pass, and_from, and_parts, cases_Bool, eq-eqb, eqb-true, false≢true, fold, list_all, list_any, lt-ltb, ltb-true, ne_eqb, or-false, range_with_len}
use Rattle.cluster.proofs.Public.{has_node-no_nodes, has_node-with_node}
use Rattle.cluster.specs.declared.ids.VmId.{VmId}
use Rattle.cluster.specs.declared.sets.NodeSet.{NodeSet}
use Rattle.catalogue.specs.Prelude.{has_node, is_continuous, is_member, limit_with, machine_wish_with, max_nodes, no_nodes, node_wish_with, preserved_with, with_node}
use Rattle.catalogue.specs.declared.constraint.Constraint.{Constraint}
use Rattle.catalogue.specs.declared.constraint.Constraint.TheVariants.{Spread, Ban, Fence, Gather, Lonely, Among, Split, Root, Precedence, Serialize, Preserve, ResourceCapacity, RunningCapacity, MaxOnline, Overbook, Online, Offline, Running as WantedRunning, Sleeping as WantedSleeping, Ready as WantedReady, Killed}
use Rattle.catalogue.specs.declared.targets.Wish.{Wish}
use Rattle.slices.specs.Forms.{form_of}
use Rattle.parts.specs.Cuts.{cut_constraint, cut_machines, cut_nodes}
use Rattle.parts.proofs.CutForms.{cut_form}
use Rattle.parts.specs.Numbers.{new_number, old_number, passing}
use Rattle.parts.specs.Splits.{is_joint}
use Rattle.parts.proofs.FindLemmas.{any_passes, which_passes}
use Rattle.parts.proofs.NumberLemmas.{is_new, new_in, new-le, new_old, old_in, old_new, old_passes}

-- ---- machines

-- a list has a machine, by its new number
pub member_agrees : (mine : ℕ → Bool) (n k : ℕ) → k < length (passing mine n) → (vs : List VmId) → is_member (cut_machines mine vs) k ≡ is_member vs (old_number mine n k)
member_agrees mine n k l [] = refl
member_agrees mine n k l (w ∷ vs) =
    let later = member_agrees mine n k l vs in
    elim (cases_Bool (mine w.0)) [
      | inl pass ↦ rw pass (ap₂ (λ (a b : Bool). a || b) (is_new mine n k w.0 l pass) later)
      | inr fail ↦ rw (fail, other w fail) later
    ]
  where
    other : (w : VmId) → mine w.0 ≡ false → (w.0 == old_number mine n k) ≡ false
    other w fail = ne_eqb _ _ (λ same. false≢true (sym fail ∙ ap mine same ∙ old_passes mine n k l))

-- ---- nodes

-- the nodes of a set that is made of a list of nodes
set_has : (s : NodeSet) (ns : List ℕ) → list_all (λ n. nat_lt n max_nodes) ns ≡ true → (m : ℕ) → has_node (fold with_node s ns) m ≡ (has_node s m || list_any (λ n. m == n) ns)
set_has s [] all m = sym (or-false (has_node s m))
set_has s (n ∷ ns) all m =
    let sides = and_parts (nat_lt n max_nodes) (list_all (λ n. nat_lt n max_nodes) ns) all in
    set_has (with_node s n) ns sides.1 m
    ∙ ap (λ (b : Bool). b || list_any (λ n. m == n) ns) (has_node-with_node s n m (ltb-true n max_nodes sides.0))
    ∙ turned (m == n) (has_node s m) (list_any (λ n. m == n) ns)
  where
    turned : (a b c : Bool) → ((a || b) || c) ≡ (b || (a || c))
    turned true true c = refl
    turned true false c = refl
    turned false b c = refl

-- what is kept and gets other numbers
any_kept : (number : ℕ → ℕ) (keep : ℕ → Bool) (test : ℕ → Bool) (xs : List ℕ) → list_any test (map number (filter keep xs)) ≡ list_any (λ x. keep x && test (number x)) xs
any_kept number keep test [] = refl
any_kept number keep test (x ∷ xs) =
    elim (cases_Bool (keep x)) [
      | inl pass ↦ rw (pass, any_kept number keep test xs) refl
      | inr fail ↦ rw (fail, any_kept number keep test xs) refl
    ]

any_filtered : (keep : ℕ → Bool) (test : ℕ → Bool) (xs : List ℕ) → list_any test (filter keep xs) ≡ list_any (λ x. keep x && test x) xs
any_filtered keep test [] = refl
any_filtered keep test (x ∷ xs) =
    elim (cases_Bool (keep x)) [
      | inl pass ↦ rw (pass, any_filtered keep test xs) refl
      | inr fail ↦ rw (fail, any_filtered keep test xs) refl
    ]

all_kept : (number : ℕ → ℕ) → ((x : ℕ) → number x ≤ x) → (keep : ℕ → Bool) (bound : ℕ) (xs : List ℕ) → list_all (λ x. nat_lt x bound) xs ≡ true → list_all (λ x. nat_lt x bound) (map number (filter keep xs)) ≡ true
all_kept number less keep bound [] all = refl
all_kept number less keep bound (x ∷ xs) all =
    let sides = and_parts (nat_lt x bound) (list_all (λ x. nat_lt x bound) xs) all in
    let later = all_kept number less keep bound xs sides.1 in
    elim (cases_Bool (keep x)) [
      | inl pass ↦ rw pass (and_from _ _ (lt-ltb _ _ (omega (arith, less x, ltb-true x bound sides.0))) later)
      | inr fail ↦ rw fail later
    ]

pub all_filtered : (keep test : ℕ → Bool) (xs : List ℕ) → list_all test xs ≡ true → list_all test (filter keep xs) ≡ true
all_filtered keep test [] all = refl
all_filtered keep test (x ∷ xs) all =
    let sides = and_parts (test x) (list_all test xs) all in
    let later = all_filtered keep test xs sides.1 in
    elim (cases_Bool (keep x)) [
      | inl pass ↦ rw pass (and_from _ _ sides.0 later)
      | inr fail ↦ rw fail later
    ]

-- two tests that imply each other
pub same_tests : (a b : Bool) → (IsTrue a → IsTrue b) → (IsTrue b → IsTrue a) → a ≡ b
same_tests true true f g = refl
same_tests true false f g = absurd (false≢true (f refl))
same_tests false true f g = absurd (false≢true (g refl))
same_tests false false f g = refl

module _ (ours : ℕ → Bool) (count : ℕ) (few : count ≤ max_nodes) (set : NodeSet) where
  -- whether m is the new number of a node of the set
  is_cut : ℕ → ℕ → Bool
  is_cut m y = ours y && (has_node set y && (m == new_number ours y))

  cut_has : (m : ℕ) → has_node (cut_nodes ours count set) m ≡ list_any (is_cut m) (range_with_len 0 count)
  unfolding is_cut
  cut_has m =
      set_has no_nodes (map (new_number ours) (filter (has_node set) (passing ours count)))
      (all_kept (new_number ours) (new-le ours) (has_node set) max_nodes (passing ours count) (all_filtered ours (λ x. nat_lt x max_nodes) (range_with_len 0 count) (all_pass (λ x. nat_lt x max_nodes) 0 count (λ k low high. lt-ltb k max_nodes (omega (arith, high, few)))))) m
      ∙ ap (λ (b : Bool). b || list_any (λ n. m == n) (map (new_number ours) (filter (has_node set) (passing ours count)))) (has_node-no_nodes m)
      ∙ any_kept (new_number ours) (has_node set) (λ n. m == n) (passing ours count)
      ∙ any_filtered ours (λ y. has_node set y && (m == new_number ours y)) (range_with_len 0 count)

  -- a set has a node, by its new number
  pub node_agrees : (m : ℕ) → m < length (passing ours count) → has_node (cut_nodes ours count set) m ≡ has_node set (old_number ours count m)
  unfolding is_cut
  node_agrees m l = cut_has m ∙ same_tests _ _ there here
    where
      there : IsTrue (list_any (is_cut m) (range_with_len 0 count)) → IsTrue (has_node set (old_number ours count m))
      there any =
          let w = which_passes (is_cut m) 0 count any in
          let y : ℕ = w.0 in
          let sides = and_parts (ours y) (has_node set y && (m == new_number ours y)) w.1.passes in
          let more = and_parts (has_node set y) (m == new_number ours y) sides.1 in
          let below : y < count = omega (arith, w.1.high) in
          let same : old_number ours count m ≡ y = ap (old_number ours count) (eqb-true _ _ more.1) ∙ old_new ours count y below sides.0 in
          ap (has_node set) same ∙ more.0

      here : IsTrue (has_node set (old_number ours count m)) → IsTrue (list_any (is_cut m) (range_with_len 0 count))
      here has =
          any_passes (is_cut m) 0 count (old_number ours count m) (record {
            passes = and_from _ _ (old_passes ours count m l) (and_from _ _ has (eq-eqb _ _ (sym (new_old ours count m l))));
            low = omega arith;
            high = omega (arith, old_in ours count m l);
          })

  -- and it has none past the last new number
  pub no_more_nodes : (m : ℕ) → length (passing ours count) ≤ m → has_node (cut_nodes ours count set) m ≡ false
  unfolding is_cut
  no_more_nodes m past =
      elim (cases_Bool (list_any (is_cut m) (range_with_len 0 count))) [
        | inr none ↦ cut_has m ∙ none
        | inl any ↦
            let w = which_passes (is_cut m) 0 count any in
            let y : ℕ = w.0 in
            let sides = and_parts (ours y) (has_node set y && (m == new_number ours y)) w.1.passes in
            let more = and_parts (has_node set y) (m == new_number ours y) sides.1 in
            absurd (omega (arith, past, eqb-true _ _ more.1, new_in ours count y (omega (arith, w.1.high)) sides.0))
      ]

-- ---- constraints

-- what a constraint says of a machine
pub record SaysOfMachine (v : ℕ) (c : Constraint) (k : ℕ) (cut : Constraint) : Type 0 where
  pub preserved : (r a : ℕ) → preserved_with k r a cut ≡ preserved_with v r a c
  pub wish : (w : Wish) → machine_wish_with k w cut ≡ machine_wish_with v w c

-- and of a node
pub record SaysOfNode (n : ℕ) (c : Constraint) (m : ℕ) (cut : Constraint) : Type 0 where
  pub limit : (r w : ℕ) (l : Option ℕ) → limit_with m r w l cut ≡ limit_with n r w l c
  pub wish : (w : Wish) → node_wish_with m w cut ≡ node_wish_with n w c

module _ (mine ours : ℕ → Bool) (machines nodes k : ℕ) (l : k < length (passing mine machines)) where
  pub says_of_machine : (c : Constraint) → SaysOfMachine (old_number mine machines k) c k (cut_constraint mine ours nodes c)
  says_of_machine (Spread vs b) = record { preserved = λ r a. refl; wish = λ w. refl }
  says_of_machine (Ban vs ns b) = record { preserved = λ r a. refl; wish = λ w. refl }
  says_of_machine (Fence vs ns b) = record { preserved = λ r a. refl; wish = λ w. refl }
  says_of_machine (Gather vs b) = record { preserved = λ r a. refl; wish = λ w. refl }
  says_of_machine (Lonely vs b) = record { preserved = λ r a. refl; wish = λ w. refl }
  says_of_machine (Among vs sets b) = record { preserved = λ r a. refl; wish = λ w. refl }
  says_of_machine (Split parts b) = record { preserved = λ r a. refl; wish = λ w. refl }
  says_of_machine (Root vs) = record { preserved = λ r a. refl; wish = λ w. refl }
  says_of_machine (Precedence before after) = record { preserved = λ r a. refl; wish = λ w. refl }
  says_of_machine (Serialize vs) = record { preserved = λ r a. refl; wish = λ w. refl }
  says_of_machine (Preserve vs r amount) = record { preserved = λ q a. rw (member_agrees mine machines k l vs) refl; wish = λ w. refl }
  says_of_machine (ResourceCapacity ns r amount b) = record { preserved = λ r a. refl; wish = λ w. refl }
  says_of_machine (RunningCapacity ns amount b) = record { preserved = λ r a. refl; wish = λ w. refl }
  says_of_machine (MaxOnline ns amount b) = record { preserved = λ r a. refl; wish = λ w. refl }
  says_of_machine (Overbook ns r num den) = record { preserved = λ r a. refl; wish = λ w. refl }
  says_of_machine (Online ns) = record { preserved = λ r a. refl; wish = λ w. refl }
  says_of_machine (Offline ns) = record { preserved = λ r a. refl; wish = λ w. refl }
  says_of_machine (WantedRunning vs) = record { preserved = λ r a. refl; wish = λ w. rw (member_agrees mine machines k l vs) refl }
  says_of_machine (WantedSleeping vs) = record { preserved = λ r a. refl; wish = λ w. rw (member_agrees mine machines k l vs) refl }
  says_of_machine (WantedReady vs) = record { preserved = λ r a. refl; wish = λ w. rw (member_agrees mine machines k l vs) refl }
  says_of_machine (Killed vs) = record { preserved = λ r a. refl; wish = λ w. rw (member_agrees mine machines k l vs) refl }

module _ (mine ours : ℕ → Bool) (nodes : ℕ) (few : nodes ≤ max_nodes) (m : ℕ) (l : m < length (passing ours nodes)) where
  pub says_of_node : (c : Constraint) → SaysOfNode (old_number ours nodes m) c m (cut_constraint mine ours nodes c)
  says_of_node (Spread vs b) = record { limit = λ r w l. refl; wish = λ w. refl }
  says_of_node (Ban vs ns b) = record { limit = λ r w l. refl; wish = λ w. refl }
  says_of_node (Fence vs ns b) = record { limit = λ r w l. refl; wish = λ w. refl }
  says_of_node (Gather vs b) = record { limit = λ r w l. refl; wish = λ w. refl }
  says_of_node (Lonely vs b) = record { limit = λ r w l. refl; wish = λ w. refl }
  says_of_node (Among vs sets b) = record { limit = λ r w l. refl; wish = λ w. refl }
  says_of_node (Split parts b) = record { limit = λ r w l. refl; wish = λ w. refl }
  says_of_node (Root vs) = record { limit = λ r w l. refl; wish = λ w. refl }
  says_of_node (Precedence before after) = record { limit = λ r w l. refl; wish = λ w. refl }
  says_of_node (Serialize vs) = record { limit = λ r w l. refl; wish = λ w. refl }
  says_of_node (Preserve vs r amount) = record { limit = λ r w l. refl; wish = λ w. refl }
  says_of_node (ResourceCapacity ns r amount b) = record { limit = λ r w l. refl; wish = λ w. refl }
  says_of_node (RunningCapacity ns amount b) = record { limit = λ r w l. refl; wish = λ w. refl }
  says_of_node (MaxOnline ns amount b) = record { limit = λ r w l. refl; wish = λ w. refl }
  says_of_node (Overbook ns r num den) = record { limit = λ q w o. rw (node_agrees ours nodes few ns m l) refl; wish = λ w. refl }
  says_of_node (Online ns) = record { limit = λ r w l. refl; wish = λ w. rw (node_agrees ours nodes few ns m l) refl }
  says_of_node (Offline ns) = record { limit = λ r w l. refl; wish = λ w. rw (node_agrees ours nodes few ns m l) refl }
  says_of_node (WantedRunning vs) = record { limit = λ r w l. refl; wish = λ w. refl }
  says_of_node (WantedSleeping vs) = record { limit = λ r w l. refl; wish = λ w. refl }
  says_of_node (WantedReady vs) = record { limit = λ r w l. refl; wish = λ w. refl }
  says_of_node (Killed vs) = record { limit = λ r w l. refl; wish = λ w. refl }

-- a joint constraint says nothing of demands, capacities and wishes
pub record SaysNothing (c : Constraint) : Type 0 where
  pub preserved : (v r a : ℕ) → preserved_with v r a c ≡ a
  pub wish : (v : ℕ) (w : Wish) → machine_wish_with v w c ≡ w
  pub limit : (n r w : ℕ) (l : Option ℕ) → limit_with n r w l c ≡ l
  pub node_wish : (n : ℕ) (w : Wish) → node_wish_with n w c ≡ w

pub says_nothing : (c : Constraint) → is_joint (form_of c) ≡ true → SaysNothing c
says_nothing (Spread vs b) joint = record { preserved = λ v r a. refl; wish = λ v w. refl; limit = λ n r w l. refl; node_wish = λ n w. refl }
says_nothing (Ban vs ns b) joint = absurd (false≢true joint)
says_nothing (Fence vs ns b) joint = absurd (false≢true joint)
says_nothing (Gather vs b) joint = record { preserved = λ v r a. refl; wish = λ v w. refl; limit = λ n r w l. refl; node_wish = λ n w. refl }
says_nothing (Lonely vs b) joint = record { preserved = λ v r a. refl; wish = λ v w. refl; limit = λ n r w l. refl; node_wish = λ n w. refl }
says_nothing (Among vs sets b) joint = record { preserved = λ v r a. refl; wish = λ v w. refl; limit = λ n r w l. refl; node_wish = λ n w. refl }
says_nothing (Split parts b) joint = record { preserved = λ v r a. refl; wish = λ v w. refl; limit = λ n r w l. refl; node_wish = λ n w. refl }
says_nothing (Root vs) joint = absurd (false≢true joint)
says_nothing (Precedence before after) joint = record { preserved = λ v r a. refl; wish = λ v w. refl; limit = λ n r w l. refl; node_wish = λ n w. refl }
says_nothing (Serialize vs) joint = record { preserved = λ v r a. refl; wish = λ v w. refl; limit = λ n r w l. refl; node_wish = λ n w. refl }
says_nothing (Preserve vs r amount) joint = absurd (false≢true joint)
says_nothing (ResourceCapacity ns r amount b) joint = record { preserved = λ v r a. refl; wish = λ v w. refl; limit = λ n r w l. refl; node_wish = λ n w. refl }
says_nothing (RunningCapacity ns amount b) joint = record { preserved = λ v r a. refl; wish = λ v w. refl; limit = λ n r w l. refl; node_wish = λ n w. refl }
says_nothing (MaxOnline ns amount b) joint = record { preserved = λ v r a. refl; wish = λ v w. refl; limit = λ n r w l. refl; node_wish = λ n w. refl }
says_nothing (Overbook ns r num den) joint = absurd (false≢true joint)
says_nothing (Online ns) joint = absurd (false≢true joint)
says_nothing (Offline ns) joint = absurd (false≢true joint)
says_nothing (WantedRunning vs) joint = absurd (false≢true joint)
says_nothing (WantedSleeping vs) joint = absurd (false≢true joint)
says_nothing (WantedReady vs) joint = absurd (false≢true joint)
says_nothing (Killed vs) joint = absurd (false≢true joint)

-- what it is cut to has the form that is cut down, and is as continuous
pub record CutsForm (mine ours : ℕ → Bool) (nodes : ℕ) (c : Constraint) : Type 0 where
  pub form : form_of (cut_constraint mine ours nodes c) ≡ cut_form mine ours nodes (form_of c)
  pub continuous : is_continuous (cut_constraint mine ours nodes c) ≡ is_continuous c

pub cuts_form : (mine ours : ℕ → Bool) (nodes : ℕ) (c : Constraint) → CutsForm mine ours nodes c
cuts_form mine ours nodes (Spread vs b) = record { form = refl; continuous = refl }
cuts_form mine ours nodes (Ban vs ns b) = record { form = refl; continuous = refl }
cuts_form mine ours nodes (Fence vs ns b) = record { form = refl; continuous = refl }
cuts_form mine ours nodes (Gather vs b) = record { form = refl; continuous = refl }
cuts_form mine ours nodes (Lonely vs b) = record { form = refl; continuous = refl }
cuts_form mine ours nodes (Among vs sets b) = record { form = refl; continuous = refl }
cuts_form mine ours nodes (Split parts b) = record { form = refl; continuous = refl }
cuts_form mine ours nodes (Root vs) = record { form = refl; continuous = refl }
cuts_form mine ours nodes (Precedence before after) = record { form = refl; continuous = refl }
cuts_form mine ours nodes (Serialize vs) = record { form = refl; continuous = refl }
cuts_form mine ours nodes (Preserve vs r amount) = record { form = refl; continuous = refl }
cuts_form mine ours nodes (ResourceCapacity ns r amount b) = record { form = refl; continuous = refl }
cuts_form mine ours nodes (RunningCapacity ns amount b) = record { form = refl; continuous = refl }
cuts_form mine ours nodes (MaxOnline ns amount b) = record { form = refl; continuous = refl }
cuts_form mine ours nodes (Overbook ns r num den) = record { form = refl; continuous = refl }
cuts_form mine ours nodes (Online ns) = record { form = refl; continuous = refl }
cuts_form mine ours nodes (Offline ns) = record { form = refl; continuous = refl }
cuts_form mine ours nodes (WantedRunning vs) = record { form = refl; continuous = refl }
cuts_form mine ours nodes (WantedSleeping vs) = record { form = refl; continuous = refl }
cuts_form mine ours nodes (WantedReady vs) = record { form = refl; continuous = refl }
cuts_form mine ours nodes (Killed vs) = record { form = refl; continuous = refl }

-- ---- folds over constraints

-- steps that agree on what a constraint is cut to, and pass over what is left out
pub folds_agree : {A : Type 0} (part whole : A → Constraint → A) (cut : Constraint → Constraint) (keep : Constraint → Bool) →
    ((a : A) (c : Constraint) → part a (cut c) ≡ whole a c) → ((a : A) (c : Constraint) → keep c ≡ false → whole a c ≡ a) →
    (a : A) (cs : List Constraint) → fold part a (map cut (filter keep cs)) ≡ fold whole a cs
folds_agree part whole cut keep same passed a [] = refl
folds_agree part whole cut keep same passed a (c ∷ cs) =
    elim (cases_Bool (keep c)) [
      | inl kept ↦ rw kept (folds_agree part whole cut keep same passed (part a (cut c)) cs ∙ ap (λ x. fold whole x cs) (same a c))
      | inr left ↦ rw left (folds_agree part whole cut keep same passed a cs ∙ ap (λ x. fold whole x cs) (sym (passed a c left)))
    ]
