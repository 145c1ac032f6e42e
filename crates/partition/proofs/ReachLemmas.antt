-- What the named groups are that a fold over machines or nodes makes of them.
use Rattle.base.proofs.Public.{◌≡◌, ◌≢◌, inl, inr, ℕ, zero, suc, ◌+◌, ◌<◌, ◌≤◌, Bool, true, false, not, ◌||◌, ◌&&◌, ◌==◌, List, [], ◌∷◌, length, Option, Some, None, if◌then◌else◌, unwrap_or, refl, sym, ap, subst, ◌∙◌, arith, cases_Bool, cases_eq, cases_lt, eq-eqb, eqb-true, false≢true, find, fold, fold-append, le-ltb, list_any, lt-ltb, ne_eqb, or-false, or_assoc, or_cases, or_left, or_right, range_with_len}
use Rattle.cluster.specs.declared.ids.VmId.{VmId}
use Rattle.cluster.specs.declared.sets.NodeSet.{NodeSet}
use Rattle.cluster.proofs.Public.{has_node-past}
use Rattle.catalogue.specs.Prelude.{all_of, has_node, max_nodes}
use Rattle.partition.specs.declared.reach.Reach.{Reach}
use Rattle.partition.specs.declared.reach.Reach.TheVariants.{Nowhere, One, Several}
use Rattle.partition.specs.Reach.{and_group, and_machine, and_machines, and_node, and_nodes, and_sets, at, first_of, fits, is_several, lesser, only_of}

-- ---- the groups that pass a test

-- just this one does
pub record IsOnly (test : ℕ → Bool) (h : ℕ) : Type 0 where
  pub there : test h ≡ true
  pub only : (i : ℕ) → test i ≡ true → i ≡ h

-- this one does, none before it, and another one
pub record IsFirstOf (test : ℕ → Bool) (h : ℕ) : Type 0 where
  pub there : test h ≡ true
  pub least : (i : ℕ) → test i ≡ true → h ≤ i
  pub other : ℕ
  pub passes : test other ≡ true
  pub differs : other ≢ h

abbrev pub IsReach : (ℕ → Bool) → Reach → Type 0
IsReach test Nowhere = (i : ℕ) → test i ≡ false
IsReach test (One h) = IsOnly test h
IsReach test (Several h) = IsFirstOf test h

-- ---- what can be said of them

pub passed_from : (test : ℕ → Bool) (a n h : ℕ) → a ≤ h → h < a + n → test h ≡ true → ((i : ℕ) → a ≤ i → i < h → test i ≡ false) → find test (range_with_len a n) ≡ Some h
passed_from test a zero h low high pass before = absurd (omega (arith, low, high))
passed_from test a (suc n) h low high pass before =
    elim (cases_eq a h) [
      | inl same ↦ let here : test a ≡ true = ap test same ∙ pass in rw here (ap Some same)
      | inr other ↦
          let fail : test a ≡ false = before a (omega arith) (omega (arith, low, other)) in
          rw fail (passed_from test (a + 1) n h (omega (arith, low, other)) (omega (arith, high)) pass (λ i l b. before i (omega (arith, l)) b))
    ]

pub none_from : (test : ℕ → Bool) (a n : ℕ) → ((i : ℕ) → test i ≡ false) → find test (range_with_len a n) ≡ None
none_from test a zero fails = refl
none_from test a (suc n) fails = rw (fails a) (none_from test (a + 1) n fails)

none_in : (test : ℕ → Bool) (a n : ℕ) → ((i : ℕ) → test i ≡ false) → list_any test (range_with_len a n) ≡ false
none_in test a zero fails = refl
none_in test a (suc n) fails = rw (fails a) (none_in test (a + 1) n fails)

some_in : (test : ℕ → Bool) (a n k : ℕ) → a ≤ k → k < a + n → test k ≡ true → list_any test (range_with_len a n) ≡ true
some_in test a zero k low high pass = absurd (omega (arith, low, high))
some_in test a (suc n) k low high pass =
    elim (cases_eq a k) [
      | inl same ↦ or_left (test a) _ (ap test same ∙ pass)
      | inr other ↦ or_right (test a) _ (some_in test (a + 1) n k (omega (arith, low, other)) (omega (arith, high)) pass)
    ]

false_before : (test : ℕ → Bool) (h i : ℕ) → ((j : ℕ) → test j ≡ true → h ≤ j) → i < h → test i ≡ false
false_before test h i least l =
    elim (cases_Bool (test i)) [ inl pass ↦ absurd (omega (arith, least i pass, l)) | inr fail ↦ fail ]

module _ (test : ℕ → Bool) (n : ℕ) (within : (i : ℕ) → test i ≡ true → i < n) where
  -- the first group that passes
  first_is : (h : ℕ) → test h ≡ true → ((i : ℕ) → test i ≡ true → h ≤ i) → find test (range_with_len 0 n) ≡ Some h
  first_is h pass least = passed_from test 0 n h (omega arith) (omega (arith, within h pass)) pass (λ i low before. false_before test h i least before)

  pub home_of : (r : Reach) → IsReach test r → unwrap_or (find test (range_with_len 0 n)) 0 ≡ first_of r
  home_of Nowhere none = ap (λ (o : Option ℕ). unwrap_or o 0) (none_from test 0 n none)
  home_of (One h) one = ap (λ (o : Option ℕ). unwrap_or o 0) (first_is h one.there (λ i pass. omega (arith, one.only i pass)))
  home_of (Several h) several = ap (λ (o : Option ℕ). unwrap_or o 0) (first_is h several.there several.least)

  -- the one group that passes
  pub only_is : (r : Reach) → IsReach test r → (fit : ℕ → Bool) → ((i : ℕ) → fit i ≡ fits r i) → find (λ i. test i && fit i) (range_with_len 0 n) ≡ only_of r
  only_is Nowhere none fit is = none_from _ 0 n (λ i. ap (λ (b : Bool). b && fit i) (none i))
  only_is (One h) one fit is =
      passed_from _ 0 n h (omega arith) (omega (arith, within h one.there)) (ap (λ (b : Bool). b && fit h) one.there ∙ is h ∙ eq-eqb h h refl)
      (λ i low before. ap (λ (b : Bool). b && fit i) (false_before test h i (λ j pass. omega (arith, one.only j pass)) before))
  only_is (Several h) several fit is = none_from _ 0 n (λ i. ap (λ (b : Bool). test i && b) (is i) ∙ never (test i))
    where
      never : (b : Bool) → (b && false) ≡ false
      never true = refl
      never false = refl

  -- whether another one passes than the first
  other_passes : (home : ℕ) (r : Reach) → IsReach test r → home ≡ first_of r → list_any (λ i. test i && not (i == home)) (range_with_len 0 n) ≡ is_several r
  other_passes home Nowhere none is = none_in _ 0 n (λ i. ap (λ (b : Bool). b && not (i == home)) (none i))
  other_passes home (One h) one is = none_in _ 0 n (λ i. elim (cases_Bool (test i)) [
    | inl pass ↦ ap (λ (b : Bool). b && not (i == home)) pass ∙ ap not (eq-eqb i home (one.only i pass ∙ sym is))
    | inr fail ↦ ap (λ (b : Bool). b && not (i == home)) fail
  ])
  other_passes home (Several h) several is =
      let apart : (several.other == home) ≡ false = ne_eqb several.other home (λ e. several.differs (e ∙ is)) in
      some_in _ 0 n several.other (omega arith) (omega (arith, within several.other several.passes)) (ap (λ (b : Bool). b && not (several.other == home)) several.passes ∙ ap not apart)

  pub spans_as : (r : Reach) → IsReach test r → list_any (λ i. test i && not (i == unwrap_or (find test (range_with_len 0 n)) 0)) (range_with_len 0 n) ≡ is_several r
  spans_as r h = other_passes _ r h (home_of r h)

-- ---- one more group

pub same_reach : (a b : ℕ → Bool) → ((i : ℕ) → a i ≡ b i) → (r : Reach) → IsReach a r → IsReach b r
same_reach a b same Nowhere h = λ i. sym (same i) ∙ h i
same_reach a b same (One g) h = record { there = sym (same g) ∙ h.there; only = λ i pass. h.only i (same i ∙ pass) }
same_reach a b same (Several g) h = record {
  there = sym (same g) ∙ h.there;
  least = λ i pass. h.least i (same i ∙ pass);
  other = h.other;
  passes = sym (same h.other) ∙ h.passes;
  differs = h.differs;
}

module _ (test : ℕ → Bool) (i : ℕ) where
  -- with the group i
  abbrev more : ℕ → Bool
  more j = test j || (i == j)

  this_passes : more i ≡ true
  this_passes = or_right (test i) (i == i) (eq-eqb i i refl)

  old_passes : (j : ℕ) → test j ≡ true → more j ≡ true
  old_passes j pass = or_left (test j) (i == j) pass

  -- what is not above what passed nor above i is not above what passes now
  lower : (h : ℕ) → h ≤ i → ((j : ℕ) → test j ≡ true → h ≤ j) → (j : ℕ) → more j ≡ true → h ≤ j
  lower h l least j pass = elim (or_cases (test j) (i == j) pass) [ inl old ↦ least j old | inr this ↦ omega (arith, l, eqb-true i j this) ]

  new_first : (h : ℕ) → i < h → test h ≡ true → ((j : ℕ) → test j ≡ true → h ≤ j) → IsFirstOf more i
  new_first h l pass least = record {
    there = this_passes;
    least = lower i (omega arith) (λ j old. omega (arith, l, least j old));
    other = h;
    passes = old_passes h pass;
    differs = λ e. omega (arith, l, e);
  }

  old_first : (h other : ℕ) → h ≤ i → test h ≡ true → ((j : ℕ) → test j ≡ true → h ≤ j) → more other ≡ true → other ≢ h → IsFirstOf more h
  old_first h other l pass least passes differs = record { there = old_passes h pass; least = lower h l least; other = other; passes = passes; differs = differs }

  lesser_new : (h : ℕ) → i < h → lesser i h ≡ i
  lesser_new h l = rw (lt-ltb i h l) refl

  lesser_old : (h : ℕ) → h ≤ i → lesser i h ≡ h
  lesser_old h l = rw (le-ltb i h l) refl

  -- where there were two, or i is another one than the only one
  with_two : (h other : ℕ) → test h ≡ true → ((j : ℕ) → test j ≡ true → h ≤ j) → more other ≡ true → other ≢ h → IsFirstOf more (lesser i h)
  with_two h other pass least passes differs =
      elim (cases_lt i h) [
        | inl low ↦ subst (IsFirstOf more) (sym (lesser_new h low)) (new_first h low pass least)
        | inr high ↦ subst (IsFirstOf more) (sym (lesser_old h high)) (old_first h other high pass least passes differs)
      ]

  with_one : (h : ℕ) → IsOnly test h → (b : Bool) → (i == h) ≡ b → IsReach more (if b then One h else Several (lesser i h))
  with_one h one true same = record {
    there = old_passes h one.there;
    only = λ j pass. elim (or_cases (test j) (i == j) pass) [ inl old ↦ one.only j old | inr this ↦ sym (eqb-true i j this) ∙ eqb-true i h same ];
  }
  with_one h one false other =
      with_two h i one.there (λ j pass. omega (arith, one.only j pass)) this_passes (λ e. false≢true (sym other ∙ eq-eqb i h e))

  pub and_group_more : (r : Reach) → IsReach test r → IsReach more (and_group r i)
  and_group_more Nowhere none = record { there = this_passes; only = λ j pass. sym (eqb-true i j (sym (ap (λ (b : Bool). b || (i == j)) (none j)) ∙ pass)) }
  and_group_more (One h) one = with_one h one (i == h) refl
  and_group_more (Several h) several = with_two h several.other several.there several.least (old_passes several.other several.passes) several.differs

-- ---- many

-- items of which some name a group
module _ {A : Type 0} (has : A → Bool) (g : A → ℕ) (step : Reach → A → Reach) (steps : (r : Reach) (x : A) → step r x ≡ (if has x then and_group r (g x) else r)) where
  abbrev names_it : List A → ℕ → Bool
  names_it xs j = list_any (λ x. has x && (g x == j)) xs

  pub reach_list : (xs : List A) (test : ℕ → Bool) (r : Reach) → IsReach test r → IsReach (λ j. test j || names_it xs j) (fold step r xs)
  reach_list [] test r h = same_reach test _ (λ j. sym (or-false (test j))) r h
  reach_list (x ∷ xs) test r h =
      let along : Reach → Type 0 = λ (s : Reach). IsReach (λ j. test j || names_it (x ∷ xs) j) (fold step s xs) in
      elim (cases_Bool (has x)) [
        | inl pass ↦
            let stepped : step r x ≡ and_group r (g x) = steps r x ∙ ap (λ (b : Bool). if b then and_group r (g x) else r) pass in
            let rest = reach_list xs (λ j. test j || (g x == j)) (and_group r (g x)) (and_group_more test (g x) r h) in
            subst along (sym stepped)
            (same_reach _ _ (λ j. or_assoc (test j) (g x == j) (names_it xs j) ∙ ap (λ (b : Bool). test j || ((b && (g x == j)) || names_it xs j)) (sym pass)) (fold step (and_group r (g x)) xs) rest)
        | inr fail ↦
            let stepped : step r x ≡ r = steps r x ∙ ap (λ (b : Bool). if b then and_group r (g x) else r) fail in
            subst along (sym stepped)
            (same_reach _ _ (λ j. ap (λ (b : Bool). test j || ((b && (g x == j)) || names_it xs j)) (sym fail)) (fold step r xs) (reach_list xs test r h))
      ]

-- a machine of the list is in the group
abbrev pub machine_in : List ℕ → List VmId → ℕ → Bool
machine_in table vs j = list_any (λ v. at table v.0 == j) vs

-- a node of the set is in the group
abbrev pub node_in : List ℕ → NodeSet → ℕ → Bool
node_in table set j = list_any (λ n. has_node set n && (at table n == j)) (range_with_len 0 (length table))

module _ (table : List ℕ) where
  pub reach_machines : (vs : List VmId) (test : ℕ → Bool) (r : Reach) → IsReach test r → IsReach (λ j. test j || machine_in table vs j) (and_machines table r vs)
  reach_machines vs test r h = reach_list {A = VmId} (λ v. true) (λ v. at table v.0) (and_machine table) (λ s v. refl) vs test r h

  pub reach_nodes : (set : NodeSet) (test : ℕ → Bool) (r : Reach) → IsReach test r → IsReach (λ j. test j || node_in table set j) (and_nodes table r set)
  reach_nodes set test r h = reach_list {A = ℕ} (has_node set) (at table) (and_node table set) (λ s n. refl) (range_with_len 0 (length table)) test r h

  pub reach_sets : (sets : List NodeSet) (test : ℕ → Bool) (r : Reach) → IsReach test r → IsReach (λ j. test j || list_any (λ set. node_in table set j) sets) (and_sets table r sets)
  reach_sets [] test r h = same_reach test _ (λ j. sym (or-false (test j))) r h
  reach_sets (set ∷ sets) test r h =
      same_reach _ _ (λ j. or_assoc (test j) (node_in table set j) (list_any (λ s. node_in table s j) sets)) (and_sets table (and_nodes table r set) sets)
      (reach_sets sets (λ j. test j || node_in table set j) (and_nodes table r set) (reach_nodes set test r h))

-- lists one after the other
pub fold_lists : (table : List ℕ) (r : Reach) (lists : List (List VmId)) → fold (and_machines table) r lists ≡ and_machines table r (all_of lists)
fold_lists table r [] = refl
fold_lists table r (vs ∷ lists) = fold_lists table (and_machines table r vs) lists ∙ sym (fold-append (and_machine table) r vs (all_of lists))

-- no set has a node past the limit
pub past_limit : (set : NodeSet) (n : ℕ) → max_nodes ≤ n → has_node set n ≡ false
past_limit set n past = has_node-past set n past
