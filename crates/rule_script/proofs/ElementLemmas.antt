-- Elements that sets have a place for, and lists of one sort.
use Rattle.std.proofs.lemmas.List.{drop_all}
use Rattle.std.proofs.lemmas.Option.{unwrap_or-slice_get}
use Rattle.base.proofs.Public.{nat_lt, le-leb, lt-leb, and-false, add-zero, take_more, length-take-le, ◌≡◌, ◌∙◌, ◌&&◌, ◌||◌, ◌+◌, ◌<◌, ◌≤◌, ◌++◌, ℕ, Bool, true, false, List, [], ◌∷◌, length, Option, Some, None, refl, sym, ap, arith, inl, inr, cases_Bool, cases_lt, eq-eqb, eqb-true, or_right, lt-ltb, not, filter, list_all, list_all-append, list_any-append, and_from, option_map, append_assoc, append-nil, take, drop, drop-cons, add-one, get_or, take_all, list_any_more, common_steps, replicate, get_or-replicate, get_or_past, length-replicate, if◌then◌else◌}
use Rattle.cluster.specs.Prelude.{Inventory, IsInventory, IsListed, max_machines, max_nodes, with_node}
use Rattle.cluster.specs.declared.ids.Element.{Element}
use Rattle.cluster.specs.declared.sets.NodeSet.{NodeSet}
use Rattle.cluster.specs.declared.ids.NodeId.{NodeId}
use Rattle.cluster.specs.declared.ids.VmId.{VmId}
use Rattle.cluster.specs.declared.ids.Element.TheVariants.{Node, Vm}
use Rattle.rule_script.specs.Elements.{counts, entry_of, machines_of, nodes_with, standing}
use Rattle.rule_script.specs.Marks.{in_list, is_same, number_at}
use Rattle.rule_script.specs.Small.{is_small}
use Rattle.rule_script.specs.declared.places.Places.{Places}

-- what is listed is small
pub small-listed : (k : Inventory) → IsInventory k → (e : Element) → IsListed k e → is_small e ≡ true
small-listed k sound (Vm v) listed = lt-ltb v.0 max_machines (omega (arith, sound.few_machines, listed))
small-listed k sound (Node n) listed = lt-ltb n.0 max_nodes (omega (arith, sound.few_nodes, listed))

-- what is left of a list passes what the list passes
pub list_all-filter : (p q : Element → Bool) (xs : List Element) → list_all p xs ≡ true → list_all p (filter q xs) ≡ true
list_all-filter p q [] all = refl
list_all-filter p q (x ∷ xs) all = elim (cases_Bool (q x)) [
  | inl kept ↦ rw kept (let rest = list_all-filter p q xs (grind (arith, common_steps)) in grind (arith, common_steps))
  | inr dropped ↦ rw dropped (list_all-filter p q xs (grind (arith, common_steps)))
]

pub both_small : (xs ys : List Element) → list_all is_small xs ≡ true → list_all is_small ys ≡ true → list_all is_small (xs ++ ys) ≡ true
both_small xs ys first second = list_all-append is_small xs ys ∙ and_from (list_all is_small xs) (list_all is_small ys) first second

-- ---- what is in a list

same_element : (a b : Element) → is_same a b ≡ true → a ≡ b
same_element (Vm v) (Vm w) same = ap (λ (n : ℕ). Vm (record { 0 = n })) (eqb-true v.0 w.0 same)
same_element (Node n) (Node m) same = ap (λ (k : ℕ). Node (record { 0 = k })) (eqb-true n.0 m.0 same)
same_element (Vm v) (Node m) same = absurd (cc)
same_element (Node n) (Vm w) same = absurd (cc)

same_as_itself : (a : Element) → is_same a a ≡ true
same_as_itself (Vm v) = eq-eqb v.0 v.0 refl
same_as_itself (Node n) = eq-eqb n.0 n.0 refl

in_list_more : (xs : List Element) (i : ℕ) (d x : Element) → i < length xs → in_list (take (i + 1) xs) x ≡ (in_list (take i xs) x || is_same x (get_or xs i d))
unfolding in_list
in_list_more xs i d x within = list_any_more (is_same x) xs i d within

in_both : (xs ys : List Element) (x : Element) → in_list (xs ++ ys) x ≡ (in_list xs x || in_list ys x)
unfolding in_list
in_both xs ys x = list_any-append (is_same x) xs ys

kept_by : (a b q p : Bool) → (a ≡ true → q ≡ true) → p ≡ (b && q) → (a || p) ≡ ((a || b) && q)
kept_by true b q p same is = sym (same refl)
kept_by false b q p same is = is

dropped_by : (a b q p : Bool) → (a ≡ true → q ≡ false) → p ≡ (b && q) → p ≡ ((a || b) && q)
dropped_by true true q p same is = is
dropped_by true false q p same is = is ∙ sym (same refl)
dropped_by false b q p same is = is

-- what is left of a list is what is in it and passes
in_filtered : (q : Element → Bool) (xs : List Element) (x : Element) → in_list (filter q xs) x ≡ (in_list xs x && q x)
unfolding in_list
in_filtered q [] x = refl
in_filtered q (e ∷ es) x = elim (cases_Bool (q e)) [
  | inl kept ↦ rw kept (kept_by (is_same x e) (in_list es x) (q x) (in_list (filter q es) x) (λ same. ap q (same_element x e same) ∙ kept) (in_filtered q es x))
  | inr dropped ↦ rw dropped (dropped_by (is_same x e) (in_list es x) (q x) (in_list (filter q es) x) (λ same. ap q (same_element x e same) ∙ dropped) (in_filtered q es x))
]

-- two tests that answer alike of what is in a list leave the same
filter-same_in : (p q : Element → Bool) (xs : List Element) → ((x : Element) → in_list xs x ≡ true → p x ≡ q x) → filter p xs ≡ filter q xs
unfolding in_list
filter-same_in p q [] same = refl
filter-same_in p q (x ∷ xs) same =
    let here : p x ≡ q x = same x (ap (λ (b : Bool). b || in_list xs x) (same_as_itself x)) in
    let more : filter p xs ≡ filter q xs = filter-same_in p q xs (λ y there. same y (or_right (is_same y x) (in_list xs y) there)) in
    rw (here, more) refl

-- a list of which each passes is left whole
all_kept : (q : Element → Bool) (xs : List Element) → ((x : Element) → in_list xs x ≡ true → q x ≡ true) → filter q xs ≡ xs
unfolding in_list
all_kept q [] good = refl
all_kept q (x ∷ xs) good =
    let here : q x ≡ true = good x (ap (λ (b : Bool). b || in_list xs x) (same_as_itself x)) in
    let more : filter q xs ≡ xs = all_kept q xs (λ y there. good y (or_right (is_same y x) (in_list xs y) there)) in
    rw (here, more) refl

-- ---- numbers by their places

no_number : (n p : ℕ) → number_at (replicate n 0) p ≡ 0
no_number n p =
    unwrap_or-slice_get (replicate n 0) p 0
    ∙ elim (cases_lt p n) [
      | inl within ↦ get_or-replicate n p 0 0 within
      | inr past ↦ get_or_past (replicate n 0) p 0 (omega (arith, length-replicate {A = ℕ} n 0))
    ]

-- before any number is given
pub no_numbers : (n m : ℕ) (s : Places) → s.machines.items ≡ replicate n 0 → s.nodes.items ≡ replicate m 0 → (x : Element) → entry_of s x ≡ 0
no_numbers n m s machines nodes (Vm v) = ap (λ (l : List ℕ). number_at l v.0) machines ∙ no_number n v.0
no_numbers n m s machines nodes (Node k) = ap (λ (l : List ℕ). number_at l k.0) nodes ∙ no_number m k.0

twice : (c d : ℕ) (a b : Bool) → (if b then c else (if a then c else d)) ≡ (if a || b then c else d)
twice c d true true = refl
twice c d true false = refl
twice c d false true = refl
twice c d false false = refl

pub none_numbered : (x : Element) (number old : ℕ) → old ≡ (if in_list [] x then number else old)
unfolding in_list
none_numbered x number old = refl

pub one_more_numbered : (xs : List Element) (i : ℕ) (d x : Element) (number old now new : ℕ) → i < length xs → now ≡ (if in_list (take i xs) x then number else old) → new ≡ (if is_same x (get_or xs i d) then number else now) → new ≡ (if in_list (take (i + 1) xs) x then number else old)
one_more_numbered xs i d x number old now new within so_far step =
    step
    ∙ ap (λ (b : ℕ). if is_same x (get_or xs i d) then number else b) so_far
    ∙ twice number old (in_list (take i xs) x) (is_same x (get_or xs i d))
    ∙ ap (λ (b : Bool). if b then number else old) (sym (in_list_more xs i d x within))

pub all_numbered : (xs : List Element) (i : ℕ) (x : Element) (number old now : ℕ) → length xs ≤ i → now ≡ (if in_list (take i xs) x then number else old) → now ≡ (if in_list xs x then number else old)
all_numbered xs i x number old now past so_far = so_far ∙ ap (λ (l : List Element). if in_list l x then number else old) (take_all i xs past)

pub ruleset entry_rules = (none_numbered, all_numbered)

-- ---- the entries that count

abbrev besides : List Element → Element → Bool
besides ys e = not (in_list ys e)

front_gone : (q : Element → Bool) (c : Bool) (x : Element) (xs : List Element) → q x ≡ false → filter q (if c then x ∷ xs else xs) ≡ filter q xs
front_gone q true x xs drops = rw drops refl
front_gone q false x xs drops = refl

front_kept : (q : Element → Bool) (c : Bool) (x : Element) (xs ys : List Element) → q x ≡ true → ys ≡ filter q xs → (if c then x ∷ ys else ys) ≡ filter q (if c then x ∷ xs else xs)
front_kept q true x xs ys keeps is = rw (keeps, is) refl
front_kept q false x xs ys keeps is = is

-- some elements get a number with which no entry of theirs counts
renumbered : (old new : Element → ℕ) (ys : List Element) (number n : ℕ) (xs : List Element) → ((x : Element) → new x ≡ (if in_list ys x then number else old x)) → ((m : ℕ) → m < n + length xs → counts number m ≡ false) → standing new n xs ≡ filter (besides ys) (standing old n xs)
unfolding standing
renumbered old new ys number n [] is past = refl
renumbered old new ys number n (x ∷ xs) is past =
    let rest : standing new (n + 1) xs ≡ filter (besides ys) (standing old (n + 1) xs) = renumbered old new ys number (n + 1) xs is (λ m below. past m (omega (arith, below))) in
    elim (cases_Bool (in_list ys x)) [
      | inl there ↦
          let now : new x ≡ number = is x ∙ ap (λ (b : Bool). if b then number else old x) there in
          let gone : counts (new x) n ≡ false = rw now (past n (omega arith)) in
          rw gone (rest ∙ sym (front_gone (besides ys) (counts (old x) n) x (standing old (n + 1) xs) (ap not there)))
      | inr apart ↦
          let same : new x ≡ old x = is x ∙ ap (λ (b : Bool). if b then number else old x) apart in
          rw same (front_kept (besides ys) (counts (old x) n) x (standing old (n + 1) xs) (standing new (n + 1) xs) (ap not apart) rest)
    ]

module _ (entry : Element → ℕ) where
  all_stand : (n : ℕ) (xs : List Element) → ((x : Element) → in_list xs x ≡ true → (0 < entry x) × (entry x ≤ n)) → standing entry n xs ≡ xs
  unfolding standing in_list
  all_stand n [] good = refl
  all_stand n (x ∷ xs) good =
      let here : (0 < entry x) × (entry x ≤ n) = good x (ap (λ (b : Bool). b || in_list xs x) (same_as_itself x)) in
      let rest : standing entry (n + 1) xs ≡ xs = all_stand (n + 1) xs (λ y there. let it = good y (or_right (is_same y x) (in_list xs y) there) in (it.0, omega (arith, it.1))) in
      rw (lt-ltb 0 (entry x) here.0, le-leb (entry x) n here.1, rest) refl

  standing-append : (n : ℕ) (xs ys : List Element) → standing entry n (xs ++ ys) ≡ standing entry n xs ++ standing entry (n + length xs) ys
  unfolding standing
  standing-append n [] ys = rw add-zero refl
  standing-append n (x ∷ xs) ys =
      let further : n + 1 + length xs ≡ n + length (x ∷ xs) = omega arith in
      let rest : standing entry (n + 1) (xs ++ ys) ≡ standing entry (n + 1) xs ++ standing entry (n + length (x ∷ xs)) ys = standing-append (n + 1) xs ys ∙ ap (λ (k : ℕ). standing entry (n + 1) xs ++ standing entry k ys) further in
      elim (cases_Bool (counts (entry x) n)) [
        | inl there ↦ rw there (ap (λ (l : List Element). x ∷ l) rest)
        | inr gone ↦ rw gone rest
      ]

-- ---- a list whose entries all count

module _ (entry : Element → ℕ) (xs : List Element) (is : (x : Element) → entry x ≡ (if in_list xs x then 1 else 0)) where
  pub all_of : standing entry 1 xs ≡ xs
  all_of = all_stand entry 1 xs (λ x there. let one : entry x ≡ 1 = is x ∙ ap (λ (b : Bool). if b then 1 else 0) there in (omega (arith, one), omega (arith, one)))

  is_one : (b : Bool) → nat_lt 0 (if b then 1 else 0) ≡ b
  is_one true = refl
  is_one false = refl

  pub marks_all : (x : Element) → nat_lt 0 (entry x) ≡ in_list (standing entry 1 xs) x
  marks_all x = ap (nat_lt 0) (is x) ∙ is_one (in_list xs x) ∙ ap (λ (l : List Element). in_list l x) (sym all_of)

-- ---- elements put in at the end, and elements taken out

either : (number old : ℕ) (a b : Bool) → 0 < number → nat_lt 0 old ≡ a → nat_lt 0 (if b then number else old) ≡ (a || b)
either number old true true some is = lt-ltb 0 number some
either number old false true some is = lt-ltb 0 number some
either number old true false some is = is
either number old false false some is = is

left : (old : ℕ) (a b : Bool) → nat_lt 0 old ≡ a → nat_lt 0 (if b then 0 else old) ≡ (a && not b)
left old true true is = refl
left old false true is = refl
left old true false is = is
left old false false is = is

never_twice : (a b c : Bool) → a ≡ (b && not c) → c ≡ true → not a ≡ true
never_twice a true true is there = ap not is
never_twice a false true is there = ap not is
never_twice a b false is there = absurd (cc)

module _ (old new : Element → ℕ) (xs : List Element) (marks : (x : Element) → nat_lt 0 (old x) ≡ in_list (standing old 1 xs) x) where
  module _ (ys more : List Element) (these : more ≡ filter (besides (standing old 1 xs)) ys) (is : (x : Element) → new x ≡ (if in_list more x then length xs + 1 else old x)) where
    apart : (x : Element) → in_list (standing old 1 xs) x ≡ true → besides more x ≡ true
    apart x there = never_twice (in_list more x) (in_list ys x) (in_list (standing old 1 xs) x) (ap (λ (l : List Element). in_list l x) these ∙ in_filtered (besides (standing old 1 xs)) ys x) there

    past : (m : ℕ) → m < 1 + length xs → counts (length xs + 1) m ≡ false
    past m below = ap (λ (b : Bool). nat_lt 0 (length xs + 1) && b) (lt-leb (length xs + 1) m (omega (arith, below))) ∙ and-false (nat_lt 0 (length xs + 1))

    pub put_in : standing new 1 (xs ++ more) ≡ standing old 1 xs ++ more
    put_in =
        let before : standing new 1 xs ≡ standing old 1 xs = renumbered old new more (length xs + 1) 1 xs is past ∙ all_kept (besides more) (standing old 1 xs) apart in
        let after : standing new (1 + length xs) more ≡ more = all_stand new (1 + length xs) more (λ x there. let last : new x ≡ length xs + 1 = is x ∙ ap (λ (b : Bool). if b then length xs + 1 else old x) there in (omega (arith, last), omega (arith, last))) in
        standing-append new 1 xs more ∙ rw (before, after) refl

    pub put_in_marks : (x : Element) → nat_lt 0 (new x) ≡ in_list (standing new 1 (xs ++ more)) x
    put_in_marks x =
        ap (nat_lt 0) (is x)
        ∙ either (length xs + 1) (old x) (in_list (standing old 1 xs) x) (in_list more x) (omega arith) (marks x)
        ∙ sym (in_both (standing old 1 xs) more x)
        ∙ ap (λ (l : List Element). in_list l x) (sym put_in)

  module _ (ys : List Element) (is : (x : Element) → new x ≡ (if in_list ys x then 0 else old x)) where
    pub taken_out : standing new 1 xs ≡ filter (besides ys) (standing old 1 xs)
    taken_out = renumbered old new ys 0 1 xs is (λ m below. refl)

    pub taken_out_marks : (x : Element) → nat_lt 0 (new x) ≡ in_list (standing new 1 xs) x
    taken_out_marks x =
        ap (nat_lt 0) (is x)
        ∙ left (old x) (in_list (standing old 1 xs) x) (in_list ys x) (marks x)
        ∙ sym (in_filtered (besides ys) (standing old 1 xs) x)
        ∙ ap (λ (l : List Element). in_list l x) (sym taken_out)

-- ---- the entries that count, from the first on

module _ (entry : Element → ℕ) (xs : List Element) (i : ℕ) (d : Element) (within : i < length xs) where
  one_more_entry : standing entry 1 (take (i + 1) xs) ≡ standing entry 1 (take i xs) ++ standing entry (i + 1) (get_or xs i d ∷ [])
  one_more_entry =
      let at : 1 + length (take i xs) ≡ i + 1 = omega (arith, length-take-le i xs (omega (arith, within))) in
      ap (standing entry 1) (take_more xs i d within) ∙ standing-append entry 1 (take i xs) (get_or xs i d ∷ []) ∙ ap (λ (n : ℕ). standing entry 1 (take i xs) ++ standing entry n (get_or xs i d ∷ [])) at

  pub entry_counts : counts (entry (get_or xs i d)) (i + 1) ≡ true → standing entry 1 (take i xs) ++ get_or xs i d ∷ [] ≡ standing entry 1 (take (i + 1) xs)
  unfolding standing
  entry_counts good = sym (one_more_entry ∙ rw good refl)

  pub entry_gone : counts (entry (get_or xs i d)) (i + 1) ≡ false → standing entry 1 (take i xs) ≡ standing entry 1 (take (i + 1) xs)
  unfolding standing
  entry_gone gone = sym (one_more_entry ∙ rw gone (append-nil (standing entry 1 (take i xs))))

pub no_entry : (entry : Element → ℕ) (found : List Element) → found ≡ [] → found ≡ standing entry 1 []
unfolding standing
no_entry entry found is = is

pub all_entries : (entry : Element → ℕ) (xs found : List Element) (i : ℕ) → length xs ≤ i → found ≡ standing entry 1 (take i xs) → found ≡ standing entry 1 xs
all_entries entry xs found i past is = is ∙ ap (standing entry 1) (take_all i xs past)

pub ruleset count_rules = (no_entry, all_entries)

-- ---- lists of one sort, from a place on

element_at : (xs : List Element) (i : ℕ) (d e : Element) → i < length xs → get_or xs i d ≡ e → drop i xs ≡ e ∷ drop (i + 1) xs
element_at xs i d e within is = rw (add-one, drop-cons xs i d, is) refl

abbrev pub after_these : List VmId → Option (List VmId) → Option (List VmId)
after_these found more = option_map (λ vs. found ++ vs) more

pub begins_with_none : (more : Option (List VmId)) → after_these [] more ≡ more
begins_with_none None = refl
begins_with_none (Some vs) = refl

longer_by : (found : List VmId) (v : VmId) (o : Option (List VmId)) → after_these (found ++ v ∷ []) o ≡ after_these found (option_map (λ vs. v ∷ vs) o)
longer_by found v None = refl
longer_by found v (Some vs) = ap (λ (l : List VmId). Some l) (append_assoc found (v ∷ []) vs)

module _ (es : List Element) (i : ℕ) (found : List VmId) (answer : Option (List VmId)) (so_far : after_these found (machines_of (drop i es)) ≡ answer) where
  pub one_more_machine : (d : Element) (v : VmId) → i < length es → get_or es i d ≡ Vm v → after_these (found ++ v ∷ []) (machines_of (drop (i + 1) es)) ≡ answer
  unfolding machines_of
  one_more_machine d v within is =
      let here : machines_of (drop i es) ≡ option_map (λ vs. v ∷ vs) (machines_of (drop (i + 1) es)) = rw (element_at es i d (Vm v) within is) refl in
      longer_by found v (machines_of (drop (i + 1) es)) ∙ ap (after_these found) (sym here) ∙ so_far

  pub a_node_there : (d : Element) (n : NodeId) → i < length es → get_or es i d ≡ Node n → None ≡ answer
  unfolding machines_of
  a_node_there d n within is =
      let here : machines_of (drop i es) ≡ None = rw (element_at es i d (Node n) within is) refl in
      sym (ap (after_these found) here) ∙ so_far

  pub all_machines : length es ≤ i → Some found ≡ answer
  unfolding machines_of
  all_machines past =
      let here : machines_of (drop i es) ≡ Some [] = rw (drop_all i es past) refl in
      ap (λ (l : List VmId). Some l) (sym (append-nil found)) ∙ sym (ap (after_these found) here) ∙ so_far

pub ruleset machine_rules = (begins_with_none, one_more_machine, a_node_there, all_machines)

module _ (es : List Element) (i : ℕ) (found : NodeSet) (answer : Option NodeSet) (so_far : nodes_with found (drop i es) ≡ answer) where
  pub one_more_node : (d : Element) (n : NodeId) (more : NodeSet) → i < length es → get_or es i d ≡ Node n → more ≡ with_node found n.0 → nodes_with more (drop (i + 1) es) ≡ answer
  unfolding nodes_with
  one_more_node d n more within is with =
      let here : nodes_with found (drop i es) ≡ nodes_with (with_node found n.0) (drop (i + 1) es) = rw (element_at es i d (Node n) within is) refl in
      rw with (sym here ∙ so_far)

  pub a_machine_there : (d : Element) (v : VmId) → i < length es → get_or es i d ≡ Vm v → None ≡ answer
  unfolding nodes_with
  a_machine_there d v within is =
      let here : nodes_with found (drop i es) ≡ None = rw (element_at es i d (Vm v) within is) refl in
      sym here ∙ so_far

  pub all_nodes : length es ≤ i → Some found ≡ answer
  unfolding nodes_with
  all_nodes past =
      let here : nodes_with found (drop i es) ≡ Some found = rw (drop_all i es past) refl in
      sym here ∙ so_far

pub ruleset node_rules = (one_more_node, a_machine_there, all_nodes)
