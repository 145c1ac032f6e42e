-- Objects that are made member by member: what is found in them.
use Rattle.std.proofs.Common.{map, slice_index_or, codes}
use Rattle.base.proofs.Public.{◌≡◌, ℕ, zero, suc, ◌+◌, ◌<◌, ◌≤◌, ◌||◌, Bool, true, false, not, List, [], ◌∷◌, ◌++◌, length, take, drop, drop-cons, get_or, slice_index, Option, Some, None, is_some, Ordering, Less, Equal, Greater, true≢false, refl, sym, ap, ◌∙◌, arith, common_steps, and_from, and_parts, not-true, ext_get_or, get_or_default, get_or-take, length-map, map-append, length-take, take-append-drop, take_more, filter-append, length-range_with_len, get_or-map-range_with_len, fold-append, nat_list_eq_equiv, bytes_eq-Decides, fold, filter, list_any, list_all, range_with_len, nat_cmp, match_ordering, slice_cmp, bytes_eq, range_more, each_passes}
use Rattle.instance_make.specs.Prelude.{are_distinct, Forge, keys_of, Kind, kind_count, kind_word, kind_words, KINDS, members_by, put_if}
use Rattle.serde_json.specs.Data.{Data, number, unsigned, Members, no_members, member, put}
use Rattle.serde_json.specs.Find.{get_member}
use Rattle.serde_json.proofs.Views.{get_member-put, get_member-put_other}
use Rattle.remake.proofs.Public.{apart_before}

any_map : {X : Type 0} (test : List ℕ → Bool) (f : X → List ℕ) (xs : List X) → list_any test (map f xs) ≡ list_any (λ x. test (f x)) xs
any_map test f [] = refl
any_map test f (x ∷ xs) = ap (λ b. test (f x) || b) (any_map test f xs)

apart : (k l : List ℕ) → bytes_eq k l ≡ false → k ≡ l → ⊥
apart k l other same = true≢false (sym ((bytes_eq-Decides k l).1 same) ∙ other)

-- ---- one more member

pub by_more : {X : Type 0} (key : X → List ℕ) (value : X → Option Data) (xs : List X) (x : X)
    → members_by key value (xs ++ x ∷ []) ≡ put_if (key x) (value x) (members_by key value xs)
unfolding members_by
by_more key value xs x = fold-append (λ ms y. put_if (key y) (value y) ms) no_members xs (x ∷ [])

pub by_range_more : (key : ℕ → List ℕ) (value : ℕ → Option Data) (n : ℕ) → members_by key value (range_with_len 0 (n + 1)) ≡ put_if (key n) (value n) (members_by key value (range_with_len 0 n))
by_range_more key value n = ap (members_by key value) (range_more n) ∙ by_more key value (range_with_len 0 n) n

-- ---- what is found

pub put_if-other : (k l : List ℕ) (o : Option Data) (ms : Members) → bytes_eq k l ≡ false → get_member k (put_if l o ms) ≡ get_member k ms
put_if-other k l None ms other = refl
put_if-other k l (Some d) ms other = get_member-put_other k l d ms (apart k l other)

pub put_if-here : (k : List ℕ) (o : Option Data) (ms : Members) → get_member k ms ≡ None → get_member k (put_if k o ms) ≡ o
put_if-here k None ms none = none
put_if-here k (Some d) ms none = get_member-put k d ms

module _ {X : Type 0} (key : X → List ℕ) (value : X → Option Data) where
  with : Members → List X → Members
  with ms xs = fold (λ ms x. put_if (key x) (value x) ms) ms xs

  -- a key that no item has keeps its value
  kept : (k : List ℕ) (xs : List X) (ms : Members) → list_any (λ x. bytes_eq k (key x)) xs ≡ false → get_member k (with ms xs) ≡ get_member k ms
  unfolding with
  kept k [] ms none = refl
  kept k (x ∷ xs) ms none =
      let here : bytes_eq k (key x) ≡ false = grind (arith, common_steps) in
      let rest : list_any (λ x. bytes_eq k (key x)) xs ≡ false = grind (arith, common_steps) in
      kept k xs (put_if (key x) (value x) ms) rest ∙ put_if-other k (key x) (value x) ms here

  pub no_member : (k : List ℕ) (xs : List X) → list_any (λ x. bytes_eq k (key x)) xs ≡ false → get_member k (members_by key value xs) ≡ None
  unfolding members_by with
  no_member k xs none = kept k xs no_members none

  -- an item's key differs from one that stands in no other item
  other_key : (x : X) (xs : List X) (i : ℕ) (d : X) → list_any (bytes_eq (key x)) (map key xs) ≡ false → i < length xs → bytes_eq (key (get_or xs i d)) (key x) ≡ false
  other_key x [] i d none lt = absurd (omega arith)
  other_key x (y ∷ ys) zero d none lt = nat_list_eq_equiv.symm (key y) (key x) ∙ grind (arith, common_steps)
  other_key x (y ∷ ys) (suc i) d none lt = other_key x ys i d (grind (arith, common_steps)) (omega arith)

  found_from : (xs : List X) (ms : Members) (i : ℕ) (d : X) → are_distinct (map key xs) ≡ true → i < length xs → get_member (key (get_or xs i d)) ms ≡ None
      → get_member (key (get_or xs i d)) (with ms xs) ≡ value (get_or xs i d)
  unfolding with
  found_from [] ms i d apart lt none = absurd (omega arith)
  found_from (x ∷ xs) ms zero d apart lt none =
      let new : list_any (bytes_eq (key x)) (map key xs) ≡ false = grind (arith, common_steps) in
      kept (key x) xs (put_if (key x) (value x) ms) (sym (any_map (bytes_eq (key x)) key xs) ∙ new) ∙ put_if-here (key x) (value x) ms none
  found_from (x ∷ xs) ms (suc i) d apart lt none =
      let new : list_any (bytes_eq (key x)) (map key xs) ≡ false = grind (arith, common_steps) in
      let rest : are_distinct (map key xs) ≡ true = grind (arith, common_steps) in
      let below : i < length xs = omega arith in
      found_from xs (put_if (key x) (value x) ms) i d rest below (put_if-other (key (get_or xs i d)) (key x) (value x) ms (other_key x xs i d new below) ∙ none)

  -- at each item's key stands its value
  pub found_by : (xs : List X) (i : ℕ) (d : X) → are_distinct (map key xs) ≡ true → i < length xs → get_member (key (get_or xs i d)) (members_by key value xs) ≡ value (get_or xs i d)
  unfolding members_by with
  found_by xs i d apart lt = found_from xs no_members i d apart lt refl

-- ---- the keys

pub either_way : (P : Members → Type 0) (o : Ordering) (a b c : Members) → P a → P b → P c → P (match_ordering o a b c)
either_way P Less a b c x y z = x
either_way P Equal a b c x y z = y
either_way P Greater a b c x y z = z

keys-put : (test : List ℕ → Bool) (k : List ℕ) (d : Data) (ms : Members) → test k ≡ true → list_all test (keys_of ms) ≡ true → list_all test (keys_of (put k d ms)) ≡ true
keys-put test k d no_members pass all = and_from _ _ pass refl
keys-put test k d (member l e ms) pass all =
    let parts = and_parts (test l) _ all in
    let P : Members → Type 0 = λ ns. list_all test (keys_of ns) ≡ true in
    either_way P (slice_cmp nat_cmp k l) (member k d (member l e ms)) (member l d ms) (member l e (put k d ms))
    (and_from _ _ pass all) all (and_from _ _ parts.0 (keys-put test k d ms pass parts.1))

pub keys-put_if : (test : List ℕ → Bool) (k : List ℕ) (o : Option Data) (ms : Members) → (not (is_some o) || test k) ≡ true → list_all test (keys_of ms) ≡ true → list_all test (keys_of (put_if k o ms)) ≡ true
keys-put_if test k None ms pass all = all
keys-put_if test k (Some d) ms pass all = keys-put test k d ms pass all

keys_from : {X : Type 0} (key : X → List ℕ) (value : X → Option Data) (test : List ℕ → Bool) (xs : List X) (ms : Members)
    → list_all (λ x. not (is_some (value x)) || test (key x)) xs ≡ true → list_all test (keys_of ms) ≡ true
    → list_all test (keys_of (fold (λ ms x. put_if (key x) (value x) ms) ms xs)) ≡ true
keys_from key value test [] ms pass all = all
keys_from key value test (x ∷ xs) ms pass all =
    let parts = and_parts (not (is_some (value x)) || test (key x)) _ pass in
    keys_from key value test xs (put_if (key x) (value x) ms) parts.1 (keys-put_if test (key x) (value x) ms parts.0 all)

-- the keys of the items that have a value
pub keys_by : {X : Type 0} (key : X → List ℕ) (value : X → Option Data) (test : List ℕ → Bool) (xs : List X) → list_all (λ x. not (is_some (value x)) || test (key x)) xs ≡ true
    → list_all test (keys_of (members_by key value xs)) ≡ true
unfolding members_by
keys_by key value test xs pass = keys_from key value test xs no_members pass refl

-- ---- amounts, one more at a time

-- the amounts of the first resources
abbrev pub amounts_to : List (List ℕ) → List ℕ → ℕ → Members
amounts_to resources amounts n = members_by (λ r. slice_index_or resources r []) (λ r. Some (number (unsigned (slice_index amounts r)))) (range_with_len 0 n)

pub none_to : (resources : List (List ℕ)) (amounts : List ℕ) → no_members ≡ amounts_to resources amounts 0
unfolding members_by
none_to resources amounts = refl

-- the first names by their places
pub names_to : (names : List (List ℕ)) (n : ℕ) → n ≤ length names → map (λ r. slice_index_or names r []) (range_with_len 0 n) ≡ take n names
names_to names n le = ext_get_or [] (map (λ r. slice_index_or names r []) (range_with_len 0 n)) (take n names)
    (length-map (range_with_len 0 n) (λ r. slice_index_or names r []) ∙ length-range_with_len 0 n ∙ count)
    (λ i lt.
    let below : i < n = omega (arith, lt, length-map (range_with_len 0 n) (λ r. slice_index_or names r []), length-range_with_len 0 n) in
    get_or-map-range_with_len (λ r. slice_index_or names r []) 0 n i i [] below (omega arith) ∙ sym (get_or-take n names i [] below))
  where
    count : n ≡ length (take n names)
    count = omega (arith, length-take n names)

-- a resource has no amount yet, where those before it have theirs
pub resource_free : (names : List (List ℕ)) (amounts : List ℕ) (r : ℕ) (name : List ℕ) → are_distinct names ≡ true → r < length names → name ≡ get_or names r name
    → get_member name (amounts_to names amounts r) ≡ None
resource_free names amounts r name distinct lt is =
    let here : name ≡ slice_index_or names r [] = is ∙ get_or_default names r name [] lt in
    let split : take r names ++ slice_index_or names r [] ∷ drop (suc r) names ≡ names = ap (λ (l : List (List ℕ)). take r names ++ l) (sym (drop-cons names r [] lt)) ∙ take-append-drop r names in
    let new : list_any (bytes_eq (slice_index_or names r [])) (take r names) ≡ false = apart_before (take r names) (slice_index_or names r []) (drop (suc r) names) (ap are_distinct split ∙ distinct) in
    rw here (no_member (λ q. slice_index_or names q []) (λ q. Some (number (unsigned (slice_index amounts q)))) (slice_index_or names r []) (range_with_len 0 r)
    (sym (any_map (bytes_eq (slice_index_or names r [])) (λ q. slice_index_or names q []) (range_with_len 0 r)) ∙ ap (list_any (bytes_eq (slice_index_or names r []))) (names_to names r (omega arith)) ∙ new))

pub amounts_more : (names : List (List ℕ)) (amounts : List ℕ) (r : ℕ) (name : List ℕ) (now new : Members) → r < length names → name ≡ get_or names r name → now ≡ amounts_to names amounts r
    → new ≡ put name (number (unsigned (slice_index amounts r))) now → new ≡ amounts_to names amounts (r + 1)
amounts_more names amounts r name now new lt is was step =
    let here : name ≡ slice_index_or names r [] = is ∙ get_or_default names r name [] lt in
    step ∙ rw (was, here) (sym (by_range_more (λ q. slice_index_or names q []) (λ q. Some (number (unsigned (slice_index amounts q)))) r))

-- ---- kinds, one more at a time

kinds_apart : list_all (λ i. not (list_any (λ other. bytes_eq (kind_word (get_or KINDS i Forge)) (kind_word other)) (take i KINDS))) (range_with_len 0 kind_count) ≡ true
unfolding kind_word kind_words
kinds_apart = refl

-- a kind has no member yet, where those before it have theirs
pub kind_free : (value : Kind → Option Data) (i : ℕ) (kind : Kind) → i < kind_count → get_member (kind_word (get_or KINDS i kind)) (members_by kind_word value (take i KINDS)) ≡ None
kind_free value i kind lt =
    let same : get_or KINDS i kind ≡ get_or KINDS i Forge = get_or_default KINDS i kind Forge lt in
    let new = each_passes (λ i. not (list_any (λ other. bytes_eq (kind_word (get_or KINDS i Forge)) (kind_word other)) (take i KINDS))) 0 kind_count i kinds_apart (omega arith) (omega arith) in
    rw same (no_member kind_word value (kind_word (get_or KINDS i Forge)) (take i KINDS) (not-true _ new))

pub kinds_more : (value : Kind → Option Data) (i : ℕ) (kind : Kind) (now new : Members) → i < length KINDS → now ≡ members_by kind_word value (take i KINDS)
    → new ≡ put_if (kind_word (get_or KINDS i kind)) (value (get_or KINDS i kind)) now → new ≡ members_by kind_word value (take (i + 1) KINDS)
kinds_more value i kind now new lt was step =
    step ∙ ap (put_if (kind_word (get_or KINDS i kind)) (value (get_or KINDS i kind))) was
    ∙ sym (ap (members_by kind_word value) (take_more KINDS i kind lt) ∙ by_more kind_word value (take i KINDS) (get_or KINDS i kind))

-- ---- nodes, one more at a time

pub named_more : (spelled : ℕ → Data) (test : ℕ → Bool) (n : ℕ) (now new : List Data) → now ≡ map spelled (filter test (range_with_len 0 n)) → new ≡ now ++ map spelled (filter test (n ∷ []))
    → new ≡ map spelled (filter test (range_with_len 0 (n + 1)))
named_more spelled test n now new was step =
    step ∙ ap (λ (l : List Data). l ++ map spelled (filter test (n ∷ []))) was
    ∙ sym (ap (map spelled) (ap (filter test) (range_more n) ∙ filter-append test (range_with_len 0 n) (n ∷ [])) ∙ map-append spelled (filter test (range_with_len 0 n)) (filter test (n ∷ [])))

-- ---- keys that are still free

pub machine_free : (host : Option Data) (name state usage : Data)
    → get_member (codes "durations") (put_if (codes "node") host (member (codes "name") name (member (codes "state") state (member (codes "use") usage no_members)))) ≡ None
machine_free None name state usage = refl
machine_free (Some d) name state usage = refl

pub ruleset free_rules = (machine_free)
