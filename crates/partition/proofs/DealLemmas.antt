-- What one more constraint adds to the list of each part.
use Rattle.std.specs.List.{filter_map}
use Rattle.std.specs.Prelude.{Vec}
use Rattle.std.specs.declared.alloc.Global.{Global}
use Rattle.std.proofs.lemmas.List.Elements.{filter_map-append}
use Rattle.base.proofs.Public.{◌≡◌, ◌≢◌, inl, inr, ℕ, zero, suc, ◌+◌, ◌<◌, Bool, true, false, ◌==◌, List, [], ◌∷◌, ◌++◌, length, map, filter, Option, Some, None, if◌then◌else◌, refl, sym, ap, ap₂, subst, ◌∙◌, append_assoc, append-nil, arith, cases_Bool, cases_eq, cases_lt, eq-eqb, filter-append, get_or, get_or-map, get_or-set_other, get_or-set_same, length-append, length-map, le-ltb, lt-ltb, map-append, map-range_with_len_more, map-set, nat_lt, ne_eqb, range_more, range_with_len, set, take, take_more}
use Rattle.catalogue.specs.Prelude.{Instance, IsInstance, SoundInstance}
use Rattle.catalogue.specs.declared.constraint.Constraint.{Constraint}
use Rattle.slices.specs.Forms.{form_of}
use Rattle.partition.specs.declared.faults.Division.{Division}
use Rattle.partition.specs.declared.numbering.Numbers.{Numbers}
use Rattle.partition.specs.Cutting.{constraints_by, cut_by, has_by, home_by, list_at, part_by}

-- ---- what a part gets of one constraint

pub dealt_alone : (d : Division) (numbers : Numbers) (j : ℕ) (c : Constraint) → home_by d (form_of c) ≡ None → constraints_by d numbers j (c ∷ []) ≡ cut_by d numbers j c ∷ []
dealt_alone d numbers j c alone = rw alone refl

pub dealt_home : (d : Division) (numbers : Numbers) (home j : ℕ) (c : Constraint) → home_by d (form_of c) ≡ Some home → constraints_by d numbers j (c ∷ []) ≡ (if home == j then cut_by d numbers home c ∷ [] else [])
dealt_home d numbers home j c joint =
    elim (cases_eq home j) [
      | inl same ↦ rw (joint, eq-eqb home j same) (ap (λ (i : ℕ). cut_by d numbers i c ∷ []) (sym same))
      | inr other ↦ rw (joint, ne_eqb home j other) refl
    ]

-- each list in turn gets its item
pub item_more : {A : Type 0} (item : ℕ → A) (old now new : List A) (i j : ℕ) → now ≡ old ++ (if nat_lt j i then item j ∷ [] else []) → new ≡ now ++ (if i == j then item i ∷ [] else []) →
    new ≡ old ++ (if nat_lt j (i + 1) then item j ∷ [] else [])
item_more {A = A} item old now new i j was is =
    elim (cases_lt j i) [
      | inl before ↦
          is ∙ ap (λ (b : Bool). now ++ (if b then item i ∷ [] else [])) (ne_eqb i j (λ e. absurd (omega (arith, e, before)))) ∙ append-nil now ∙ was ∙
          ap (λ (b : Bool). old ++ (if b then item j ∷ [] else [])) (lt-ltb j i before ∙ sym (lt-ltb j (i + 1) (omega (arith, before))))
      | inr past ↦ elim (cases_eq i j) [
        | inl same ↦
            is ∙ ap (λ (b : Bool). now ++ (if b then item i ∷ [] else [])) (eq-eqb i j same) ∙
            ap (λ (l : List A). l ++ item i ∷ []) (was ∙ ap (λ (b : Bool). old ++ (if b then item j ∷ [] else [])) (le-ltb j i past) ∙ append-nil old) ∙
            ap (λ (k : ℕ). old ++ item k ∷ []) same ∙ ap (λ (b : Bool). old ++ (if b then item j ∷ [] else [])) (sym (lt-ltb j (i + 1) (omega (arith, same))))
        | inr other ↦
            is ∙ ap (λ (b : Bool). now ++ (if b then item i ∷ [] else [])) (ne_eqb i j other) ∙ append-nil now ∙ was ∙
            ap (λ (b : Bool). old ++ (if b then item j ∷ [] else [])) (le-ltb j i past ∙ sym (le-ltb j (i + 1) (omega (arith, past, other))))
      ]
    ]

pub each_item : {A : Type 0} (item : ℕ → A) (old now : List A) (n j : ℕ) → j < n → now ≡ old ++ (if nat_lt j n then item j ∷ [] else []) → now ≡ old ++ item j ∷ []
each_item item old now n j l was = was ∙ ap (λ (b : Bool). old ++ (if b then item j ∷ [] else [])) (lt-ltb j n l)

-- ---- one constraint more

pub constraints_more : (d : Division) (numbers : Numbers) (j : ℕ) (cs : List Constraint) (k : ℕ) (c : Constraint) → k < length cs → c ≡ get_or cs k c →
    constraints_by d numbers j (take (k + 1) cs) ≡ constraints_by d numbers j (take k cs) ++ constraints_by d numbers j (c ∷ [])
constraints_more d numbers j cs k c l here =
    ap (constraints_by d numbers j) (take_more cs k c l ∙ ap (λ (x : Constraint). take k cs ++ x ∷ []) (sym here)) ∙
    ap (map (cut_by d numbers j)) (filter-append (λ x. has_by d j (form_of x)) (take k cs) (c ∷ [])) ∙
    map-append (cut_by d numbers j) (filter (λ x. has_by d j (form_of x)) (take k cs)) (filter (λ x. has_by d j (form_of x)) (c ∷ []))

pub dealt_more : (d : Division) (numbers : Numbers) (j : ℕ) (cs : List Constraint) (k : ℕ) (c : Constraint) (old now new : List Constraint) → k < length cs → c ≡ get_or cs k c →
    now ≡ old ++ constraints_by d numbers j (take k cs) → new ≡ now ++ constraints_by d numbers j (c ∷ []) → new ≡ old ++ constraints_by d numbers j (take (k + 1) cs)
dealt_more d numbers j cs k c old now new l here was is =
    is ∙ ap (λ (l : List Constraint). l ++ constraints_by d numbers j (c ∷ [])) was ∙ append_assoc old (constraints_by d numbers j (take k cs)) (constraints_by d numbers j (c ∷ [])) ∙
    ap (λ (l : List Constraint). old ++ l) (sym (constraints_more d numbers j cs k c l here))

-- ---- lists, one of which is longer

pub list_at_set : {A : Type 0} (lists : List (Vec A Global)) (i j : ℕ) (new : Vec A Global) (x : A) → i < length lists → new.items ≡ list_at lists i ++ x ∷ [] →
    list_at (set lists i new) j ≡ list_at lists j ++ (if i == j then x ∷ [] else [])
list_at_set {A = A} lists i j new x l is = elim (cases_eq i j) [ inl same ↦ here same | inr other ↦ there other ]
  where
    items : Vec A Global → List A
    items v = v.items

    changed : list_at (set lists i new) j ≡ get_or (set (map items lists) i new.items) j []
    changed = ap (λ (ls : List (List A)). get_or ls j []) (map-set items lists i new)

    here : i ≡ j → list_at (set lists i new) j ≡ list_at lists j ++ (if i == j then x ∷ [] else [])
    here same =
        changed ∙ ap (λ (k : ℕ). get_or (set (map items lists) i new.items) k []) (sym same) ∙
        get_or-set_same (map items lists) i new.items [] (omega (arith, l, length-map lists items)) ∙ is ∙
        ap (λ (k : ℕ). list_at lists k ++ x ∷ []) same ∙ ap (λ (b : Bool). list_at lists j ++ (if b then x ∷ [] else [])) (sym (eq-eqb i j same))

    there : i ≢ j → list_at (set lists i new) j ≡ list_at lists j ++ (if i == j then x ∷ [] else [])
    there other =
        changed ∙ get_or-set_other (map items lists) i j new.items [] (λ e. other (sym e)) ∙ sym (append-nil (list_at lists j)) ∙
        ap (λ (b : Bool). list_at lists j ++ (if b then x ∷ [] else [])) (sym (ne_eqb i j other))

-- the list at a place
pub list_at_get : {A : Type 0} (lists : List (Vec A Global)) (i : ℕ) (d : Vec A Global) → i < length lists → list_at lists i ≡ (get_or lists i d).items
list_at_get {A = A} lists i d l = get_or-map (λ (x : Vec A Global). x.items) lists i d [] l

pub list_at_seam : {A : Type 0} (all done : List (Vec A Global)) (v : Vec A Global) (rest : List (Vec A Global)) → done ++ v ∷ rest ≡ all → list_at all (length done) ≡ v.items
list_at_seam all [] v rest whole = ap (λ (l : List (Vec _ Global)). list_at l 0) (sym whole)
list_at_seam {A = A} all (x ∷ done) v rest whole = ap (λ (l : List (Vec A Global)). list_at l (suc (length done))) (sym whole) ∙ list_at_seam (done ++ v ∷ rest) done v rest refl

-- one more empty list
pub empty_more : {A : Type 0} (lists : List (Vec A Global)) (v : Vec A Global) → ((j : ℕ) → list_at lists j ≡ []) → v.items ≡ [] → (j : ℕ) → list_at (lists ++ v ∷ []) j ≡ []
empty_more [] v all empty zero = empty
empty_more [] v all empty (suc j) = refl
empty_more (x ∷ lists) v all empty zero = all 0
empty_more (x ∷ lists) v all empty (suc j) = empty_more lists v (λ k. all (suc k)) empty j

-- ---- items of a part, one number more

abbrev pub given_to : {A : Type 0} → (ℕ → Option A) → (ℕ → Bool) → ℕ → List A
given_to f test n = filter_map f (filter test (range_with_len 0 n))

module _ {A : Type 0} (f : ℕ → Option A) (test : ℕ → Bool) (n : ℕ) where
  split_last : given_to f test (n + 1) ≡ given_to f test n ++ filter_map f (filter test (n ∷ []))
  split_last =
      ap (λ (l : List ℕ). filter_map f (filter test l)) (range_more n) ∙ ap (filter_map f) (filter-append test (range_with_len 0 n) (n ∷ [])) ∙
      filter_map-append f (filter test (range_with_len 0 n)) (filter test (n ∷ []))

  given_more : (now : List A) (x : A) → now ≡ given_to f test n → test n ≡ true → f n ≡ Some x → now ++ x ∷ [] ≡ given_to f test (n + 1)
  given_more now x was pass given = ap (λ (l : List A). l ++ x ∷ []) was ∙ sym (split_last ∙ ap (λ (l : List A). given_to f test n ++ l) last)
    where
      last : filter_map f (filter test (n ∷ [])) ≡ x ∷ []
      last = rw (pass, given) refl

  given_same : (now : List A) → now ≡ given_to f test n → test n ≡ false → now ≡ given_to f test (n + 1)
  given_same now was fail = was ∙ sym (split_last ∙ ap (λ (l : List A). given_to f test n ++ l) last ∙ append-nil (given_to f test n))
    where
      last : filter_map f (filter test (n ∷ [])) ≡ []
      last = rw fail refl

  -- which it gives if it passes
  pub given_step : (now new : List A) (x : A) → now ≡ given_to f test n → f n ≡ Some x → new ≡ now ++ (if test n then x ∷ [] else []) → new ≡ given_to f test (n + 1)
  given_step now new x was given is =
      elim (cases_Bool (test n)) [
        | inl pass ↦ is ∙ ap (λ (b : Bool). now ++ (if b then x ∷ [] else [])) pass ∙ given_more now x was pass given
        | inr fail ↦ is ∙ ap (λ (b : Bool). now ++ (if b then x ∷ [] else [])) fail ∙ append-nil now ∙ given_same now was fail
      ]

-- ---- one part more

pub parts_more : {V : Type 0} (f : ℕ → Instance) (parts : List SoundInstance) (q : SoundInstance) (done : List V) (v : V) → map (λ x. x.given) parts ≡ map f (range_with_len 0 (length done)) → q.given ≡ f (length done) →
    map (λ x. x.given) (parts ++ q ∷ []) ≡ map f (range_with_len 0 (length (done ++ v ∷ [])))
parts_more f parts q done v was is =
    map-append (λ (x : SoundInstance). x.given) parts (q ∷ []) ∙ ap₂ (λ (l : List Instance) (x : Instance). l ++ x ∷ []) was is ∙
    sym (map-range_with_len_more f 0 (length done) (length done) (omega arith)) ∙ ap (λ (n : ℕ). map f (range_with_len 0 n)) (sym (length-append done (v ∷ [])))

pub as_many : {A B : Type 0} (new xs : List A) (x : A) (ys : List B) (y : B) → new ≡ xs ++ x ∷ [] → length xs ≡ length ys → length new ≡ length (ys ++ y ∷ [])
as_many new xs x ys y is same = omega (arith, ap length is, same, length-append xs (x ∷ []), length-append ys (y ∷ []))

pub part_in_turn : (p : Instance) (d : Division) (numbers : Numbers) (all done : List (Vec Constraint Global)) (v : Vec Constraint Global) (rest : List (Vec Constraint Global)) (i : ℕ) → done ++ v ∷ rest ≡ all → i ≡ length done →
    ((k : ℕ) → k < length all → IsInstance (part_by p d numbers k (list_at all k))) → IsInstance (part_by p d numbers i v.items)
part_in_turn p d numbers all done v rest i whole is sound =
    let within : length done < length all = omega (arith, length-append done (v ∷ rest), ap length whole) in
    subst (λ (k : ℕ). IsInstance (part_by p d numbers k v.items)) (sym is)
    (subst (λ (cs : List Constraint). IsInstance (part_by p d numbers (length done) cs)) (list_at_seam all done v rest whole) (sound (length done) within))

pub part_given : (p : Instance) (d : Division) (numbers : Numbers) (all done : List (Vec Constraint Global)) (v : Vec Constraint Global) (rest : List (Vec Constraint Global)) (i : ℕ) (q : Instance) → done ++ v ∷ rest ≡ all → i ≡ length done →
    q ≡ part_by p d numbers i v.items → q ≡ part_by p d numbers (length done) (list_at all (length done))
part_given p d numbers all done v rest i q whole is made =
    made ∙ ap (λ (k : ℕ). part_by p d numbers k v.items) is ∙ ap (part_by p d numbers (length done)) (sym (list_at_seam all done v rest whole))
