-- What a variable has once one is bound.
use Rattle.std.specs.Map.{lookup as lookup_by}
use Rattle.base.proofs.Public.{◌≡◌, ◌∙◌, ℕ, zero, suc, Bool, true, false, List, [], ◌∷◌, Option, Some, refl, ap, inl, inr, cases_Bool, common_steps, arith, bytes_eq, bytes_eq-Decides, map, length, position, position_or_len, ◌<◌, if◌then◌else◌}
use Rattle.cluster.specs.declared.ids.Element.{Element}
use Rattle.indexmap.proofs.MapLemmas.{Found-position}
use Rattle.indexmap.specs.IndexMap.{insert_entry}
use Rattle.indexmap.specs.Layout.{set_value_at}
use Rattle.std.specs.Map.{keys_of}
use Rattle.rule_script.specs.Bindings.{bind, Bindings, lookup}

pub same_bytes : (x y : List ℕ) → bytes_eq x y ≡ true → x ≡ y
same_bytes x y same = grind (arith, common_steps, bytes_eq-Decides)

pub lookup-bind : (env : Bindings) (x y : List ℕ) (v : List Element) → lookup (bind env x v) y ≡ (if bytes_eq y x then Some v else lookup env y)
unfolding bind lookup
lookup-bind [] x y v = refl
lookup-bind (b ∷ bs) x y v = elim (cases_Bool (bytes_eq x b.0)) [
  | inl same ↦ elim (cases_Bool (bytes_eq y b.0)) [
    | inl here ↦ rw (same, same_bytes x b.0 same, here) refl
    | inr other ↦ rw (same, same_bytes x b.0 same, other) refl
  ]
  | inr apart ↦ elim (cases_Bool (bytes_eq y b.0)) [
    | inl here ↦ elim (cases_Bool (bytes_eq y x)) [
      | inl twice ↦ absurd (let both : bytes_eq x b.0 ≡ true = rw (same_bytes y x twice) at here in cc)
      | inr differs ↦ rw (apart, here, differs) refl
    ]
    | inr other ↦ rw (apart, other) (lookup-bind bs x y v)
  ]
]

pub ruleset lookup_rules = (lookup-bind)

-- ---- the table that variables are kept in

module _ {X : Type 0} (f : X → List ℕ) where
  abbrev pub seen : List (X × List Element) → Bindings
  seen es = map (λ e. (f e.0, e.1)) es

  pub lookup_there : (es : List (X × List Element)) (y : List ℕ) → lookup_by (λ k. bytes_eq y (f k)) es ≡ lookup (seen es) y
  unfolding lookup
  lookup_there [] y = refl
  lookup_there (e ∷ es) y = ap (λ (o : Option (List Element)). if bytes_eq y (f e.0) then Some e.1 else o) (lookup_there es y)

  with_first : (b : Bool) (e : X × List Element) (v : List Element) (es more : List (X × List Element)) → seen (if b then (e.0, v) ∷ es else e ∷ more) ≡ (if b then (f e.0, v) ∷ seen es else (f e.0, e.1) ∷ seen more)
  with_first true e v es more = refl
  with_first false e v es more = refl

  pub bind_there : (es : List (X × List Element)) (key : X) (v : List Element) → seen (insert_entry (λ a b. bytes_eq (f a) (f b)) es key v) ≡ bind (seen es) (f key) v
  unfolding bind
  bind_there [] key v = refl
  bind_there (e ∷ es) key v =
      with_first (bytes_eq (f key) (f e.0)) e v es (insert_entry (λ a b. bytes_eq (f a) (f b)) es key v)
      ∙ ap (λ (l : Bindings). if bytes_eq (f key) (f e.0) then (f e.0, v) ∷ seen es else (f e.0, e.1) ∷ l) (bind_there es key v)

  -- a variable that is there gets the value in its place
  bind_at : (es : List (X × List Element)) (i : ℕ) (y : List ℕ) (v : List Element) → position_or_len (λ k. bytes_eq y (f k)) (keys_of es) ≡ i → i < length es → seen (set_value_at es i v) ≡ bind (seen es) y v
  unfolding bind
  bind_at [] i y v is within = absurd (omega arith)
  bind_at (e ∷ es) zero y v is within = elim (cases_Bool (bytes_eq y (f e.0))) [
    | inl same ↦ rw same refl
    | inr apart ↦ absurd (let later = rw apart at is in omega arith)
  ]
  bind_at (e ∷ es) (suc i) y v is within = elim (cases_Bool (bytes_eq y (f e.0))) [
    | inl same ↦ absurd (let here = rw same at is in omega arith)
    | inr apart ↦
        let later = rw apart at is in
        let rest : seen (set_value_at es i v) ≡ bind (seen es) y v = bind_at es i y v (omega (arith, later)) (omega (arith, within)) in
        rw apart (ap (λ (l : Bindings). (f e.0, e.1) ∷ l) rest)
  ]

  pub bind_found : (es : List (X × List Element)) (i : ℕ) (y : List ℕ) (v : List Element) → position (λ k. bytes_eq y (f k)) (keys_of es) ≡ Some i → seen (set_value_at es i v) ≡ bind (seen es) y v
  bind_found es i y v is =
      let there = Found-position (λ k. bytes_eq y (f k)) es i is in
      bind_at es i y v there.or_len there.within
