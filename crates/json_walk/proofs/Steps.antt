-- What the steps of a walk gave, where the walk came to its end.
use Rattle.std.proofs.Common.{Result, Err}
use Rattle.base.proofs.Public.{◌≡◌, ℕ, suc, ◌+◌, ◌<◌, ◌&&◌, ◌||◌, Bool, true, false, List, [], ◌∷◌, length, Option, Some, None, Ok, nat_le, is_some, refl, sym, ap, subst, ◌∙◌, arith, and_parts, ok_or}
use Rattle.json_walk.specs.Prelude.{each, Fault, fault_at, field_of, key_path, number_field_of, number_of, optional, OutOfRange, wants, WrongKind, ◌>>=◌, ◌>>◌}
use Rattle.serde_json.specs.Data.{Data, Num}
use Rattle.serde_json.specs.Find.{as_number, as_u64, as_i64}

-- the value of a step, and the rest with it
pub record Step {A B E : Type 0} (m : Result A E) (f : A → Result B E) (y : B) : Type 0 where
  pub value : A
  pub made : m ≡ Ok value
  pub rest : f value ≡ Ok y

pub step : {A B E : Type 0} (m : Result A E) (f : A → Result B E) (y : B) → (m >>= f) ≡ Ok y → Step m f y
step (Ok x) f y h = record { value = x; made = refl; rest = h }
step (Err e) f y h = absurd (cc)

-- a test that held, and the rest
pub passed : {B E : Type 0} (b : Bool) (e : E) (r : Result B E) (y : B) → (wants b e >> r) ≡ Ok y → (b ≡ true) × (r ≡ Ok y)
passed true e r y h = (refl, h)
passed false e r y h = absurd (cc)

-- the rest after a step whose value is not used
pub later : {A B E : Type 0} (m : Result A E) (r : Result B E) (y : B) → (m >> r) ≡ Ok y → r ≡ Ok y
later (Ok x) r y h = h
later (Err e) r y h = absurd (cc)

pub same-ok : {A E : Type 0} (x y : A) → Path (Result A E) (Ok x) (Ok y) → x ≡ y
same-ok x y h = cc

-- what each step keeps, the whole keeps
pub each-keeps : {X A E : Type 0} (f : ℕ → A → X → Result A E) (n : ℕ) (P : ℕ → A → Type 0)
    → ((place : ℕ) (a next : A) (x : X) → place < n → P place a → f place a x ≡ Ok next → P (suc place) next)
    → (xs : List X) (place : ℕ) (a out : A) → n ≡ place + length xs → P place a → each f place a xs ≡ Ok out → P n out
unfolding each
each-keeps f n P keeps [] place a out count p h =
    let same : place ≡ n = omega arith in
    subst (λ (m : ℕ). P m out) same (subst (P place) (same-ok a out h) p)
each-keeps f n P keeps (x ∷ xs) place a out count p h =
    let s = step (f place a x) (λ next. each f (suc place) next xs) out h in
    let shorter : n ≡ suc place + length xs = omega arith in
    each-keeps f n P keeps xs (suc place) s.value out shorter (keeps place a s.value x (omega arith) p s.made) s.rest

-- ---- a number that is read lies within its bounds

abbrev last_test : ℕ → ℕ → Fault → ℕ → Result ℕ Fault
last_test least most e m = wants (nat_le least m && nat_le m most) e >> Ok m

abbrev whole_test : ℕ → ℕ → Fault → Fault → Num → Result ℕ Fault
whole_test least most e f x = wants (is_some (as_u64 x) || is_some (as_i64 x)) e >> (ok_or (as_u64 x) f >>= last_test least most f)

pub number_of-within : (d : Data) (path : List ℕ) (least most n : ℕ) → number_of d path least most ≡ Ok n → (nat_le least n ≡ true) × (nat_le n most ≡ true)
unfolding number_of
number_of-within d path least most n h =
    let e = fault_at path WrongKind in
    let f = fault_at path OutOfRange in
    let x = step (ok_or (as_number d) e) (whole_test least most e f) n h in
    let whole = passed (is_some (as_u64 x.value) || is_some (as_i64 x.value)) e (ok_or (as_u64 x.value) f >>= last_test least most f) n x.rest in
    let m = step (ok_or (as_u64 x.value) f) (last_test least most f) n whole.1 in
    let within = passed (nat_le least m.value && nat_le m.value most) f (Ok m.value) n m.rest in
    let sides = and_parts (nat_le least m.value) (nat_le m.value most) within.0 in
    let same : m.value ≡ n = same-ok m.value n within.1 in
    (ap (nat_le least) (sym same) ∙ sides.0, ap (λ k. nat_le k most) (sym same) ∙ sides.1)

pub number_field_of-within : (d : Data) (path key : List ℕ) (least most n : ℕ) → number_field_of d path key least most ≡ Ok n → (nat_le least n ≡ true) × (nat_le n most ≡ true)
unfolding number_field_of
number_field_of-within d path key least most n h =
    let s = step (field_of d path key) (λ found. number_of found (key_path path key) least most) n h in
    number_of-within s.value (key_path path key) least most n s.rest

pub optional-within : (o : Option Data) (path : List ℕ) (absent least most n : ℕ) → nat_le least absent ≡ true → nat_le absent most ≡ true
    → optional absent (λ v. number_of v path least most) o ≡ Ok n → (nat_le least n ≡ true) × (nat_le n most ≡ true)
unfolding optional
optional-within None path absent least most n above below h =
    let same : absent ≡ n = same-ok absent n h in
    (ap (nat_le least) (sym same) ∙ above, ap (λ k. nat_le k most) (sym same) ∙ below)
optional-within (Some v) path absent least most n above below h = number_of-within v path least most n h
