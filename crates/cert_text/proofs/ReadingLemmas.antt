-- Words are read from their texts, and from no others.
use Rattle.std.proofs.Common.{option_map, codes}
use Rattle.base.proofs.Public.{◌≡◌, ◌∙◌, ℕ, ◌≢◌, Bool, true, false, List, [], ◌∷◌, Option, Some, None, refl, sym, ap, inl, inr, and_left, cases_Bool, bytes_eq-Decides, decimal, list_all, bytes_eq}
use Rattle.cert_text.specs.Prelude.{Cut as TheCut, Decide as TheDecide, Fail as TheFail, From as TheFrom, give, goal_kind, GOAL_KINDS, goal_word, GoalKind, goes_on, Idle as TheIdle, Infeasible as TheInfeasible, is_name, IsName, IsNumber, IsPlace, Left as TheLeft, line_kind, LINE_KINDS, line_word, LineKind, name, name_in, named, number, number_of, one, Optimal as TheOptimal, part_kind, PART_KINDS, part_word, PartKind, place, place_in, place_word, Plan as ThePlan, Reading, reason_kind, REASON_KINDS, reason_word, ReasonKind, Undecided as TheUndecided, Upto as TheUpto, Word, ◌>>=◌}
use Rattle.reasons.specs.declared.reason.ReasonKind.TheVariants.{Empty as TheEmpty, Bound as TheBound, Load as TheLoad, Pair as ThePair, Place as ThePlace, Group as TheGroup, SetLoad as TheSetLoad, Power as ThePower, Usable as TheUsable, Hall as TheHall}
use Rattle.cert_text.specs.declared.kinds.LineKind.TheVariants.{End as TheEnd}
use Rattle.numerals.proofs.Public.{decimal-number_of, number_of-decimal}

-- ---- readings of two steps, and of one word

-- what the first step found, and the second
pub record Two {A B : Type 0} (m : Reading A) (f : A → Reading B) (words : List Word) (y : B) (rest : List Word) : Type 0 where
  pub x : A
  pub between : List Word
  pub first : m words ≡ Some (x, between)
  pub second : f x between ≡ Some (y, rest)

two_by : {A B : Type 0} (m : Reading A) (f : A → Reading B) (words : List Word) (y : B) (rest : List Word) (found : Option (A × List Word)) → m words ≡ found → goes_on f found ≡ Some (y, rest) → Two m f words y rest
two_by m f words y rest None is read = absurd (cc)
two_by m f words y rest (Some found) is read = record { x = found.0; between = found.1; first = is; second = read }

pub two : {A B : Type 0} (m : Reading A) (f : A → Reading B) (words : List Word) (y : B) (rest : List Word) → (m >>= f) words ≡ Some (y, rest) → Two m f words y rest
two m f words y rest read = two_by m f words y rest (m words) refl read

-- the same, for a conclusion from both
pub both : {A B : Type 0} {P : Type 0} (m : Reading A) (f : A → Reading B) (words : List Word) (y : B) (rest : List Word) → (m >>= f) words ≡ Some (y, rest) →
    ((x : A) (between : List Word) → m words ≡ Some (x, between) → f x between ≡ Some (y, rest) → P) → P
both m f words y rest read then = let found = two m f words y rest read in then found.x found.between found.first found.second

-- what a reading without a word gives, and the words that it leaves
pub given : {A : Type 0} (x y : A) (words rest : List Word) → give x words ≡ Some (y, rest) → (x ≡ y) × (words ≡ rest)
given {A} x y words rest read =
    let pair : ◌≡◌ {A = A × List Word} (x, words) (y, rest) = cc in
    (ap (λ (p : A × List Word). p.0) pair, ap (λ (p : A × List Word). p.1) pair)

-- the word that was read, and as what
pub record OneWord {A : Type 0} (f : Word → Option A) (words : List Word) (x : A) (rest : List Word) : Type 0 where
  pub word : Word
  pub words_are : words ≡ word ∷ rest
  pub read : f word ≡ Some x

one_by : {A : Type 0} (f : Word → Option A) (word : Word) (words : List Word) (x : A) (rest : List Word) (found : Option A) → f word ≡ found → option_map {U = A × List Word} (λ x. (x, words)) found ≡ Some (x, rest) → OneWord f (word ∷ words) x rest
one_by {A} f word words x rest None is read = absurd (cc)
one_by {A} f word words x rest (Some y) is read =
    let pair : ◌≡◌ {A = A × List Word} (y, words) (x, rest) = cc in
    record { word = word; words_are = ap (λ (p : A × List Word). word ∷ p.1) pair; read = is ∙ ap (λ (p : A × List Word). Some p.0) pair }

pub one_word : {A : Type 0} (f : Word → Option A) (words : List Word) (x : A) (rest : List Word) → one f words ≡ Some (x, rest) → OneWord f words x rest
one_word f [] x rest read = absurd (cc)
one_word f (word ∷ words) x rest read = one_by f word words x rest (f word) refl read

-- ---- names

name_by : (word : Word) (x : Word) (b : Bool) → is_name word ≡ b → name_in word ≡ Some x → (word ≡ x) × IsName x
name_by word x true is read = let found : Some word ≡ Some x = rw is at read in let same : word ≡ x = cc in (same, rw same at is)
name_by word x false is read = let found : None ≡ Some x = rw is at read in absurd (cc)

pub name_only : (words : List Word) (x : Word) (rest : List Word) → name words ≡ Some (x, rest) → (words ≡ x ∷ rest) × IsName x
unfolding name
name_only words x rest read =
    let one = one_word name_in words x rest read in
    let named = name_by one.word x (is_name one.word) refl one.read in
    (one.words_are ∙ ap (λ (w : Word). w ∷ rest) named.0, named.1)

pub name_back : (x : Word) (rest : List Word) → IsName x → name (x ∷ rest) ≡ Some (x, rest)
unfolding name
name_back x rest is = rw is refl

not_name_by : (word : Word) (words : List Word) (b : Bool) → is_name word ≡ b → name (word ∷ words) ≡ None → is_name word ≡ false
unfolding name
not_name_by word words true is read = let found : ◌≡◌ {A = Option (Word × List Word)} (Some (word, words)) None = rw is at read in absurd (cc)
not_name_by word words false is read = is

pub name_none : (words : List Word) → words ≢ [] → name words ≡ None → list_all is_name words ≡ false
name_none [] some read = absurd (some refl)
name_none (word ∷ words) some read = and_left _ _ (not_name_by word words (is_name word) refl read)

-- ---- numbers

pub number_only : (words : List Word) (x : ℕ) (rest : List Word) → number words ≡ Some (x, rest) → (words ≡ decimal x ∷ rest) × IsNumber x
unfolding number
number_only words x rest read =
    let one = one_word number_of words x rest read in
    let text = decimal-number_of one.word x one.read in
    (one.words_are ∙ ap (λ (w : Word). w ∷ rest) text.0, text.1)

pub number_back : (x : ℕ) (rest : List Word) → IsNumber x → number (decimal x ∷ rest) ≡ Some (x, rest)
unfolding number
number_back x rest is = rw (number_of-decimal x is) refl

-- ---- places

-- `-` is no name
dash_is_no_name : (x : Word) → IsName x → bytes_eq x (codes "-") ≡ false
unfolding is_name
dash_is_no_name x is =
    elim (cases_Bool (bytes_eq x (codes "-"))) [
      | inl dash ↦
          let same : x ≡ codes "-" = (bytes_eq-Decides x (codes "-")).0 dash in
          let bad : is_name (codes "-") ≡ true = rw same at is in
          absurd (cc)
      | inr other ↦ other
    ]

place_named : (word : Word) (x : Option Word) (b : Bool) → is_name word ≡ b → ◌≡◌ {A = Option (Option Word)} (option_map (λ (name : Word). Some name) (name_in word)) (Some x) → (word ≡ place_word x) × IsPlace x
place_named word x true is read =
    let found : ◌≡◌ {A = Option (Option Word)} (Some (Some word)) (Some x) = rw is at read in
    let same : ◌≡◌ {A = Option Word} (Some word) x = cc in
    rw (← same) (refl, is)
place_named word x false is read =
    let found : ◌≡◌ {A = Option (Option Word)} None (Some x) = rw is at read in
    absurd (cc)

place_by : (word : Word) (x : Option Word) (b : Bool) → bytes_eq word (codes "-") ≡ b → place_in word ≡ Some x → (word ≡ place_word x) × IsPlace x
place_by word x true is read =
    let found : ◌≡◌ {A = Option (Option Word)} (Some None) (Some x) = rw is at read in
    let same : ◌≡◌ {A = Option Word} None x = cc in
    rw (← same) ((bytes_eq-Decides word (codes "-")).0 is, tt)
place_by word x false is read =
    let found : ◌≡◌ {A = Option (Option Word)} (option_map (λ (name : Word). Some name) (name_in word)) (Some x) = rw is at read in
    place_named word x (is_name word) refl found

pub place_only : (words : List Word) (x : Option Word) (rest : List Word) → place words ≡ Some (x, rest) → (words ≡ place_word x ∷ rest) × IsPlace x
unfolding place
place_only words x rest read =
    let one = one_word place_in words x rest read in
    let found = place_by one.word x (bytes_eq one.word (codes "-")) refl one.read in
    (one.words_are ∙ ap (λ (w : Word). w ∷ rest) found.0, found.1)

pub place_back : (x : Option Word) (rest : List Word) → IsPlace x → place (place_word x ∷ rest) ≡ Some (x, rest)
unfolding place
place_back None rest is = refl
place_back (Some x) rest is = rw (dash_is_no_name x is, is) refl

-- ---- kinds

named_step : {K : Type 0} (word : K → Word) (x : K) (kinds : List K) (w : Word) (k : K) (b : Bool) → bytes_eq (word x) w ≡ b → named word (x ∷ kinds) w ≡ Some k →
    (named word kinds w ≡ Some k → word k ≡ w) → word k ≡ w
named_step word x kinds w k true is read later =
    let found : Some x ≡ Some k = rw is at read in
    let same : x ≡ k = cc in
    ap word (sym same) ∙ (bytes_eq-Decides (word x) w).0 is
named_step word x kinds w k false is read later = later (rw is at read)

named_only : {K : Type 0} (word : K → Word) (kinds : List K) (w : Word) (k : K) → named word kinds w ≡ Some k → word k ≡ w
named_only word [] w k read = absurd (cc)
named_only word (x ∷ kinds) w k read = named_step word x kinds w k (bytes_eq (word x) w) refl read (named_only word kinds w k)

kind_only : {K : Type 0} (word : K → Word) (kinds : List K) (words : List Word) (k : K) (rest : List Word) → one (named word kinds) words ≡ Some (k, rest) → words ≡ word k ∷ rest
kind_only word kinds words k rest read =
    let one = one_word (named word kinds) words k rest read in
    one.words_are ∙ ap (λ (w : Word). w ∷ rest) (sym (named_only word kinds one.word k one.read))

pub line_kind_only : (words : List Word) (k : LineKind) (rest : List Word) → line_kind words ≡ Some (k, rest) → words ≡ line_word k ∷ rest
unfolding line_kind
line_kind_only words k rest read = kind_only line_word LINE_KINDS words k rest read

pub part_kind_only : (words : List Word) (k : PartKind) (rest : List Word) → part_kind words ≡ Some (k, rest) → words ≡ part_word k ∷ rest
unfolding part_kind
part_kind_only words k rest read = kind_only part_word PART_KINDS words k rest read

pub goal_kind_only : (words : List Word) (k : GoalKind) (rest : List Word) → goal_kind words ≡ Some (k, rest) → words ≡ goal_word k ∷ rest
unfolding goal_kind
goal_kind_only words k rest read = kind_only goal_word GOAL_KINDS words k rest read

pub reason_kind_only : (words : List Word) (k : ReasonKind) (rest : List Word) → reason_kind words ≡ Some (k, rest) → words ≡ reason_word k ∷ rest
unfolding reason_kind
reason_kind_only words k rest read = kind_only reason_word REASON_KINDS words k rest read

pub line_kind_back : (k : LineKind) (rest : List Word) → line_kind (line_word k ∷ rest) ≡ Some (k, rest)
unfolding line_kind line_word
line_kind_back TheDecide rest = refl
line_kind_back TheCut rest = refl
line_kind_back TheFail rest = refl
line_kind_back ThePlan rest = refl
line_kind_back TheLeft rest = refl
line_kind_back TheEnd rest = refl

pub part_kind_back : (k : PartKind) (rest : List Word) → part_kind (part_word k ∷ rest) ≡ Some (k, rest)
unfolding part_kind part_word
part_kind_back TheIdle rest = refl
part_kind_back TheUpto rest = refl
part_kind_back TheFrom rest = refl

pub goal_kind_back : (k : GoalKind) (rest : List Word) → goal_kind (goal_word k ∷ rest) ≡ Some (k, rest)
unfolding goal_kind goal_word
goal_kind_back TheOptimal rest = refl
goal_kind_back TheInfeasible rest = refl
goal_kind_back TheUndecided rest = refl

pub reason_kind_back : (k : ReasonKind) (rest : List Word) → reason_kind (reason_word k ∷ rest) ≡ Some (k, rest)
unfolding reason_kind reason_word
reason_kind_back TheEmpty rest = refl
reason_kind_back TheBound rest = refl
reason_kind_back TheLoad rest = refl
reason_kind_back ThePair rest = refl
reason_kind_back ThePlace rest = refl
reason_kind_back TheGroup rest = refl
reason_kind_back TheSetLoad rest = refl
reason_kind_back ThePower rest = refl
reason_kind_back TheUsable rest = refl
reason_kind_back TheHall rest = refl

-- ---- a word, and then what comes after it

pub name_then : {B : Type 0} {P : Type 0} (f : Word → Reading B) (words : List Word) (y : B) (rest : List Word) → (name >>= f) words ≡ Some (y, rest) →
    ((x : Word) (between : List Word) → words ≡ x ∷ between → IsName x → f x between ≡ Some (y, rest) → P) → P
name_then f words y rest read then = both name f words y rest read (λ x between first second. let is = name_only words x between first in then x between is.0 is.1 second)

pub number_then : {B : Type 0} {P : Type 0} (f : ℕ → Reading B) (words : List Word) (y : B) (rest : List Word) → (number >>= f) words ≡ Some (y, rest) →
    ((x : ℕ) (between : List Word) → words ≡ decimal x ∷ between → IsNumber x → f x between ≡ Some (y, rest) → P) → P
number_then f words y rest read then = both number f words y rest read (λ x between first second. let is = number_only words x between first in then x between is.0 is.1 second)

pub place_then : {B : Type 0} {P : Type 0} (f : Option Word → Reading B) (words : List Word) (y : B) (rest : List Word) → (place >>= f) words ≡ Some (y, rest) →
    ((x : Option Word) (between : List Word) → words ≡ place_word x ∷ between → IsPlace x → f x between ≡ Some (y, rest) → P) → P
place_then f words y rest read then = both place f words y rest read (λ x between first second. let is = place_only words x between first in then x between is.0 is.1 second)
