-- Of all bytes one line is taken, and one alone.
use Rattle.base.proofs.Public.{◌≡◌, ◌≢◌, inl, inr, ℕ, zero, suc, ◌+◌, ◌<◌, ◌≤◌, List, [], ◌∷◌, ◌++◌, length, refl, sym, ap, ◌∙◌, append_assoc, arith, Contains, cases_eq, Contains-append_cases, length-append}
use Rattle.event_lines.specs.Prelude.{BeginsLine, IsOneLine, Line, max_line_bytes, Nothing, ReadsLine, Short, TooLong, Whole}

-- ---- which line

one_more : (x : ℕ) (text : List ℕ) → x ≢ 10 → IsOneLine text → IsOneLine (x ∷ text)
one_more x text other one c =
    elim (Contains-append_cases (x ∷ []) text 10 c) [
      | inl head ↦ let here : head.0 ≡ 0 = omega (arith, head.1) in other (rw here at head.2)
      | inr tail ↦ one tail
    ]

contains_here : (x : ℕ) (text : List ℕ) → x ≡ 10 → Contains (x ∷ text) 10
contains_here x text e = (0, omega arith, e)

later_line : (x : ℕ) (text : List ℕ) → IsOneLine (x ∷ text) → IsOneLine text
later_line x text one c = one (suc c.0, omega (arith, c.1), c.2)

none_in : IsOneLine []
none_in c = omega (arith, c.1)

-- a line was begun, and one byte more of it was taken
pub begins_more : (bytes text rest rest' : List ℕ) (b : ℕ) → bytes ≡ text ++ rest → rest ≡ b ∷ rest' → IsOneLine text → b ≢ 10 → length text ≤ max_line_bytes → BeginsLine bytes rest'
begins_more bytes text rest rest' b all next one other few = record {
  text = text ++ b ∷ [];
  taken = all ∙ ap (λ (l : List ℕ). text ++ l) next ∙ sym (append_assoc text (b ∷ []) rest');
  one = λ c.
      elim (Contains-append_cases text (b ∷ []) 10 c) [
        | inl before ↦ one before
        | inr here ↦ let first : here.0 ≡ 0 = omega (arith, here.1) in other (rw first at here.2)
      ];
  few = omega (arith, few, length-append text (b ∷ []));
}

-- what is taken of the bytes where a line may have k bytes
data Taken (k : ℕ) (bytes : List ℕ) : Type 0 where
  IsWhole : (text rest : List ℕ) → bytes ≡ text ++ 10 ∷ rest → IsOneLine text → length text ≤ k → Taken k bytes
  IsLong : (text rest : List ℕ) → bytes ≡ text ++ rest → IsOneLine text → length text ≡ k + 1 → Taken k bytes
  IsLast : IsOneLine bytes → length bytes ≤ k → Taken k bytes

take_more : (k x : ℕ) (bytes : List ℕ) → x ≢ 10 → Taken k bytes → Taken (suc k) (x ∷ bytes)
take_more k x bytes other (IsWhole text rest is one few) = IsWhole (x ∷ text) rest (ap (λ l. x ∷ l) is) (one_more x text other one) (omega (arith, few))
take_more k x bytes other (IsLong text rest is one few) = IsLong (x ∷ text) rest (ap (λ l. x ∷ l) is) (one_more x text other one) (omega (arith, few))
take_more k x bytes other (IsLast one few) = IsLast (one_more x bytes other one) (omega (arith, few))

taken_within : (k : ℕ) (bytes : List ℕ) → Taken k bytes
taken_within k [] = IsLast none_in (omega arith)
taken_within zero (x ∷ bytes) =
    elim (cases_eq x 10) [
      | inl e ↦ IsWhole [] bytes (ap (λ y. y ∷ bytes) e) none_in (omega arith)
      | inr n ↦ IsLong (x ∷ []) bytes refl (one_more x [] n none_in) refl
    ]
taken_within (suc k) (x ∷ bytes) =
    elim (cases_eq x 10) [
      | inl e ↦ IsWhole [] bytes (ap (λ y. y ∷ bytes) e) none_in (omega arith)
      | inr n ↦ take_more k x bytes n (taken_within k bytes)
    ]

-- of all bytes a line is taken
pub record TakesLine (bytes : List ℕ) : Type 0 where
  pub found : Line
  pub text : List ℕ
  pub rest : List ℕ
  pub reads : ReadsLine bytes found text rest

pub takes_line : (bytes : List ℕ) → TakesLine bytes
takes_line bytes = by (taken_within max_line_bytes bytes)
  where
    last : (bytes : List ℕ) → IsOneLine bytes → length bytes ≤ max_line_bytes → TakesLine bytes
    last [] one few = record { found = Nothing; text = []; rest = []; reads = (refl, refl, refl) }
    last (x ∷ bytes) one few = record { found = Short; text = x ∷ bytes; rest = []; reads = (refl, refl, one, omega arith, few) }

    by : Taken max_line_bytes bytes → TakesLine bytes
    by (IsWhole text rest is one few) = record { found = Whole; text = text; rest = rest; reads = (is, one, few) }
    by (IsLong text rest is one few) = record { found = TooLong; text = text; rest = rest; reads = (is, one, few) }
    by (IsLast one few) = last bytes one few

-- ---- bytes have one line

-- the first line of some bytes is one
split_one : (a b r s : List ℕ) → IsOneLine a → IsOneLine b → (a ++ 10 ∷ r) ≡ (b ++ 10 ∷ s) → (a ≡ b) × (r ≡ s)
split_one [] [] r s f g e = (refl, cc)
split_one [] (y ∷ b) r s f g e = let same : y ≡ 10 = cc in absurd (g (contains_here y b same))
split_one (x ∷ a) [] r s f g e = let same : x ≡ 10 = cc in absurd (f (contains_here x a same))
split_one (x ∷ a) (y ∷ b) r s f g e =
    let head : x ≡ y = cc in
    let tail : (a ++ 10 ∷ r) ≡ (b ++ 10 ∷ s) = cc in
    let below = split_one a b r s (later_line x a f) (later_line y b g) tail in
    (λ i. head i ∷ below.0 i, below.1)

-- a text past the end of the line has that end in it
not_past : (a b r s : List ℕ) → IsOneLine b → length a < length b → (a ++ 10 ∷ r) ≢ (b ++ s)
not_past a [] r s g less e = omega (arith, less)
not_past [] (y ∷ b) r s g less e = let same : y ≡ 10 = cc in g (contains_here y b same)
not_past (x ∷ a) (y ∷ b) r s g less e =
    let tail : (a ++ 10 ∷ r) ≡ (b ++ s) = cc in
    not_past a b r s (later_line y b g) (omega (arith, less)) tail

-- texts of one length
split_long : (a b r s : List ℕ) → length a ≡ length b → (a ++ r) ≡ (b ++ s) → (a ≡ b) × (r ≡ s)
split_long [] [] r s same e = (refl, e)
split_long [] (y ∷ b) r s same e = absurd (omega (arith, same))
split_long (x ∷ a) [] r s same e = absurd (omega (arith, same))
split_long (x ∷ a) (y ∷ b) r s same e =
    let head : x ≡ y = cc in
    let tail : (a ++ r) ≡ (b ++ s) = cc in
    let below = split_long a b r s (omega (arith, same)) tail in
    (λ i. head i ∷ below.0 i, below.1)

none_left : (text : List ℕ) → text ++ [] ≡ text
none_left [] = refl
none_left (x ∷ text) = ap (λ l. x ∷ l) (none_left text)

some_there : (a r : List ℕ) → (a ++ 10 ∷ r) ≢ []
some_there [] r e = cc
some_there (x ∷ a) r e = cc

-- what two readings of the same bytes have in common
pub record SameLine (found found' : Line) (text text' rest rest' : List ℕ) : Type 0 where
  pub kind : found ≡ found'
  pub taken : text ≡ text'
  pub left : rest ≡ rest'

pub line_is_one : (bytes : List ℕ) (f g : Line) (a b r s : List ℕ) → ReadsLine bytes f a r → ReadsLine bytes g b s → SameLine f g a b r s
line_is_one bytes Whole Whole a b r s h k = let same = split_one a b r s h.1 k.1 (sym h.0 ∙ k.0) in record { kind = refl; taken = same.0; left = same.1 }
line_is_one bytes Whole TooLong a b r s h k = absurd (not_past a b r s k.1 (omega (arith, h.2, k.2)) (sym h.0 ∙ k.0))
line_is_one bytes Whole Short a b r s h k =
    let all : (a ++ 10 ∷ r) ≡ (b ++ []) = sym h.0 ∙ k.0 ∙ sym (none_left b) in
    let size : length (a ++ 10 ∷ r) ≡ length b = ap length (sym h.0 ∙ k.0) in
    absurd (not_past a b r [] k.2 (omega (arith, size, length-append a (10 ∷ r))) all)
line_is_one bytes Whole Nothing a b r s h k = absurd (some_there a r (sym h.0 ∙ k.0))
line_is_one bytes TooLong Whole a b r s h k = absurd (not_past b a s r h.1 (omega (arith, h.2, k.2)) (sym k.0 ∙ h.0))
line_is_one bytes TooLong TooLong a b r s h k = let same = split_long a b r s (h.2 ∙ sym k.2) (sym h.0 ∙ k.0) in record { kind = refl; taken = same.0; left = same.1 }
line_is_one bytes TooLong Short a b r s h k =
    let size : length (a ++ r) ≡ length b = ap length (sym h.0 ∙ k.0) in
    absurd (omega (arith, size, length-append a r, h.2, k.4))
line_is_one bytes TooLong Nothing a b r s h k =
    let size : length (a ++ r) ≡ 0 = ap length (sym h.0 ∙ k.0) in
    absurd (omega (arith, size, length-append a r, h.2))
line_is_one bytes Short Whole a b r s h k =
    let all : (b ++ 10 ∷ s) ≡ (a ++ []) = sym k.0 ∙ h.0 ∙ sym (none_left a) in
    let size : length (b ++ 10 ∷ s) ≡ length a = ap length (sym k.0 ∙ h.0) in
    absurd (not_past b a s [] h.2 (omega (arith, size, length-append b (10 ∷ s))) all)
line_is_one bytes Short TooLong a b r s h k =
    let size : length (b ++ s) ≡ length a = ap length (sym k.0 ∙ h.0) in
    absurd (omega (arith, size, length-append b s, k.2, h.4))
line_is_one bytes Short Short a b r s h k = record { kind = refl; taken = sym h.0 ∙ k.0; left = h.1 ∙ sym k.1 }
line_is_one bytes Short Nothing a b r s h k =
    let size : length a ≡ 0 = ap length (sym h.0 ∙ k.0) in
    absurd (omega (arith, size, h.3))
line_is_one bytes Nothing Whole a b r s h k = absurd (some_there b s (sym k.0 ∙ h.0))
line_is_one bytes Nothing TooLong a b r s h k =
    let size : length (b ++ s) ≡ 0 = ap length (sym k.0 ∙ h.0) in
    absurd (omega (arith, size, length-append b s, k.2))
line_is_one bytes Nothing Short a b r s h k =
    let size : length b ≡ 0 = ap length (sym k.0 ∙ h.0) in
    absurd (omega (arith, size, k.3))
line_is_one bytes Nothing Nothing a b r s h k = record { kind = refl; taken = h.2 ∙ sym k.2; left = h.1 ∙ sym k.1 }
