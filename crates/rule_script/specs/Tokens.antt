-- The tokens of a line. It is cut into pieces, each piece is a token, blanks are none, and a range is one.
use Rattle.std.specs.Prelude.{ℕ, Bool, ◌&&◌, ◌||◌, ◌==◌, ◌-◌, List, [], ◌∷◌, ◌++◌, drop, length, take, unwrap_or, Option, Some, None, if◌then◌else◌}
use Rattle.std.specs.List.{fold, position}
use Rattle.std.specs.Str.{bytes_eq}
use Rattle.cluster.specs.Prelude.{is_name}
use Rattle.numerals.specs.Numbers.{number_of}
use Rattle.rule_script.specs.declared.tokens.Operator.TheVariants.{Plus, Minus, Both}
use Rattle.rule_script.specs.declared.tokens.Token.{Token}
use Rattle.rule_script.specs.declared.tokens.Token.TheVariants.{Word, Variable, Span, Sign, Opens, Closes, From, Upto, Colon, Comma, Bar, Equals, Other}
pub use Rattle.cluster.specs.Prelude.{goes_on_name}

-- ---- pieces

-- whether two neighbours stay in one piece: the second is a name byte, and so is the first, or it is `$`
abbrev pub goes_with : ℕ → ℕ → Bool
goes_with a b = ((a == 36) || goes_on_name a) && goes_on_name b

-- one more byte in front: it joins the first piece, or is one by itself
abbrev pub put_before : ℕ → List (List ℕ) → List (List ℕ)
put_before b [] = (b ∷ []) ∷ []
put_before b ([] ∷ ps) = (b ∷ []) ∷ ps
put_before b ((x ∷ p) ∷ ps) = if goes_with b x then (b ∷ x ∷ p) ∷ ps else (b ∷ []) ∷ (x ∷ p) ∷ ps

unfoldable pub pieces : List ℕ → List (List ℕ)
pieces [] = []
pieces (b ∷ bs) = put_before b (pieces bs)

-- ---- the token of a piece

abbrev pub is_nothing : List ℕ → Bool
is_nothing name = bytes_eq name []

-- a variable has a name, which is not `-` alone
abbrev pub variable_of : List ℕ → Token
variable_of name = if is_nothing name || bytes_eq name (45 ∷ []) then Other else Variable name

-- `-` alone is an operator
abbrev pub word_of : List ℕ → Token
word_of word = if bytes_eq word (45 ∷ []) then Sign Minus else Word word

abbrev pub mark_of : ℕ → Token
mark_of b =
    if b == 43 then Sign Plus else
    if b == 38 then Sign Both else
    if b == 40 then Opens else
    if b == 41 then Closes else
    if b == 91 then From else
    if b == 93 then Upto else
    if b == 58 then Colon else
    if b == 44 then Comma else
    if b == 124 then Bar else
    if b == 61 then Equals else Other

unfoldable pub token_of : List ℕ → Token
token_of [] = Other
token_of (b ∷ rest) =
    if b == 36 then variable_of rest else
    if goes_on_name b then word_of (b ∷ rest) else mark_of b

-- ---- ranges

abbrev pub span_between : List ℕ → Option ℕ → Option ℕ → Token
span_between x (Some a) (Some b) = Span x a b
span_between x None _ = Other
span_between x (Some a) None = Other

-- a range has a name and two numbers
abbrev pub span_of : List ℕ → List ℕ → List ℕ → Token
span_of x a b = if is_name x then span_between x (number_of a) (number_of b) else Other

-- the range that `NAME`, `[`, `NUM`, `:` and `NUM` are the front of
abbrev pub range_of : Token → Token → Token → Token → Token → Option Token
range_of (Word x) From (Word a) Colon (Word b) = Some (span_of x a b)
range_of _ _ _ _ _ = None

unfoldable pub range_in : List Token → Option Token
range_in (x ∷ opens ∷ a ∷ colon ∷ b ∷ []) = range_of x opens a colon b
range_in _ = None

abbrev pub closed_by : List Token → Option Token → List Token
closed_by before None = before ++ Upto ∷ []
closed_by before (Some range) = take (length before - 5) before ++ range ∷ []

-- one more token: where `]` ends a range, the whole range is one
abbrev pub with_token : List Token → Token → List Token
with_token before Upto = closed_by before (range_in (drop (length before - 5) before))
with_token before t = before ++ t ∷ []

-- ---- the tokens of a line

-- what stands before `#`
abbrev pub content : List ℕ → List ℕ
content line = take (unwrap_or (position (λ b. b == 35) line) (length line)) line

-- one more piece: a blank is no token
abbrev pub with_piece : List Token → List ℕ → List Token
with_piece before piece = if bytes_eq piece (32 ∷ []) then before else with_token before (token_of piece)

unfoldable pub tokens_of : List ℕ → List Token
tokens_of line = fold with_piece [] (pieces (content line))
