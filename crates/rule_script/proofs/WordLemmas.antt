-- Single tokens as they are read, and the words of kinds.
use Rattle.base.proofs.Public.{◌≡◌, ◌∙◌, ℕ, zero, suc, ◌<◌, ◌^◌, arith, length, get_or, position-Some, Bool, true, false, List, [], ◌∷◌, Option, Some, None, refl, ap, inl, inr, cases_Bool, IsTrue, codes, bytes_eq, position, slice_get, option_and_then, if◌then◌else◌}
use Rattle.catalogue.specs.declared.constraint.TheConstants.{CONSTRAINT_WORDS}
use Rattle.cluster.specs.Prelude.{is_name}
use Rattle.rule_script.specs.Grammar.{bar, closes_in, colon_in, comma_in, equals_in, keyword, kind_in, name_in, name_of_word, number_in, opens_in, variable_in, word_in}
use Rattle.rule_script.specs.Kinds.{kind_of, kind_word}
use Rattle.numerals.specs.Numbers.{number_of}
use Rattle.rule_script.specs.Spelling.{numeral}
use Rattle.rule_script.specs.declared.kinds.RuleKind.{RuleKind}
use Rattle.rule_script.specs.declared.kinds.RuleKind.TheVariants as kind
use Rattle.rule_script.specs.declared.kinds.TheConstants.{RULE_KINDS}
use Rattle.rule_script.specs.declared.tokens.Token.{Token}
use Rattle.rule_script.specs.declared.tokens.Token.TheVariants.{Word, Variable, Span, Sign, Opens, Closes, From, Upto, Colon, Comma, Bar, Equals, Other}
use Rattle.rule_script.proofs.BindingLemmas.{same_bytes}
use Rattle.numerals.proofs.Public.{decimal-number_of}

pub variable_is : (t : Token) (x : List ℕ) → variable_in t ≡ Some x → t ≡ Variable x
variable_is (Word y) x is = absurd (cc)
variable_is (Variable y) x is = cc
variable_is (Span y a b) x is = absurd (cc)
variable_is (Sign op) x is = absurd (cc)
variable_is Opens x is = absurd (cc)
variable_is Closes x is = absurd (cc)
variable_is From x is = absurd (cc)
variable_is Upto x is = absurd (cc)
variable_is Colon x is = absurd (cc)
variable_is Comma x is = absurd (cc)
variable_is Bar x is = absurd (cc)
variable_is Equals x is = absurd (cc)
variable_is Other x is = absurd (cc)

pub word_is : (t : Token) (x : List ℕ) → word_in t ≡ Some x → t ≡ Word x
word_is (Word y) x is = cc
word_is (Variable y) x is = absurd (cc)
word_is (Span y a b) x is = absurd (cc)
word_is (Sign op) x is = absurd (cc)
word_is Opens x is = absurd (cc)
word_is Closes x is = absurd (cc)
word_is From x is = absurd (cc)
word_is Upto x is = absurd (cc)
word_is Colon x is = absurd (cc)
word_is Comma x is = absurd (cc)
word_is Bar x is = absurd (cc)
word_is Equals x is = absurd (cc)
word_is Other x is = absurd (cc)

pub opens_is : (t : Token) (x : Unit {0}) → opens_in t ≡ Some x → t ≡ Opens
opens_is (Word y) x is = absurd (cc)
opens_is (Variable y) x is = absurd (cc)
opens_is (Span y a b) x is = absurd (cc)
opens_is (Sign op) x is = absurd (cc)
opens_is Opens x is = refl
opens_is Closes x is = absurd (cc)
opens_is From x is = absurd (cc)
opens_is Upto x is = absurd (cc)
opens_is Colon x is = absurd (cc)
opens_is Comma x is = absurd (cc)
opens_is Bar x is = absurd (cc)
opens_is Equals x is = absurd (cc)
opens_is Other x is = absurd (cc)

pub closes_is : (t : Token) (x : Unit {0}) → closes_in t ≡ Some x → t ≡ Closes
closes_is (Word y) x is = absurd (cc)
closes_is (Variable y) x is = absurd (cc)
closes_is (Span y a b) x is = absurd (cc)
closes_is (Sign op) x is = absurd (cc)
closes_is Opens x is = absurd (cc)
closes_is Closes x is = refl
closes_is From x is = absurd (cc)
closes_is Upto x is = absurd (cc)
closes_is Colon x is = absurd (cc)
closes_is Comma x is = absurd (cc)
closes_is Bar x is = absurd (cc)
closes_is Equals x is = absurd (cc)
closes_is Other x is = absurd (cc)

pub colon_is : (t : Token) (x : Unit {0}) → colon_in t ≡ Some x → t ≡ Colon
colon_is (Word y) x is = absurd (cc)
colon_is (Variable y) x is = absurd (cc)
colon_is (Span y a b) x is = absurd (cc)
colon_is (Sign op) x is = absurd (cc)
colon_is Opens x is = absurd (cc)
colon_is Closes x is = absurd (cc)
colon_is From x is = absurd (cc)
colon_is Upto x is = absurd (cc)
colon_is Colon x is = refl
colon_is Comma x is = absurd (cc)
colon_is Bar x is = absurd (cc)
colon_is Equals x is = absurd (cc)
colon_is Other x is = absurd (cc)

pub comma_is : (t : Token) (x : Unit {0}) → comma_in t ≡ Some x → t ≡ Comma
comma_is (Word y) x is = absurd (cc)
comma_is (Variable y) x is = absurd (cc)
comma_is (Span y a b) x is = absurd (cc)
comma_is (Sign op) x is = absurd (cc)
comma_is Opens x is = absurd (cc)
comma_is Closes x is = absurd (cc)
comma_is From x is = absurd (cc)
comma_is Upto x is = absurd (cc)
comma_is Colon x is = absurd (cc)
comma_is Comma x is = refl
comma_is Bar x is = absurd (cc)
comma_is Equals x is = absurd (cc)
comma_is Other x is = absurd (cc)

pub equals_is : (t : Token) (x : Unit {0}) → equals_in t ≡ Some x → t ≡ Equals
equals_is (Word y) x is = absurd (cc)
equals_is (Variable y) x is = absurd (cc)
equals_is (Span y a b) x is = absurd (cc)
equals_is (Sign op) x is = absurd (cc)
equals_is Opens x is = absurd (cc)
equals_is Closes x is = absurd (cc)
equals_is From x is = absurd (cc)
equals_is Upto x is = absurd (cc)
equals_is Colon x is = absurd (cc)
equals_is Comma x is = absurd (cc)
equals_is Bar x is = absurd (cc)
equals_is Equals x is = refl
equals_is Other x is = absurd (cc)

pub number_is : (t : Token) (n : ℕ) → number_in t ≡ Some n → (n < 2 ^ 64) × (t ≡ numeral n)
number_is t n is = by (word_in t) refl is
  where
    by : (o : Option (List ℕ)) → word_in t ≡ o → option_and_then number_of o ≡ Some n → (n < 2 ^ 64) × (t ≡ numeral n)
    by None here e = absurd (cc)
    by (Some w) here e =
        let text = decimal-number_of w n e in
        (text.1, word_is t w here ∙ ap (λ (x : List ℕ). Word x) text.0)

pub name_is : (t : Token) (x : List ℕ) → name_in t ≡ Some x → IsTrue (is_name x) × (t ≡ Word x)
name_is t x is = by (word_in t) refl is
  where
    named : (w : List ℕ) (b : Bool) → is_name w ≡ b → (if b then Some w else None) ≡ Some x → IsTrue (is_name x) × (w ≡ x)
    named w true good e = let same : w ≡ x = cc in (rw same at good, same)
    named w false bad e = absurd (cc)

    by : (o : Option (List ℕ)) → word_in t ≡ o → option_and_then name_of_word o ≡ Some x → IsTrue (is_name x) × (t ≡ Word x)
    by None here e = absurd (cc)
    by (Some w) here e =
        let name = named w (is_name w) refl e in
        (name.0, word_is t w here ∙ ap (λ (y : List ℕ). Word y) name.1)

-- ---- the words of kinds

pub kind_read : (k : RuleKind) → kind_of (kind_word k) ≡ Some k
unfolding kind_of
kind_read kind.Spread = refl
kind_read kind.Ban = refl
kind_read kind.Fence = refl
kind_read kind.Gather = refl
kind_read kind.Lonely = refl
kind_read kind.Among = refl
kind_read kind.Split = refl
kind_read kind.Root = refl
kind_read kind.Precedence = refl
kind_read kind.Serialize = refl
kind_read kind.Preserve = refl
kind_read kind.ResourceCapacity = refl
kind_read kind.RunningCapacity = refl
kind_read kind.MaxOnline = refl
kind_read kind.Overbook = refl
kind_read kind.Online = refl
kind_read kind.Offline = refl
kind_read kind.Running = refl
kind_read kind.Sleeping = refl
kind_read kind.Ready = refl
kind_read kind.Killed = refl

-- no kind has one of these words
pub no_kind : (k : RuleKind) → (bytes_eq (kind_word k) (codes "always") ≡ false) × (bytes_eq (kind_word k) (codes "let") ≡ false) × (bytes_eq (kind_word k) (codes "each") ≡ false)
no_kind kind.Spread = (refl, refl, refl)
no_kind kind.Ban = (refl, refl, refl)
no_kind kind.Fence = (refl, refl, refl)
no_kind kind.Gather = (refl, refl, refl)
no_kind kind.Lonely = (refl, refl, refl)
no_kind kind.Among = (refl, refl, refl)
no_kind kind.Split = (refl, refl, refl)
no_kind kind.Root = (refl, refl, refl)
no_kind kind.Precedence = (refl, refl, refl)
no_kind kind.Serialize = (refl, refl, refl)
no_kind kind.Preserve = (refl, refl, refl)
no_kind kind.ResourceCapacity = (refl, refl, refl)
no_kind kind.RunningCapacity = (refl, refl, refl)
no_kind kind.MaxOnline = (refl, refl, refl)
no_kind kind.Overbook = (refl, refl, refl)
no_kind kind.Online = (refl, refl, refl)
no_kind kind.Offline = (refl, refl, refl)
no_kind kind.Running = (refl, refl, refl)
no_kind kind.Sleeping = (refl, refl, refl)
no_kind kind.Ready = (refl, refl, refl)
no_kind kind.Killed = (refl, refl, refl)

-- each word is that of the kind at its place
module _ {X : Type 0} (text : X → List ℕ) where
  abbrev Agree : List X → List RuleKind → Type 0
  Agree [] ks = Unit {0}
  Agree (w ∷ ws) [] = Unit {0}
  Agree (w ∷ ws) (k ∷ ks) = (text w ≡ kind_word k) × Agree ws ks

  word_at : (ws : List X) (ks : List RuleKind) → Agree ws ks → (i : ℕ) (d : X) (k : RuleKind) → i < length ws → slice_get ks i ≡ Some k → text (get_or ws i d) ≡ kind_word k
  word_at [] ks agree i d k within is = absurd (omega arith)
  word_at (w ∷ ws) [] agree i d k within is = absurd (cc)
  word_at (w ∷ ws) (j ∷ ks) agree zero d k within is = let same : j ≡ k = cc in agree.0 ∙ ap kind_word same
  word_at (w ∷ ws) (j ∷ ks) agree (suc i) d k within is = word_at ws ks agree.1 i d k (omega (arith, within)) is

  word_placed : (ws : List X) (ks : List RuleKind) → Agree ws ks → (x : List ℕ) (i : ℕ) (k : RuleKind) → position (λ w. bytes_eq x (text w)) ws ≡ Some i → slice_get ks i ≡ Some k → x ≡ kind_word k
  word_placed [] ks agree x i k placed is = absurd (cc)
  word_placed (w ∷ ws) ks agree x i k placed is =
      let there = position-Some (λ w. bytes_eq x (text w)) (w ∷ ws) i w placed in
      same_bytes x (text (get_or (w ∷ ws) i w)) there.1 ∙ word_at (w ∷ ws) ks agree i w k there.0 is

  word_found : (ws : List X) (ks : List RuleKind) → Agree ws ks → (x : List ℕ) (k : RuleKind) (o : Option ℕ) → position (λ w. bytes_eq x (text w)) ws ≡ o → option_and_then (slice_get ks) o ≡ Some k → x ≡ kind_word k
  word_found ws ks agree x k None placed is = absurd (cc)
  word_found ws ks agree x k (Some i) placed is = word_placed ws ks agree x i k placed is

tables_agree : Agree (λ w. w.now) CONSTRAINT_WORDS RULE_KINDS
tables_agree = (refl, (refl, (refl, (refl, (refl, (refl, (refl, (refl, (refl, (refl, (refl, (refl, (refl, (refl, (refl, (refl, (refl, (refl, (refl, (refl, (refl, tt)))))))))))))))))))))

pub kind_word_is : (w : List ℕ) (k : RuleKind) → kind_of w ≡ Some k → w ≡ kind_word k
unfolding kind_of
kind_word_is w k is = word_found (λ x. x.now) CONSTRAINT_WORDS RULE_KINDS tables_agree w k (position (λ x. bytes_eq w x.now) CONSTRAINT_WORDS) refl is

pub kind_is : (t : Token) (k : RuleKind) → kind_in t ≡ Some k → t ≡ Word (kind_word k)
kind_is t k is = by (word_in t) refl is
  where
    by : (o : Option (List ℕ)) → word_in t ≡ o → option_and_then kind_of o ≡ Some k → t ≡ Word (kind_word k)
    by None here e = absurd (cc)
    by (Some w) here e = word_is t w here ∙ ap (λ (x : List ℕ). Word x) (kind_word_is w k e)

-- ---- what stands next, which is taken or left

abbrev pub with_word : List ℕ → Bool × List Token → List Token
with_word x (true, rest) = Word x ∷ rest
with_word x (false, rest) = rest

pub keyword_is : (x : List ℕ) (ts : List Token) → ts ≡ with_word x (keyword x ts)
unfolding keyword
keyword_is x [] = refl
keyword_is x (Word y ∷ ts) = elim (cases_Bool (bytes_eq y x)) [
  | inl same ↦ rw same (ap (λ (w : List ℕ). Word w ∷ ts) (same_bytes y x same))
  | inr other ↦ rw other refl
]
keyword_is x (Variable y ∷ ts) = refl
keyword_is x (Span y a b ∷ ts) = refl
keyword_is x (Sign op ∷ ts) = refl
keyword_is x (Opens ∷ ts) = refl
keyword_is x (Closes ∷ ts) = refl
keyword_is x (From ∷ ts) = refl
keyword_is x (Upto ∷ ts) = refl
keyword_is x (Colon ∷ ts) = refl
keyword_is x (Comma ∷ ts) = refl
keyword_is x (Bar ∷ ts) = refl
keyword_is x (Equals ∷ ts) = refl
keyword_is x (Other ∷ ts) = refl

abbrev pub with_bar : Bool × List Token → List Token
with_bar (true, rest) = Bar ∷ rest
with_bar (false, rest) = rest

pub bar_is : (ts : List Token) → ts ≡ with_bar (bar ts)
unfolding bar
bar_is [] = refl
bar_is (Word y ∷ ts) = refl
bar_is (Variable y ∷ ts) = refl
bar_is (Span y a b ∷ ts) = refl
bar_is (Sign op ∷ ts) = refl
bar_is (Opens ∷ ts) = refl
bar_is (Closes ∷ ts) = refl
bar_is (From ∷ ts) = refl
bar_is (Upto ∷ ts) = refl
bar_is (Colon ∷ ts) = refl
bar_is (Comma ∷ ts) = refl
bar_is (Bar ∷ ts) = refl
bar_is (Equals ∷ ts) = refl
bar_is (Other ∷ ts) = refl
