-- A statement that can be written is read from its tokens, and what is read is a statement that is spelled so.
use Rattle.base.proofs.Public.{◌≡◌, ◌∙◌, ℕ, ◌<◌, ◌^◌, zero, suc, Bool, true, false, List, [], ◌∷◌, ◌++◌, length, Option, Some, None, refl, sym, ap, subst, append_assoc, append-nil, option_map, IsTrue, codes, if◌then◌else◌}
use Rattle.cluster.specs.Prelude.{is_name}
use Rattle.rule_script.specs.Grammar.{◌>>=◌, ◌>>◌, all_read, arguments, bar, binding, call_at, closes, closes_in, colon, colon_in, comma, comma_in, each_of, equals, equals_in, give, goes_on, is_over, keyword, kind_at, kind_in, name, name_in, needs, number, number_in, once, one, opens, opens_in, Reading, set_and_number, set_resource_number, sets_at, sets_after, sets_from, sets_within, spoken, statement, two_sets, variable, variable_in}
use Rattle.rule_script.specs.Kinds.{kind_word}
use Rattle.rule_script.specs.Laws.{AreAllWritten, AreWritten, IsAmount, IsResourceName, IsWritten, IsWrittenCall, IsWrittenStatement, StatementsAreExact, Stops}
use Rattle.rule_script.specs.Sets.{Set, set_at, spelled}
use Rattle.rule_script.specs.Spelling.{after_always, is_always, kind_of_call, numeral, spelled_amount, spelled_arguments, spelled_call, spelled_plain_call, spelled_resource, spelled_sets, spelled_statement, spelled_two}
use Rattle.rule_script.specs.declared.kinds.RuleKind.{RuleKind}
use Rattle.rule_script.specs.declared.kinds.RuleKind.TheVariants as kind
use Rattle.rule_script.specs.declared.statement.Call.{Call}
use Rattle.rule_script.specs.declared.statement.Call.TheVariants.{Spread, Ban, Fence, Gather, Lonely, Among, Split, Root, Precedence, Serialize, Preserve, ResourceCapacity, RunningCapacity, MaxOnline, Overbook, Online, Offline, Running, Sleeping, Ready, Killed}
use Rattle.rule_script.specs.declared.statement.Statement.{Statement}
use Rattle.rule_script.specs.declared.statement.Statement.TheVariants.{Nothing, Let, Each, Once}
use Rattle.rule_script.specs.declared.tokens.Token.{Token}
use Rattle.rule_script.specs.declared.tokens.Token.TheVariants.{Word, Variable, Opens, Closes, Colon, Comma, Bar, Equals}
use Rattle.rule_script.proofs.LawLemmas.{sets_are_exact}
use Rattle.numerals.proofs.Public.{number_of-decimal}
use Rattle.rule_script.proofs.ReadingLemmas.{first_set}
use Rattle.rule_script.proofs.WordLemmas.{bar_is, closes_is, colon_is, comma_is, equals_is, keyword_is, kind_is, kind_read, name_is, no_kind, number_is, opens_is, variable_is, with_bar, with_word}

-- ---- readings one after the other

-- what the first reading gave, before the second went on
record Found {A B : Type 0} (o : Option (A × List Token)) (f : A → Reading B) (y : B) (rest : List Token) : Type 0 where
  value : A
  left : List Token
  first : o ≡ Some (value, left)
  second : f value left ≡ Some (y, rest)

found : {A B : Type 0} (o : Option (A × List Token)) (f : A → Reading B) (y : B) (rest : List Token) → goes_on f o ≡ Some (y, rest) → Found o f y rest
found None f y rest is = absurd (cc)
found (Some x) f y rest is = record { value = x.0; left = x.1; first = refl; second = is }

abbrev value_or : {A : Type 0} → A → Option (A × List Token) → A
value_or d None = d
value_or d (Some x) = x.0

abbrev left_or : {A : Type 0} → List Token → Option (A × List Token) → List Token
left_or d None = d
left_or d (Some x) = x.1

same_value : {A : Type 0} (x y : A) (ts rest : List Token) → ◌≡◌ {A = Option (A × List Token)} (Some (x, ts)) (Some (y, rest)) → x ≡ y
same_value x y ts rest is = ap (value_or x) is

same_left : {A : Type 0} (x y : A) (ts rest : List Token) → ◌≡◌ {A = Option (A × List Token)} (Some (x, ts)) (Some (y, rest)) → ts ≡ rest
same_left x y ts rest is = ap (left_or ts) is

-- what was made of a value and the tokens after it
carried : {A : Type 0} (C : A → List Token → Type 0) (x y : A) (ts rest : List Token) → ◌≡◌ {A = Option (A × List Token)} (Some (x, ts)) (Some (y, rest)) → C x ts → C y rest
carried C x y ts rest is here = subst (λ z. C z rest) (same_value x y ts rest is) (subst (C x) (same_left x y ts rest is) here)

-- the one token that was read
record Next {A : Type 0} (f : Token → Option A) (ts rest : List Token) (x : A) : Type 0 where
  token : Token
  value : f token ≡ Some x
  whole : ts ≡ token ∷ rest

next_found : {A : Type 0} (f : Token → Option A) (ts rest : List Token) (x : A) → one f ts ≡ Some (x, rest) → Next f ts rest x
next_found f [] rest x read = absurd (cc)
next_found {A = A} f (t ∷ ts) rest x read = by (f t) refl read
  where
    by : (o : Option A) → f t ≡ o → option_map {U = A × List Token} (λ y. (y, ts)) o ≡ Some (x, rest) → Next f (t ∷ ts) rest x
    by None here e = absurd (cc)
    by (Some y) here e = record {
      token = t;
      value = here ∙ ap (λ (z : A). Some z) (same_value y x ts rest e);
      whole = ap (λ (l : List Token). t ∷ l) (same_left y x ts rest e);
    }

one_is : {A : Type 0} (f : Token → Option A) (text : A → Token) → ((t : Token) (x : A) → f t ≡ Some x → t ≡ text x) → (ts rest : List Token) (x : A) → one f ts ≡ Some (x, rest) → ts ≡ text x ∷ rest
one_is f text is ts rest x read =
    let next = next_found f ts rest x read in
    next.whole ∙ ap (λ (t : Token). t ∷ rest) (is next.token x next.value)

-- what does not go on with a set, or with sets
abbrev Ends : List Token → Type 0
Ends rest = Stops rest × (bar rest ≡ (false, rest))

no_tokens_end : Ends []
unfolding bar
no_tokens_end = (tt, refl)

comma_ends : (rest : List Token) → Ends (Comma ∷ rest)
unfolding bar
comma_ends rest = (tt, refl)

closes_ends : (rest : List Token) → Ends (Closes ∷ rest)
unfolding bar
closes_ends rest = (tt, refl)

colon_ends : (rest : List Token) → Ends (Colon ∷ rest)
unfolding bar
colon_ends rest = (tt, refl)

-- ---- exact readings: each value that can be written is read from its tokens, whatever follows that does not go on with it;
-- and what is read can be written, and stood there

record IsExact {A : Type 0} (m : Reading A) (text : A → List Token) (Written : A → Type 0) : Type 0 where
  reads : (x : A) (rest : List Token) → Written x → Ends rest → m (text x ++ rest) ≡ Some (x, rest)
  spells : (ts rest : List Token) (x : A) → m ts ≡ Some (x, rest) → Written x × (ts ≡ text x ++ rest)

module _ {A C : Type 0} {m : Reading A} {text : A → List Token} {Written : A → Type 0} (e : IsExact m text Written) where
  -- what was read before a comma
  record BeforeComma (more : A → Reading C) (ts rest : List Token) (y : C) : Type 0 where
    value : A
    written : Written value
    left : List Token
    spelling : ts ≡ text value ++ Comma ∷ left
    later : more value left ≡ Some (y, rest)

  before_comma : (more : A → Reading C) (ts rest : List Token) (y : C) → (m >>= λ a. comma >> more a) ts ≡ Some (y, rest) → BeforeComma more ts rest y
  unfolding comma
  before_comma more ts rest y is =
      let first = found (m ts) (λ a. comma >> more a) y rest is in
      let mark = found (comma first.left) (λ _. more first.value) y rest first.second in
      let there = e.spells ts first.left first.value first.first in
      record {
        value = first.value;
        written = there.0;
        left = mark.left;
        spelling = there.1 ∙ ap (λ (l : List Token). text first.value ++ l) (one_is comma_in (λ _. Comma) comma_is first.left mark.left mark.value mark.first);
        later = mark.second;
      }

  comma_read : (more : A → Reading C) (a : A) (left rest : List Token) (y : C) → Written a → more a left ≡ Some (y, rest) → (m >>= λ a. comma >> more a) (text a ++ Comma ∷ left) ≡ Some (y, rest)
  unfolding comma
  comma_read more a left rest y written later = ap (goes_on (λ b. comma >> more b)) (e.reads a (Comma ∷ left) written (comma_ends left)) ∙ later

  -- what was read last
  record Last (make : A → C) (ts rest : List Token) (y : C) : Type 0 where
    value : A
    written : Written value
    made : make value ≡ y
    spelling : ts ≡ text value ++ rest

  last_found : (make : A → C) (ts rest : List Token) (y : C) → (m >>= λ a. give (make a)) ts ≡ Some (y, rest) → Last make ts rest y
  last_found make ts rest y is =
      let first = found (m ts) (λ a. give (make a)) y rest is in
      let there = e.spells ts first.left first.value first.first in
      record {
        value = first.value;
        written = there.0;
        made = same_value (make first.value) y first.left rest first.second;
        spelling = there.1 ∙ ap (λ (l : List Token). text first.value ++ l) (same_left (make first.value) y first.left rest first.second);
      }

  last_read : (make : A → C) (a : A) (rest : List Token) → Written a → Ends rest → (m >>= λ a. give (make a)) (text a ++ rest) ≡ Some (make a, rest)
  last_read make a rest written ends = ap (goes_on (λ b. give (make b))) (e.reads a rest written ends)

-- ---- arguments

exact_set : IsExact set_at spelled IsWritten
exact_set = record {
  reads = λ s rest written ends. sets_are_exact.read s rest written ends.0;
  spells = λ ts rest s is. let there = sets_are_exact.spelled ts rest s is in (there.0, there.2);
}

number_reads : (n : ℕ) (rest : List Token) → n < 2 ^ 64 → number (numeral n ∷ rest) ≡ Some (n, rest)
unfolding number
number_reads n rest small = rw (number_of-decimal n small) refl

number_spells : (ts rest : List Token) (n : ℕ) → number ts ≡ Some (n, rest) → IsAmount n × (ts ≡ numeral n ∷ rest)
unfolding number
number_spells ts rest n is =
    let next = next_found number_in ts rest n is in
    let word = number_is next.token n next.value in
    (word.0, next.whole ∙ ap (λ (t : Token). t ∷ rest) word.1)

exact_number : IsExact number (λ n. numeral n ∷ []) IsAmount
exact_number = record { reads = λ n rest small ends. number_reads n rest small; spells = number_spells }

name_reads : (x : List ℕ) (rest : List Token) → IsTrue (is_name x) → name (Word x ∷ rest) ≡ Some (x, rest)
unfolding name
name_reads x rest good = rw good refl

name_spells : (ts rest : List Token) (x : List ℕ) → name ts ≡ Some (x, rest) → IsResourceName x × (ts ≡ Word x ∷ rest)
unfolding name
name_spells ts rest x is =
    let next = next_found name_in ts rest x is in
    let word = name_is next.token x next.value in
    (word.0, next.whole ∙ ap (λ (t : Token). t ∷ rest) word.1)

exact_name : IsExact name (λ x. Word x ∷ []) IsResourceName
exact_name = record { reads = λ x rest good ends. name_reads x rest good; spells = name_spells }

exact_two : IsExact two_sets (λ x. spelled_two x.0 x.1) (λ x. IsWritten x.0 × IsWritten x.1)
exact_two = record {
  reads = λ x rest written ends.
      ap two_sets (append_assoc (spelled x.0) (Comma ∷ spelled x.1) rest)
      ∙ comma_read exact_set (λ s. set_at >>= λ y. give (s, y)) x.0 (spelled x.1 ++ rest) rest x written.0 (last_read exact_set (λ y. (x.0, y)) x.1 rest written.1 ends);
  spells = λ ts rest x is.
      let one = before_comma exact_set (λ s. set_at >>= λ y. give (s, y)) ts rest x is in
      let two = last_found exact_set (λ y. (one.value, y)) one.left rest x one.later in
      let text : ts ≡ spelled_two one.value two.value ++ rest = one.spelling ∙ ap (λ (l : List Token). spelled one.value ++ Comma ∷ l) two.spelling ∙ sym (append_assoc (spelled one.value) (Comma ∷ spelled two.value) rest) in
      subst (λ (z : Set × Set). (IsWritten z.0 × IsWritten z.1) × (ts ≡ spelled_two z.0 z.1 ++ rest)) two.made ((one.written, two.written), text);
}

exact_amount : IsExact set_and_number (λ x. spelled_amount x.0 x.1) (λ x. IsWritten x.0 × IsAmount x.1)
exact_amount = record {
  reads = λ x rest written ends.
      ap set_and_number (append_assoc (spelled x.0) (Comma ∷ (numeral x.1 ∷ [])) rest)
      ∙ comma_read exact_set (λ s. number >>= λ y. give (s, y)) x.0 ((numeral x.1 ∷ []) ++ rest) rest x written.0 (last_read exact_number (λ y. (x.0, y)) x.1 rest written.1 ends);
  spells = λ ts rest x is.
      let one = before_comma exact_set (λ s. number >>= λ y. give (s, y)) ts rest x is in
      let two = last_found exact_number (λ y. (one.value, y)) one.left rest x one.later in
      let text : ts ≡ spelled_amount one.value two.value ++ rest = one.spelling ∙ ap (λ (l : List Token). spelled one.value ++ Comma ∷ l) two.spelling ∙ sym (append_assoc (spelled one.value) (Comma ∷ (numeral two.value ∷ [])) rest) in
      subst (λ (z : Set × ℕ). (IsWritten z.0 × IsAmount z.1) × (ts ≡ spelled_amount z.0 z.1 ++ rest)) two.made ((one.written, two.written), text);
}

-- a resource and a number, after a set
abbrev after_set : Set → Reading (Set × List ℕ × ℕ)
after_set s = name >>= λ r. comma >> (number >>= λ n. give (s, r, n))

after_set_read : (s : Set) (x : List ℕ) (n : ℕ) (rest : List Token) → IsResourceName x → IsAmount n → Ends rest → after_set s (Word x ∷ Comma ∷ numeral n ∷ rest) ≡ Some ((s, x, n), rest)
after_set_read s x n rest good small ends =
    comma_read exact_name (λ r. number >>= λ n. give (s, r, n)) x (numeral n ∷ rest) rest (s, x, n) good (last_read exact_number (λ n. (s, x, n)) n rest small ends)

exact_resource : IsExact set_resource_number (λ x. spelled_resource x.0 x.1 x.2) (λ x. IsWritten x.0 × IsResourceName x.1 × IsAmount x.2)
exact_resource = record {
  reads = λ x rest written ends.
      ap set_resource_number (append_assoc (spelled x.0) (Comma ∷ Word x.1 ∷ Comma ∷ numeral x.2 ∷ []) rest)
      ∙ comma_read exact_set after_set x.0 (Word x.1 ∷ Comma ∷ numeral x.2 ∷ rest) rest x written.0 (after_set_read x.0 x.1 x.2 rest written.1 written.2 ends);
  spells = λ ts rest x is.
      let one = before_comma exact_set after_set ts rest x is in
      let two = before_comma exact_name (λ r. number >>= λ n. give (one.value, r, n)) one.left rest x one.later in
      let three = last_found exact_number (λ n. (one.value, two.value, n)) two.left rest x two.later in
      let text : ts ≡ spelled_resource one.value two.value three.value ++ rest =
      one.spelling
      ∙ ap (λ (l : List Token). spelled one.value ++ Comma ∷ l) (two.spelling ∙ ap (λ (l : List Token). Word two.value ∷ Comma ∷ l) three.spelling)
      ∙ sym (append_assoc (spelled one.value) (Comma ∷ Word two.value ∷ Comma ∷ numeral three.value ∷ []) rest) in
      subst (λ (z : Set × List ℕ × ℕ). (IsWritten z.0 × IsResourceName z.1 × IsAmount z.2) × (ts ≡ spelled_resource z.0 z.1 z.2 ++ rest)) three.made ((one.written, two.written, three.written), text);
}

-- ---- sets with bars between them

sets_read : (s : Set) (ss : List Set) (rest : List Token) → IsWritten s → AreAllWritten ss → Ends rest → sets_at (spelled_sets (s ∷ ss) ++ rest) ≡ Some (s ∷ ss, rest)
unfolding bar
sets_read s [] rest good all ends =
    let here : set_at (spelled_sets (s ∷ []) ++ rest) ≡ Some (s, rest) = ap (λ (l : List Token). set_at (l ++ rest)) (append-nil (spelled s)) ∙ sets_are_exact.read s rest good ends.0 in
    first_set (spelled_sets (s ∷ []) ++ rest) rest s here ∙ ap (sets_after sets_at s) ends.1
sets_read s (t ∷ ss) rest good all ends =
    let text : spelled_sets (s ∷ t ∷ ss) ++ rest ≡ spelled s ++ (Bar ∷ (spelled_sets (t ∷ ss) ++ rest)) = append_assoc (spelled s) (Bar ∷ spelled_sets (t ∷ ss)) rest in
    let here : set_at (spelled_sets (s ∷ t ∷ ss) ++ rest) ≡ Some (s, Bar ∷ (spelled_sets (t ∷ ss) ++ rest)) = ap set_at text ∙ sets_are_exact.read s (Bar ∷ (spelled_sets (t ∷ ss) ++ rest)) good tt in
    first_set (spelled_sets (s ∷ t ∷ ss) ++ rest) (Bar ∷ (spelled_sets (t ∷ ss) ++ rest)) s here
    ∙ ap (option_map (λ (x : List Set × List Token). (s ∷ x.0, x.1))) (sets_read t ss rest all.0 all.1 ends)

abbrev SetsRead : List Token → List Token → List Set → Type 0
SetsRead ts rest ss = AreWritten ss × (ts ≡ spelled_sets ss ++ rest)

one_set : (s : Set) (ts left : List Token) → IsWritten s → ts ≡ spelled s ++ left → SetsRead ts left (s ∷ [])
one_set s ts left good text = ((good, tt), text ∙ ap (λ (l : List Token). l ++ left) (sym (append-nil (spelled s))))

one_set_more : (s : Set) (more : List Set) (ts left rest : List Token) → IsWritten s → ts ≡ spelled s ++ (Bar ∷ left) → SetsRead left rest more → SetsRead ts rest (s ∷ more)
one_set_more s [] ts left rest good text later = absurd later.0
one_set_more s (t ∷ more) ts left rest good text later = (
  (good, later.0),
  text ∙ ap (λ (l : List Token). spelled s ++ (Bar ∷ l)) later.1 ∙ sym (append_assoc (spelled s) (Bar ∷ spelled_sets (t ∷ more)) rest),
)

module _ (n : ℕ) (ts rest : List Token) (ss : List Set) (fewer : (left after : List Token) (more : List Set) → sets_within n left ≡ Some (more, after) → SetsRead left after more) where
  more_spelled : (s : Set) (left : List Token) (o : Option (List Set × List Token)) → sets_within n left ≡ o → IsWritten s → ts ≡ spelled s ++ (Bar ∷ left) → option_map {U = List Set × List Token} (λ x. (s ∷ x.0, x.1)) o ≡ Some (ss, rest) → SetsRead ts rest ss
  more_spelled s left None here good text is = absurd (cc)
  more_spelled s left (Some x) here good text is = carried (λ l after. SetsRead ts after l) (s ∷ x.0) ss x.1 rest is (one_set_more s x.0 ts left x.1 good text (fewer left x.1 x.0 here))

  spelled_after : (s : Set) (mid : List Token) (b : Bool × List Token) → bar mid ≡ b → IsWritten s → ts ≡ spelled s ++ mid → sets_after (sets_within n) s b ≡ Some (ss, rest) → SetsRead ts rest ss
  spelled_after s mid (true, left) here good text is =
      let bars : mid ≡ Bar ∷ left = bar_is mid ∙ ap with_bar here in
      more_spelled s left (sets_within n left) refl good (text ∙ ap (λ (l : List Token). spelled s ++ l) bars) is
  spelled_after s mid (false, left) here good text is =
      let same : mid ≡ left = bar_is mid ∙ ap with_bar here in
      carried (λ l end. SetsRead ts end l) (s ∷ []) ss left rest is (one_set s ts left good (text ∙ ap (λ (l : List Token). spelled s ++ l) same))

  spelled_by : (o : Option (Set × List Token)) → set_at ts ≡ o → sets_from (sets_within n) o ≡ Some (ss, rest) → SetsRead ts rest ss
  spelled_by None here is = absurd (cc)
  spelled_by (Some x) here is =
      let there = sets_are_exact.spelled ts x.1 x.0 here in
      spelled_after x.0 x.1 (bar x.1) refl there.0 there.2 is

sets_spelled : (n : ℕ) (ts rest : List Token) (ss : List Set) → sets_within n ts ≡ Some (ss, rest) → SetsRead ts rest ss
unfolding sets_within
sets_spelled zero ts rest ss is = absurd (cc)
sets_spelled (suc n) ts rest ss is = spelled_by n ts rest ss (λ left after more e. sets_spelled n left after more e) (set_at ts) refl is

sets_reads : (ss : List Set) (rest : List Token) → AreWritten ss → Ends rest → sets_at (spelled_sets ss ++ rest) ≡ Some (ss, rest)
sets_reads [] rest good ends = absurd good
sets_reads (s ∷ ss) rest good ends = sets_read s ss rest good.0 good.1 ends

exact_sets : IsExact sets_at spelled_sets AreWritten
unfolding sets_at
exact_sets = record { reads = sets_reads; spells = λ ts rest ss is. sets_spelled (length ts) ts rest ss is }

-- ---- the arguments of each kind

arguments_read : (call : Call) (rest : List Token) → IsWrittenCall call → Ends rest → arguments (is_always call) (kind_of_call call) (spelled_arguments call ++ rest) ≡ Some (call, rest)
unfolding arguments
arguments_read (Spread s b) rest good ends = last_read exact_set (λ s. Spread s b) s rest good ends
arguments_read (Ban s t b) rest good ends = last_read exact_two (λ x. Ban x.0 x.1 b) (s, t) rest good ends
arguments_read (Fence s t b) rest good ends = last_read exact_two (λ x. Fence x.0 x.1 b) (s, t) rest good ends
arguments_read (Gather s b) rest good ends = last_read exact_set (λ s. Gather s b) s rest good ends
arguments_read (Lonely s b) rest good ends = last_read exact_set (λ s. Lonely s b) s rest good ends
arguments_read (Among s ts b) rest good ends =
    ap (arguments b kind.Among) (append_assoc (spelled s) (Comma ∷ spelled_sets ts) rest)
    ∙ comma_read exact_set (λ s. sets_at >>= λ groups. give (Among s groups b)) s (spelled_sets ts ++ rest) rest (Among s ts b) good.0 (last_read exact_sets (λ groups. Among s groups b) ts rest good.1 ends)
arguments_read (Split ss b) rest good ends = last_read exact_sets (λ ss. Split ss b) ss rest good ends
arguments_read (Root s) rest good ends = last_read exact_set (λ s. Root s) s rest good ends
arguments_read (Precedence s t) rest good ends = last_read exact_two (λ x. Precedence x.0 x.1) (s, t) rest good ends
arguments_read (Serialize s) rest good ends = last_read exact_set (λ s. Serialize s) s rest good ends
arguments_read (Preserve s x n) rest good ends = last_read exact_resource (λ x. Preserve x.0 x.1 x.2) (s, x, n) rest good ends
arguments_read (ResourceCapacity s x n b) rest good ends = last_read exact_resource (λ x. ResourceCapacity x.0 x.1 x.2 b) (s, x, n) rest good ends
arguments_read (RunningCapacity s n b) rest good ends = last_read exact_amount (λ x. RunningCapacity x.0 x.1 b) (s, n) rest good ends
arguments_read (MaxOnline s n b) rest good ends = last_read exact_amount (λ x. MaxOnline x.0 x.1 b) (s, n) rest good ends
arguments_read (Overbook s x num den) rest good ends =
    ap (arguments false kind.Overbook) (append_assoc (spelled_resource s x num) (Comma ∷ numeral den ∷ []) rest)
    ∙ comma_read exact_resource (λ x. number >>= λ den. give (Overbook x.0 x.1 x.2 den)) (s, x, num) (numeral den ∷ rest) rest (Overbook s x num den) (good.0, good.1, good.2) (last_read exact_number (λ den. Overbook s x num den) den rest good.3 ends)
arguments_read (Online s) rest good ends = last_read exact_set (λ s. Online s) s rest good ends
arguments_read (Offline s) rest good ends = last_read exact_set (λ s. Offline s) s rest good ends
arguments_read (Running s) rest good ends = last_read exact_set (λ s. Running s) s rest good ends
arguments_read (Sleeping s) rest good ends = last_read exact_set (λ s. Sleeping s) s rest good ends
arguments_read (Ready s) rest good ends = last_read exact_set (λ s. Ready s) s rest good ends
arguments_read (Killed s) rest good ends = last_read exact_set (λ s. Killed s) s rest good ends

-- what the arguments of a call say of it
record Argued (always : Bool) (k : RuleKind) (ts rest : List Token) (call : Call) : Type 0 where
  kind_is : kind_of_call call ≡ k
  flag_is : is_always call ≡ always
  written : IsWrittenCall call
  spelling : ts ≡ spelled_arguments call ++ rest

-- a call made of what was read last
argued : {A : Type 0} {m : Reading A} {text : A → List Token} {Written : A → Type 0} (e : IsExact m text Written) (make : A → Call) (always : Bool) (k : RuleKind) → ((x : A) → kind_of_call (make x) ≡ k) → ((x : A) → is_always (make x) ≡ always) → ((x : A) → Written x → IsWrittenCall (make x)) → ((x : A) → text x ≡ spelled_arguments (make x)) → (ts rest : List Token) (call : Call) → (m >>= λ x. give (make x)) ts ≡ Some (call, rest) → Argued always k ts rest call
argued e make always k kinds flags good spelling ts rest call is =
    let last = last_found e make ts rest call is in
    subst (Argued always k ts rest) last.made (record {
      kind_is = kinds last.value;
      flag_is = flags last.value;
      written = good last.value last.written;
      spelling = last.spelling ∙ ap (λ (l : List Token). l ++ rest) (spelling last.value);
    })

among_argued : (always : Bool) (ts rest : List Token) (call : Call) → arguments always kind.Among ts ≡ Some (call, rest) → Argued always kind.Among ts rest call
unfolding arguments
among_argued always ts rest call is =
    let one = before_comma exact_set (λ s. sets_at >>= λ groups. give (Among s groups always)) ts rest call is in
    let two = last_found exact_sets (λ groups. Among one.value groups always) one.left rest call one.later in
    subst (Argued always kind.Among ts rest) two.made (record {
      kind_is = refl;
      flag_is = refl;
      written = (one.written, two.written);
      spelling = one.spelling ∙ ap (λ (l : List Token). spelled one.value ++ Comma ∷ l) two.spelling ∙ sym (append_assoc (spelled one.value) (Comma ∷ spelled_sets two.value) rest);
    })

overbook_argued : (ts rest : List Token) (call : Call) → arguments false kind.Overbook ts ≡ Some (call, rest) → Argued false kind.Overbook ts rest call
unfolding arguments
overbook_argued ts rest call is =
    let one = before_comma exact_resource (λ x. number >>= λ den. give (Overbook x.0 x.1 x.2 den)) ts rest call is in
    let two = last_found exact_number (λ den. Overbook one.value.0 one.value.1 one.value.2 den) one.left rest call one.later in
    subst (Argued false kind.Overbook ts rest) two.made (record {
      kind_is = refl;
      flag_is = refl;
      written = (one.written.0, one.written.1, one.written.2, two.written);
      spelling =
          one.spelling
          ∙ ap (λ (l : List Token). spelled_resource one.value.0 one.value.1 one.value.2 ++ Comma ∷ l) two.spelling
          ∙ sym (append_assoc (spelled_resource one.value.0 one.value.1 one.value.2) (Comma ∷ numeral two.value ∷ []) rest);
    })

arguments_spelled : (always : Bool) (k : RuleKind) (ts rest : List Token) (call : Call) → arguments always k ts ≡ Some (call, rest) → Argued always k ts rest call
unfolding arguments
arguments_spelled always kind.Spread ts rest call is = argued exact_set (λ s. Spread s always) always kind.Spread (λ x. refl) (λ x. refl) (λ x good. good) (λ x. refl) ts rest call is
arguments_spelled always kind.Ban ts rest call is = argued exact_two (λ x. Ban x.0 x.1 always) always kind.Ban (λ x. refl) (λ x. refl) (λ x good. good) (λ x. refl) ts rest call is
arguments_spelled always kind.Fence ts rest call is = argued exact_two (λ x. Fence x.0 x.1 always) always kind.Fence (λ x. refl) (λ x. refl) (λ x good. good) (λ x. refl) ts rest call is
arguments_spelled always kind.Gather ts rest call is = argued exact_set (λ s. Gather s always) always kind.Gather (λ x. refl) (λ x. refl) (λ x good. good) (λ x. refl) ts rest call is
arguments_spelled always kind.Lonely ts rest call is = argued exact_set (λ s. Lonely s always) always kind.Lonely (λ x. refl) (λ x. refl) (λ x good. good) (λ x. refl) ts rest call is
arguments_spelled always kind.Among ts rest call is = among_argued always ts rest call is
arguments_spelled always kind.Split ts rest call is = argued exact_sets (λ ss. Split ss always) always kind.Split (λ x. refl) (λ x. refl) (λ x good. good) (λ x. refl) ts rest call is
arguments_spelled true kind.Root ts rest call is = absurd (cc)
arguments_spelled false kind.Root ts rest call is = argued exact_set (λ s. Root s) false kind.Root (λ x. refl) (λ x. refl) (λ x good. good) (λ x. refl) ts rest call is
arguments_spelled true kind.Precedence ts rest call is = absurd (cc)
arguments_spelled false kind.Precedence ts rest call is = argued exact_two (λ x. Precedence x.0 x.1) false kind.Precedence (λ x. refl) (λ x. refl) (λ x good. good) (λ x. refl) ts rest call is
arguments_spelled true kind.Serialize ts rest call is = absurd (cc)
arguments_spelled false kind.Serialize ts rest call is = argued exact_set (λ s. Serialize s) false kind.Serialize (λ x. refl) (λ x. refl) (λ x good. good) (λ x. refl) ts rest call is
arguments_spelled true kind.Preserve ts rest call is = absurd (cc)
arguments_spelled false kind.Preserve ts rest call is = argued exact_resource (λ x. Preserve x.0 x.1 x.2) false kind.Preserve (λ x. refl) (λ x. refl) (λ x good. good) (λ x. refl) ts rest call is
arguments_spelled always kind.ResourceCapacity ts rest call is = argued exact_resource (λ x. ResourceCapacity x.0 x.1 x.2 always) always kind.ResourceCapacity (λ x. refl) (λ x. refl) (λ x good. good) (λ x. refl) ts rest call is
arguments_spelled always kind.RunningCapacity ts rest call is = argued exact_amount (λ x. RunningCapacity x.0 x.1 always) always kind.RunningCapacity (λ x. refl) (λ x. refl) (λ x good. good) (λ x. refl) ts rest call is
arguments_spelled always kind.MaxOnline ts rest call is = argued exact_amount (λ x. MaxOnline x.0 x.1 always) always kind.MaxOnline (λ x. refl) (λ x. refl) (λ x good. good) (λ x. refl) ts rest call is
arguments_spelled true kind.Overbook ts rest call is = absurd (cc)
arguments_spelled false kind.Overbook ts rest call is = overbook_argued ts rest call is
arguments_spelled true kind.Online ts rest call is = absurd (cc)
arguments_spelled false kind.Online ts rest call is = argued exact_set (λ s. Online s) false kind.Online (λ x. refl) (λ x. refl) (λ x good. good) (λ x. refl) ts rest call is
arguments_spelled true kind.Offline ts rest call is = absurd (cc)
arguments_spelled false kind.Offline ts rest call is = argued exact_set (λ s. Offline s) false kind.Offline (λ x. refl) (λ x. refl) (λ x good. good) (λ x. refl) ts rest call is
arguments_spelled true kind.Running ts rest call is = absurd (cc)
arguments_spelled false kind.Running ts rest call is = argued exact_set (λ s. Running s) false kind.Running (λ x. refl) (λ x. refl) (λ x good. good) (λ x. refl) ts rest call is
arguments_spelled true kind.Sleeping ts rest call is = absurd (cc)
arguments_spelled false kind.Sleeping ts rest call is = argued exact_set (λ s. Sleeping s) false kind.Sleeping (λ x. refl) (λ x. refl) (λ x good. good) (λ x. refl) ts rest call is
arguments_spelled true kind.Ready ts rest call is = absurd (cc)
arguments_spelled false kind.Ready ts rest call is = argued exact_set (λ s. Ready s) false kind.Ready (λ x. refl) (λ x. refl) (λ x good. good) (λ x. refl) ts rest call is
arguments_spelled true kind.Killed ts rest call is = absurd (cc)
arguments_spelled false kind.Killed ts rest call is = argued exact_set (λ s. Killed s) false kind.Killed (λ x. refl) (λ x. refl) (λ x good. good) (λ x. refl) ts rest call is

-- ---- calls

-- a call after `always`, or after none
abbrev after_flag : Bool → Reading Call
after_flag always = kind_at >>= λ k. opens >> (arguments always k >>= λ call. closes >> give call)

plain_read : (call : Call) (rest : List Token) → IsWrittenCall call → after_flag (is_always call) (spelled_plain_call call ++ rest) ≡ Some (call, rest)
unfolding kind_at opens closes
plain_read call rest good =
    let inner : arguments (is_always call) (kind_of_call call) ((spelled_arguments call ++ Closes ∷ []) ++ rest) ≡ Some (call, Closes ∷ rest) =
    ap (arguments (is_always call) (kind_of_call call)) (append_assoc (spelled_arguments call) (Closes ∷ []) rest) ∙ arguments_read call (Closes ∷ rest) good (closes_ends rest) in
    ap (λ (o : Option RuleKind). goes_on (λ k. opens >> (arguments (is_always call) k >>= λ c. closes >> give c)) (option_map (λ k. (k, Opens ∷ ((spelled_arguments call ++ Closes ∷ []) ++ rest))) o)) (kind_read (kind_of_call call))
    ∙ ap (goes_on (λ c. closes >> give c)) inner

call_read : (call : Call) (rest : List Token) → IsWrittenCall call → call_at (spelled_call call ++ rest) ≡ Some (call, rest)
unfolding call_at keyword
call_read call rest good = by (is_always call) refl
  where
    by : (b : Bool) → is_always call ≡ b → call_at (after_always b (spelled_plain_call call) ++ rest) ≡ Some (call, rest)
    by true flag = ap (λ (b : Bool). after_flag b (spelled_plain_call call ++ rest)) (sym flag) ∙ plain_read call rest good
    by false flag =
        rw (no_kind (kind_of_call call)).0
        (ap (λ (b : Bool). after_flag b (spelled_plain_call call ++ rest)) (sym flag) ∙ plain_read call rest good)

record Spoken (always : Bool) (ts rest : List Token) (call : Call) : Type 0 where
  flag_is : is_always call ≡ always
  written : IsWrittenCall call
  spelling : ts ≡ spelled_plain_call call ++ rest

plain_spelled : (always : Bool) (ts rest : List Token) (call : Call) → after_flag always ts ≡ Some (call, rest) → Spoken always ts rest call
unfolding kind_at opens closes
plain_spelled always ts rest call is =
    let word = found (kind_at ts) (λ k. opens >> (arguments always k >>= λ c. closes >> give c)) call rest is in
    let front = found (opens word.left) (λ _. arguments always word.value >>= λ c. closes >> give c) call rest word.second in
    let inner = found (arguments always word.value front.left) (λ c. closes >> give c) call rest front.second in
    let end = found (closes inner.left) (λ _. give inner.value) call rest inner.second in
    let told = arguments_spelled always word.value front.left inner.left inner.value inner.first in
    let here : inner.left ≡ Closes ∷ end.left = one_is closes_in (λ _. Closes) closes_is inner.left end.left end.value end.first in
    let text : ts ≡ Word (kind_word (kind_of_call inner.value)) ∷ Opens ∷ ((spelled_arguments inner.value ++ Closes ∷ []) ++ end.left) =
    one_is kind_in (λ k. Word (kind_word k)) kind_is ts word.left word.value word.first
    ∙ ap (λ (l : List Token). Word (kind_word word.value) ∷ l) (one_is opens_in (λ _. Opens) opens_is word.left front.left front.value front.first)
    ∙ ap (λ (k : RuleKind). Word (kind_word k) ∷ Opens ∷ front.left) (sym told.kind_is)
    ∙ ap (λ (l : List Token). Word (kind_word (kind_of_call inner.value)) ∷ Opens ∷ l)
    (told.spelling ∙ ap (λ (l : List Token). spelled_arguments inner.value ++ l) here ∙ sym (append_assoc (spelled_arguments inner.value) (Closes ∷ []) end.left)) in
    carried (λ c l. Spoken always ts l c) inner.value call end.left rest end.second (record { flag_is = told.flag_is; written = told.written; spelling = text })

call_spelled : (ts rest : List Token) (call : Call) → call_at ts ≡ Some (call, rest) → IsWrittenCall call × (ts ≡ spelled_call call ++ rest)
unfolding call_at
call_spelled ts rest call is = by (keyword (codes "always") ts) refl is
  where
    by : (b : Bool × List Token) → keyword (codes "always") ts ≡ b → after_flag b.0 b.1 ≡ Some (call, rest) → IsWrittenCall call × (ts ≡ spelled_call call ++ rest)
    by (true, left) here e =
        let told = plain_spelled true left rest call e in
        (told.written, keyword_is (codes "always") ts ∙ ap (with_word (codes "always")) here ∙ ap (λ (l : List Token). Word (codes "always") ∷ l) told.spelling ∙ ap (λ (b : Bool). after_always b (spelled_plain_call call) ++ rest) (sym told.flag_is))
    by (false, left) here e =
        let told = plain_spelled false left rest call e in
        (told.written, keyword_is (codes "always") ts ∙ ap (with_word (codes "always")) here ∙ told.spelling ∙ ap (λ (b : Bool). after_always b (spelled_plain_call call) ++ rest) (sym told.flag_is))

-- ---- statements

let_read : (x : List ℕ) (s : Set) → IsWritten s → statement (spelled_statement (Let x s)) ≡ Some (Let x s)
unfolding statement spoken keyword binding variable equals
let_read x s good =
    let text : spelled s ++ [] ≡ spelled s = append-nil (spelled s) in
    let here : set_at (spelled s) ≡ Some (s, []) = ap set_at (sym text) ∙ sets_are_exact.read s [] good tt in
    ap (λ (o : Option (Set × List Token)). all_read (goes_on (λ t. give (Let x t)) o)) here

whole_call : (call : Call) → IsWrittenCall call → call_at (spelled_call call) ≡ Some (call, [])
whole_call call good = ap call_at (sym (append-nil (spelled_call call))) ∙ call_read call [] good

each_read : (x : List ℕ) (s : Set) (call : Call) → IsWritten s → IsWrittenCall call → statement (spelled_statement (Each x s call)) ≡ Some (Each x s call)
unfolding statement spoken keyword each_of variable colon
each_read x s call good fine =
    ap (λ (o : Option (Set × List Token)). all_read (goes_on (λ t. colon >> (call_at >>= λ c. give (Each x t c))) o)) (sets_are_exact.read s (Colon ∷ spelled_call call) good tt)
    ∙ ap (λ (o : Option (Call × List Token)). all_read (goes_on (λ c. give (Each x s c)) o)) (whole_call call fine)

once_read : (call : Call) → IsWrittenCall call → statement (spelled_statement (Once call)) ≡ Some (Once call)
unfolding statement spoken keyword once
once_read call good = by (is_always call) refl
  where
    last : all_read (once (spelled_call call)) ≡ Some (Once call)
    last = ap (λ (o : Option (Call × List Token)). all_read (goes_on (λ c. give (Once c)) o)) (whole_call call good)

    by : (b : Bool) → is_always call ≡ b → statement (after_always b (spelled_plain_call call)) ≡ Some (Once call)
    by true flag = ap (λ (b : Bool). all_read (once (after_always b (spelled_plain_call call)))) (sym flag) ∙ last
    by false flag =
        rw ((no_kind (kind_of_call call)).1, (no_kind (kind_of_call call)).2)
        (ap (λ (b : Bool). all_read (once (after_always b (spelled_plain_call call)))) (sym flag) ∙ last)

written_is_read : (s : Statement) → IsWrittenStatement s → statement (spelled_statement s) ≡ Some s
unfolding statement spoken
written_is_read Nothing good = refl
written_is_read (Let x s) good = let_read x s good
written_is_read (Each x s call) good = each_read x s call good.0 good.1
written_is_read (Once call) good = once_read call good

-- what was read of some tokens, up to where it ends
abbrev Said : List Token → List Token → Statement → Type 0
Said ts rest s = IsWrittenStatement s × (ts ≡ spelled_statement s ++ rest)

let_spelled : (ts rest : List Token) (s : Statement) → binding ts ≡ Some (s, rest) → Said (Word (codes "let") ∷ ts) rest s
unfolding binding variable equals
let_spelled ts rest s is =
    let name = found (variable ts) (λ x. equals >> (set_at >>= λ t. give (Let x t))) s rest is in
    let mark = found (equals name.left) (λ _. set_at >>= λ t. give (Let name.value t)) s rest name.second in
    let last = last_found exact_set (λ t. Let name.value t) mark.left rest s mark.second in
    let text : ts ≡ Variable name.value ∷ Equals ∷ (spelled last.value ++ rest) =
    one_is variable_in (λ x. Variable x) variable_is ts name.left name.value name.first
    ∙ ap (λ (l : List Token). Variable name.value ∷ l) (one_is equals_in (λ _. Equals) equals_is name.left mark.left mark.value mark.first ∙ ap (λ (l : List Token). Equals ∷ l) last.spelling) in
    subst (Said (Word (codes "let") ∷ ts) rest) last.made (last.written, ap (λ (l : List Token). Word (codes "let") ∷ l) text)

needs_is : (x : List ℕ) (ts rest : List Token) (u : Unit {0}) → needs x ts ≡ Some (u, rest) → ts ≡ Word x ∷ rest
needs_is x ts rest u is = by (keyword x ts) refl is
  where
    by : (b : Bool × List Token) → keyword x ts ≡ b → ◌≡◌ {A = Option (Unit {0} × List Token)} (if b.0 then Some (tt, b.1) else None) (Some (u, rest)) → ts ≡ Word x ∷ rest
    by (true, left) here e = keyword_is x ts ∙ ap (with_word x) here ∙ ap (λ (l : List Token). Word x ∷ l) (same_left tt u left rest e)
    by (false, left) here e = absurd (cc)

each_spelled : (ts rest : List Token) (s : Statement) → each_of ts ≡ Some (s, rest) → Said (Word (codes "each") ∷ ts) rest s
unfolding each_of variable colon
each_spelled ts rest s is =
    let name = found (variable ts) (λ x. needs (codes "in") >> (set_at >>= λ t. colon >> (call_at >>= λ c. give (Each x t c)))) s rest is in
    let word = found (needs (codes "in") name.left) (λ _. set_at >>= λ t. colon >> (call_at >>= λ c. give (Each name.value t c))) s rest name.second in
    let set = found (set_at word.left) (λ t. colon >> (call_at >>= λ c. give (Each name.value t c))) s rest word.second in
    let mark = found (colon set.left) (λ _. call_at >>= λ c. give (Each name.value set.value c)) s rest set.second in
    let call = found (call_at mark.left) (λ c. give (Each name.value set.value c)) s rest mark.second in
    let there = sets_are_exact.spelled word.left set.left set.value set.first in
    let told = call_spelled mark.left call.left call.value call.first in
    let text : ts ≡ Variable name.value ∷ Word (codes "in") ∷ ((spelled set.value ++ Colon ∷ spelled_call call.value) ++ call.left) =
    one_is variable_in (λ x. Variable x) variable_is ts name.left name.value name.first
    ∙ ap (λ (l : List Token). Variable name.value ∷ l) (needs_is (codes "in") name.left word.left word.value word.first)
    ∙ ap (λ (l : List Token). Variable name.value ∷ Word (codes "in") ∷ l)
    (there.2
    ∙ ap (λ (l : List Token). spelled set.value ++ l) (one_is colon_in (λ _. Colon) colon_is set.left mark.left mark.value mark.first ∙ ap (λ (l : List Token). Colon ∷ l) told.1)
    ∙ sym (append_assoc (spelled set.value) (Colon ∷ spelled_call call.value) call.left)) in
    carried (λ z l. Said (Word (codes "each") ∷ ts) l z) (Each name.value set.value call.value) s call.left rest call.second ((there.0, told.0), ap (λ (l : List Token). Word (codes "each") ∷ l) text)

once_spelled : (ts rest : List Token) (s : Statement) → once ts ≡ Some (s, rest) → Said ts rest s
unfolding once
once_spelled ts rest s is =
    let call = found (call_at ts) (λ c. give (Once c)) s rest is in
    carried (λ z l. Said ts l z) (Once call.value) s call.left rest call.second (call_spelled ts call.left call.value call.first)

spoken_spelled : (ts rest : List Token) (s : Statement) → spoken ts ≡ Some (s, rest) → Said ts rest s
unfolding spoken
spoken_spelled [] rest s is = carried (λ z l. Said [] l z) Nothing s [] rest is (tt, refl)
spoken_spelled (t ∷ ts) rest s is = first (keyword (codes "let") (t ∷ ts)) refl is
  where
    second : (left : List Token) (b : Bool × List Token) → t ∷ ts ≡ left → keyword (codes "each") left ≡ b → (if b.0 then each_of b.1 else once b.1) ≡ Some (s, rest) → Said (t ∷ ts) rest s
    second left (true, after) same here e =
        let said = each_spelled after rest s e in
        (said.0, same ∙ keyword_is (codes "each") left ∙ ap (with_word (codes "each")) here ∙ said.1)
    second left (false, after) same here e =
        let said = once_spelled after rest s e in
        (said.0, same ∙ keyword_is (codes "each") left ∙ ap (with_word (codes "each")) here ∙ said.1)

    first : (b : Bool × List Token) → keyword (codes "let") (t ∷ ts) ≡ b → (if b.0 then binding b.1 else (if (keyword (codes "each") b.1).0 then each_of (keyword (codes "each") b.1).1 else once (keyword (codes "each") b.1).1)) ≡ Some (s, rest) → Said (t ∷ ts) rest s
    first (true, left) here e =
        let said = let_spelled left rest s e in
        (said.0, keyword_is (codes "let") (t ∷ ts) ∙ ap (with_word (codes "let")) here ∙ said.1)
    first (false, left) here e = second left (keyword (codes "each") left) (keyword_is (codes "let") (t ∷ ts) ∙ ap (with_word (codes "let")) here) refl e

read_is_written : (ts : List Token) (s : Statement) → statement ts ≡ Some s → IsWrittenStatement s × (ts ≡ spelled_statement s)
unfolding statement
read_is_written ts s is = by (spoken ts) refl is
  where
    over : (rest : List Token) (said : Statement) → spoken ts ≡ Some (said, rest) → (if is_over rest then Some said else None) ≡ Some s → IsWrittenStatement s × (ts ≡ spelled_statement s)
    over [] said here e =
        let same : said ≡ s = cc in
        let told = spoken_spelled ts [] said here in
        subst (λ (z : Statement). IsWrittenStatement z × (ts ≡ spelled_statement z)) same (told.0, told.1 ∙ append-nil (spelled_statement said))
    over (t ∷ rest) said here e = absurd (cc)

    by : (o : Option (Statement × List Token)) → spoken ts ≡ o → all_read o ≡ Some s → IsWrittenStatement s × (ts ≡ spelled_statement s)
    by None here e = absurd (cc)
    by (Some x) here e = over x.1 x.0 here e

pub statements_are_exact : StatementsAreExact
statements_are_exact = record { read = written_is_read; spelled = read_is_written }
