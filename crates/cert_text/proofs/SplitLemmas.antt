-- Lines are cut at their blanks into their words, and have no newline.
use Rattle.std.proofs.Common.{codes, length-append, map, subst, sym}
use Rattle.std.proofs.lemmas.Iterator.{YieldsList, items_from_drains}
use Rattle.std.specs.Iterator.{Drains}
use Rattle.base.proofs.Public.{◌≡◌, ◌≢◌, ◌∙◌, ℕ, ◌==◌, Bool, true, false, List, [], ◌∷◌, ◌++◌, nat_le, nat_lt, Option, Some, None, refl, ap, arith, ◌*◌, lit<, length, ◌&&◌, ◌≤◌, and_from, and_parts, nat_tests, length-decimal-le, common_steps, list_all-append, slice_split_at, slice_split_none, AllPass-from_list_all, lt_trans, is_ascii_digit, decimal, All, Contains, list_all}
use Rattle.cert_text.specs.Prelude.{All as AllNodes, AreNodes, Bound, Cut as TheCut, Decide as TheDecide, Empty, End, Fail as TheFail, From as TheFrom, Goal, goal_word, goal_words, GoalKind, goes_on_name, Group, Hall, Idle as TheIdle, Infeasible as TheInfeasible, is_name, IsGoal, IsLine, IsName, IsNumber, IsPart, IsPlace, IsReason, joined, Left as TheLeft, line_word, line_words, LineKind, LineText, Listed, Load, nodes_words, NodesText, Optimal as TheOptimal, Pair, part_word, part_words, PartKind, PartText, Place, place_word, Plan as ThePlan, Power, reason_word, reason_words, ReasonKind, ReasonText, SetLoad, Step, Undecided as TheUndecided, Upto as TheUpto, Usable, Word, words_of}
use Rattle.reasons.specs.declared.reason.ReasonKind.TheVariants.{Empty as TheEmpty, Bound as TheBound, Load as TheLoad, Pair as ThePair, Place as ThePlace, Group as TheGroup, SetLoad as TheSetLoad, Power as ThePower, Usable as TheUsable, Hall as TheHall}
use Rattle.trees.specs.declared.steps.Goal.TheVariants.{Optimal, Infeasible, Undecided}
use Rattle.cert_text.specs.declared.kinds.LineKind.TheVariants.{End as TheEnd}
use Rattle.cert_text.specs.declared.text.PartText.TheVariants.{Idle, Upto, From}
use Rattle.cert_text.specs.declared.text.StepText.TheVariants.{Decide, Cut, Fail, Plan, Left}
use Rattle.numerals.proofs.Public.{digits_of-decimal}

-- ---- words without blanks and newlines

plain : Word → Bool
plain word = list_all (nat_lt 32) word && nat_le (length word) 64

plain_bytes : (word : Word) → plain word ≡ true → list_all (nat_lt 32) word ≡ true
unfolding plain
plain_bytes word is = (and_parts (list_all (nat_lt 32) word) (nat_le (length word) 64) is).0

plain_short : (word : Word) → plain word ≡ true → length word ≤ 64
unfolding plain
plain_short word is = let short = (and_parts (list_all (nat_lt 32) word) (nat_le (length word) 64) is).1 in grind (arith, nat_tests)

all_plain : List Word → Bool
all_plain words = list_all plain words

-- one word more, and the words of two lists
none : all_plain [] ≡ true
unfolding all_plain
none = refl

more : (word : Word) (words : List Word) → plain word ≡ true → all_plain words ≡ true → all_plain (word ∷ words) ≡ true
unfolding all_plain
more word words one rest = and_from (plain word) (list_all plain words) one rest

parts : (word : Word) (words : List Word) → all_plain (word ∷ words) ≡ true → (plain word ≡ true) × (all_plain words ≡ true)
unfolding all_plain
parts word words all = and_parts (plain word) (list_all plain words) all

both_plain : (xs ys : List Word) → all_plain xs ≡ true → all_plain ys ≡ true → all_plain (xs ++ ys) ≡ true
unfolding all_plain
both_plain xs ys first second = list_all-append plain xs ys ∙ and_from (list_all plain xs) (list_all plain ys) first second

each_passes : (p q : ℕ → Bool) → ((b : ℕ) → p b ≡ true → q b ≡ true) → (bs : List ℕ) → list_all p bs ≡ true → list_all q bs ≡ true
each_passes p q turn [] all = refl
each_passes p q turn (b ∷ bs) all = let sides = and_parts (p b) (list_all p bs) all in and_from _ _ (turn b sides.0) (each_passes p q turn bs sides.1)

goes_on_plain : (b : ℕ) → goes_on_name b ≡ true → nat_lt 32 b ≡ true
goes_on_plain b h = grind (arith, nat_tests, common_steps)

digit_plain : (b : ℕ) → is_ascii_digit b ≡ true → nat_lt 32 b ≡ true
digit_plain b h = grind (arith, nat_tests, common_steps)

name_plain : (word : Word) → IsName word → plain word ≡ true
unfolding is_name plain
name_plain word is =
    let all : list_all goes_on_name word ≡ true = grind (arith, common_steps) in
    let short : nat_le (length word) 64 ≡ true = grind (arith, common_steps) in
    and_from _ _ (each_passes goes_on_name (nat_lt 32) goes_on_plain word all) short

short_enough : (n : ℕ) → n ≤ 20 → nat_le n 64 ≡ true
short_enough n few = grind (arith, nat_tests)

number_plain : (n : ℕ) → IsNumber n → plain (decimal n) ≡ true
unfolding plain
number_plain n is =
    let few = length-decimal-le 20 n (lit< tt) (lt_trans is (lit< tt)) is in
    let short : nat_le (length (decimal n)) 64 ≡ true = short_enough (length (decimal n)) few in
    and_from _ _ (each_passes is_ascii_digit (nat_lt 32) digit_plain (decimal n) (digits_of-decimal n is)) short

dash_plain : plain (codes "-") ≡ true
unfolding plain
dash_plain = refl

star_plain : plain (codes "*") ≡ true
unfolding plain
star_plain = refl

place_plain : (place : Option Word) → IsPlace place → plain (place_word place) ≡ true
place_plain None is = dash_plain
place_plain (Some name) is = name_plain name is

names_plain : (names : List Word) → list_all is_name names ≡ true → all_plain names ≡ true
names_plain [] all = none
names_plain (name ∷ names) all = let sides = and_parts (is_name name) (list_all is_name names) all in more _ _ (name_plain name sides.0) (names_plain names sides.1)

reason_word_plain : (kind : ReasonKind) → plain (reason_word kind) ≡ true
unfolding plain reason_word
reason_word_plain TheEmpty = refl
reason_word_plain TheBound = refl
reason_word_plain TheLoad = refl
reason_word_plain ThePair = refl
reason_word_plain ThePlace = refl
reason_word_plain TheGroup = refl
reason_word_plain TheSetLoad = refl
reason_word_plain ThePower = refl
reason_word_plain TheUsable = refl
reason_word_plain TheHall = refl

part_word_plain : (kind : PartKind) → plain (part_word kind) ≡ true
unfolding part_word plain
part_word_plain TheIdle = refl
part_word_plain TheUpto = refl
part_word_plain TheFrom = refl

goal_word_plain : (kind : GoalKind) → plain (goal_word kind) ≡ true
unfolding goal_word plain
goal_word_plain TheOptimal = refl
goal_word_plain TheInfeasible = refl
goal_word_plain TheUndecided = refl

line_word_plain : (kind : LineKind) → plain (line_word kind) ≡ true
unfolding line_word plain
line_word_plain TheDecide = refl
line_word_plain TheCut = refl
line_word_plain TheFail = refl
line_word_plain ThePlan = refl
line_word_plain TheLeft = refl
line_word_plain TheEnd = refl

-- ---- the words of each

part_plain : (part : PartText) → IsPart part → all_plain (part_words part) ≡ true
part_plain Idle is = more _ _ (part_word_plain TheIdle) none
part_plain (Upto place start) is = more _ _ (part_word_plain TheUpto) (more _ _ (place_plain place is.0) (more _ _ (number_plain start is.1) none))
part_plain (From place start) is = more _ _ (part_word_plain TheFrom) (more _ _ (place_plain place is.0) (more _ _ (number_plain start is.1) none))

nodes_plain : (nodes : NodesText) → AreNodes nodes → all_plain (nodes_words nodes) ≡ true
nodes_plain AllNodes is = more _ _ star_plain none
nodes_plain (Listed names) is = names_plain names is.1

reason_plain : (reason : ReasonText) → IsReason reason → all_plain (reason_words reason) ≡ true
reason_plain (Empty e) is = more _ _ (reason_word_plain TheEmpty) (more _ _ (name_plain e is) none)
reason_plain Bound is = more _ _ (reason_word_plain TheBound) none
reason_plain (Load t r nodes) is = more _ _ (reason_word_plain TheLoad) (more _ _ (number_plain t is.0) (more _ _ (name_plain r is.1) (nodes_plain nodes is.2)))
reason_plain (Pair c t v w n) is =
    more _ _ (reason_word_plain ThePair) (more _ _ (number_plain c is.0) (more _ _ (number_plain t is.1) (more _ _ (name_plain v is.2) (more _ _ (name_plain w is.3) (more _ _ (name_plain n is.4) none)))))
reason_plain (Place c t v n) is =
    more _ _ (reason_word_plain ThePlace) (more _ _ (number_plain c is.0) (more _ _ (number_plain t is.1) (more _ _ (name_plain v is.2) (more _ _ (name_plain n is.3) none))))
reason_plain (Group c t) is = more _ _ (reason_word_plain TheGroup) (more _ _ (number_plain c is.0) (more _ _ (number_plain t is.1) none))
reason_plain (SetLoad c t) is = more _ _ (reason_word_plain TheSetLoad) (more _ _ (number_plain c is.0) (more _ _ (number_plain t is.1) none))
reason_plain (Power c t) is = more _ _ (reason_word_plain ThePower) (more _ _ (number_plain c is.0) (more _ _ (number_plain t is.1) none))
reason_plain (Usable t v n) is = more _ _ (reason_word_plain TheUsable) (more _ _ (number_plain t is.0) (more _ _ (name_plain v is.1) (more _ _ (name_plain n is.2) none)))
reason_plain (Hall c t nodes) is = more _ _ (reason_word_plain TheHall) (more _ _ (number_plain c is.0) (more _ _ (number_plain t is.1) (nodes_plain nodes is.2)))

goal_plain : (goal : Goal) → IsGoal goal → all_plain (goal_words goal) ≡ true
goal_plain (Optimal cost) is = more _ _ (goal_word_plain TheOptimal) (more _ _ (number_plain cost is) none)
goal_plain Infeasible is = more _ _ (goal_word_plain TheInfeasible) none
goal_plain (Undecided count) is = more _ _ (goal_word_plain TheUndecided) (more _ _ (number_plain count is) none)

line_plain : (line : LineText) → IsLine line → all_plain (line_words line) ≡ true
line_plain (Step (Decide e part)) is = more _ _ (line_word_plain TheDecide) (more _ _ (name_plain e is.0) (part_plain part is.1))
line_plain (Step (Cut e part reason)) is =
    more _ _ (line_word_plain TheCut) (more _ _ (name_plain e is.0) (both_plain (part_words part) (reason_words reason) (part_plain part is.1) (reason_plain reason is.2)))
line_plain (Step (Fail reason)) is = more _ _ (line_word_plain TheFail) (reason_plain reason is)
line_plain (Step (Plan cost)) is = more _ _ (line_word_plain ThePlan) (more _ _ (number_plain cost is) none)
line_plain (Step Left) is = more _ _ (line_word_plain TheLeft) none
line_plain (End goal) is = more _ _ (line_word_plain TheEnd) (goal_plain goal is)

-- a line has a word
line_some : (line : LineText) → line_words line ≢ []
line_some (Step (Decide e part)) nothing = cc
line_some (Step (Cut e part reason)) nothing = cc
line_some (Step (Fail reason)) nothing = cc
line_some (Step (Plan cost)) nothing = cc
line_some (Step Left) nothing = cc
line_some (End goal) nothing = cc

-- ---- cut at blanks

no_blank : (word : Word) → plain word ≡ true → All (λ b. (b == 32) ≡ false) word
no_blank word is k d within = let above = AllPass-from_list_all (nat_lt 32) word (plain_bytes word is) k d within in grind (arith, nat_tests)

split-joined : (words : List Word) → words ≢ [] → all_plain words ≡ true → words_of (joined words) ≡ words
split-joined [] some is = absurd (some refl)
split-joined (w ∷ []) some is = slice_split_none (λ b. b == 32) w (no_blank w (parts w [] is).0)
split-joined (w ∷ v ∷ words) some is =
    let sides = parts w (v ∷ words) is in
    slice_split_at (λ b. b == 32) w 32 (joined (v ∷ words)) (no_blank w sides.0) refl ∙ ap (λ (l : List Word). w ∷ l) (split-joined (v ∷ words) (λ nothing. cc) sides.1)

pub words_of-line : (line : LineText) → IsLine line → words_of (joined (line_words line)) ≡ line_words line
words_of-line line is = split-joined (line_words line) (line_some line) (line_plain line is)

-- ---- without newlines

abbrev printed : List ℕ → Bool
printed bytes = list_all (nat_le 32) bytes

plain_printed : (word : Word) → plain word ≡ true → printed word ≡ true
plain_printed word is = each_passes (nat_lt 32) (nat_le 32) (λ b above. grind (arith, nat_tests)) word (plain_bytes word is)

joined_printed : (words : List Word) → all_plain words ≡ true → printed (joined words) ≡ true
joined_printed [] is = refl
joined_printed (w ∷ []) is = plain_printed w (parts w [] is).0
joined_printed (w ∷ v ∷ words) is =
    let sides = parts w (v ∷ words) is in
    list_all-append (nat_le 32) w (32 ∷ joined (v ∷ words)) ∙ and_from _ _ (plain_printed w sides.0) (joined_printed (v ∷ words) sides.1)

pub no_newline : (line : LineText) → IsLine line → ¬ Contains (joined (line_words line)) 10
no_newline line is (k, within, at) =
    let high = AllPass-from_list_all (nat_le 32) (joined (line_words line)) (joined_printed (line_words line) (line_plain line is)) k 10 within in
    let low : nat_le 32 10 ≡ true = rw at at high in
    absurd (cc)

-- ---- how long a line is

joined_short : (words : List Word) → all_plain words ≡ true → length (joined words) ≤ 65 * length words
joined_short [] is = omega arith
joined_short (w ∷ []) is = let one = plain_short w (parts w [] is).0 in omega arith
joined_short (w ∷ v ∷ words) is =
    let sides = parts w (v ∷ words) is in
    let one = plain_short w sides.0 in
    let rest = joined_short (v ∷ words) sides.1 in
    omega (arith, length-append w (32 ∷ joined (v ∷ words)))

-- no more than 65 bytes for each word
pub line_short : (line : LineText) → IsLine line → length (joined (line_words line)) ≤ 65 * length (line_words line)
line_short line is = joined_short (line_words line) (line_plain line is)

-- ---- a list that was empty and is extended by what an iterator yields has what that yields

pub map_from_extend : {S A B : Type 0} {steps : S → Option A → S → Type 0} {v : A → B} {s t : S} {all : List B} (old new xs : List A) → old ≡ [] → new ≡ old ++ xs → t ≡ s → Drains steps t xs → YieldsList steps v s all → map v new ≡ all
map_from_extend {S} {A} {B} {steps} {v} {s} {t} {all} old new xs empty more same ends road =
    ap (map v) (more ∙ ap (λ l. l ++ xs) empty) ∙ items_from_drains xs (ends.1.0, ends.1.1, λ _. (ends.0, ends.1.2)) (subst (λ u. YieldsList steps v u all) (sym same) road)
