-- Sets with bars between them: there are fewer than tokens.
use Rattle.std.proofs.lemmas.Bool.{false≢true}
use Rattle.base.proofs.Public.{◌≡◌, ◌∙◌, ℕ, ◌+◌, ◌<◌, ◌≤◌, zero, suc, Bool, true, false, ◌==◌, List, [], ◌∷◌, ◌++◌, length, Option, Some, None, refl, sym, ap, append_assoc, arith, inl, inr, cases_Bool, option_map, Err}
use Rattle.rule_script.specs.Sets.{Set, reading, set_at}
use Rattle.rule_script.specs.SetSteps.{ends, is_whole, rest_of, rest_where, state, step}
use Rattle.rule_script.specs.Grammar.{Takes, bar, sets_after, sets_at, sets_from, sets_within}
use Rattle.rule_script.specs.declared.faults.LineFault.{LineFault}
use Rattle.rule_script.specs.declared.faults.LineFault.TheVariants.{NotALine, Memory}
use Rattle.rule_script.specs.declared.sets.SetState.{SetState}
use Rattle.rule_script.specs.declared.tokens.Token.{Token}
use Rattle.rule_script.specs.declared.tokens.Token.TheVariants.{Word, Variable, Span, Sign, Opens, Closes, From, Upto, Colon, Comma, Bar, Equals, Other}
use Rattle.rule_script.proofs.SetLemmas.{ends-set_at}

-- ---- what is left is shorter

abbrev one_where : Bool → ℕ
one_where true = 1
one_where false = 0

whole_rest : (due : Bool) (n : ℕ) (ts rest : List Token) → rest_where (is_whole (state due n)) ts ≡ Some rest → length rest + one_where due ≤ length ts
whole_rest true n ts rest is = absurd (cc)
whole_rest false n ts rest is = elim (cases_Bool (n == 0)) [
  | inl none ↦ let same : Some ts ≡ Some rest = rw none at is in let it : ts ≡ rest = cc in omega (arith, ap length it)
  | inr some ↦ let never : None ≡ Some rest = rw some at is in absurd (cc)
]

few : (d : Bool) (r o n : ℕ) → r + o ≤ n → r + one_where d ≤ suc n
few true r o n less = omega arith
few false r o n less = omega arith

leaves_by : (due : Bool) (n : ℕ) (t : Token) (ts rest : List Token) (o : Option SetState) → step (state due n) t ≡ o → ends (state due n) (t ∷ ts) ≡ Some rest → ((next : SetState) → ends next ts ≡ Some rest → length rest + one_where next.is_due ≤ length ts) → length rest + one_where due ≤ length (t ∷ ts)
unfolding ends
leaves_by due n t ts rest None stops is later = whole_rest due n (t ∷ ts) rest (rw stops at is)
leaves_by due n t ts rest (Some next) goes is later = few due (length rest) (one_where next.is_due) (length ts) (later next (rw goes at is))

leaves_less : (due : Bool) (n : ℕ) (ts rest : List Token) → ends (state due n) ts ≡ Some rest → length rest + one_where due ≤ length ts
unfolding ends
leaves_less due n [] rest is = whole_rest due n [] rest is
leaves_less due n (t ∷ ts) rest is = leaves_by due n t ts rest (step (state due n) t) refl is (λ next later. leaves_less next.is_due next.brackets ts rest later)

pub set_takes : (ts rest : List Token) (s : Set) → set_at ts ≡ Some (s, rest) → length rest < length ts
set_takes ts rest s is =
    let end : ends (state true 0) ts ≡ Some rest = sym (ends-set_at ts) ∙ ap rest_of is in
    let less = leaves_less true 0 ts rest end in
    omega arith

-- what is not taken was not there
not_taken : (ts rest : List Token) → ◌≡◌ {A = Bool × List Token} (false, ts) (true, rest) → length rest < length ts
not_taken ts rest is = absurd (false≢true (ap (λ (x : Bool × List Token). x.0) is))

bar_takes : (ts rest : List Token) → bar ts ≡ (true, rest) → length rest < length ts
unfolding bar
bar_takes [] rest is = not_taken [] rest is
bar_takes (Bar ∷ ts) rest is = let same : ts ≡ rest = ap (λ (x : Bool × List Token). x.1) is in omega (arith, ap length same)
bar_takes (Word x ∷ ts) rest is = not_taken (Word x ∷ ts) rest is
bar_takes (Variable x ∷ ts) rest is = not_taken (Variable x ∷ ts) rest is
bar_takes (Span x a b ∷ ts) rest is = not_taken (Span x a b ∷ ts) rest is
bar_takes (Sign op ∷ ts) rest is = not_taken (Sign op ∷ ts) rest is
bar_takes (Opens ∷ ts) rest is = not_taken (Opens ∷ ts) rest is
bar_takes (Closes ∷ ts) rest is = not_taken (Closes ∷ ts) rest is
bar_takes (From ∷ ts) rest is = not_taken (From ∷ ts) rest is
bar_takes (Upto ∷ ts) rest is = not_taken (Upto ∷ ts) rest is
bar_takes (Colon ∷ ts) rest is = not_taken (Colon ∷ ts) rest is
bar_takes (Comma ∷ ts) rest is = not_taken (Comma ∷ ts) rest is
bar_takes (Equals ∷ ts) rest is = not_taken (Equals ∷ ts) rest is
bar_takes (Other ∷ ts) rest is = not_taken (Other ∷ ts) rest is

-- ---- more steps than tokens change nothing

no_set_at : set_at [] ≡ None
unfolding set_at reading
no_set_at = refl

sets_more : (n m : ℕ) (s : Set) (rest : List Token) (b : Bool × List Token) → bar rest ≡ b → ((after : List Token) → length after < length rest → sets_within n after ≡ sets_within m after) → sets_after (sets_within n) s b ≡ sets_after (sets_within m) s b
sets_more n m s rest (true, after) is later = ap (option_map (λ (x : List Set × List Token). (s ∷ x.0, x.1))) (later after (bar_takes rest after is))
sets_more n m s rest (false, after) is later = refl

sets_by : (n m : ℕ) (ts : List Token) (o : Option (Set × List Token)) → set_at ts ≡ o → ((after : List Token) → length after < length ts → sets_within n after ≡ sets_within m after) → sets_from (sets_within n) o ≡ sets_from (sets_within m) o
sets_by n m ts None none later = refl
sets_by n m ts (Some x) found later =
    let less = set_takes ts x.1 x.0 found in
    sets_more n m x.0 x.1 (bar x.1) refl (λ after fewer. later after (omega (arith, less, fewer)))

enough : (n m : ℕ) (ts : List Token) → length ts ≤ n → length ts ≤ m → sets_within n ts ≡ sets_within m ts
unfolding sets_within
enough zero zero ts low small = refl
enough zero (suc m) [] low small = rw no_set_at refl
enough zero (suc m) (t ∷ ts) low small = absurd (omega arith)
enough (suc n) zero [] low small = rw no_set_at refl
enough (suc n) zero (t ∷ ts) low small = absurd (omega arith)
enough (suc n) (suc m) ts low small = sets_by n m ts (set_at ts) refl (λ after less. enough n m after (omega (arith, less, low)) (omega (arith, less, small)))

-- the sets that tokens begin with, by the first of them
pub first_set : (ts rest : List Token) (s : Set) → set_at ts ≡ Some (s, rest) → sets_at ts ≡ sets_after sets_at s (bar rest)
unfolding sets_at sets_within
first_set [] rest s is = absurd (let none = no_set_at in cc)
first_set (t ∷ ts) rest s is = rw is (same (bar rest) refl)
  where
    same : (b : Bool × List Token) → bar rest ≡ b → sets_after (sets_within (length ts)) s b ≡ sets_after sets_at s b
    same (false, after) b = refl
    same (true, after) b =
        let less = bar_takes rest after b in
        let fewer = set_takes (t ∷ ts) rest s is in
        ap (option_map (λ (x : List Set × List Token). (s ∷ x.0, x.1))) (enough (length ts) (length after) after (omega arith) (omega arith))

-- no set, and so no sets
pub no_sets : (ts : List Token) → set_at ts ≡ None → sets_at ts ≡ None
unfolding sets_at sets_within
no_sets [] none = refl
no_sets (t ∷ ts) none = rw none refl

-- ---- the loop over sets: those found so far, and those that the rest begins with

abbrev pub after_these : List Set → Option (List Set × List Token) → Option (List Set × List Token)
after_these before found = option_map (λ x. (before ++ x.0, x.1)) found

pub none_here : (e : LineFault) (found : List Set) (rest start after other : List Token) → after_these found (sets_at rest) ≡ sets_at start → Takes {A = Set} (Err e) other (set_at rest) → Takes {A = List Set} (Err e) after (sets_at start)
none_here NotALine found rest start after other before none = sym before ∙ ap (after_these found) (no_sets rest none)
none_here Memory found rest start after other before none = tt

pub last_here : (found more : List Set) (rest start mid after : List Token) (s : Set) → after_these found (sets_at rest) ≡ sets_at start → set_at rest ≡ Some (s, mid) → bar mid ≡ (false, after) → more ≡ found ++ s ∷ [] → sets_at start ≡ Some (more, after)
last_here found more rest start mid after s before is ends longer =
    let here : sets_at rest ≡ Some (s ∷ [], after) = first_set rest mid s is ∙ ap (sets_after sets_at s) ends in
    rw longer (sym before ∙ ap (after_these found) here)

longer_by : (found : List Set) (s : Set) (o : Option (List Set × List Token)) → after_these (found ++ s ∷ []) o ≡ after_these found (option_map (λ x. (s ∷ x.0, x.1)) o)
longer_by found s None = refl
longer_by found s (Some x) = ap (λ (l : List Set). Some (l, x.1)) (append_assoc found (s ∷ []) x.0)

pub more_here : (found more : List Set) (rest start mid after : List Token) (s : Set) → after_these found (sets_at rest) ≡ sets_at start → set_at rest ≡ Some (s, mid) → bar mid ≡ (true, after) → more ≡ found ++ s ∷ [] → after_these more (sets_at after) ≡ sets_at start
more_here found more rest start mid after s before is goes longer =
    let here : sets_at rest ≡ option_map (λ x. (s ∷ x.0, x.1)) (sets_at after) = first_set rest mid s is ∙ ap (sets_after sets_at s) goes in
    rw longer (longer_by found s (sets_at after) ∙ ap (after_these found) (sym here) ∙ before)

pub less_here : (rest mid after : List Token) (s : Set) → set_at rest ≡ Some (s, mid) → bar mid ≡ (true, after) → length after < length rest
less_here rest mid after s is goes =
    let one = set_takes rest mid s is in
    let two = bar_takes mid after goes in
    omega arith

pub begins_here : (rest : List Token) → after_these [] (sets_at rest) ≡ sets_at rest
begins_here rest = same (sets_at rest)
  where
    same : (o : Option (List Set × List Token)) → after_these [] o ≡ o
    same None = refl
    same (Some x) = refl

pub ruleset sets_rules = (none_here, last_here, more_here, less_here, begins_here)
