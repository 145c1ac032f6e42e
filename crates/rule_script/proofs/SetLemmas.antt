-- Where a set ends.
use Rattle.std.proofs.lemmas.List.{drop_all}
use Rattle.base.proofs.Public.{◌≡◌, ◌∙◌, ℕ, ◌+◌, ◌-◌, suc, Bool, true, false, nat_lt, List, [], ◌∷◌, length, Option, Some, None, refl, sym, ap, arith, inl, inr, cases_Bool, lt-ltb, ne_eqb, add-one, get_or, drop, drop-cons, is_some, cases_lt, option_map, if◌then◌else◌, ◌<◌, ◌≤◌}
use Rattle.cluster.specs.Prelude.{is_name}
use Rattle.rule_script.specs.Sets.{Set, named, span, bound, bracket, Waiting, combined, Due, term_due, more_due, max_open, reading, set_at, set_or}
use Rattle.rule_script.specs.SetSteps.{ends, is_whole, rest_of, rest_where, state, step}
use Rattle.rule_script.specs.declared.sets.SetState.{SetState}
use Rattle.rule_script.specs.declared.tokens.Token.{Token}
use Rattle.rule_script.specs.declared.tokens.Token.TheVariants.{Word, Variable, Span, Sign, Opens, Closes, From, Upto, Colon, Comma, Bar, Equals, Other}

abbrev due_in : Due → Bool
due_in (term_due c) = true
due_in (more_due s) = false

-- one more open bracket
one_more : (n : ℕ) → n + 1 ≡ suc n
one_more n = omega arith

-- an open bracket holds the end back
held : (n : ℕ) (ts : List Token) → None ≡ rest_where (is_whole (state false (suc n))) ts
held n ts = rw (ne_eqb (suc n) 0 (omega arith)) refl

closes : (n : ℕ) (ts : List Token) → ends (state false (suc n)) (Closes ∷ ts) ≡ ends (state false n) ts
unfolding ends step
closes n ts =
    let some : nat_lt 0 (suc n) ≡ true = lt-ltb 0 (suc n) (omega arith) in
    let less : suc n - 1 ≡ n = omega arith in
    rw (some, less) refl

-- the reading stops where the steps stop
pub stops_there : (d : Due) (k : List Waiting) (ts : List Token) → rest_of (reading d k ts) ≡ ends (state (due_in d) (length k)) ts
unfolding reading ends step
stops_there (term_due c) k [] = refl
stops_there (term_due c) k (Word x ∷ ts) = elim (cases_Bool (is_name x)) [
  | inl good ↦ rw good (stops_there (more_due (combined c (named x))) k ts)
  | inr bad ↦ rw bad refl
]
stops_there (term_due c) k (Span x a b ∷ ts) = stops_there (more_due (combined c (span x a b))) k ts
stops_there (term_due c) k (Variable x ∷ ts) = stops_there (more_due (combined c (bound x))) k ts
stops_there (term_due c) k (Opens ∷ ts) = elim (cases_Bool (nat_lt (length k) max_open)) [
  | inl few ↦ rw (few, one_more (length k)) (stops_there (term_due None) (c ∷ k) ts)
  | inr many ↦ rw many refl
]
stops_there (term_due c) k (Sign op ∷ ts) = refl
stops_there (term_due c) k (Closes ∷ ts) = refl
stops_there (term_due c) k (From ∷ ts) = refl
stops_there (term_due c) k (Upto ∷ ts) = refl
stops_there (term_due c) k (Colon ∷ ts) = refl
stops_there (term_due c) k (Comma ∷ ts) = refl
stops_there (term_due c) k (Bar ∷ ts) = refl
stops_there (term_due c) k (Equals ∷ ts) = refl
stops_there (term_due c) k (Other ∷ ts) = refl
stops_there (more_due s) [] [] = refl
stops_there (more_due s) [] (Sign op ∷ ts) = stops_there (term_due (Some (s, op))) [] ts
stops_there (more_due s) [] (Word x ∷ ts) = refl
stops_there (more_due s) [] (Span x a b ∷ ts) = refl
stops_there (more_due s) [] (Variable x ∷ ts) = refl
stops_there (more_due s) [] (Opens ∷ ts) = refl
stops_there (more_due s) [] (Closes ∷ ts) = refl
stops_there (more_due s) [] (From ∷ ts) = refl
stops_there (more_due s) [] (Upto ∷ ts) = refl
stops_there (more_due s) [] (Colon ∷ ts) = refl
stops_there (more_due s) [] (Comma ∷ ts) = refl
stops_there (more_due s) [] (Bar ∷ ts) = refl
stops_there (more_due s) [] (Equals ∷ ts) = refl
stops_there (more_due s) [] (Other ∷ ts) = refl
stops_there (more_due s) (c ∷ k) [] = held (length k) []
stops_there (more_due s) (c ∷ k) (Sign op ∷ ts) = stops_there (term_due (Some (s, op))) (c ∷ k) ts
stops_there (more_due s) (c ∷ k) (Closes ∷ ts) = stops_there (more_due (combined c (bracket s))) k ts ∙ sym (closes (length k) ts)
stops_there (more_due s) (c ∷ k) (Word x ∷ ts) = held (length k) (Word x ∷ ts)
stops_there (more_due s) (c ∷ k) (Span x a b ∷ ts) = held (length k) (Span x a b ∷ ts)
stops_there (more_due s) (c ∷ k) (Variable x ∷ ts) = held (length k) (Variable x ∷ ts)
stops_there (more_due s) (c ∷ k) (Opens ∷ ts) = held (length k) (Opens ∷ ts)
stops_there (more_due s) (c ∷ k) (From ∷ ts) = held (length k) (From ∷ ts)
stops_there (more_due s) (c ∷ k) (Upto ∷ ts) = held (length k) (Upto ∷ ts)
stops_there (more_due s) (c ∷ k) (Colon ∷ ts) = held (length k) (Colon ∷ ts)
stops_there (more_due s) (c ∷ k) (Comma ∷ ts) = held (length k) (Comma ∷ ts)
stops_there (more_due s) (c ∷ k) (Bar ∷ ts) = held (length k) (Bar ∷ ts)
stops_there (more_due s) (c ∷ k) (Equals ∷ ts) = held (length k) (Equals ∷ ts)
stops_there (more_due s) (c ∷ k) (Other ∷ ts) = held (length k) (Other ∷ ts)

pub ends-set_at : (ts : List Token) → rest_of (set_at ts) ≡ ends (state true 0) ts
unfolding set_at
ends-set_at ts = stops_there (term_due None) [] ts

-- ---- the steps from a place on

next_token : (ts : List Token) (at : ℕ) (t : Token) → at < length ts → t ≡ get_or ts at t → drop at ts ≡ t ∷ drop (at + 1) ts
next_token ts at t within is = rw (add-one, drop-cons ts at t, ← is) refl

pub goes_on_at : (now next : SetState) (ts all : List Token) (at : ℕ) (t : Token) → ends now (drop at ts) ≡ rest_of (set_at all) → at < length ts → t ≡ get_or ts at t → step now t ≡ Some next → ends next (drop (at + 1) ts) ≡ rest_of (set_at all)
unfolding ends
goes_on_at now next ts all at t before within is goes =
    let here : ends now (drop at ts) ≡ ends next (drop (at + 1) ts) = rw (next_token ts at t within is, goes) refl in
    sym here ∙ before

end_there : (whole : Bool) (ts : List Token) (at : ℕ) → option_map (λ i. drop i ts) (if whole then Some at else None) ≡ rest_where whole (drop at ts)
end_there true ts at = refl
end_there false ts at = refl

pub stops_at : (now : SetState) (ts all : List Token) (at : ℕ) (t : Token) (result : Option ℕ) → ends now (drop at ts) ≡ rest_of (set_at all) → at < length ts → t ≡ get_or ts at t → step now t ≡ None → result ≡ (if is_whole now then Some at else None) → option_map (λ i. drop i ts) result ≡ rest_of (set_at all)
unfolding ends
stops_at now ts all at t result before within is stops answer =
    let here : ends now (drop at ts) ≡ rest_where (is_whole now) (t ∷ drop (at + 1) ts) = rw (next_token ts at t within is, stops) refl in
    rw answer (end_there (is_whole now) ts at ∙ ap (rest_where (is_whole now)) (next_token ts at t within is) ∙ sym here ∙ before)

pub done_at : (now : SetState) (ts all : List Token) (at : ℕ) (result : Option ℕ) → ends now (drop at ts) ≡ rest_of (set_at all) → length ts ≤ at → result ≡ (if is_whole now then Some at else None) → option_map (λ i. drop i ts) result ≡ rest_of (set_at all)
unfolding ends
done_at now ts all at result before past answer =
    let over : drop at ts ≡ [] = drop_all at ts past in
    let here : ends now (drop at ts) ≡ rest_where (is_whole now) (drop at ts) = rw over refl in
    rw answer (end_there (is_whole now) ts at ∙ sym here ∙ before)

pub begins_at : (ts : List Token) (at : ℕ) → ends (state true 0) (drop at ts) ≡ rest_of (set_at (drop at ts))
begins_at ts at = sym (ends-set_at (drop at ts))

pub ruleset end_rules = (goes_on_at, stops_at, done_at, begins_at)

-- ---- the set that begins at a place

pub found_set : (o : Option (Set × List Token)) (ts : List Token) (end : Option ℕ) (after : ℕ) → option_map (λ i. drop i ts) end ≡ rest_of o → end ≡ Some after → o ≡ Some (set_or o, drop after ts)
found_set None ts end after is found = absurd (let none : None ≡ option_map (λ (i : ℕ). drop i ts) (Some after) = sym is ∙ ap (option_map (λ (i : ℕ). drop i ts)) found in cc)
found_set (Some (s, rest)) ts end after is found =
    let some : Some rest ≡ Some (drop after ts) = sym is ∙ ap (option_map (λ (i : ℕ). drop i ts)) found in
    cc

pub set_found : (o : Option (Set × List Token)) (ts : List Token) (end : Option ℕ) (after : ℕ) → option_map (λ i. drop i ts) end ≡ rest_of o → end ≡ Some after → is_some o ≡ true
set_found None ts end after is found = absurd (let none : None ≡ option_map (λ (i : ℕ). drop i ts) (Some after) = sym is ∙ ap (option_map (λ (i : ℕ). drop i ts)) found in cc)
set_found (Some x) ts end after is found = refl

pub no_set : (o : Option (Set × List Token)) (ts : List Token) (end : Option ℕ) → option_map (λ i. drop i ts) end ≡ rest_of o → end ≡ None → o ≡ None
no_set None ts end is none = refl
no_set (Some x) ts end is none = absurd (let some : None ≡ Some x.1 = ap (option_map (λ (i : ℕ). drop i ts)) (sym none) ∙ is in cc)

pub ruleset found_rules = (found_set, set_found, no_set)

-- ---- the tokens of a set that was found

none_past : (ts : List Token) (at : ℕ) → length ts ≤ at → set_at (drop at ts) ≡ None
unfolding set_at reading
none_past ts at past = rw (drop_all at ts past) refl

pub begins_within : (ts : List Token) (at : ℕ) → is_some (set_at (drop at ts)) ≡ true → at ≤ length ts
begins_within ts at some = elim (cases_lt (length ts) at) [
  | inl past ↦ absurd (let none = none_past ts at (omega arith) in let never : false ≡ true = ap is_some (sym none) ∙ some in cc)
  | inr within ↦ within
]
