-- Tokens from a place on.
use Rattle.std.proofs.lemmas.List.{drop_all}
use Rattle.base.proofs.Public.{◌≡◌, ℕ, ◌+◌, ◌<◌, ◌≤◌, true, false, List, [], ◌∷◌, length, drop, drop-cons, get_or, refl, arith, add-one, length-drop}
use Rattle.rule_script.specs.Grammar.{is_over}
use Rattle.rule_script.specs.declared.tokens.Token.{Token}

pub token_at : (ts : List Token) (at : ℕ) (t : Token) → at < length ts → t ≡ get_or ts at t → drop at ts ≡ t ∷ drop (at + 1) ts
token_at ts at t within is = rw (add-one, drop-cons ts at t, ← is) refl

pub over_at : (ts : List Token) (at : ℕ) → length ts ≤ at → drop at ts ≡ []
over_at ts at past = drop_all at ts past

pub is_over_past : (ts : List Token) (at : ℕ) → length ts ≤ at → is_over (drop at ts) ≡ true
is_over_past ts at past = rw (drop_all at ts past) refl

pub is_over_within : (ts : List Token) (at : ℕ) → at < length ts → is_over (drop at ts) ≡ false
is_over_within ts at within = by (drop at ts) (omega (arith, length-drop at ts))
  where
    by : (l : List Token) → 0 < length l → is_over l ≡ false
    by [] some = absurd (omega arith)
    by (t ∷ l) some = refl

pub ruleset place_rules = (token_at, over_at, is_over_past, is_over_within)
