-- Sets of elements as they are written: the tree of a set, how it is spelled, and the reading of tokens from the left.
use Rattle.std.specs.Prelude.{ℕ, max, suc, List, [], ◌∷◌, ◌++◌, length, nat_lt, Option, Some, None, IsTrue, if◌then◌else◌}
use Rattle.cluster.specs.Prelude.{is_name}
use Rattle.rule_script.specs.declared.tokens.Operator.{Operator}
use Rattle.rule_script.specs.declared.tokens.Token.{Token}
use Rattle.rule_script.specs.declared.tokens.Token.TheVariants.{Word, Variable, Span, Sign, Opens, Closes}

-- a set as it is written
pub data Set : Type 0 where
  named : List ℕ → Set  -- NAME
  span : List ℕ → ℕ → ℕ → Set  -- NAME[A:B]
  bound : List ℕ → Set  -- $x
  bracket : Set → Set  -- ( set )
  joined : Set → Operator → Set → Set  -- set op term

-- at most so many round brackets are open within a set
abbrev pub max_open : ℕ
max_open = 64

-- ---- how a set is spelled

abbrev pub spelled : Set → List Token
spelled (named x) = Word x ∷ []
spelled (span x a b) = Span x a b ∷ []
spelled (bound x) = Variable x ∷ []
spelled (bracket s) = Opens ∷ (spelled s ++ Closes ∷ [])
spelled (joined l op r) = spelled l ++ Sign op ∷ spelled r

-- a term is no joined set
abbrev pub IsTerm : Set → Type 0
IsTerm (named x) = Unit {0}
IsTerm (span x a b) = Unit {0}
IsTerm (bound x) = Unit {0}
IsTerm (bracket s) = Unit {0}
IsTerm (joined l op r) = ⊥

-- names are names, and what stands right of an operator is a term
abbrev pub IsSet : Set → Type 0
IsSet (named x) = IsTrue (is_name x)
IsSet (span x a b) = Unit {0}
IsSet (bound x) = Unit {0}
IsSet (bracket s) = IsSet s
IsSet (joined l op r) = IsSet l × IsSet r × IsTerm r

-- how many round brackets are open at once
abbrev pub open_in : Set → ℕ
open_in (named x) = 0
open_in (span x a b) = 0
open_in (bound x) = 0
open_in (bracket s) = suc (open_in s)
open_in (joined l op r) = max (open_in l) (open_in r)

-- ---- the reading of a set, token by token

-- the set and the operator that wait for a term
abbrev pub Waiting : Type 0
Waiting = Option (Set × Operator)

abbrev pub combined : Waiting → Set → Set
combined None t = t
combined (Some x) t = joined x.0 x.1 t

-- a term is due, or an operator, a closing bracket or the end
pub data Due : Type 0 where
  term_due : Waiting → Due
  more_due : Set → Due

-- what waits at each open bracket stands in the list, the innermost first; the set ends before the first token that cannot go on with it
unfoldable pub reading : Due → List Waiting → List Token → Option (Set × List Token)
reading (term_due c) k [] = None
reading (term_due c) k (Word x ∷ rest) = if is_name x then reading (more_due (combined c (named x))) k rest else None
reading (term_due c) k (Span x a b ∷ rest) = reading (more_due (combined c (span x a b))) k rest
reading (term_due c) k (Variable x ∷ rest) = reading (more_due (combined c (bound x))) k rest
reading (term_due c) k (Opens ∷ rest) = if nat_lt (length k) max_open then reading (term_due None) (c ∷ k) rest else None
reading (term_due c) k (t ∷ rest) = None
reading (more_due s) k (Sign op ∷ rest) = reading (term_due (Some (s, op))) k rest
reading (more_due s) (c ∷ k) (Closes ∷ rest) = reading (more_due (combined c (bracket s))) k rest
reading (more_due s) (c ∷ k) rest = None
reading (more_due s) [] rest = Some (s, rest)

-- the set that tokens begin with, and the tokens after it
unfoldable pub set_at : List Token → Option (Set × List Token)
set_at tokens = reading (term_due None) [] tokens

abbrev pub set_or : Option (Set × List Token) → Set
set_or None = named []
set_or (Some found) = found.0
