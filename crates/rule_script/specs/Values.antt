-- The value of a set: the list of its elements, or what is wrong, the first from the left.
use Rattle.std.specs.Prelude.{ℕ, zero, suc, ◌+◌, ◌-◌, ◌&&◌, ◌++◌, List, [], ◌∷◌, nat_le, nat_lt, Option, Some, None, Result, Ok, Err, if◌then◌else◌}
use Rattle.std.specs.Fmt.{decimal}
use Rattle.cluster.specs.Prelude.{element_named, Inventory}
use Rattle.cluster.specs.declared.ids.Element.{Element}
use Rattle.rule_script.specs.Bindings.{Bindings, lookup}
use Rattle.rule_script.specs.Elements.{joined_by}
use Rattle.rule_script.specs.Sets.{Set, named, span, bound, bracket, joined}
use Rattle.rule_script.specs.declared.faults.Mistake.{Mistake}
use Rattle.rule_script.specs.declared.faults.Mistake.TheVariants.{NoSuch, OutOfRange}
use Rattle.rule_script.specs.declared.tokens.Operator.{Operator}

abbrev pub Worth : Type 0
Worth = Result (List Element) Mistake

-- what is there, or `NoSuch`
abbrev pub there : {A : Type 0} → Option A → Result A Mistake
there None = Err NoSuch
there (Some x) = Ok x

-- the one element of that name
abbrev pub alone : Option Element → Worth
alone None = Err NoSuch
alone (Some e) = Ok (e ∷ [])

-- one element before others
abbrev pub before : Option Element → Worth → Worth
before None others = Err NoSuch
before (Some e) (Ok es) = Ok (e ∷ es)
before (Some e) (Err m) = Err m

-- the elements named x followed by a number: as many numbers as n, from the first on
unfoldable pub numbered : Inventory → List ℕ → ℕ → ℕ → Worth
numbered k x first zero = Ok []
numbered k x first (suc n) = before (element_named k (x ++ decimal first)) (numbered k x (first + 1) n)

-- how many numbers a range may have
abbrev pub max_range : ℕ
max_range = 4096

unfoldable pub span_value : Inventory → List ℕ → ℕ → ℕ → Worth
span_value k x a b = if nat_le a b && nat_lt (b - a) max_range then numbered k x a (b - a + 1) else Err OutOfRange

-- what stands left is valued first
abbrev pub joined_value : Operator → Worth → Worth → Worth
joined_value op (Err m) right = Err m
joined_value op (Ok a) (Err m) = Err m
joined_value op (Ok a) (Ok b) = Ok (joined_by op a b)

unfoldable pub value_of : Inventory → Bindings → Set → Worth
value_of k env (named x) = alone (element_named k x)
value_of k env (span x a b) = span_value k x a b
value_of k env (bound x) = there (lookup env x)
value_of k env (bracket s) = value_of k env s
value_of k env (joined l op r) = joined_value op (value_of k env l) (value_of k env r)
