-- What a script gives: its lines in order, each of which adds constraints or binds a variable; or the first line that is wrong.
use Rattle.std.specs.Prelude.{ℕ, ◌+◌, ◌++◌, ◌==◌, List, [], ◌∷◌, length, nat_lt, Option, Some, None, Result, Ok, Err, if◌then◌else◌}
use Rattle.std.specs.List.{slice_split}
use Rattle.cluster.specs.declared.ids.Element.{Element}
use Rattle.catalogue.specs.declared.constraint.Constraint.{Constraint}
use Rattle.catalogue.specs.declared.constraint.RuleFault.{RuleFault}
use Rattle.catalogue.specs.declared.constraint.RuleFault.TheVariants as fault
use Rattle.catalogue.specs.Instance.{Instance, inventory_of, rule_fault}
use Rattle.rule_script.specs.Bindings.{bind, Bindings}
use Rattle.rule_script.specs.Calls.{◌>>=◌, constraint_of}
use Rattle.rule_script.specs.Grammar.{statement}
use Rattle.rule_script.specs.Tokens.{tokens_of}
use Rattle.rule_script.specs.Values.{value_of}
use Rattle.rule_script.specs.declared.faults.Mistake.{Mistake}
use Rattle.rule_script.specs.declared.faults.Mistake.TheVariants.{NotALine, TooLong, NoSuch, OutOfRange, Twice, TooMany}
use Rattle.rule_script.specs.declared.statement.Call.{Call}
use Rattle.rule_script.specs.declared.statement.Statement.{Statement}
use Rattle.rule_script.specs.declared.statement.Statement.TheVariants.{Nothing, Let, Each, Once}

-- ---- calls

-- what a fault of a constraint is called here; `rule_fault` never answers want of memory
abbrev pub mistake_of : RuleFault → Mistake
mistake_of fault.TooMany = TooMany
mistake_of fault.NoSuch = NoSuch
mistake_of fault.Twice = Twice
mistake_of fault.TooGreat = OutOfRange
mistake_of fault.Memory = OutOfRange

abbrev pub with_rule : Instance → Constraint → Instance
with_rule p c = record p { constraints = p.constraints ++ c ∷ [] }

abbrev pub unless_faulty : Option RuleFault → Instance → Result Instance Mistake
unless_faulty None p = Ok p
unless_faulty (Some f) p = Err (mistake_of f)

-- one constraint more, which is tested as any constraint of a problem
abbrev pub added : Instance → Constraint → Result Instance Mistake
added p c = unless_faulty (rule_fault p c) (with_rule p c)

-- a call adds the constraint that it means
unfoldable pub called : Instance → Bindings → Call → Result Instance Mistake
called p env call = constraint_of (inventory_of p) env call >>= λ c. added p c

-- the call for each element, with the variable bound to it alone
unfoldable pub called_for_each : Instance → Bindings → List ℕ → Call → List Element → Result Instance Mistake
called_for_each p env x call [] = Ok p
called_for_each p env x call (e ∷ es) = called p (bind env x (e ∷ [])) call >>= λ q. called_for_each q env x call es

-- ---- statements

-- the problem and the variables, after some lines
pub record Progress : Type 0 where
  pub given : Instance
  pub variables : Bindings

abbrev pub at : Instance → Bindings → Progress
at p env = record { given = p; variables = env }

-- a `let` binds for the lines after it; after an `each` the variables are as before
unfoldable pub done : Instance → Bindings → Statement → Result Progress Mistake
done p env Nothing = Ok (at p env)
done p env (Let x s) = value_of (inventory_of p) env s >>= λ v. Ok (at p (bind env x v))
done p env (Once call) = called p env call >>= λ q. Ok (at q env)
done p env (Each x s call) = do
  es ← value_of (inventory_of p) env s
  q ← called_for_each p env x call es
  Ok (at q env)

-- ---- lines

-- at most so many bytes in a line, its newline not counted
abbrev pub max_line_bytes : ℕ
max_line_bytes = 65536

abbrev pub said : Option Statement → Result Statement Mistake
said None = Err NotALine
said (Some s) = Ok s

-- a line that is too long, or that says nothing, is wrong before anything in it is looked up
unfoldable pub line_done : Instance → Bindings → List ℕ → Result Progress Mistake
line_done p env line = if nat_lt max_line_bytes (length line) then Err TooLong else (said (statement (tokens_of line)) >>= done p env)

-- the lines in order, numbered; the first that is wrong decides
abbrev pub goes_on_line : ℕ → (Progress → Result Progress (ℕ × Mistake)) → Result Progress Mistake → Result Progress (ℕ × Mistake)
goes_on_line number f (Err m) = Err (number, m)
goes_on_line number f (Ok after) = f after

unfoldable pub lines_done : ℕ → Instance → Bindings → List (List ℕ) → Result Progress (ℕ × Mistake)
lines_done number p env [] = Ok (at p env)
lines_done number p env (line ∷ lines) = goes_on_line number (λ after. lines_done (number + 1) after.given after.variables lines) (line_done p env line)

-- the lines of a script: what stands between two newlines. The last one may lack its newline, and is empty where it does not
abbrev pub lines_of : List ℕ → List (List ℕ)
lines_of bytes = slice_split (λ b. b == 10) bytes

-- what a script makes of a problem, without variables at first; lines are numbered from 1
unfoldable pub script_done : Instance → List ℕ → Result Progress (ℕ × Mistake)
script_done p bytes = lines_done 1 p [] (lines_of bytes)
