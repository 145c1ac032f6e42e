-- What lines add stands after the constraints that were there.
use Rattle.base.proofs.Public.{◌≡◌, ◌∙◌, ℕ, ◌+◌, ◌++◌, Bool, true, false, nat_lt, List, [], ◌∷◌, length, Option, Some, None, Result, Ok, Err, refl, sym, ap, append_assoc, append-nil, if◌then◌else◌}
use Rattle.cluster.specs.declared.ids.Element.{Element}
use Rattle.catalogue.specs.Instance.{Instance, inventory_of, rule_fault}
use Rattle.catalogue.specs.declared.constraint.Constraint.{Constraint}
use Rattle.catalogue.specs.declared.constraint.RuleFault.{RuleFault}
use Rattle.rule_script.specs.Bindings.{bind, Bindings}
use Rattle.rule_script.specs.Calls.{and_then, constraint_of}
use Rattle.rule_script.specs.Grammar.{statement}
use Rattle.rule_script.specs.Laws.{AddsTo, ScriptsAdd}
use Rattle.rule_script.specs.Script.{at, called, called_for_each, done, goes_on_line, line_done, lines_done, lines_of, max_line_bytes, Progress, said, script_done, unless_faulty, with_rule}
use Rattle.rule_script.specs.Tokens.{tokens_of}
use Rattle.rule_script.specs.Values.{value_of, Worth}
use Rattle.rule_script.specs.declared.faults.Mistake.{Mistake}
use Rattle.rule_script.specs.declared.faults.Mistake.TheVariants.{TooLong}
use Rattle.rule_script.specs.declared.statement.Call.{Call}
use Rattle.rule_script.specs.declared.statement.Statement.{Statement}
use Rattle.rule_script.specs.declared.statement.Statement.TheVariants.{Nothing, Let, Each, Once}

adds_none : (p : Instance) → AddsTo p p
adds_none p = record { more = []; whole = ap (λ (cs : List Constraint). record p { constraints = cs }) (sym (append-nil p.constraints)) }

adds_both : (p q r : Instance) → AddsTo p q → AddsTo q r → AddsTo p r
adds_both p q r first second =
    let both : r ≡ record p { constraints = (p.constraints ++ first.more) ++ second.more } = second.whole ∙ ap (λ (x : Instance). record x { constraints = x.constraints ++ second.more }) first.whole in
    record { more = first.more ++ second.more; whole = both ∙ ap (λ (cs : List Constraint). record p { constraints = cs }) (append_assoc p.constraints first.more second.more) }

-- of a result, where there is one
abbrev Adds : Instance → Result Instance Mistake → Type 0
Adds p (Ok q) = AddsTo p q
Adds p (Err m) = Unit {0}

abbrev AddsIn : {E : Type 0} → Instance → Result Progress E → Type 0
AddsIn p (Ok after) = AddsTo p after.given
AddsIn p (Err m) = Unit {0}

rule_adds : (p : Instance) (c : Constraint) (o : Option RuleFault) → Adds p (unless_faulty o (with_rule p c))
rule_adds p c None = record { more = c ∷ []; whole = refl }
rule_adds p c (Some f) = tt

meant_adds : (p : Instance) (r : Result Constraint Mistake) → Adds p (and_then r (λ c. unless_faulty (rule_fault p c) (with_rule p c)))
meant_adds p (Ok c) = rule_adds p c (rule_fault p c)
meant_adds p (Err m) = tt

call_adds : (p : Instance) (env : Bindings) (call : Call) → Adds p (called p env call)
unfolding called
call_adds p env call = meant_adds p (constraint_of (inventory_of p) env call)

then_adds : (p : Instance) (r : Result Instance Mistake) (f : Instance → Result Instance Mistake) → Adds p r → ((q : Instance) → Adds q (f q)) → Adds p (and_then r f)
then_adds p (Err m) f first later = tt
then_adds p (Ok q) f first later = by (f q) (later q)
  where
    by : (s : Result Instance Mistake) → Adds q s → Adds p s
    by (Ok x) second = adds_both p q x first second
    by (Err m) second = tt

calls_add : (p : Instance) (env : Bindings) (x : List ℕ) (call : Call) (es : List Element) → Adds p (called_for_each p env x call es)
unfolding called_for_each
calls_add p env x call [] = adds_none p
calls_add p env x call (e ∷ es) = then_adds p (called p (bind env x (e ∷ [])) call) (λ q. called_for_each q env x call es) (call_adds p (bind env x (e ∷ [])) call) (λ q. calls_add q env x call es)

in_progress : (p : Instance) (env : Bindings) (r : Result Instance Mistake) → Adds p r → AddsIn p (and_then r (λ q. Ok (at q env)))
in_progress p env (Ok q) adds = adds
in_progress p env (Err m) adds = tt

let_adds : (p : Instance) (env : Bindings) (x : List ℕ) (w : Worth) → AddsIn p (and_then w (λ v. Ok (at p (bind env x v))))
let_adds p env x (Ok v) = adds_none p
let_adds p env x (Err m) = tt

each_adds : (p : Instance) (env : Bindings) (x : List ℕ) (call : Call) (w : Worth) → AddsIn p (and_then w (λ es. and_then (called_for_each p env x call es) (λ q. Ok (at q env))))
each_adds p env x call (Ok es) = in_progress p env (called_for_each p env x call es) (calls_add p env x call es)
each_adds p env x call (Err m) = tt

statement_adds : (p : Instance) (env : Bindings) (s : Statement) → AddsIn p (done p env s)
unfolding done
statement_adds p env Nothing = adds_none p
statement_adds p env (Let x s) = let_adds p env x (value_of (inventory_of p) env s)
statement_adds p env (Once call) = in_progress p env (called p env call) (call_adds p env call)
statement_adds p env (Each x s call) = each_adds p env x call (value_of (inventory_of p) env s)

line_adds : (p : Instance) (env : Bindings) (line : List ℕ) → AddsIn p (line_done p env line)
unfolding line_done
line_adds p env line = by (nat_lt max_line_bytes (length line)) (statement (tokens_of line))
  where
    by : (b : Bool) (o : Option Statement) → AddsIn p (if b then Err TooLong else and_then (said o) (done p env))
    by true o = tt
    by false None = tt
    by false (Some s) = statement_adds p env s

lines_add : (number : ℕ) (p : Instance) (env : Bindings) (lines : List (List ℕ)) → AddsIn p (lines_done number p env lines)
unfolding lines_done
lines_add number p env [] = adds_none p
lines_add number p env (line ∷ lines) = by (line_done p env line) (line_adds p env line) (λ after. lines_add (number + 1) after.given after.variables lines)
  where
    rest : (q : Instance) → AddsTo p q → (r : Result Progress (ℕ × Mistake)) → AddsIn q r → AddsIn p r
    rest q first (Ok x) second = adds_both p q x.given first second
    rest q first (Err m) second = tt

    by : (r : Result Progress Mistake) → AddsIn p r → ((after : Progress) → AddsIn after.given (lines_done (number + 1) after.given after.variables lines)) → AddsIn p (goes_on_line number (λ after. lines_done (number + 1) after.given after.variables lines) r)
    by (Err m) first later = tt
    by (Ok after) first later = rest after.given first (lines_done (number + 1) after.given after.variables lines) (later after)

pub scripts_add : ScriptsAdd
unfolding script_done
scripts_add p bytes after is =
    let adds = lines_add 1 p [] (lines_of bytes) in
    rw is at adds
