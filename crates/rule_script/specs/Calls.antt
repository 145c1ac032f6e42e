-- The constraint that a call means. Its arguments are valued from the left, each with its sort before the next.
use Rattle.std.specs.Prelude.{ℕ, List, [], ◌∷◌, Option, Some, None, Result, Ok, Err}
use Rattle.cluster.specs.Prelude.{Inventory, resource_named}
use Rattle.cluster.specs.declared.sets.NodeSet.{NodeSet}
use Rattle.cluster.specs.declared.ids.VmId.{VmId}
use Rattle.catalogue.specs.declared.constraint.Constraint.{Constraint}
use Rattle.catalogue.specs.declared.constraint.Constraint.TheVariants as rule
use Rattle.rule_script.specs.Bindings.{Bindings}
use Rattle.rule_script.specs.Elements.{machine_alone, machines_of, nodes_of}
use Rattle.rule_script.specs.Sets.{Set}
use Rattle.rule_script.specs.Values.{there, value_of}
use Rattle.rule_script.specs.declared.faults.Mistake.{Mistake}
use Rattle.rule_script.specs.declared.faults.Mistake.TheVariants.{WrongSort}
use Rattle.rule_script.specs.declared.statement.Call.{Call}
use Rattle.rule_script.specs.declared.statement.Call.TheVariants.{Spread, Ban, Fence, Gather, Lonely, Among, Split, Root, Precedence, Serialize, Preserve, ResourceCapacity, RunningCapacity, MaxOnline, Overbook, Online, Offline, Running, Sleeping, Ready, Killed}

-- the first mistake decides
abbrev pub and_then : {A B : Type 0} → Result A Mistake → (A → Result B Mistake) → Result B Mistake
and_then (Err m) f = Err m
and_then (Ok x) f = f x

infixl 10 ◌>>=◌
abbrev pub ◌>>=◌ : {A B : Type 0} → Result A Mistake → (A → Result B Mistake) → Result B Mistake
m >>= f = and_then m f

-- ---- sorts

-- of the sort that is wanted, or `WrongSort`
abbrev pub of_sort : {A : Type 0} → Option A → Result A Mistake
of_sort None = Err WrongSort
of_sort (Some x) = Ok x

-- machines alone
unfoldable pub machines_in : Inventory → Bindings → Set → Result (List VmId) Mistake
machines_in k env s = value_of k env s >>= λ es. of_sort (machines_of es)

-- nodes alone
unfoldable pub nodes_in : Inventory → Bindings → Set → Result NodeSet Mistake
nodes_in k env s = value_of k env s >>= λ es. of_sort (nodes_of es)

-- exactly one machine
unfoldable pub machine_in : Inventory → Bindings → Set → Result VmId Mistake
machine_in k env s = value_of k env s >>= λ es. of_sort (machine_alone es)

-- each set of a list, in its order
unfoldable pub each_in : {A : Type 0} → (Set → Result A Mistake) → List Set → Result (List A) Mistake
each_in f [] = Ok []
each_in f (s ∷ ss) = do
  x ← f s
  xs ← each_in f ss
  Ok (x ∷ xs)

abbrev pub groups_in : Inventory → Bindings → List Set → Result (List NodeSet) Mistake
groups_in k env ss = each_in (nodes_in k env) ss

abbrev pub parts_in : Inventory → Bindings → List Set → Result (List (List VmId)) Mistake
parts_in k env ss = each_in (machines_in k env) ss

abbrev pub resource_in : Inventory → List ℕ → Result ℕ Mistake
resource_in k name = there (resource_named k name)

-- ---- calls

unfoldable pub constraint_of : Inventory → Bindings → Call → Result Constraint Mistake
constraint_of k env (Spread s b) = machines_in k env s >>= λ vs. Ok (rule.Spread vs b)
constraint_of k env (Gather s b) = machines_in k env s >>= λ vs. Ok (rule.Gather vs b)
constraint_of k env (Lonely s b) = machines_in k env s >>= λ vs. Ok (rule.Lonely vs b)
constraint_of k env (Ban s t b) = do
  vs ← machines_in k env s
  ns ← nodes_in k env t
  Ok (rule.Ban vs ns b)
constraint_of k env (Fence s t b) = do
  vs ← machines_in k env s
  ns ← nodes_in k env t
  Ok (rule.Fence vs ns b)
constraint_of k env (Among s ts b) = do
  vs ← machines_in k env s
  groups ← groups_in k env ts
  Ok (rule.Among vs groups b)
constraint_of k env (Split ss b) = parts_in k env ss >>= λ parts. Ok (rule.Split parts b)
constraint_of k env (Root s) = machines_in k env s >>= λ vs. Ok (rule.Root vs)
constraint_of k env (Precedence s t) = do
  v ← machine_in k env s
  w ← machine_in k env t
  Ok (rule.Precedence v w)
constraint_of k env (Serialize s) = machines_in k env s >>= λ vs. Ok (rule.Serialize vs)
constraint_of k env (Preserve s x a) = do
  vs ← machines_in k env s
  r ← resource_in k x
  Ok (rule.Preserve vs r a)
constraint_of k env (ResourceCapacity s x a b) = do
  ns ← nodes_in k env s
  r ← resource_in k x
  Ok (rule.ResourceCapacity ns r a b)
constraint_of k env (RunningCapacity s a b) = nodes_in k env s >>= λ ns. Ok (rule.RunningCapacity ns a b)
constraint_of k env (MaxOnline s a b) = nodes_in k env s >>= λ ns. Ok (rule.MaxOnline ns a b)
constraint_of k env (Overbook s x num den) = do
  ns ← nodes_in k env s
  r ← resource_in k x
  Ok (rule.Overbook ns r num den)
constraint_of k env (Online s) = nodes_in k env s >>= λ ns. Ok (rule.Online ns)
constraint_of k env (Offline s) = nodes_in k env s >>= λ ns. Ok (rule.Offline ns)
constraint_of k env (Running s) = machines_in k env s >>= λ vs. Ok (rule.Running vs)
constraint_of k env (Sleeping s) = machines_in k env s >>= λ vs. Ok (rule.Sleeping vs)
constraint_of k env (Ready s) = machines_in k env s >>= λ vs. Ok (rule.Ready vs)
constraint_of k env (Killed s) = machines_in k env s >>= λ vs. Ok (rule.Killed vs)
