-- Helping only: where all loads are clean, no reason of the kind refutes.
use Rattle.std.specs.Prelude.{◌≡◌, ℕ, ◌+◌, ◌<◌, ◌≤◌, ◌==◌, true, false, nat_lt, refl, length}
use Rattle.std.proofs.Common.{arith, subst, sym}
use Rattle.std.proofs.lemmas.Bool.{lt-ltb}
use Rattle.std.proofs.lemmas.Bool.Decides.{nat_tests}
use Rattle.rule_load.specs.Words.{all_nodes, AllClean, Instance, IsElement, IsEnd, IsFree, IsOverload, IsOverloaded, IsQuietKind, node_count, Nodes, one, Sets, setting, Snapshot, sure, Choice, Element, ReasonKind, Load}
use Rattle.rule_load.specs.Watched.{is_load, nodes_at, watch_at}

pub one_at : (p : Instance) (n : ℕ) → n < node_count p → nodes_at p n ≡ one n
one_at p n h = let is : nat_lt n (node_count p) ≡ true = lt-ltb n (node_count p) h in rw is refl

pub all_at : (p : Instance) (i : ℕ) → node_count p ≤ i → nodes_at p i ≡ all_nodes p
all_at p i h = let is : nat_lt i (node_count p) ≡ false = grind (arith, nat_tests, h) in rw is refl

-- a set that is the same fits as well
same-fits : (p : Instance) (b : Snapshot) (set nodes : Nodes) → set ≡ nodes → ¬ IsOverloaded p set b → (r : ℕ) → r < length p.resources → ¬ IsOverload p b r nodes
same-fits p b set nodes is free r low over = free (r, low, subst (λ nodes. IsOverload p b r nodes) (sym is) over)

free : (p : Instance) (s : Sets) (kind : ReasonKind) → is_load kind ≡ true → AllClean (watch_at p) p s (node_count p + 1) →
    (e : Element) (c : Choice) → IsElement p e → IsEnd (s e) c → (t : ℕ) → t ≤ p.horizon → IsFree p (sure p (setting e c s) t) (t == p.horizon) kind
free p s Load on clean e c x end t l = λ r low. record {
  each = λ n h. same-fits p (sure p (setting e c s) t) (nodes_at p n) (one n) (one_at p n h) ((clean.clean n (omega arith) t l).ends e c x end) r low;
  all = same-fits p (sure p (setting e c s) t) (nodes_at p (node_count p)) (all_nodes p) (all_at p (node_count p) (omega arith)) ((clean.clean (node_count p) (omega arith) t l).ends e c x end) r low;
}
free p s kind on clean e c x end t l = cc

pub load_is_quiet : (p : Instance) (s : Sets) (kind : ReasonKind) → is_load kind ≡ true → AllClean (watch_at p) p s (node_count p + 1) → IsQuietKind p s kind
load_is_quiet p s kind on clean = record { quiet = λ e c x end t l. free p s kind on clean e c x end t l }
