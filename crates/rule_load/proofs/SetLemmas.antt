-- Sets of nodes.
use Rattle.rule_load.proofs.Prelude.{◌≡◌, ℕ, ◌<◌, ◌≤◌, false, refl, ◌∙◌, arith, Decides-eqb, lt-ltb, nat_tests, all_nodes, AreListed, has_node, Instance, node_count, NodeSet, one}

-- the set of one node of the instance is listed
pub one_listed : (p : Instance) (set : NodeSet) (n : ℕ) → n < node_count p → ((m : ℕ) → has_node set m ≡ one n m) → AreListed p set
one_listed p set n low each = record {
  within = λ m past. each m ∙ off m past;
  some = λ h. (n, each n ∙ (Decides-eqb n n).1 refl);
}
  where
    off : (m : ℕ) → node_count p ≤ m → one n m ≡ false
    off m past = grind (arith, nat_tests, past, low)

-- and so is that of all
pub all_listed : (p : Instance) (set : NodeSet) → ((m : ℕ) → has_node set m ≡ all_nodes p m) → AreListed p set
all_listed p set each = record {
  within = λ m past. each m ∙ off m past;
  some = λ h. (0, each 0 ∙ lt-ltb 0 (node_count p) h);
}
  where
    off : (m : ℕ) → node_count p ≤ m → all_nodes p m ≡ false
    off m past = grind (arith, nat_tests, past)
