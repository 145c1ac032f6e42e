-- Helping only: a part in the whole.
use Rattle.std.specs.Prelude.{◌≡◌, ℕ, ◌<◌, ◌≤◌, Bool, true, length, Some, slice_get, IsTrue}
use Rattle.cluster.specs.declared.kinds.Kind.{Kind}
use Rattle.catalogue.specs.Prelude.{capacity_of, demand_of, Instance, is_online, max_nodes, use_of, wanted_of}
use Rattle.catalogue.specs.declared.constraint.Constraint.{Constraint}
use Rattle.slices.specs.Actions.{duration_of}
use Rattle.slices.specs.Elements.{machine_count, node, node_count, state_of, vm}
use Rattle.slices.specs.Forms.{Form, form_of}
use Rattle.parts.specs.Cuts.{cut_constraint, renumbered_state}
use Rattle.parts.specs.Numbers.{old_number, passing}

-- the number that machine k of the part, and node m, have in the whole
abbrev pub vm_at : Instance → (ℕ → Bool) → ℕ → ℕ
vm_at p mine k = old_number mine (machine_count p) k

abbrev pub node_at : Instance → (ℕ → Bool) → ℕ → ℕ
node_at p ours m = old_number ours (node_count p) m

-- a constraint of the whole that is one of the part
pub record IsFrom (p : Instance) (mine ours : ℕ → Bool) (keep : Form → Bool) (y : Constraint) : Type 0 where
  pub place : ℕ
  pub x : Constraint
  pub at : slice_get p.constraints place ≡ Some x
  pub kept : keep (form_of x) ≡ true
  pub cut : cut_constraint mine ours (node_count p) x ≡ y

-- q has the machines of p that are mine, the nodes that are ours and the constraints whose form is kept, and says of them what p does
pub record Embeds (p q : Instance) (mine ours : ℕ → Bool) (keep : Form → Bool) : Type 0 where
  pub horizon : q.horizon ≡ p.horizon
  pub few : node_count p ≤ max_nodes
  pub resources : q.resources ≡ p.resources
  pub listed : (n : ℕ) → IsTrue (ours n) → n < node_count p
  pub machines : machine_count q ≡ length (passing mine (machine_count p))
  pub nodes : node_count q ≡ length (passing ours (node_count p))
  pub state : (k : ℕ) → k < machine_count q → state_of p (vm_at p mine k) ≡ renumbered_state (node_at p ours) (state_of q k)
  pub used : (k r : ℕ) → k < machine_count q → use_of p.machines (vm_at p mine k) r ≡ use_of q.machines k r
  pub demand : (k r : ℕ) → k < machine_count q → demand_of p (vm_at p mine k) r ≡ demand_of q k r
  pub wish : (k : ℕ) → k < machine_count q → wanted_of p (vm (vm_at p mine k)) ≡ wanted_of q (vm k)
  pub duration : (k : ℕ) (kind : Kind) → k < machine_count q → duration_of p (vm (vm_at p mine k)) kind ≡ duration_of q (vm k) kind
  pub online : (m : ℕ) → m < node_count q → is_online p.nodes (node_at p ours m) ≡ is_online q.nodes m
  pub capacity : (m r : ℕ) → m < node_count q → capacity_of p (node_at p ours m) r ≡ capacity_of q m r
  pub node_wish : (m : ℕ) → m < node_count q → wanted_of p (node (node_at p ours m)) ≡ wanted_of q (node m)
  pub node_duration : (m : ℕ) (kind : Kind) → m < node_count q → duration_of p (node (node_at p ours m)) kind ≡ duration_of q (node m) kind
  pub has : (c : ℕ) (x : Constraint) → slice_get p.constraints c ≡ Some x → keep (form_of x) ≡ true → (d : ℕ) × (slice_get q.constraints d ≡ Some (cut_constraint mine ours (node_count p) x))
  pub only : (d : ℕ) (y : Constraint) → slice_get q.constraints d ≡ Some y → IsFrom p mine ours keep y
