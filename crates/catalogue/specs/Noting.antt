use Rattle.std.specs.Prelude.{◌≡◌, ℕ, ◌<◌, length}
use Rattle.cluster.specs.Prelude.{Inventory, max_resources}
use Rattle.catalogue.specs.declared.constraint.Constraint.{Constraint}
use Rattle.catalogue.specs.declared.tables.Tables.{Tables}
use Rattle.catalogue.specs.Values.{preserved_with, limit_with, written_of, machine_wish_with, node_wish_with}
use Rattle.catalogue.specs.Cells.{HasRows, cell, limit_cell, wish_cell}

-- each table has no row yet, or one for each element
pub record HaveRows (k : Inventory) (t : Tables) : Type 0 where
  pub preserved : HasRows (length k.machines) t.preserved.items
  pub limits : HasRows (length k.nodes) t.limits.items
  pub machine_wishes : HasRows (length k.machines) t.machine_wishes.items
  pub node_wishes : HasRows (length k.nodes) t.node_wishes.items

-- the new tables say of each element what the old ones and one more constraint say
pub record Notes (k : Inventory) (old new : Tables) (c : Constraint) : Type 0 where
  pub preserved : (v r : ℕ) → v < length k.machines → r < max_resources → cell new.preserved.items v r ≡ preserved_with v r (cell old.preserved.items v r) c
  pub limits : (n r : ℕ) → n < length k.nodes → r < max_resources → limit_cell new.limits.items n r ≡ limit_with n r (written_of k.nodes n r) (limit_cell old.limits.items n r) c
  pub machine_wishes : (v : ℕ) → v < length k.machines → wish_cell new.machine_wishes.items v ≡ machine_wish_with v (wish_cell old.machine_wishes.items v) c
  pub node_wishes : (n : ℕ) → n < length k.nodes → wish_cell new.node_wishes.items n ≡ node_wish_with n (wish_cell old.node_wishes.items n) c

-- the new tables have the rows of the old ones
pub record SameRows (old new : Tables) : Type 0 where
  pub preserved : new.preserved.items ≡ old.preserved.items
  pub limits : new.limits.items ≡ old.limits.items
  pub machine_wishes : new.machine_wishes.items ≡ old.machine_wishes.items
  pub node_wishes : new.node_wishes.items ≡ old.node_wishes.items
