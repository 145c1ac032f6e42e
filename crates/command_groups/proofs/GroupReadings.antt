-- What the reading of groups answers.
use Rattle.base.proofs.Public.{◌≡◌, ℕ, List, Ok, Err, refl, ap, codes}
use Rattle.json_walk.specs.Prelude.{Fails}
use Rattle.command_groups.specs.Prelude.{groups_fault_of, groups_line, groups_lined, groups_of, groups_reading_of, groups_text, GroupsFault, Instance, inventory_of, NodeSet, whole_of}

-- the groups that they are
pub the_groups : (p : Instance) (bytes : List ℕ) (groups : List NodeSet) → groups_of (inventory_of p) bytes ≡ Ok groups → groups_reading_of p (Ok bytes) ≡ Ok groups
the_groups p bytes groups h = ap groups_lined h

-- a fault that is not want of memory is the first one
pub first_fault : (p : Instance) (bytes : List ℕ) (f : GroupsFault) → ¬ (f ≡ GroupsFault.Memory) → Fails (groups_fault_of f) (groups_of (inventory_of p) bytes) → groups_reading_of p (Ok bytes) ≡ Err (groups_line (groups_text f))
first_fault p bytes GroupsFault.TooLong other h = ap groups_lined h
first_fault p bytes GroupsFault.NotJson other h = ap groups_lined h
first_fault p bytes (GroupsFault.Field x) other h = ap groups_lined h
first_fault p bytes (GroupsFault.NoSuch x) other h = ap groups_lined h
first_fault p bytes (GroupsFault.Twice x) other h = ap groups_lined h
first_fault p bytes (GroupsFault.Limit x) other h = ap groups_lined h
first_fault p bytes GroupsFault.Memory other h = absurd (other refl)

-- the line that the bytes are too many refuses them
pub long_groups : (p : Instance) (bytes line : List ℕ) → whole_of (codes "groups") bytes ≡ Err line → groups_reading_of p (whole_of (codes "groups") bytes) ≡ Err line
long_groups p bytes line h = ap (groups_reading_of p) h

-- the bytes are not too many
pub short_groups : (p : Instance) (bytes text : List ℕ) → whole_of (codes "groups") bytes ≡ Ok text → groups_reading_of p (whole_of (codes "groups") bytes) ≡ groups_reading_of p (Ok text)
short_groups p bytes text h = ap (groups_reading_of p) h
