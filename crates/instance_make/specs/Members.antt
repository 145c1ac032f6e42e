-- Objects whose keys are not the same for each value.
use Rattle.std.specs.Prelude.{ℕ, List, Option, Some, None}
use Rattle.std.specs.List.{fold}
use Rattle.serde_json.specs.Data.{Data, Members, no_members, put}

-- the members, with one more where it is there
abbrev pub put_if : List ℕ → Option Data → Members → Members
put_if key None ms = ms
put_if key (Some d) ms = put key d ms

-- a member for each item of the list that has a value, in ascending order of the keys' bytes
unfoldable pub members_by : {X : Type 0} → (X → List ℕ) → (X → Option Data) → List X → Members
members_by key value xs = fold (λ ms x. put_if (key x) (value x) ms) no_members xs
