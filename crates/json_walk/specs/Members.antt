-- Members of an object by a reader's own tests. A reader counts the faults of this crate among its own: `field` makes one of
-- them of each.
use Rattle.std.specs.Prelude.{ℕ, Bool, List, [], ◌∷◌, Result, Ok, Err, slice_get}
use Rattle.std.specs.Option.{ok_or}
use Rattle.serde_json.specs.Data.{Data}
use Rattle.serde_json.specs.Find.{get}
use Rattle.json_walk.specs.declared.fault.FaultKind.TheVariants.{Unknown}
use Rattle.json_walk.specs.declared.fault.Fault.{Fault}
use Rattle.json_walk.specs.Path.{key_path}
use Rattle.json_walk.specs.Walk.{◌>>=◌, fault_at, optional, field_of, number_of, flag_of, only_of, number_field_of, word_field_of}

-- a test of one value at its path
abbrev pub Test : Type 0 → Type 0 → Type 0
Test E A = Data → List ℕ → Result A E

-- what a test of this crate gives, as a step of the reader's walk
abbrev pub as_walk : {A E : Type 0} → (Fault → E) → Result A Fault → Result A E
as_walk field (Ok x) = Ok x
as_walk field (Err f) = Err (field f)

-- an object without keys beside these
abbrev pub only_keys : {E : Type 0} → (Fault → E) → List (List ℕ) → Test E (Unit {0})
only_keys field keys d path = as_walk field (only_of d path keys)

-- a member that must be there, by its test
abbrev pub field_by : {A E : Type 0} → (Fault → E) → Test E A → Data → List ℕ → List ℕ → Result A E
field_by field test d path key = as_walk field (field_of d path key) >>= λ v. test v (key_path path key)

-- a member that may be absent, by its test, and what then stands for it
abbrev pub optional_by : {A E : Type 0} → A → Test E A → Data → List ℕ → List ℕ → Result A E
optional_by absent test d path key = optional absent (λ v. test v (key_path path key)) (get key d)

-- a whole number that must be there, from the least to the most
abbrev pub number_field : {E : Type 0} → (Fault → E) → ℕ → ℕ → Data → List ℕ → List ℕ → Result ℕ E
number_field field least most d path key = as_walk field (number_field_of d path key least most)

-- a whole number up to the most; 0 where it is absent
abbrev pub optional_number : {E : Type 0} → (Fault → E) → ℕ → Data → List ℕ → List ℕ → Result ℕ E
optional_number field most d path key = as_walk field (optional 0 (λ v. number_of v (key_path path key) 0 most) (get key d))

-- a truth value that may be absent
abbrev pub optional_flag : {E : Type 0} → (Fault → E) → Bool → Data → List ℕ → List ℕ → Result Bool E
optional_flag field absent d path key = as_walk field (optional absent (λ v. flag_of v (key_path path key)) (get key d))

-- a member that must be one of the words: what stands at the word's place in the other list
unfoldable pub word_field : {A E : Type 0} → (Fault → E) → List (List ℕ) → List A → Data → List ℕ → List ℕ → Result A E
word_field field words values d path key = do
  place ← as_walk field (word_field_of d path key words)
  ok_or (slice_get values place) (field (fault_at (key_path path key) Unknown))

-- ---- lists

-- what a test gives of each item in order, or the first fault
unfoldable pub map_walk : {X A E : Type 0} → (X → Result A E) → List X → Result (List A) E
map_walk test [] = Ok []
map_walk test (x ∷ xs) = do
  y ← test x
  ys ← map_walk test xs
  Ok (y ∷ ys)
