-- The ten kinds of actions: their order and their words.
use Rattle.std.specs.Prelude.{ℕ, List, [], ◌∷◌, Option, codes, option_and_then, slice_get, slice_index_or}
use Rattle.std.specs.List.{position}
use Rattle.std.specs.Str.{bytes_eq}
use Rattle.cluster.specs.declared.kinds.Kind.{Kind}
use Rattle.cluster.specs.declared.kinds.Kind.TheVariants.{Forge, Boot, Shutdown, Suspend, Resume, Migrate, Allocate, Kill, NodeBoot, NodeShutdown}

-- how many kinds there are, and how many of them, the first ones, are the machines'
abbrev pub kind_count : ℕ
kind_count = 10

abbrev pub machine_kind_count : ℕ
machine_kind_count = 8

-- the place of a kind in the order of the ten kinds
abbrev pub kind_number : Kind → ℕ
kind_number Forge = 0
kind_number Boot = 1
kind_number Shutdown = 2
kind_number Suspend = 3
kind_number Resume = 4
kind_number Migrate = 5
kind_number Allocate = 6
kind_number Kill = 7
kind_number NodeBoot = 8
kind_number NodeShutdown = 9

-- the kinds in their order
unfoldable pub kinds : List Kind
kinds = Forge ∷ Boot ∷ Shutdown ∷ Suspend ∷ Resume ∷ Migrate ∷ Allocate ∷ Kill ∷ NodeBoot ∷ NodeShutdown ∷ []

-- their words in the same order
unfoldable pub kind_words : List (List ℕ)
kind_words = codes "forge" ∷ codes "boot" ∷ codes "shutdown" ∷ codes "suspend" ∷ codes "resume" ∷ codes "migrate" ∷ codes "allocate" ∷ codes "kill" ∷ codes "node_boot" ∷ codes "node_shutdown" ∷ []

-- the word of a kind
unfoldable pub kind_word : Kind → List ℕ
kind_word kind = slice_index_or kind_words (kind_number kind) []

-- the kind of a word
unfoldable pub kind_of_word : List ℕ → Option Kind
kind_of_word word = option_and_then (λ place. slice_get kinds place) (position (bytes_eq word) kind_words)
