-- Words are read back as what they were printed of.
use Rattle.std.proofs.Common.{slice_get, slice_index_or, option_map}
use Rattle.base.proofs.Public.{◌≡◌, ℕ, ◌<◌, List, [], Some, ap, option_and_then, Option, None, refl, sym, arith, ◌∙◌, position, bytes_eq, slice_get-map, get_or_from_slice_get, position-Some, bytes_eq-Decides}
use Rattle.cluster.specs.Prelude.{Allocate, Boot, Forge, Gone, Init, Kill, Kind, kind_count, kind_number, kind_of_word, kind_word, kind_words, KINDS, kinds, Migrate, NodeBoot, NodeShutdown, Ready, Resume, Running, Shutdown, Sleeping, State, state_number, state_word, state_words, Suspend}

-- what stands at the place of a word is the word
pub word-at_place : (words : List (List ℕ)) (word : List ℕ) (i : ℕ) → position (bytes_eq word) words ≡ Some i → slice_index_or words i [] ≡ word
word-at_place words word i is = let at = position-Some (bytes_eq word) words i [] is in sym ((bytes_eq-Decides word _).0 at.1)

-- the list of the kinds is that of the code
pub kinds-KINDS : kinds ≡ KINDS
unfolding kinds
kinds-KINDS = refl

pub kind_number-lt : (kind : Kind) → kind_number kind < kind_count
kind_number-lt Forge = omega arith
kind_number-lt Boot = omega arith
kind_number-lt Shutdown = omega arith
kind_number-lt Suspend = omega arith
kind_number-lt Resume = omega arith
kind_number-lt Migrate = omega arith
kind_number-lt Allocate = omega arith
kind_number-lt Kill = omega arith
kind_number-lt NodeBoot = omega arith
kind_number-lt NodeShutdown = omega arith

-- a kind stands at its number
pub kinds-kind_number : (kind : Kind) → slice_get kinds (kind_number kind) ≡ Some kind
unfolding kinds
kinds-kind_number Forge = refl
kinds-kind_number Boot = refl
kinds-kind_number Shutdown = refl
kinds-kind_number Suspend = refl
kinds-kind_number Resume = refl
kinds-kind_number Migrate = refl
kinds-kind_number Allocate = refl
kinds-kind_number Kill = refl
kinds-kind_number NodeBoot = refl
kinds-kind_number NodeShutdown = refl

-- the word of a kind is read as the kind
pub kind_of_word-kind_word : (kind : Kind) → kind_of_word (kind_word kind) ≡ Some kind
unfolding kind_of_word kind_word kind_words kinds
kind_of_word-kind_word Forge = refl
kind_of_word-kind_word Boot = refl
kind_of_word-kind_word Shutdown = refl
kind_of_word-kind_word Suspend = refl
kind_of_word-kind_word Resume = refl
kind_of_word-kind_word Migrate = refl
kind_of_word-kind_word Allocate = refl
kind_of_word-kind_word Kill = refl
kind_of_word-kind_word NodeBoot = refl
kind_of_word-kind_word NodeShutdown = refl

-- and what a word is read as has the word
pub kind_word-kind_of_word : (word : List ℕ) (kind : Kind) → kind_of_word word ≡ Some kind → kind_word kind ≡ word
unfolding kind_of_word kind_word kind_words kinds
kind_word-kind_of_word word kind is = by (position (bytes_eq word) kind_words) refl is
  where
    by : (o : Option ℕ) → position (bytes_eq word) kind_words ≡ o → option_and_then (slice_get kinds) o ≡ Some kind → kind_word kind ≡ word
    by None _ none = absurd (cc)
    by (Some i) place found =
        let listed : slice_get kind_words i ≡ Some (kind_word kind) = slice_get-map kind_word kinds i ∙ ap (option_map kind_word) found in
        sym (get_or_from_slice_get kind_words i (kind_word kind) [] listed) ∙ word-at_place kind_words word i place

-- the word of a state stands at the state's number
pub place-state_word : (state : State) → position (bytes_eq (state_word state)) state_words ≡ Some (state_number state)
unfolding state_word state_words
place-state_word Init = refl
place-state_word Ready = refl
place-state_word (Running host) = refl
place-state_word (Sleeping host) = refl
place-state_word Gone = refl
