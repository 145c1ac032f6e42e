-- Words of constraints are read back as what they were printed of.
use Rattle.std.proofs.Common.{map}
use Rattle.base.proofs.Public.{◌≡◌, Some, refl, position, bytes_eq}
use Rattle.catalogue.specs.Prelude.{Constraint, constraint_number, constraint_word, CONSTRAINT_WORDS, constraint_words}
use Rattle.catalogue.specs.declared.constraint.Constraint.TheVariants.{Spread, Ban, Fence, Gather, Lonely, Among, Split, Root, Precedence, Serialize, Preserve, ResourceCapacity, RunningCapacity, MaxOnline, Overbook, Online, Offline, Running, Sleeping, Ready, Killed}

-- the table of the code
pub constraint_words-CONSTRAINT_WORDS : constraint_words ≡ map (λ w. w.now) CONSTRAINT_WORDS
unfolding constraint_words
constraint_words-CONSTRAINT_WORDS = refl

-- the word of a constraint stands at its number
pub place-constraint_word : (c : Constraint) → position (bytes_eq (constraint_word c)) constraint_words ≡ Some (constraint_number c)
unfolding constraint_word constraint_words
place-constraint_word (Spread a b) = refl
place-constraint_word (Ban a b c) = refl
place-constraint_word (Fence a b c) = refl
place-constraint_word (Gather a b) = refl
place-constraint_word (Lonely a b) = refl
place-constraint_word (Among a b c) = refl
place-constraint_word (Split a b) = refl
place-constraint_word (Root a) = refl
place-constraint_word (Precedence a b) = refl
place-constraint_word (Serialize a) = refl
place-constraint_word (Preserve a b c) = refl
place-constraint_word (ResourceCapacity a b c d) = refl
place-constraint_word (RunningCapacity a b c) = refl
place-constraint_word (MaxOnline a b c) = refl
place-constraint_word (Overbook a b c d) = refl
place-constraint_word (Online a) = refl
place-constraint_word (Offline a) = refl
place-constraint_word (Running a) = refl
place-constraint_word (Sleeping a) = refl
place-constraint_word (Ready a) = refl
place-constraint_word (Killed a) = refl
