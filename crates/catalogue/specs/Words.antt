-- The words of constraints: their order, and the table.
use Rattle.std.specs.Prelude.{ℕ, List, [], ◌∷◌, codes, slice_index_or}
use Rattle.catalogue.specs.declared.constraint.Constraint.{Constraint}
use Rattle.catalogue.specs.declared.constraint.Constraint.TheVariants.{Spread, Ban, Fence, Gather, Lonely, Among, Split, Root, Precedence, Serialize, Preserve, ResourceCapacity, RunningCapacity, MaxOnline, Overbook, Online, Offline, Running, Sleeping, Ready, Killed}

-- the place of a constraint's kind in the order of the 21 kinds
abbrev pub constraint_number : Constraint → ℕ
constraint_number (Spread _ _) = 0
constraint_number (Ban _ _ _) = 1
constraint_number (Fence _ _ _) = 2
constraint_number (Gather _ _) = 3
constraint_number (Lonely _ _) = 4
constraint_number (Among _ _ _) = 5
constraint_number (Split _ _) = 6
constraint_number (Root _) = 7
constraint_number (Precedence _ _) = 8
constraint_number (Serialize _) = 9
constraint_number (Preserve _ _ _) = 10
constraint_number (ResourceCapacity _ _ _ _) = 11
constraint_number (RunningCapacity _ _ _) = 12
constraint_number (MaxOnline _ _ _) = 13
constraint_number (Overbook _ _ _ _) = 14
constraint_number (Online _) = 15
constraint_number (Offline _) = 16
constraint_number (Running _) = 17
constraint_number (Sleeping _) = 18
constraint_number (Ready _) = 19
constraint_number (Killed _) = 20

-- the words in the same order
unfoldable pub constraint_words : List (List ℕ)
constraint_words =
    codes "spread" ∷
    codes "ban" ∷
    codes "fence" ∷
    codes "gather" ∷
    codes "lonely" ∷
    codes "among" ∷
    codes "split" ∷
    codes "root" ∷
    codes "precedence" ∷
    codes "serialize" ∷
    codes "preserve" ∷
    codes "resourceCapacity" ∷
    codes "runningCapacity" ∷
    codes "maxOnline" ∷
    codes "overbook" ∷
    codes "online" ∷
    codes "offline" ∷
    codes "running" ∷
    codes "sleeping" ∷
    codes "ready" ∷
    codes "killed" ∷ []

-- the word of a constraint
unfoldable pub constraint_word : Constraint → List ℕ
constraint_word c = slice_index_or constraint_words (constraint_number c) []
