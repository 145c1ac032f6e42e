-- The text of a problem that was written into a file.
use Rattle.std.proofs.Common.{◌≡◌, ◌≤◌, List, length, ℕ, Some, Result, Ok, Err, OnOk, subst}
use Rattle.command_make.specs.Prelude.{Files, HasText, Instance, instance_of, instance_text, max_text_bytes, OthersStay}

-- it was written
pub has_text : (name text : List ℕ) (before after : Files) → after name ≡ Some text → OthersStay name before after → HasText name text before after
has_text name text before after whole others = record { whole = whole; others = others }

-- its text reads back, where nothing was refused
pub reads_back : {T E : Type 0} (p : Instance) (text : List ℕ) (result : Result T E) → text ≡ instance_text p → (length text ≤ max_text_bytes → instance_of text ≡ Ok p) →
    OnOk result (length (instance_text p) ≤ max_text_bytes → instance_of (instance_text p) ≡ Ok p)
reads_back p text (Ok x) is reads = subst (λ t. length t ≤ max_text_bytes → instance_of t ≡ Ok p) is reads
reads_back p text (Err e) is reads = tt
