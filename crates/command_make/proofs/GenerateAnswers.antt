-- What `generate` answers and leaves.
use Rattle.std.proofs.Common.{◌≡◌, ◌≤◌, ℕ, List, ◌++◌, length, Result, Ok, Err, OnOk, lit≤, refl, ap, subst}
use Rattle.std.proofs.Math.Nat.{le_trans}
use Rattle.instance_make.proofs.Public.{generated_text_is_short}
use Rattle.command_make.specs.Prelude.{Files, generated, generated_line, HasGenerated, Instance, instance_of, instance_text, IsGenerated, max_text_bytes, outside, Status}

-- the answer where the text was written
pub answered : (seed : ℕ) (instance : List ℕ) (before after : Files) (printed line : List ℕ) → HasGenerated seed instance before after → line ≡ generated_line seed
    → IsGenerated seed instance (outside before printed) (outside after (printed ++ line)) Status.Good
answered seed instance before after printed line is text_is = record {
  written = is;
  printed = ap (λ l. printed ++ l) text_is;
  status = refl;
}

-- the text is short, so it reads back
pub reads_back : {T E : Type 0} (seed : ℕ) (p : Instance) (result : Result T E) → p ≡ generated seed → OnOk result (length (instance_text p) ≤ max_text_bytes → instance_of (instance_text p) ≡ Ok p) →
    OnOk result (instance_of (instance_text (generated seed)) ≡ Ok (generated seed))
reads_back seed p (Ok x) is reads = subst (λ q. length (instance_text q) ≤ max_text_bytes → instance_of (instance_text q) ≡ Ok q) is reads (le_trans (generated_text_is_short seed) (lit≤ tt))
reads_back seed p (Err e) is reads = tt
