-- What a read adds to the bytes that are held.
use Rattle.base.proofs.Public.{◌≡◌, ◌∙◌, ℕ, ◌+◌, ◌-◌, ◌≤◌, List, ◌++◌, length, take, drop, sym, ap, arith, drop-drop, take-append-le, StartsWith, grown, length-drop}
use Rattle.plan_io.specs.Files.{ReadsAt}

-- what was read after the bytes that were held goes on from them
pub read_more : (file held new buf rest : List ℕ) (place at n : ℕ) → at ≡ place + length held → StartsWith (drop place file) held → ReadsAt file at n buf → n ≤ length buf → new ≡ held ++ take n (buf ++ rest) →
    StartsWith (drop place file) new
read_more file held new buf rest place at n at_is h reads fits new_is =
    let place_is : drop at file ≡ drop (length held) (drop place file) = ap (λ (k : ℕ). drop k file) at_is ∙ sym (drop-drop (length held) place file) in
    let front : take n (buf ++ rest) ≡ take n buf = take-append-le n buf rest fits in
    let piece : take n (buf ++ rest) ≡ take n (drop (length held) (drop place file)) = front ∙ reads.prefix ∙ ap (take n) place_is in
    let room : n ≤ length (drop place file) - length held = omega (arith, reads.there, length-drop place file) in
    rw new_is (grown (drop place file) held (take n (buf ++ rest)) n h piece room)
