-- The same loads have the same text.
use Rattle.std.proofs.Math.Seq.{drop-cons}
use Rattle.base.proofs.Public.{◌≡◌, ℕ, zero, suc, ◌+◌, ◌<◌, List, ◌∷◌, Option, ◌++◌, drop, get_or, length, refl, sym, ap, ◌∙◌, append_assoc, arith, StartsWith, decimal, flat_map, range_with_len, longer_text}
use Rattle.replay.specs.Prelude.{at_line, Broken, Choices, element_name, events, Instance, IsPrefixOfReport, IsVerdict, Loads, loads_text, node, node_count, node_text, nodes_text, report_text, spaced, verdict_line}

same_over : {A : Type 0} (f g : ℕ → List A) (a n : ℕ) → ((k : ℕ) → k < a + n → f k ≡ g k) → flat_map f (range_with_len a n) ≡ flat_map g (range_with_len a n)
same_over f g a zero h = refl
same_over f g a (suc n) h =
    let rest : flat_map f (range_with_len (a + 1) n) ≡ flat_map g (range_with_len (a + 1) n) = same_over f g (a + 1) n (λ k l. h k (omega arith)) in
    λ i. h a (omega arith) i ++ rest i

same_node : (p : Instance) (f g : Loads) (n : ℕ) → ((r : ℕ) → r < length p.resources → f n r ≡ g n r) → node_text p f n ≡ node_text p g n
unfolding node_text
same_node p f g n h =
    let texts : loads_text p f n ≡ loads_text p g n = same_over _ _ 0 (length p.resources) (λ r l. ap (λ (x : ℕ). spaced (decimal x)) (h r (omega arith))) in
    ap (λ (l : List ℕ). spaced (element_name p (node n)) ++ l) texts

pub same_loads : (p : Instance) (f g : Loads) → ((n r : ℕ) → r < length p.resources → f n r ≡ g n r) → nodes_text p f ≡ nodes_text p g
same_loads p f g h = same_over _ _ 0 (node_count p) (λ n l. same_node p f g n (λ r k. h n r k))

-- what is written of a piece is a prefix of all, where the piece and the rest are left
pub piece_prefix : {X : Type 0} (f : X → List ℕ) (xs : List X) (i : ℕ) (d : X) (start now new piece : List ℕ) → now ++ flat_map f (drop i xs) ≡ start ++ flat_map f xs → i < length xs → piece ≡ f (get_or xs i d) → StartsWith (now ++ piece) new → StartsWith (start ++ flat_map f xs) new
piece_prefix f xs i d start now new piece all low is prefix =
    let here : drop i xs ≡ get_or xs i d ∷ drop (suc i) xs = drop-cons xs i d low in
    let split : start ++ flat_map f xs ≡ (now ++ piece) ++ flat_map f (drop (suc i) xs) = sym all ∙ rw (here, is) (sym (append_assoc now (f (get_or xs i d)) (flat_map f (drop (suc i) xs)))) in
    rw split (longer_text (now ++ piece) (flat_map f (drop (suc i) xs)) new prefix)

-- a prefix of the lines of the events is a prefix of the report
pub prefix_of_lines : (p : Instance) (plan : Choices) (answer : Option Broken) (before after : List ℕ) → IsVerdict p plan answer → StartsWith (before ++ flat_map (at_line p plan) (events p plan)) after → IsPrefixOfReport p plan before after
unfolding report_text
prefix_of_lines p plan answer before after verdict prefix =
    let lines = flat_map (at_line p plan) (events p plan) in
    record {
      answer = answer;
      verdict = verdict;
      prefix = rw (← append_assoc before lines (verdict_line p plan answer)) (longer_text (before ++ lines) (verdict_line p plan answer) after prefix);
    }
