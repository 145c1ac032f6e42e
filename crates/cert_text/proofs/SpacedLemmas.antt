-- Words after blanks, and words with a blank between each two.
use Rattle.std.proofs.lemmas.List.{append-nil}
use Rattle.base.proofs.Public.{◌≡◌, ℕ, List, [], ◌∷◌, ◌++◌, sym, ap, append_assoc, flat_map-append}
use Rattle.cert_text.specs.Prelude.{all_spaced, joined, spaced, Word}

-- the first word, and each other one after a blank
pub joined-spaced : (w : Word) (ws : List Word) → joined (w ∷ ws) ≡ w ++ all_spaced ws
joined-spaced w [] = sym (append-nil w)
joined-spaced w (v ∷ ws) = ap (λ (l : List ℕ). w ++ (32 ∷ l)) (joined-spaced v ws)

-- a word that was added to a text, and then others
pub words_pushed : (old w : List ℕ) (ws : List Word) (one new : List ℕ) → one ≡ old ++ w → new ≡ one ++ all_spaced ws → new ≡ old ++ joined (w ∷ ws)
words_pushed old w ws one new first rest = rw (rest, first, joined-spaced w ws) (append_assoc old w (all_spaced ws))

-- the words of a cut
pub cut_pushed : (old w e : List ℕ) (ps rs : List Word) (one two three new : List ℕ) → one ≡ old ++ w → two ≡ one ++ spaced e → three ≡ two ++ all_spaced ps → new ≡ three ++ all_spaced rs →
    new ≡ old ++ joined (w ∷ e ∷ (ps ++ rs))
cut_pushed old w e ps rs one two three new first second third last =
    let tail : all_spaced (ps ++ rs) ≡ all_spaced ps ++ all_spaced rs = flat_map-append spaced ps rs in
    rw (last, third, second, first, joined-spaced w (e ∷ (ps ++ rs)), tail) (simp append_assoc)

pub ruleset pushed_rules = (words_pushed, cut_pushed)
