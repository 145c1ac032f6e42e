-- Lists of names.
use Rattle.std.proofs.lemmas.List.{append-nil}
use Rattle.base.proofs.Public.{◌≡◌, ◌≢◌, ◌∙◌, ◌+◌, true, false, List, [], ◌∷◌, ◌++◌, length, Some, None, refl, sym, ap, append_assoc, arith, and_from, and_right, list_all-append, list_all}
use Rattle.cert_text.specs.Prelude.{is_name, name, names_of, Word}
use Rattle.cert_text.proofs.ReadingLemmas.{name_only, name_none}

-- one name more
pub name_more : (names words after all : List Word) (found : Word) → names ++ words ≡ all → name words ≡ Some (found, after) → (names ++ found ∷ []) ++ after ≡ all
name_more names words after all found before read = rw (append_assoc names (found ∷ []) after, ← (name_only words found after read).0) before

pub good_more : (names words after : List Word) (found : Word) → list_all is_name names ≡ true → name words ≡ Some (found, after) → list_all is_name (names ++ found ∷ []) ≡ true
good_more names words after found good read = list_all-append is_name names (found ∷ []) ∙ and_from _ _ good (and_from _ _ (name_only words found after read).1 refl)

pub fewer_words : (words after : List Word) (found : Word) → name words ≡ Some (found, after) → length after + 1 ≡ length words
fewer_words words after found read = rw (name_only words found after read).0 (omega arith)

-- a word that is no name
pub no_names : (names words all : List Word) → names ++ words ≡ all → words ≢ [] → name words ≡ None → names_of all ≡ None
no_names names words all before some read =
    let bad : list_all is_name all ≡ false = ap (list_all is_name) (sym before) ∙ list_all-append is_name names words ∙ and_right _ _ (name_none words some read) in
    rw bad refl

-- all of them
pub all_names : (names words all : List Word) → names ++ words ≡ all → words ≡ [] → list_all is_name names ≡ true → names_of all ≡ Some names
all_names names words all before over good =
    let is : names ≡ all = sym (append-nil names) ∙ ap (λ (l : List Word). names ++ l) (sym over) ∙ before in
    rw (← is, good) refl

pub ruleset names_rules = (name_more, good_more, fewer_words, no_names, all_names)
