-- Parts, lists of nodes, reasons, goals and lines are read from their texts, and from no others.
use Rattle.std.proofs.Common.{option_map, codes}
use Rattle.base.proofs.Public.{◌≡◌, ◌≢◌, ◌∙◌, Bool, true, false, List, [], ◌∷◌, ◌++◌, Option, Some, None, refl, ap, inl, inr, cases_Bool, bytes_eq-Decides, decimal, list_all, bytes_eq}
use Rattle.cert_text.specs.Prelude.{All as AllNodes, AreNodes, From as TheFrom, Idle as TheIdle, is_name, IsPart, Listed, listed_in, nodes, nodes_in, nodes_words, NodesText, part, part_kind, part_of, part_word, part_words, PartKind, PartText, place_word, Reading, Upto as TheUpto, Word, ◌>>=◌}
use Rattle.cert_text.specs.declared.text.PartText.TheVariants.{Idle, Upto, From}
use Rattle.cert_text.proofs.ReadingLemmas.{both, given, number_back, number_then, part_kind_back, part_kind_only, place_back, place_then}

-- ---- parts

part_of_only : (kind : PartKind) (words : List Word) (x : PartText) (rest : List Word) → part_of kind words ≡ Some (x, rest) → (part_word kind ∷ words ≡ part_words x ++ rest) × IsPart x
part_of_only TheIdle words x rest read = let is = given Idle x words rest read in rw (← is.0) (ap (λ (l : List Word). part_word TheIdle ∷ l) is.1, tt)
part_of_only TheUpto words x rest read =
    place_then _ words x rest read (λ at after_at at_is at_good then.
    number_then _ after_at x rest then (λ start after_start start_is start_good last.
    let is = given (Upto at start) x after_start rest last in
    rw (← is.0) (rw (at_is, start_is, is.1) refl, (at_good, start_good))))
part_of_only TheFrom words x rest read =
    place_then _ words x rest read (λ at after_at at_is at_good then.
    number_then _ after_at x rest then (λ start after_start start_is start_good last.
    let is = given (From at start) x after_start rest last in
    rw (← is.0) (rw (at_is, start_is, is.1) refl, (at_good, start_good))))

pub part_only : (words : List Word) (x : PartText) (rest : List Word) → part words ≡ Some (x, rest) → (words ≡ part_words x ++ rest) × IsPart x
unfolding part
part_only words x rest read =
    both part_kind _ words x rest read (λ kind between first second.
    let found = part_of_only kind between x rest second in
    (part_kind_only words kind between first ∙ found.0, found.1))

pub part_back : (x : PartText) (rest : List Word) → IsPart x → part (part_words x ++ rest) ≡ Some (x, rest)
unfolding part
part_back Idle rest is = rw (part_kind_back TheIdle rest) refl
part_back (Upto at start) rest is =
    rw (part_kind_back TheUpto (place_word at ∷ decimal start ∷ rest), place_back at (decimal start ∷ rest) is.0, number_back start rest is.1) refl
part_back (From at start) rest is =
    rw (part_kind_back TheFrom (place_word at ∷ decimal start ∷ rest), place_back at (decimal start ∷ rest) is.0, number_back start rest is.1) refl

-- ---- lists of nodes

listed_only : (words : List Word) (x : NodesText) (b : Bool) → list_all is_name words ≡ b → words ≢ [] → listed_in words ≡ Some x → (words ≡ nodes_words x) × AreNodes x
listed_only words x true is some read =
    let found : ◌≡◌ {A = Option NodesText} (Some (Listed words)) (Some x) = rw is at read in
    let same : Listed words ≡ x = cc in
    rw (← same) (refl, (some, is))
listed_only words x false is some read =
    let found : ◌≡◌ {A = Option NodesText} None (Some x) = rw is at read in
    absurd (cc)

single_only : (word : Word) (x : NodesText) (b : Bool) → bytes_eq word (codes "*") ≡ b → nodes_in (word ∷ []) ≡ Some x → (word ∷ [] ≡ nodes_words x) × AreNodes x
single_only word x true is read =
    let found : ◌≡◌ {A = Option NodesText} (Some AllNodes) (Some x) = rw is at read in
    let same : AllNodes ≡ x = cc in
    rw (← same) (ap (λ (w : Word). w ∷ []) ((bytes_eq-Decides word (codes "*")).0 is), tt)
single_only word x false is read = listed_only (word ∷ []) x (list_all is_name (word ∷ [])) refl (λ none. cc) (rw is at read)

nodes_in_only : (words : List Word) (x : NodesText) → nodes_in words ≡ Some x → (words ≡ nodes_words x) × AreNodes x
nodes_in_only [] x read = absurd (cc)
nodes_in_only (word ∷ []) x read = single_only word x (bytes_eq word (codes "*")) refl read
nodes_in_only (word ∷ other ∷ words) x read = listed_only (word ∷ other ∷ words) x (list_all is_name (word ∷ other ∷ words)) refl (λ none. cc) read

nodes_by : (words : List Word) (x : NodesText) (rest : List Word) (found : Option NodesText) → nodes_in words ≡ found → option_map {U = NodesText × List Word} (λ found. (found, [])) found ≡ Some (x, rest) →
    (words ≡ nodes_words x) × ([] ≡ rest) × AreNodes x
nodes_by words x rest None is read = absurd (cc)
nodes_by words x rest (Some y) is read =
    let pair : ◌≡◌ {A = NodesText × List Word} (y, []) (x, rest) = cc in
    let same : y ≡ x = ap (λ (p : NodesText × List Word). p.0) pair in
    let found = nodes_in_only words x (is ∙ ap (λ (n : NodesText). Some n) same) in
    (found.0, ap (λ (p : NodesText × List Word). p.1) pair, found.1)

pub nodes_only : (words : List Word) (x : NodesText) (rest : List Word) → nodes words ≡ Some (x, rest) → (words ≡ nodes_words x) × ([] ≡ rest) × AreNodes x
unfolding nodes
nodes_only words x rest read = nodes_by words x rest (nodes_in words) refl read

-- `*` is no name
star_is_no_name : (words : List Word) (word : Word) → list_all is_name (word ∷ words) ≡ true → bytes_eq word (codes "*") ≡ false
unfolding is_name
star_is_no_name words word good =
    elim (cases_Bool (bytes_eq word (codes "*"))) [
      | inl star ↦
          let same : word ≡ codes "*" = (bytes_eq-Decides word (codes "*")).0 star in
          let bad : false ≡ true = rw same at good in
          absurd (cc)
      | inr other ↦ other
    ]

listed_back : (words : List Word) → words ≢ [] → list_all is_name words ≡ true → nodes_in words ≡ Some (Listed words)
listed_back [] some good = absurd (some refl)
listed_back (word ∷ []) some good = rw (star_is_no_name [] word good, good) refl
listed_back (word ∷ other ∷ words) some good = rw good refl

pub nodes_back : (x : NodesText) → AreNodes x → nodes (nodes_words x) ≡ Some (x, [])
unfolding nodes
nodes_back AllNodes is = refl
nodes_back (Listed names) is = rw (listed_back names is.0 is.1) refl

pub nodes_then : {B : Type 0} {P : Type 0} (f : NodesText → Reading B) (words : List Word) (y : B) (rest : List Word) → (nodes >>= f) words ≡ Some (y, rest) →
    ((x : NodesText) → words ≡ nodes_words x → AreNodes x → f x [] ≡ Some (y, rest) → P) → P
nodes_then f words y rest read then =
    both nodes f words y rest read (λ x between first second.
    let is = nodes_only words x between first in
    then x is.0 is.2 (rw (← is.1) at second))
