-- Sections are cut from a text in one way.
use Rattle.base.proofs.Public.{◌≡◌, ◌≢◌, ◌⊎◌, inl, inr, ℕ, ◌<◌, ◌^◌, true, List, [], ◌∷◌, ◌++◌, append-nil, Some, refl, sym, ap, ap₂, ◌∙◌, append_assoc, subst, arith, All, All-head, All-tail, AllPass-from_list_all, Contains, Contains-append_cases, Contains-append_right, decimal, flat_map, is_ascii_digit, length, length-append, list_all}
use Rattle.numerals.proofs.Public.{digits_of-decimal, number_of-decimal}
use Rattle.numerals.specs.Numbers.{number_of}
use Rattle.cert_parts.specs.Sections.{AreWholeLines, HasPartLine, IsCutInto, IsFirst, IsUnended, part_line, part_word, section_of, section_text, SectionText}
use Rattle.cert_parts.specs.Cuts.{BeginsWith, IsParted, OnlyBeginsWith, SplitsBody, SplitsLine, StartsPart}
use Rattle.cert_parts.specs.Laws.{IsWritten}
use Rattle.cert_parts.proofs.LineLemmas.{First, Last, no_newline_in_word, nothing_before, nothing_behind, Pieces, pieces, starts_inside, starts_later, tail_lines}

-- ---- the first line

newline_after : (line after text : List ℕ) → text ≡ line ++ 10 ∷ after → Contains text 10
newline_after line after text is = rw is (Contains-append_right line (10 ∷ after) 10 (0, omega arith, refl))

newline_here : (x : ℕ) (line more rest after text : List ℕ) → 10 ∷ rest ≡ (x ∷ more) ++ after → text ≡ line ++ x ∷ more → Contains text 10
newline_here x line more rest after text first is =
    let same : x ≡ 10 = cc in
    newline_after line more text (is ∙ ap (λ (b : ℕ). line ++ b ∷ more) same)

ended_one : (a b r s : List ℕ) → ¬ Contains a 10 → ¬ Contains b 10 → Pieces a (10 ∷ r) b (10 ∷ s) → (a ≡ b) × (r ≡ s)
ended_one a b r s f g (First [] one other) = (sym (one ∙ append-nil a), cc)
ended_one a b r s f g (First (x ∷ more) one other) = absurd (g (newline_here x a more r (10 ∷ s) b other one))
ended_one a b r s f g (Last [] one other) = (one ∙ append-nil b, cc)
ended_one a b r s f g (Last (x ∷ more) one other) = absurd (f (newline_here x b more s (10 ∷ r) a other one))

pub lines_one : (bytes l m a b : List ℕ) → SplitsLine bytes l a → SplitsLine bytes m b → (l ≡ m) × (a ≡ b)
lines_one bytes l m a b first second = by first.text second.text
  where
    by : ((bytes ≡ l ++ 10 ∷ a) ⊎ ((bytes ≡ l) × (a ≡ []))) → ((bytes ≡ m ++ 10 ∷ b) ⊎ ((bytes ≡ m) × (b ≡ []))) → (l ≡ m) × (a ≡ b)
    by (inl e) (inl f) = ended_one l m a b first.one second.one (pieces l (10 ∷ a) m (10 ∷ b) (sym e ∙ f))
    by (inl e) (inr f) = absurd (second.one (newline_after l a m (sym f.0 ∙ e)))
    by (inr e) (inl f) = absurd (first.one (newline_after m b l (sym e.0 ∙ f)))
    by (inr e) (inr f) = (sym e.0 ∙ f.0, e.1 ∙ sym f.1)

no_newline_in_digits : (word : List ℕ) → list_all is_ascii_digit word ≡ true → ¬ Contains word 10
no_newline_in_digits word digits (k, within, same) =
    let passes = AllPass-from_list_all is_ascii_digit word digits k 10 within in
    let none : is_ascii_digit 10 ≡ true = rw same at passes in
    absurd (cc)

pub part_line_is_one : (part : ℕ) → part < 2 ^ 64 → ¬ Contains (part_line part) 10
unfolding part_line
part_line_is_one part small there =
    elim (Contains-append_cases part_word (decimal part) 10 there) [
      | inl word ↦ no_newline_in_word word
      | inr number ↦ no_newline_in_digits (decimal part) (digits_of-decimal part small) number
    ]

pub part_lines_differ : (p q : ℕ) → p < 2 ^ 64 → q < 2 ^ 64 → part_line p ≡ part_line q → p ≡ q
unfolding part_line
part_lines_differ p q first second same =
    let digits : decimal p ≡ decimal q = cc in
    let read : Some p ≡ Some q = sym (number_of-decimal p first) ∙ ap number_of digits ∙ number_of-decimal q second in
    cc

-- the first line of a section names its part
pub first_splits : (bytes : List ℕ) (s : SectionText) (rest : List ℕ) → IsFirst bytes s rest → SplitsLine bytes (part_line s.part) (s.body ++ rest)
unfolding section_text
first_splits bytes s rest first = record { one = part_line_is_one s.part first.number; text = by first.text }
  where
    by : ((bytes ≡ section_text s ++ rest) ⊎ IsUnended bytes s rest) → (bytes ≡ part_line s.part ++ 10 ∷ (s.body ++ rest)) ⊎ ((bytes ≡ part_line s.part) × (s.body ++ rest ≡ []))
    by (inl whole) = inl (whole ∙ append_assoc (part_line s.part) (10 ∷ s.body) rest)
    by (inr unended) = inr (unended.text, ap₂ (λ (a b : List ℕ). a ++ b) unended.empty unended.last)

-- ---- what comes before the next section

not_longer : (a b r s : List ℕ) (x : ℕ) (more : List ℕ) → ¬ HasPartLine b → IsParted a r → IsParted b s → b ≡ a ++ x ∷ more → r ≡ (x ∷ more) ++ s → ⊥
not_longer a b r s x more none (inl nothing) parted longer rest = cc
not_longer a b r s x more none (inr (lines, (after, starts))) (inl nothing) longer rest =
    let all : r ≡ x ∷ more = rest ∙ ap (λ (l : List ℕ). (x ∷ more) ++ l) nothing ∙ append-nil (x ∷ more) in
    none (rw longer (starts_later a (x ∷ more) lines (after, sym all ∙ starts)))
not_longer a b r s x more none (inr (lines, (after, starts))) (inr (whole, next)) longer rest =
    let later = tail_lines a (x ∷ more) (rw longer at whole) in
    none (rw longer (starts_later a (x ∷ more) lines (starts_inside (x ∷ more) s after later (λ nothing. cc) (sym starts ∙ rest))))

bodies_by : (a b r s : List ℕ) → ¬ HasPartLine a → ¬ HasPartLine b → IsParted a r → IsParted b s → Pieces a r b s → (a ≡ b) × (r ≡ s)
bodies_by a b r s f g p q (First [] one other) = (sym (one ∙ append-nil a), other)
bodies_by a b r s f g p q (First (x ∷ more) one other) = absurd (not_longer a b r s x more g p q one other)
bodies_by a b r s f g p q (Last [] one other) = (one ∙ append-nil b, sym other)
bodies_by a b r s f g p q (Last (x ∷ more) one other) = absurd (not_longer b a s r x more f q p one other)

pub bodies_one : (a b r s : List ℕ) → ¬ HasPartLine a → ¬ HasPartLine b → IsParted a r → IsParted b s → a ++ r ≡ b ++ s → (a ≡ b) × (r ≡ s)
bodies_one a b r s f g p q same = bodies_by a b r s f g p q (pieces a r b s same)

-- ---- sections

section_is : (s t : SectionText) → s.part ≡ t.part → s.body ≡ t.body → s ≡ t
section_is s t part body = ap₂ section_of part body

pub sections_one : (bytes : List ℕ) (s t : SectionText) (r q : List ℕ) → IsFirst bytes s r → IsParted s.body r → IsFirst bytes t q → IsParted t.body q → (s ≡ t) × (r ≡ q)
sections_one bytes s t r q first parted second next =
    let lines = lines_one bytes (part_line s.part) (part_line t.part) (s.body ++ r) (t.body ++ q) (first_splits bytes s r first) (first_splits bytes t q second) in
    let bodies = bodies_one s.body t.body r q first.no_part_line second.no_part_line parted next lines.1 in
    (section_is s t (part_lines_differ s.part t.part first.number second.number lines.0) bodies.0, bodies.1)

some_bytes : (s : SectionText) (rest : List ℕ) → ¬ IsFirst [] s rest
unfolding section_text part_line
some_bytes s rest first = by first.text
  where
    by : ◌⊎◌ ([] ≡ section_text s ++ rest) (IsUnended [] s rest) → ⊥
    by (inl whole) = cc
    by (inr unended) = let none = unended.text in cc

starts_section : (bytes : List ℕ) (s : SectionText) (rest : List ℕ) → IsFirst bytes s rest → StartsPart bytes
unfolding section_text part_line
starts_section bytes s rest first = by first.text
  where
    by : ((bytes ≡ section_text s ++ rest) ⊎ IsUnended bytes s rest) → StartsPart bytes
    by (inl whole) = ((decimal s.part ++ 10 ∷ s.body) ++ rest, whole)
    by (inr unended) = (decimal s.part, unended.text)

starts_sections : (bytes : List ℕ) (all : List SectionText) → IsCutInto bytes all → (bytes ≡ []) ⊎ StartsPart bytes
starts_sections bytes [] is = inl is
starts_sections bytes (s ∷ others) (rest, first, more) = inr (starts_section bytes s rest first)

pub parted_by : (body rest : List ℕ) → ((rest ≡ []) ⊎ AreWholeLines body) → ((rest ≡ []) ⊎ StartsPart rest) → IsParted body rest
parted_by body rest (inl none) starts = inl none
parted_by body rest (inr lines) (inl none) = inl none
parted_by body rest (inr lines) (inr starts) = inr (lines, starts)

cut_parted : (bytes : List ℕ) (s : SectionText) (rest : List ℕ) (others : List SectionText) → IsFirst bytes s rest → IsCutInto rest others → IsParted s.body rest
cut_parted bytes s rest others first more = parted_by s.body rest first.lines (starts_sections rest others more)

-- ---- the law: one way

same_front : (s t : SectionText) (xs ys : List SectionText) → s ≡ t → xs ≡ ys → s ∷ xs ≡ t ∷ ys
same_front s t xs ys one others = ap₂ (λ (x : SectionText) (l : List SectionText). x ∷ l) one others

pub cut_one_way : (bytes : List ℕ) (one other : List SectionText) → IsCutInto bytes one → IsCutInto bytes other → one ≡ other
cut_one_way bytes [] [] first second = refl
cut_one_way bytes [] (t ∷ ys) first (q, next, more) = absurd (some_bytes t q (rw first at next))
cut_one_way bytes (s ∷ xs) [] (r, next, more) second = absurd (some_bytes s r (rw second at next))
cut_one_way bytes (s ∷ xs) (t ∷ ys) (r, first, before) (q, second, after) =
    let both = sections_one bytes s t r q first (cut_parted bytes s r xs first before) second (cut_parted bytes t q ys second after) in
    same_front s t xs ys both.0 (cut_one_way r xs ys before (subst (λ (l : List ℕ). IsCutInto l ys) (sym both.1) after))

-- ---- the law: what is written

pub written_cut : (sections : List SectionText) → All IsWritten sections → IsCutInto (flat_map section_text sections) sections
written_cut [] all = refl
written_cut (s ∷ others) all =
    let is : IsWritten s = All-head IsWritten s others all in (
      flat_map section_text others,
      record { number = is.number; no_part_line = is.body.no_part_line; text = inl refl; lines = inr is.body.lines },
      written_cut others (All-tail IsWritten s others all),
    )

-- ---- a section more

pub begins_more : (bytes : List ℕ) (found : List SectionText) (rest : List ℕ) (s : SectionText) (next : List ℕ) → BeginsWith bytes found rest → IsFirst rest s next → BeginsWith bytes (found ++ s ∷ []) next
begins_more bytes [] rest s next same first = (next, subst (λ (l : List ℕ). IsFirst l s next) (sym same) first, refl)
begins_more bytes (t ∷ found) rest s next (mid, one, others) first = (mid, one, begins_more mid found rest s next others first)

pub begins_all : (bytes : List ℕ) (found : List SectionText) (rest : List ℕ) → BeginsWith bytes found rest → rest ≡ [] → IsCutInto bytes found
begins_all bytes [] rest same none = same ∙ none
begins_all bytes (t ∷ found) rest (mid, one, others) none = (mid, one, begins_all mid found rest others none)

only_next : (all : List SectionText) (found : List SectionText) (s : SectionText) (rest next : List ℕ) (others : List SectionText) → IsFirst rest s next → IsParted s.body next → all ≡ found ++ others → IsCutInto rest others →
    (more : List SectionText) × (all ≡ (found ++ s ∷ []) ++ more) × IsCutInto next more
only_next all found s rest next [] first parted same cut = absurd (some_bytes s next (rw cut at first))
only_next all found s rest next (t ∷ more) first parted same (q, second, after) =
    let both = sections_one rest s t next q first parted second (cut_parted rest t q more second after) in (
      more,
      same ∙ ap (λ (x : SectionText). found ++ x ∷ more) (sym both.0) ∙ sym (append_assoc found (s ∷ []) more),
      subst (λ (l : List ℕ). IsCutInto l more) (sym both.1) after,
    )

pub only_more : (bytes : List ℕ) (found : List SectionText) (rest : List ℕ) (s : SectionText) (next : List ℕ) → OnlyBeginsWith bytes found rest → IsFirst rest s next → IsParted s.body next → OnlyBeginsWith bytes (found ++ s ∷ []) next
only_more bytes found rest s next only first parted all is =
    let so_far = only all is in
    only_next all found s rest next so_far.0 first parted so_far.1 so_far.2

pub none_cut : (bytes : List ℕ) (found : List SectionText) (rest : List ℕ) → OnlyBeginsWith bytes found rest → rest ≢ [] → ((s : SectionText) (next : List ℕ) → ¬ IsFirst rest s next) → (all : List SectionText) → ¬ IsCutInto bytes all
none_cut bytes found rest only some none all is = let so_far = only all is in by so_far.0 so_far.2
  where
    by : (others : List SectionText) → IsCutInto rest others → ⊥
    by [] cut = some cut
    by (s ∷ others) (next, first, more) = none s next first

-- ---- one section

taken_by : (bytes line after : List ℕ) (part : ℕ) (body rest : List ℕ) → line ≡ part_line part → after ≡ body ++ rest → ((bytes ≡ line ++ 10 ∷ after) ⊎ ((bytes ≡ line) × (after ≡ []))) →
    (bytes ≡ section_text (section_of part body) ++ rest) ⊎ IsUnended bytes (section_of part body) rest
unfolding section_text
taken_by bytes line after part body rest names split (inl whole) =
    inl (whole ∙ ap₂ (λ (l a : List ℕ). l ++ 10 ∷ a) names split ∙ sym (append_assoc (part_line part) (10 ∷ body) rest))
taken_by bytes line after part body rest names split (inr (all, nothing)) =
    let none : body ++ rest ≡ [] = sym split ∙ nothing in
    inr (record { text = all ∙ names; empty = nothing_before body rest none; last = nothing_behind body rest none })

whole_by : (body rest : List ℕ) → IsParted body rest → (rest ≡ []) ⊎ AreWholeLines body
whole_by body rest (inl none) = inl none
whole_by body rest (inr (lines, starts)) = inr lines

pub section_taken : (bytes line after : List ℕ) (part : ℕ) (body rest : List ℕ) → SplitsLine bytes line after → line ≡ part_line part → part < 2 ^ 64 → SplitsBody after body rest → IsFirst bytes (section_of part body) rest × IsParted body rest
section_taken bytes line after part body rest split names small before = (
  record { number = small; no_part_line = before.no_part_line; text = taken_by bytes line after part body rest names before.text split.text; lines = whole_by body rest before.parted },
  before.parted,
)

pub no_section : (bytes line after : List ℕ) → SplitsLine bytes line after → ((part : ℕ) → part < 2 ^ 64 → line ≢ part_line part) → (s : SectionText) (next : List ℕ) → ¬ IsFirst bytes s next
no_section bytes line after split none s next first =
    none s.part first.number (lines_one bytes line (part_line s.part) after (s.body ++ next) split (first_splits bytes s next first)).0

pub first_shorter : (bytes : List ℕ) (s : SectionText) (rest : List ℕ) → IsFirst bytes s rest → length rest < length bytes
unfolding section_text part_line
first_shorter bytes s rest first = by first.text
  where
    by : ((bytes ≡ section_text s ++ rest) ⊎ IsUnended bytes s rest) → length rest < length bytes
    by (inl whole) = omega (arith, ap length whole, length-append (section_text s) rest)
    by (inr unended) = omega (arith, ap length unended.text, ap length unended.last)
