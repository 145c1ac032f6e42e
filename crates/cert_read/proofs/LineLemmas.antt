-- What is known of a line from the bytes that are held.
use Rattle.base.proofs.Public.{◌≡◌, ◌∙◌, ℕ, ◌+◌, ◌<◌, ◌≤◌, List, [], ◌∷◌, ◌++◌, length, take, drop, Ok, true, false, nat_lt, refl, sym, ap, arith, inl, inr, cases_lt, nat_tests, take-append-le, StartsWith, all_of, Result, Err, take-append-drop, length-take, length-append}
use Rattle.cert_read.specs.Prelude.{bytes_before_newline, end_at, end_of, Faults, IsOutside, line_bytes, LineFault, max_line, Memory, NotALine, Over, Position, ReadFault, Short, TooLong}
use Rattle.cert_read.proofs.NewlineLemmas.{before_both, before_first, before_le}

-- a fault that says nothing of the bytes
pub faults_outside : {B : Type 0} (fault : LineFault) (read : Result B LineFault) → IsOutside fault → Faults fault read
faults_outside (NotALine n) read is = absurd is
faults_outside (TooLong n) read is = absurd is
faults_outside Short read is = absurd is
faults_outside ReadFault read is = tt
faults_outside Memory read is = tt

-- the first bytes that are held have no newline, and the others were looked at
pub counted : (held : List ℕ) (clean : ℕ) → clean ≤ length held → bytes_before_newline (take clean held) ≡ clean → clean + bytes_before_newline (drop clean held) ≡ bytes_before_newline held
counted held clean within none =
    let size : length (take clean held) ≡ clean = omega (arith, length-take clean held) in
    let both = before_both (take clean held) (drop clean held) (none ∙ sym size) in
    let all = take-append-drop clean held in
    ap (λ (n : ℕ). n + bytes_before_newline (drop clean held)) (sym size) ∙ sym both ∙ ap bytes_before_newline all

-- a prefix of what is left, and the rest of it
pub split : (rest held : List ℕ) → StartsWith rest held → held ++ drop (length held) rest ≡ rest
split rest held h = ap (λ (l : List ℕ). l ++ drop (length held) rest) (sym h) ∙ take-append-drop (length held) rest

later : (rest held : List ℕ) → StartsWith rest held → bytes_before_newline held ≤ bytes_before_newline rest
later rest held h =
    let all = split rest held h in
    elim (cases_lt (bytes_before_newline held) (length held)) [
      | inl within ↦ rw (← all, before_first held (drop (length held) rest) within) (omega arith)
      | inr past ↦
          let whole : bytes_before_newline held ≡ length held = omega (arith, before_le held) in
          rw (← all, before_both held (drop (length held) rest) whole) (omega arith)
    ]

pub too_long : (n count : ℕ) (rest held : List ℕ) → count ≡ bytes_before_newline held → max_line < count → StartsWith rest held → line_bytes n rest ≡ Err (TooLong n)
unfolding line_bytes
too_long n count rest held is long h =
    let le = later rest held h in
    let test : nat_lt max_line (bytes_before_newline rest) ≡ true = grind (arith, nat_tests) in
    rw test refl

pub line_found : (n count : ℕ) (rest held : List ℕ) → count ≡ bytes_before_newline held → count ≤ max_line → count < length held → StartsWith rest held → line_bytes n rest ≡ Ok (take count held)
unfolding line_bytes
line_found n count rest held is short within h =
    let all = split rest held h in
    let some : bytes_before_newline held < length held = omega arith in
    let same : bytes_before_newline rest ≡ count = ap bytes_before_newline (sym all) ∙ before_first held (drop (length held) rest) some ∙ sym is in
    let size : length rest ≡ length held + length (drop (length held) rest) = ap length (sym all) ∙ length-append held (drop (length held) rest) in
    let bytes : take count rest ≡ take count held = ap (take count) (sym all) ∙ take-append-le count held (drop (length held) rest) (omega arith) in
    let long : nat_lt max_line count ≡ false = grind (arith, nat_tests) in
    let there : nat_lt count (length rest) ≡ true = grind (arith, nat_tests) in
    rw (same, long, there, bytes) refl

pub no_newline : (n count more : ℕ) (rest held new : List ℕ) → count ≡ bytes_before_newline held → count ≤ max_line → length held ≤ count → length new ≡ length held + more → more ≡ 0 → StartsWith new held →
    new ≡ rest → line_bytes n rest ≡ Err Short
unfolding line_bytes
no_newline n count more rest held new is short whole size none h all =
    let kept : held ≡ rest = all_of new held h (omega arith) ∙ all in
    let count_is : bytes_before_newline rest ≡ count = ap bytes_before_newline (sym kept) ∙ sym is in
    let size_is : length rest ≡ length held = ap length (sym kept) in
    let le = before_le held in
    let long : nat_lt max_line count ≡ false = grind (arith, nat_tests) in
    let there : nat_lt count (length rest) ≡ false = grind (arith, nat_tests) in
    rw (count_is, long, there) refl

pub nothing_clean : bytes_before_newline [] ≡ 0
unfolding bytes_before_newline
nothing_clean = refl

-- all bytes that were held have no newline
pub clean_more : (held new : List ℕ) (count : ℕ) → count ≡ bytes_before_newline held → length held ≤ count → StartsWith new held → bytes_before_newline (take count new) ≡ count
clean_more held new count is whole h =
    let size : count ≡ length held = omega (arith, before_le held) in
    ap (λ (k : ℕ). bytes_before_newline (take k new)) size ∙ ap bytes_before_newline h ∙ sym is

pub ruleset fill_rules = (faults_outside, nothing_clean, too_long, line_found, no_newline, clean_more)

-- after the end line
byte_left : (at : Position) (rest : List ℕ) → 0 < length rest → end_of at rest ≡ Err (NotALine (at.lines + 1))
byte_left at [] some = absurd (omega arith)
byte_left at (b ∷ rest) some = refl

pub nothing_left : (at : Position) (rest : List ℕ) → length rest ≡ 0 → end_of at rest ≡ Ok (Over, at)
nothing_left at [] none = refl
nothing_left at (b ∷ rest) none = absurd (omega arith)

pub byte_follows : (file held : List ℕ) (at : Position) → StartsWith (drop at.place file) held → 0 < length held → end_at file at ≡ Err (NotALine (at.lines + 1))
unfolding end_at
byte_follows file held at h some =
    let size : length (drop at.place file) ≡ length held + length (drop (length held) (drop at.place file)) = ap length (sym (split (drop at.place file) held h)) ∙ length-append held (drop (length held) (drop at.place file)) in
    byte_left at (drop at.place file) (omega arith)

pub nothing_follows : (file held new : List ℕ) (at : Position) (more : ℕ) → length held ≡ 0 → length new ≡ length held + more → more ≡ 0 → new ≡ drop at.place file → end_at file at ≡ Ok (Over, at)
unfolding end_at
nothing_follows file held new at more empty size none all = nothing_left at (drop at.place file) (omega (arith, ap length all))

pub ruleset end_rules = (faults_outside, byte_follows, nothing_follows)
