-- From the bytes of a line to what is read, and to the position after it.
use Rattle.base.proofs.Public.{◌≡◌, ◌∙◌, ℕ, ◌+◌, ◌<◌, ◌==◌, Bool, true, false, List, ◌++◌, length, take, drop, Some, None, Ok, refl, sym, ap, arith, nat_tests, drop-append-le, drop-drop, StartsWith, bytes_eq, longer, Result, Err, length-take, if◌then◌else◌}
use Rattle.cert_read.specs.Prelude.{as_line, end_at, Faults, first_line_at, Gives, header, header_bytes, is_end, Line, line_at, line_bytes, LineFault, LineText, Memory, NotALine, Position, position_after, ReadFault, reading, Short, text_at, TooLong, turn}
use Rattle.cert_read.proofs.LineLemmas.{split}

-- ---- the line, read

pub text_read : (file held : List ℕ) (at : Position) (count : ℕ) (line : LineText) → line_bytes (at.lines + 1) (drop at.place file) ≡ Ok (take count held) → count < length held → reading (take count held) ≡ Some line →
    text_at file at ≡ Ok (line, count)
unfolding text_at
text_read file held at count line found within read =
    let size : length (take count held) ≡ count = omega (arith, length-take count held) in
    rw (found, read, size) refl

pub text_unknown : (file held : List ℕ) (at : Position) (count : ℕ) → line_bytes (at.lines + 1) (drop at.place file) ≡ Ok (take count held) → reading (take count held) ≡ None →
    text_at file at ≡ Err (NotALine (at.lines + 1))
unfolding text_at
text_unknown file held at count found read = rw (found, read) refl

pub text_failed : (file : List ℕ) (at : Position) (fault : LineFault) → Faults fault (line_bytes (at.lines + 1) (drop at.place file)) → Faults fault (text_at file at)
unfolding text_at
text_failed file at (NotALine n) is = rw is refl
text_failed file at (TooLong n) is = rw is refl
text_failed file at Short is = rw is refl
text_failed file at ReadFault is = tt
text_failed file at Memory is = tt

pub ruleset text_rules = (text_read, text_unknown, text_failed)

-- ---- passed

pub line_passed : (file : List ℕ) (at : Position) (line : LineText) (count : ℕ) → text_at file at ≡ Ok (line, count) → line_at file at ≡ Ok (as_line line, position_after at count (is_end line))
unfolding line_at
line_passed file at line count read = rw read refl

pub line_failed : (file : List ℕ) (at : Position) (fault : LineFault) → Faults fault (text_at file at) → Faults fault (line_at file at)
unfolding line_at
line_failed file at (NotALine n) is = rw is refl
line_failed file at (TooLong n) is = rw is refl
line_failed file at Short is = rw is refl
line_failed file at ReadFault is = tt
line_failed file at Memory is = tt

-- the bytes after a line are held as before
pub stands_after : (file held : List ℕ) (place count : ℕ) → StartsWith (drop place file) held → count < length held → StartsWith (drop (place + count + 1) file) (drop (count + 1) held)
stands_after file held place count h within =
    let tail = drop (length held) (drop place file) in
    let all : held ++ tail ≡ drop place file = split (drop place file) held h in
    let place_is : drop (place + count + 1) file ≡ drop (count + 1) (drop place file) = ap (λ (k : ℕ). drop k file) (omega arith) ∙ sym (drop-drop (count + 1) place file) in
    let rest : drop (count + 1) (drop place file) ≡ drop (count + 1) held ++ tail = ap (drop (count + 1)) (sym all) ∙ drop-append-le (count + 1) held tail (omega arith) in
    rw (place_is, rest) (longer (drop (count + 1) held) tail)

pub ruleset line_rules = (line_passed, line_failed, stands_after)

-- ---- the header

pub header_failed : (file : List ℕ) (at : Position) (fault : LineFault) → at.lines ≡ 0 → Faults fault (line_bytes (at.lines + 1) (drop at.place file)) → Faults fault (first_line_at file at)
unfolding first_line_at header_bytes
header_failed file at (NotALine n) first is = let found = rw first at is in rw found refl
header_failed file at (TooLong n) first is = let found = rw first at is in rw found refl
header_failed file at Short first is = let found = rw first at is in rw found refl
header_failed file at ReadFault first is = tt
header_failed file at Memory first is = tt

pub no_header : (file held : List ℕ) (at : Position) (count : ℕ) → at.lines ≡ 0 → line_bytes (at.lines + 1) (drop at.place file) ≡ Ok (take count held) → bytes_eq (take count held) header ≡ false →
    first_line_at file at ≡ Err (NotALine 1)
unfolding first_line_at header_bytes
no_header file held at count first is other = let found = rw first at is in rw (found, other) refl

header_read : (file held : List ℕ) (at : Position) (count : ℕ) → at.lines ≡ 0 → line_bytes (at.lines + 1) (drop at.place file) ≡ Ok (take count held) → count < length held → bytes_eq (take count held) header ≡ true →
    first_line_at file at ≡ line_at file (position_after at count false)
unfolding first_line_at header_bytes
header_read file held at count first is within same =
    let size : length (take count held) ≡ count = omega (arith, length-take count held) in
    let found = rw first at is in
    rw (found, same, size) refl

pub header_passed : {A : Type 0} (view : A → Line × Position) (result : Result A LineFault) (file held : List ℕ) (at : Position) (count : ℕ) → at.lines ≡ 0 → line_bytes (at.lines + 1) (drop at.place file) ≡ Ok (take count held) →
    count < length held → bytes_eq (take count held) header ≡ true → Gives view result (line_at file (position_after at count false)) → Gives view result (first_line_at file at)
header_passed view result file held at count first is within same gives = rw (header_read file held at count first is within same) gives

pub ruleset first_rules = (header_failed, no_header, header_passed, stands_after)

-- ---- a turn

pub turn_is_end : (file : List ℕ) (at : Position) → at.ended ≡ true → turn file at ≡ end_at file at
unfolding turn
turn_is_end file at ended = ap (λ (b : Bool). if b then end_at file at else if at.lines == 0 then first_line_at file at else line_at file at) ended

pub turn_goes_on : (file : List ℕ) (at : Position) (first : Bool) → at.ended ≡ false → (at.lines == 0) ≡ first → turn file at ≡ (if first then first_line_at file at else line_at file at)
unfolding turn
turn_goes_on file at first ended test =
    ap (λ (b : Bool). if b then end_at file at else if at.lines == 0 then first_line_at file at else line_at file at) ended ∙ ap (λ (b : Bool). if b then first_line_at file at else line_at file at) test

pub turn_end : {A : Type 0} (view : A → Line × Position) (result : Result A LineFault) (file : List ℕ) (at : Position) → at.ended ≡ true → Gives view result (end_at file at) → Gives view result (turn file at)
turn_end view result file at ended gives = rw (turn_is_end file at ended) gives

pub turn_line : {A : Type 0} (view : A → Line × Position) (result : Result A LineFault) (file : List ℕ) (at : Position) → at.ended ≡ false → 0 < at.lines → Gives view result (line_at file at) → Gives view result (turn file at)
turn_line view result file at ended later gives =
    let test : (at.lines == 0) ≡ false = grind (arith, nat_tests) in
    rw (turn_goes_on file at false ended test) gives

pub turn_first : {A : Type 0} (view : A → Line × Position) (result : Result A LineFault) (file : List ℕ) (at : Position) → at.ended ≡ false → at.lines ≡ 0 → Gives view result (first_line_at file at) → Gives view result (turn file at)
turn_first view result file at ended first gives =
    let test : (at.lines == 0) ≡ true = grind (arith, nat_tests) in
    rw (turn_goes_on file at true ended test) gives

pub ruleset turn_rules = (turn_end, turn_line, turn_first)
