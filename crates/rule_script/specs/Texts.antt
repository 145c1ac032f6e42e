-- What is said of a line that is wrong.
use Rattle.std.specs.Prelude.{ℕ, List, ◌++◌, codes}
use Rattle.std.specs.Fmt.{decimal}
use Rattle.rule_script.specs.declared.faults.Mistake.{Mistake}
use Rattle.rule_script.specs.declared.faults.Mistake.TheVariants.{NotALine, TooLong, NoSuch, OutOfRange, WrongSort, Twice, TooMany}

abbrev pub mistake_text : Mistake → List ℕ
mistake_text NotALine = codes "not a line"
mistake_text TooLong = codes "too long"
mistake_text NoSuch = codes "no such name"
mistake_text OutOfRange = codes "out of range"
mistake_text WrongSort = codes "wrong sort"
mistake_text Twice = codes "twice"
mistake_text TooMany = codes "over limit"

-- the number of the line, and what is wrong with it
abbrev pub wrong_text : ℕ → Mistake → List ℕ
wrong_text number mistake = decimal number ++ codes " " ++ mistake_text mistake
