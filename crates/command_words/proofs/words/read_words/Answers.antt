use Rattle.std.proofs.Common.{rules, sym}
use Rattle.command_words.proofs.Counts.{few_words, many_words}
use Rattle.command_words.proofs.words.read_words.Goals.{in_default-via-then-words-lt2, in_default-via-else-words-lt2+else-words-lt3+else-words-lt4+else-words-lt5+else-words-lt6+else-words-lt7+else-words-lt8}
use Rattle.command_words.proofs.words.read_words.Goals as goal

pub returns-in_default-clause-meaning : goal.returns-in_default-clause-meaning
returns-in_default-clause-meaning c =
    elim c.in_default.branch [
      | in_default-via-then-words-lt2 w ↦ sym (few_words c.args.words.now (search rules))
      | in_default-via-else-words-lt2+else-words-lt3+else-words-lt4+else-words-lt5+else-words-lt6+else-words-lt7+else-words-lt8 w ↦ sym (many_words c.args.words.now (search rules))
    ]
