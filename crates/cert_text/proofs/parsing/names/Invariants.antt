use Rattle.base.proofs.Public.{◌≡◌, ◌++◌, length, true, list_all}
use Rattle.cluster.specs.Names.{is_name}
use Rattle.cert_text.proofs.parsing.names.Given as goal

abbrev pub invariant-words : goal.invariant-words
invariant-words l = record {
  words : l.names.items ++ l.words ≡ l.fn.words;
  good : list_all is_name l.names.items ≡ true;
}

abbrev pub decreases-words : goal.decreases-words
decreases-words l = length l.words
