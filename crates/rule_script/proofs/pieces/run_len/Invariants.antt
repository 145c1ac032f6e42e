use Rattle.base.proofs.Public.{◌≡◌, ◌+◌, length, prefix_len}
use Rattle.rule_script.specs.Tokens.{goes_on_name}
use Rattle.rule_script.proofs.pieces.run_len.Given as goal

abbrev pub invariant-bytes : goal.invariant-bytes
invariant-bytes l = record {
  run : l.len + prefix_len goes_on_name l.rest ≡ prefix_len goes_on_name l.bytes;
  within : l.len + length l.rest ≡ length l.bytes;
}

abbrev pub decreases-bytes : goal.decreases-bytes
decreases-bytes l = length l.rest
