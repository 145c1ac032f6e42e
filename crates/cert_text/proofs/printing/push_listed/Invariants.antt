use Rattle.std.proofs.Common.{IsTrue, string_bytes}
use Rattle.base.proofs.Public.{◌≡◌, ◌<◌, ◌≤◌, ◌-◌, ◌++◌, flat_map, range_with_len}
use Rattle.cert_text.specs.Prelude.{has_node, node_count, spaced_if_in}
use Rattle.cert_text.proofs.printing.push_listed.Given as goal

abbrev pub invariant-loop-n : goal.invariant-loop-n
invariant-loop-n l = record {
  text : string_bytes l.line ≡ string_bytes l.fn.line ++ flat_map (spaced_if_in l.p.given l.set) (range_with_len 0 l.n);
  within : l.n ≤ node_count l.p.given;
  there : l.n < node_count l.p.given → IsTrue (has_node l.set l.n);
}

abbrev pub decreases-loop-n : goal.decreases-loop-n
decreases-loop-n l = node_count l.p.given - l.n
