use Rattle.std.proofs.Common.{◌++◌, ◌<◌, List, ℕ, sym, ap, ◌∙◌, append-nil, arith, string_bytes}
use Rattle.slices.specs.Elements.{node_count}
use Rattle.cert_text.proofs.NodeLemmas.{none_listed, one_listed}
use Rattle.cert_text.proofs.printing.push_listed.Goals as goal

pub loop-n-init : goal.loop-n-init
loop-n-init c =
    let first = c.next_in-n.ensures in
    let none = none_listed c.args.p.now.given c.args.set.now 0 c.next_in-n.result first.low first.none in
    record {
      text = sym (ap (λ (text : List ℕ). string_bytes c.args.line.now ++ text) none ∙ append-nil (string_bytes c.args.line.now));
      within = first.within;
      there = first.there;
    }

pub loop-n-preserved : goal.loop-n-preserved
loop-n-preserved c =
    let was = c.loop-n.invariant in
    let next = c.next_in-n-in-loop-n.ensures in
    let low : c.loop-n.n < node_count c.args.p.now.given = omega arith in
    record {
      text = one_listed c.args.p.now.given c.args.set.now c.loop-n.n c.next_in-n-in-loop-n.result (string_bytes c.args.line.now) (string_bytes c.loop-n.line) (string_bytes c.push_element.new.line) was.text (was.there low) c.in_ok-push_element.ensures next.low next.none;
      within = next.within;
      there = next.there;
    }
