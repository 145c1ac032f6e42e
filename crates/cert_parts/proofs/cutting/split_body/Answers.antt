use Rattle.base.proofs.Public.{refl}
use Rattle.cert_parts.proofs.FoundLemmas.{after_shorter, gone_all, gone_more}
use Rattle.cert_parts.proofs.cutting.split_body.Goals as goal

pub lines-smaller : goal.lines-smaller
lines-smaller c = after_shorter c.lines.rest.now c.split_line.result.0.now c.split_line.result.1.now (c.is_over.ensures.no c.lines-test.true).0 c.split_line.ensures

pub lines-preserved : goal.lines-preserved
lines-preserved c =
    let goes_on = c.is_over.ensures.no c.lines-test.true in
    gone_more c.args.bytes.now c.lines.rest.now c.split_line.result.0.now c.split_line.result.1.now c.lines.invariant goes_on.0 goes_on.1 c.split_line.ensures

pub returns : goal.returns
returns c = gone_all c.args.bytes.now c.lines.rest.now _ c.lines.invariant (c.is_over.ensures.yes c.lines-test.false) refl
