use Rattle.cert_parts.proofs.FoundLemmas.{none_left, some_left}
use Rattle.cert_parts.proofs.SectionLemmas.{begins_all, begins_more, first_shorter, none_cut, only_more}
use Rattle.cert_parts.proofs.cutting.cut_sections.Goals as goal

pub sections-smaller : goal.sections-smaller
sections-smaller c = first_shorter c.sections.rest.now c.in-Some.first.section c.in-Some.first.rest.now c.in-Some.ensures.0

pub sections-preserved : goal.sections-preserved
sections-preserved c =
    let found = c.sections.sections.items in
    let rest = c.sections.rest.now in
    let first = c.in-Some.first in
    rw c.in_ok-push-in-Some.ensures.items
    (record {
      begins = begins_more c.args.bytes.now found rest first.section first.rest.now c.sections.invariant.begins c.in-Some.ensures.0;
      only = only_more c.args.bytes.now found rest first.section first.rest.now c.sections.invariant.only c.in-Some.ensures.0 c.in-Some.ensures.1;
    })

pub returns-in-None-clause-none : goal.returns-in-None-clause-none
returns-in-None-clause-none c =
    none_cut c.args.bytes.now c.sections.sections.items c.sections.rest.now c.sections.invariant.only (some_left c.sections.rest.now c.is_empty.result c.is_empty.ensures c.sections-test.true) c.in-None.ensures

pub returns-clause-cut : goal.returns-clause-cut
returns-clause-cut c =
    begins_all c.args.bytes.now c.sections.sections.items c.sections.rest.now c.sections.invariant.begins (none_left c.sections.rest.now c.is_empty.result c.is_empty.ensures c.sections-test.false)
