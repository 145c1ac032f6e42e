use Rattle.std.proofs.Common.{rules}
use Rattle.search.proofs.{TextLemmas.leaves_same, RoundLemmas.ends_leaf, RoundLemmas.ends_refuted, RoundLemmas.enters_split, WorkLemmas.cover_rule, WorkLemmas.cover_trans, WorkLemmas.works_front}
use Rattle.search.proofs.rounds.at_region.Goals as goal

pub returns-then-not-is_clear-clause-visited : goal.returns-then-not-is_clear-clause-visited
returns-then-not-is_clear-clause-visited g c =
    let w = rw c.if-not-is_clear.true at c.in_ok-is_clear.ensures.works in
    ends_refuted _ _ c.args.budget _ c.args.progress.now _ _ _ _ _ _ c.in_ok-is_clear.ensures.marks (w c.args.budget)

pub returns-in_err-is_leaf-clause-writes : goal.returns-in_err-is_leaf-clause-writes
returns-in_err-is_leaf-clause-writes g c =
    let w = rw c.if-not-is_clear.false at c.in_ok-is_clear.ensures.works in
    record { name = search rules; kept = search rules; cause = search rules; front = works_front _ _ _ _ _ _ _ _ _ _ _ _ _ (w 0) (rw c.in_ok-is_clear.ensures.writes.name at c.write_leaf.ensures.writes.front) }

pub returns-then-is_leaf-clause-writes : goal.returns-then-is_leaf-clause-writes
returns-then-is_leaf-clause-writes g c =
    let w = rw c.if-not-is_clear.false at c.in_ok-is_clear.ensures.works in
    record { name = search rules; kept = search rules; cause = search rules; front = works_front _ _ _ _ _ _ _ _ _ _ _ _ _ (w 0) (rw c.in_ok-is_clear.ensures.writes.name at c.in_ok-is_leaf.ensures.writes.front) }

pub returns-then-is_leaf-clause-visited : goal.returns-then-is_leaf-clause-visited
returns-then-is_leaf-clause-visited g c =
    let w = rw c.if-not-is_clear.false at c.in_ok-is_clear.ensures.works in
    let leaf = rw (c.if-is_leaf.true, c.in_ok-is_clear.ensures.writes.name) at c.in_ok-is_leaf.ensures.leaf in
    ends_leaf _ _ c.args.budget _ c.args.progress.now _ _ _ _ _ _ _ _ c.in_ok-is_clear.ensures.marks c.in_ok-is_clear.ensures.covers.count (w c.args.budget) leaf c.in_ok-is_leaf.ensures.spent

pub returns-in_err-side-clause-writes : goal.returns-in_err-side-clause-writes
returns-in_err-side-clause-writes g c =
    let w = rw c.if-not-is_clear.false at c.in_ok-is_clear.ensures.works in
    let due = rw (c.if-is_leaf.false, c.in_ok-is_clear.ensures.writes.name) at c.in_ok-is_leaf.ensures.leaf in
    record { name = search rules; kept = search rules; cause = search rules; front = works_front _ _ _ _ _ _ _ _ _ _ _ _ _ (w 0) (leaves_same _ _ _ _ _ due.text (rw (c.in_ok-is_leaf.ensures.writes.name, c.in_ok-is_clear.ensures.writes.name) at c.split.ensures.writes.front)) }

pub returns-in_err-side-clause-covers : goal.returns-in_err-side-clause-covers
returns-in_err-side-clause-covers g c = cover_trans _ _ _ _ c.in_ok-is_clear.ensures.covers (cover_rule _ _ _ c.split.ensures.same)

pub returns-clause-writes : goal.returns-clause-writes
returns-clause-writes g c =
    let w = rw c.if-not-is_clear.false at c.in_ok-is_clear.ensures.works in
    let due = rw (c.if-is_leaf.false, c.in_ok-is_clear.ensures.writes.name) at c.in_ok-is_leaf.ensures.leaf in
    record { name = search rules; kept = search rules; cause = search rules; front = works_front _ _ _ _ _ _ _ _ _ _ _ _ _ (w 0) (leaves_same _ _ _ _ _ due.text (rw (c.in_ok-is_leaf.ensures.writes.name, c.in_ok-is_clear.ensures.writes.name) at c.in_ok-side.ensures.writes.front)) }

pub returns-clause-covers : goal.returns-clause-covers
returns-clause-covers g c = cover_trans _ _ _ _ c.in_ok-is_clear.ensures.covers (cover_rule _ _ _ c.in_ok-side.ensures.same)

pub returns-clause-visited : goal.returns-clause-visited
returns-clause-visited g c =
    let w = rw c.if-not-is_clear.false at c.in_ok-is_clear.ensures.works in
    let due = rw (c.if-is_leaf.false, c.in_ok-is_clear.ensures.writes.name) at c.in_ok-is_leaf.ensures.leaf in
    let side = rw (c.in_ok-is_leaf.ensures.writes.name, c.in_ok-is_clear.ensures.writes.name) at c.in_ok-side.ensures.split in
    enters_split _ _ c.args.budget _ c.args.progress.now c.write_leaf.new.progress _ _ _ _ _ _ _ _ _ c.close.new.ground.trail _ _ c.in_ok-is_clear.ensures.marks c.in_ok-is_clear.ensures.covers.count c.in_ok-side.ensures.same.count (w c.args.budget) due side
