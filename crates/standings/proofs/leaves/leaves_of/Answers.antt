use Rattle.standings.proofs.Prelude.{rules, ◌<◌, sym, ◌∙◌, node_count}
use Rattle.standings.proofs.LeaveLemmas.{are_leaves}
use Rattle.standings.proofs.leaves.leaves_of.Goals as goal

pub returns-in-Some-Migrate : goal.returns-in-Some-Migrate
returns-in-Some-Migrate c =
    are_leaves c.args.p.now.given c.args.v.0 c.other_than-other.result _ (search (rules, c.in_ok-host.ensures)) low c.other_than-other.ensures (rw c.in-Some-Migrate.field-0-is at (sym c.kind_of.ensures ∙ c.in-Some-Migrate.is)) c.duration.ensures.duration c.duration.ensures.small
  where
    low : c.other_than-other.result.0 < node_count c.args.p.now.given
    low = search (rules, c.if-other-nodes.false, c.nodes.ensures.nodes, c.cluster.ensures.cluster)
