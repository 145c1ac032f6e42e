use Rattle.closing.proofs.{Prelude.refl, Prelude.has_node_of, Prelude.sets, SettingLemmas.first_met, SettingLemmas.second_met, SettingLemmas.shared_free}
use Rattle.closing.proofs.exact.pairs.two_found.Goals as goal

pub returns-in-Some : goal.returns-in-Some
returns-in-Some c = (refl, second_met c.args.p.now.given (sets c.args.g.now) c.args.t c.args.v.0 c.args.w.0 c.standing-first.result c.if-v-w.false c.requires.second c.standing-first.ensures.nodes c.in-Some.c c.in-Some.ensures.some)

pub returns-in-Some-end_beside : goal.returns-in-Some-end_beside
returns-in-Some-end_beside c = (refl, first_met c.args.p.now.given (sets c.args.g.now) c.args.t c.args.v.0 c.args.w.0 c.standing-second.result c.if-v-w.false c.requires.first c.standing-second.ensures.nodes c.in-Some-end_beside.c c.in-Some-end_beside.ensures.some)

pub returns : goal.returns
returns c =
    shared_free c.args.p.now.given (sets c.args.g.now) c.args.t c.args.v.0 c.args.w.0 (has_node_of c.standing-first.result) (has_node_of c.standing-second.result) c.standing-first.ensures.nodes c.standing-second.ensures.nodes
    (c.are_beside.ensures.no c.if-are_beside.false) c.in_default.ensures.none c.in_default-end_beside.ensures.none
