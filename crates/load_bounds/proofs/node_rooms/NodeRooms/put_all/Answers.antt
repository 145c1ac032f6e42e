use Rattle.load_bounds.proofs.Prelude.{◌≤◌, rules, refl, ◌∙◌, arith, node_count, sets}
use Rattle.load_bounds.proofs.NodeRoomLemmas.{next_widened}
use Rattle.load_bounds.proofs.node_rooms.NodeRooms.put_all.Goals as goal

pub loop-i-preserved : goal.loop-i-preserved
loop-i-preserved c = record {
  rooms = c.in_ok-watch.ensures.widened.rooms ∙ c.loop-i.invariant.rooms;
  nodes = c.in_ok-watch.ensures.widened.nodes c.args.p.now.given refl c.loop-i.invariant.nodes;
  told = next_widened c.args.p.now.given (sets c.args.g.now) c.loop-i.i (node_count c.args.p.now.given) c.loop-i.self c.watch.new.self c.in_ok-watch.ensures.widened c.loop-i.invariant.told c.in_ok-watch.ensures.told;
}

pub returns : goal.returns
returns c =
    let all : node_count c.args.p.now.given ≤ c.loop-i.i = search (rules, c.loop-i-test.false, c.nodes-i-end.ensures.nodes, c.cluster.ensures.cluster) in
    record {
      whole = rw c.loop-i.invariant.rooms c.requires.whole;
      nodes = c.loop-i.invariant.nodes;
      others = λ n low out. (c.loop-i.invariant.told n (omega (arith, low, all))).lasts out;
    }
