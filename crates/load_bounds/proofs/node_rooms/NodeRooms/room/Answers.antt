use Rattle.load_bounds.proofs.Prelude.{◌≡◌, ◌<◌, ◌≤◌, length, refl, sym, ap, ◌∙◌, arith, get_or_default, slice_index_or, HasRoom, all_nodes, capacity_of, node_count, sets}
use Rattle.load_bounds.specs.Prelude.{always, IsWholeRoom, no_room_at_all, RoomsView}
use Rattle.load_bounds.proofs.LooseLemmas.{capacity_stakes, lasting_room, loose_fits, more_stakes}
use Rattle.load_bounds.proofs.NodeRoomLemmas.{room_lasts}
use Rattle.load_bounds.proofs.node_rooms.NodeRooms.room.Goals as goal

pub capacity-requires-clause-node : goal.capacity-requires-clause-node
capacity-requires-clause-node c =
    let nodes = rw (← c.self.view_is) at c.requires.right.nodes in
    nodes c.index.result.now (c.loop-i.i, omega (arith, c.loop-i-test.true, c.len-i-end.ensures), sym c.index.ensures)

-- the room of the resource is that which is kept of it
is-kept : (c : goal.After-loop-i) → c.index-whole.result.now ≡ slice_index_or c.args.self.now.rooms c.args.r no_room_at_all
is-kept c =
    let rooms : c.self.inside.rooms.items ≡ c.args.self.now.rooms = ap (λ (v : RoomsView). v.rooms) c.self.view_is in
    let low : c.args.r < length c.self.inside.rooms.items = omega (arith, ap length rooms, c.requires.right.whole.count, c.requires.resource) in
    c.index-whole.ensures ∙ get_or_default c.self.inside.rooms.items c.args.r c.index-whole.result.now no_room_at_all low ∙ ap (λ xs. slice_index_or xs c.args.r no_room_at_all) rooms

has-room : (c : goal.After-loop-i) → HasRoom c.args.p.now.given (sets c.args._g.now) c.args.r (all_nodes c.args.p.now.given) (always c.args.p.now.given) c.loop-i.total
has-room c =
    let leavers : c.self.inside.leavers.items ≡ c.args.self.now.leavers = ap (λ (v : RoomsView). v.leavers) c.self.view_is in
    let all : length c.args.self.now.leavers ≤ c.loop-i.i = omega (arith, ap length leavers, c.len-i-end.ensures, c.loop-i-test.false) in
    lasting_room c.args.p.now.given (sets c.args._g.now) c.args.r (always c.args.p.now.given) (node_count c.args.p.now.given) c.loop-i.total refl
    (room_lasts c.args.p.now.given (sets c.args._g.now) c.args.self.now c.args.r c.loop-i.i c.loop-i.total c.index-whole.result.now c.requires.right c.requires.resource (is-kept c) all c.loop-i.invariant)

pub returns-clause-room : goal.returns-clause-room
returns-clause-room c = has-room c

pub returns-clause-stake : goal.returns-clause-stake
returns-clause-stake c =
    let whole : IsWholeRoom c.args.p.now.given c.args.r c.index-whole.result.now = rw (is-kept c) (c.requires.right.whole.each c.args.r c.requires.resource) in
    loose_fits c.args.p.now.given (sets c.args._g.now) c.args.r (always c.args.p.now.given) c.loop-i.total c.index-whole.result.now.at_stake (has-room c)
    (λ n l. more_stakes c.args.p.now.given (sets c.args._g.now) c.args.r n (always c.args.p.now.given) (capacity_of c.args.p.now.given n c.args.r) c.index-whole.result.now.at_stake (whole.stake n l) (capacity_stakes c.args.p.now.given (sets c.args._g.now) c.args.r n (always c.args.p.now.given)))
