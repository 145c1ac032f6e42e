use Rattle.load_bounds.proofs.Prelude.{ap, ◌∙◌, ◌++◌, ◌∷◌, [], node_count}
use Rattle.load_bounds.specs.Prelude.{RoomsView}
use Rattle.load_bounds.proofs.NodeRoomLemmas.{widened_push}
use Rattle.load_bounds.proofs.node_rooms.NodeRooms.watch.Goals as goal

pub returns-clause-widened : goal.returns-clause-widened
returns-clause-widened c =
    widened_push (node_count c.args.p.now.given) c.args.n.0 c.args.self.now _ c.requires.node (ap (λ (v : RoomsView). v.rooms) c.self.view_is)
    (c.in_ok-push.ensures.items ∙ ap (λ (v : RoomsView). v.leavers ++ c.args.n.0 ∷ []) c.self.view_is)
