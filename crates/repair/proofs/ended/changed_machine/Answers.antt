use Rattle.std.proofs.Common.{sym, ap, ◌∙◌}
use Rattle.repair.specs.Prelude.{in_state, machine_after, state_after}
use Rattle.repair.proofs.ended.changed_machine.Goals as goal

pub returns-in-Act : goal.returns-in-Act
returns-in-Act c =
    let p = c.args.p.now.given in
    let m = c.args.machine in
    c.in_state.ensures
    ∙ ap (λ s. in_state p c.args.v.0 s m) (c.state_after.ensures ∙ ap (λ kind. state_after m.state kind c.in-Act.place) c.kind_of-kind.ensures)
    ∙ sym (ap (λ done. machine_after p c.args.v.0 done m) c.in-Act.is)
