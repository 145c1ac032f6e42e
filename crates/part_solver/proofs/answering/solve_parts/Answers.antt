use Rattle.part_solver.proofs.Public.{answered_is_true}
use Rattle.part_solver.proofs.answering.solve_parts.Goals as goal

pub returns-clause-true_of : goal.returns-clause-true_of
returns-clause-true_of g c =
    let p = c.args.p.now.given in
    let groups = c.args.groups.now in
    answered_is_true p groups c.requires.split c.args.budget c.in_ok-a.a.whole c.in_ok-a.a.certificate.items
    (record {
      solved = c.in_ok-solved.solved.items;
      are_solved = c.in_ok-solved.ensures p groups c.requires;
      said = c.in_ok-a.ensures.said;
      text_is = c.in_ok-a.ensures.text;
    })
