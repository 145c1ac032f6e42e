use Rattle.std.proofs.Common.{rules}
use Rattle.solver.proofs.CertifyLemmas.{certified, cut_in_header, cut_in_lines, to_stay}
use Rattle.solver.proofs.certifying.certify.Goals as goal

pub returns-in_err-writer : goal.returns-in_err-writer
returns-in_err-writer g c = record {
  whole = search rules;
  cut = λ told. cut_in_header c.args.p.now.given _ _ (c.in_err-writer.ensures.cut told);
  others = search rules;
  true_of = search rules;
  stays = search rules;
  cause = search rules;
  reads_kept = search rules;
}

pub returns-in_err-found : goal.returns-in_err-found
returns-in_err-found g c = record {
  whole = search rules;
  cut = λ told. cut_in_lines c.args.p.now.given g.D.Desk.tells _ _ _ told (c.in_ok-writer.ensures.written told) (rw c.in_ok-writer.ensures.writer at c.in_err-found.ensures.writes.front);
  others = search rules;
  true_of = search rules;
  stays = search rules;
  cause = search rules;
  reads_kept = search rules;
}

pub returns : goal.returns
returns g c = record {
  whole = λ told. certified _ c.args.p.now.given c.args.budget g.D.Desk.tells _ _ _ _ c.in_ok-found.found told (c.in_ok-writer.ensures.written told) (rw c.in_ok-writer.ensures.writer at c.in_ok-found.ensures.shown);
  cut = λ told. cut_in_lines c.args.p.now.given g.D.Desk.tells _ _ _ told (c.in_ok-writer.ensures.written told) (rw c.in_ok-writer.ensures.writer at c.in_ok-found.ensures.writes.front);
  others = search rules;
  true_of = search rules;
  stays = λ may. to_stay c.args.p.now.given g.D.Desk.tells _ _ c.in_ok-found.found (c.in_ok-found.ensures.stayed may);
  cause = search rules;
  reads_kept = search rules;
}
