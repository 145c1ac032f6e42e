use Rattle.std.proofs.Common.{rules}
use Rattle.cert_check.proofs.Prelude.{IsTrue, Ok, refl, subst, sym, option_copied, bound_of, bytes_of, choices_handed, Concludes, TurnGives}
use Rattle.cert_check.proofs.TurnLemmas.{error_is, file_kept, goes_on}
use Rattle.cert_check.proofs.lines.check_lines.Goals as goal

pub returns-in_err-verdict-clause-verdict : goal.returns-in_err-verdict-clause-verdict
returns-in_err-verdict-clause-verdict g c =
    let p = c.args.p.now.given in
    let tells = IsTrue g.D.Desk.tells in
    let file = bytes_of (g.D.Desk.files c.args.desk.now c.args.name.now) in
    let bound = bound_of p (choices_handed (option_copied c.args.plan)) in
    let i = c.lines.invariant in
    let said = c.in_err-verdict.ensures.turn bound c.args.strict file (file_kept tells file (g.D.Desk.files c.args.desk.now) (g.D.Desk.files c.lines.desk) c.args.name.now c.lines.reader.name (λ _. refl) i.files i.named) i.underway in
    subst (Concludes p bound c.args.strict tells file) (sym (error_is c.from_residual-in_err-verdict.result c.in_err-verdict.field-0.0 c.from_residual-in_err-verdict.ensures.1)) said

pub returns-in-Ends-clause-verdict : goal.returns-in-Ends-clause-verdict
returns-in-Ends-clause-verdict g c =
    let p = c.args.p.now.given in
    let tells = IsTrue g.D.Desk.tells in
    let file = bytes_of (g.D.Desk.files c.args.desk.now c.args.name.now) in
    let bound = bound_of p (choices_handed (option_copied c.args.plan)) in
    let i = c.lines.invariant in
    let said = c.in_ok-verdict.ensures.turn bound c.args.strict file (file_kept tells file (g.D.Desk.files c.args.desk.now) (g.D.Desk.files c.lines.desk) c.args.name.now c.lines.reader.name (λ _. refl) i.files i.named) i.underway in
    subst (λ t. TurnGives p bound c.args.strict tells file c.turn.new.reader.at c.turn.new.walk (Ok t)) c.in-Ends.is said

pub lines-preserved : goal.lines-preserved
lines-preserved g c =
    let p = c.args.p.now.given in
    let tells = IsTrue g.D.Desk.tells in
    let file = bytes_of (g.D.Desk.files c.args.desk.now c.args.name.now) in
    let bound = bound_of p (choices_handed (option_copied c.args.plan)) in
    let i = c.lines.invariant in
    let said = c.in_ok-verdict.ensures.turn bound c.args.strict file (file_kept tells file (g.D.Desk.files c.args.desk.now) (g.D.Desk.files c.lines.desk) c.args.name.now c.lines.reader.name (λ _. refl) i.files i.named) i.underway in
    record {
      underway = goes_on p bound c.args.strict tells file c.turn.new.reader.at c.turn.new.walk c.in_ok-verdict.field-0 c.in_default.not-Ends said;
      follow = c.turn.ensures.follow;
      stands = search rules;
      named = search rules;
      within = search rules;
      files = search rules;
      current = search rules;
      reads = search rules;
      writes = search rules;
    }
