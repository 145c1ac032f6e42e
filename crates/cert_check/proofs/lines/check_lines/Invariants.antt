use Rattle.cert_check.proofs.Prelude.{◌^◌, IsTrue, ◌≡◌, ◌<◌, ◌-◌, option_copied, bound_of, bytes_of, choices_handed, FollowWalk, IsUnderway, StandsIn}
use Rattle.cert_check.proofs.lines.check_lines.Given as goal

abbrev pub invariant-lines : goal.invariant-lines
invariant-lines g l = record {
  underway : IsUnderway l.p.given (bound_of l.p.given (choices_handed (option_copied l.plan))) l.strict (IsTrue g.D.Desk.tells) (bytes_of (g.D.Desk.files l.fn.desk l.name)) l.reader.at l.walk;
  follow : FollowWalk (λ b. (goal.Propagator-dyn g (b.vtable, b.value)).meaning b.value) l.p.given l.walk l.rules.items;
  stands : IsTrue g.D.Desk.tells → StandsIn (bytes_of (g.D.Desk.files l.desk l.name)) l.reader;
  named : l.reader.name ≡ l.name;
  within : l.reader.at.place < 2 ^ 64;
  files : IsTrue g.D.Desk.tells → g.D.Desk.files l.desk ≡ g.D.Desk.files l.fn.desk;
  current : g.D.Desk.current l.desk ≡ g.D.Desk.current l.fn.desk;
  reads : g.D.Desk.read_faults l.desk ≡ g.D.Desk.read_faults l.fn.desk;
  writes : g.D.Desk.write_faults l.desk ≡ g.D.Desk.write_faults l.fn.desk;
}

abbrev pub decreases-lines : goal.decreases-lines
decreases-lines g l = 2 ^ 64 - l.reader.at.place
