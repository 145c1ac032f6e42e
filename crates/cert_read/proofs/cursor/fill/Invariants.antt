use Rattle.base.proofs.Public.{◌≡◌, ◌+◌, ◌-◌, ◌<◌, ◌≤◌, length, take, drop, StartsWith, ◌^◌, IsTrue}
use Rattle.cert_read.specs.Prelude.{bytes_before_newline, bytes_of, max_held}
use Rattle.cert_read.proofs.cursor.fill.Given as goal

abbrev pub invariant-pieces : goal.invariant-pieces
invariant-pieces g l = record {
  looked : l.clean ≤ length l.held;
  clean : bytes_before_newline (take l.clean l.held) ≡ l.clean;
  few : length l.held ≤ max_held;
  prefix : StartsWith l.held l.fn.held;
  within : l.at.place + length l.held < 2 ^ 64;
  stands : IsTrue g.D.Desk.tells → StartsWith (drop l.at.place (bytes_of (g.D.Desk.files l.fn.desk l.name))) l.fn.held → StartsWith (drop l.at.place (bytes_of (g.D.Desk.files l.fn.desk l.name))) l.held;
  files : IsTrue g.D.Desk.tells → g.D.Desk.files l.desk ≡ g.D.Desk.files l.fn.desk;
  current : g.D.Desk.current l.desk ≡ g.D.Desk.current l.fn.desk;
  reads : g.D.Desk.read_faults l.desk ≡ g.D.Desk.read_faults l.fn.desk;
  writes : g.D.Desk.write_faults l.desk ≡ g.D.Desk.write_faults l.fn.desk;
}

abbrev pub decreases-pieces : goal.decreases-pieces
decreases-pieces g l = 65_537 - length l.held
