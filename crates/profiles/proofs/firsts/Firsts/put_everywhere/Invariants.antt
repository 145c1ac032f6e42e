use Rattle.profiles.proofs.Prelude.{◌≡◌, AreFirsts, sets}
use Rattle.profiles.proofs.firsts.Firsts.put_everywhere.Given as goal

abbrev pub invariant-loop-i : goal.invariant-loop-i
invariant-loop-i l = record {
  older : l.self.older ≡ l.initial.self.older;
  right : AreFirsts l.p.given (sets l.g) l.self.top;
}
