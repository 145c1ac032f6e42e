use Rattle.profiles.proofs.Prelude.{◌≡◌, ℕ, ◌<◌, AreMachines, IsListedOrStays, sets}
use Rattle.profiles.proofs.movers.Movers.put_all.Given as goal

abbrev pub invariant-loop-i : goal.invariant-loop-i
invariant-loop-i l = record {
  older : l.self.older ≡ l.initial.self.older;
  machines : AreMachines l.p.given l.self.top;
  told : (v : ℕ) → v < l.i → IsListedOrStays (sets l.g) v l.self.top;
}
