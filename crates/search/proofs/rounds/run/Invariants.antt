use Rattle.std.proofs.Common.{◌≡◌, [], ◌∷◌, reverse, ◌+◌, ◌-◌, ◌*◌, vec_len}
use Rattle.search.specs.Prelude.{AllFollow, ArePaired, bytes_of, Goes, HaveChoices, IsGround, IsKept, open_sets, Pairs, SameCover, sets}
use Rattle.search.proofs.rounds.run.Given as goal

abbrev pub invariant-rounds : goal.invariant-rounds
invariant-rounds g l = record {
  paired : ArePaired l.p.given l.ground.trail.marks (reverse l.splits.items);
  name : l.out ≡ l.fn.out;
  kept : IsKept g.D.Desk.tells l.fn.out (g.D.Desk.files l.fn.desk) (g.D.Desk.files l.desk) (g.D.Desk.current l.fn.desk) (g.D.Desk.current l.desk) (g.D.Desk.read_faults l.fn.desk) (g.D.Desk.read_faults l.desk);
  faults : g.D.Desk.write_faults l.desk ≡ g.D.Desk.write_faults l.fn.desk;
  covers : Pairs (λ b. (goal.Propagator-dyn g (b.vtable, b.value)).meaning b.value) SameCover l.fn.rules.items l.rules.items;
  follow : AllFollow (λ b. (goal.Propagator-dyn g (b.vtable, b.value)).meaning b.value) l.p.given l.ground.trail l.rules.items;
  ground : IsGround l.p.given l.ground;
  some : HaveChoices l.p.given (sets l.ground.trail.region);
  goes : Goes (λ b. (goal.Propagator-dyn g (b.vtable, b.value)).meaning b.value) l.p.given l.budget g.D.Desk.tells l.fn.progress l.progress (bytes_of (g.D.Desk.files l.fn.desk l.fn.out)) (bytes_of (g.D.Desk.files l.desk l.fn.out)) l.fn.rules.items l.rules.items (sets l.fn.ground.trail.region ∷ []) (open_sets l.ground.trail l.splits.items);
}

abbrev pub decreases-rounds : goal.decreases-rounds
decreases-rounds g l = 2 * (l.budget - l.progress.spent) + vec_len l.splits
