-- What telling leaves clean.
use Rattle.rule_frame.proofs.Prelude.{inl, inr, ℕ, List, arith, AreClean, Choice, Element, Instance, IsDisturbed, IsElement, IsKept, IsLocal, Levels, Sets, Watch, putting}
use Rattle.rule_frame.proofs.ChangeLemmas.{still_clean}

-- what is not dirty was clean before the change, and the change does not weigh on it
pub told_kept : (watch : ℕ → Watch) (p : Instance) (s : Sets) (x : Element) (old : List Choice) (m n : Levels) → ((i : ℕ) → IsLocal (watch i)) → IsElement p x → IsDisturbed watch p s x old m n → AreClean watch p (putting x old s) m.top → IsKept watch p s m n
told_kept watch p s x old m n local element d clean = record {
  older = d.older;
  count = d.count;
  clean = record {
    clean = λ i h e.
        let before = clean.clean i (omega (arith, h, d.count)) (d.kept i h e) in
        elim (d.still i h e) [ inl still ↦ still_clean (watch i) p s x old (local i) element still before | inr stays ↦ stays before ];
  };
}
