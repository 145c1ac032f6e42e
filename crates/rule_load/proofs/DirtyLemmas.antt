-- Which loads are dirty.
use Rattle.rule_load.proofs.Prelude.{◌≡◌, ◌≢◌, ◌⊎◌, inl, inr, ℕ, ◌+◌, ◌<◌, Bool, true, false, List, length, refl, sym, subst, ◌∙◌, arith, false≢true, ne_eqb, Contains, AreFewer, AreSpared, CameBefore, Choice, comes_by, Element, has_come, hosted_in, Instance, IsDisturbed, IsStanding, IsStill, KeepsHost, Levels, load_scope, never, TheNode, node_count, NodeId, one, one_at, Sets, Standing, state_of, Vm, VmId, watch_at}
use Rattle.rule_load.proofs.StayLemmas.{host_still}
use Rattle.rule_load.proofs.StillLemmas.{machine_still, node_still}

pub weaker : (P Q : ℕ → Type 0) (m n : Levels) → ((k : ℕ) → P k → Q k) → AreSpared P m n → AreSpared Q m n
weaker P Q m n to s = record { older = s.older; count = s.count; kept = λ k h e. ((s.kept k h e).0, to k (s.kept k h e).1) }

pub both : (P Q : ℕ → Type 0) (m n o : Levels) → AreSpared P m n → AreSpared Q n o → AreSpared (λ k. P k × Q k) m o
both P Q m n o first second = record {
  older = second.older ∙ first.older;
  count = second.count ∙ first.count;
  kept = λ k h e.
      let later = second.kept k h e in
      let sooner = first.kept k (omega (arith, h, second.count)) later.0 in
      (sooner.0, (sooner.1, later.1));
}

-- where the host of a machine is dirty unless it keeps that, and the node that all its choices go to unless they did before
pub machine_spared : (p : Instance) (v : VmId) (old now : List Choice) (k : Standing) (m n o : Levels) → p.horizon < never → AreFewer now old → IsStanding p v.0 now k →
    AreSpared (λ i. (hosted_in (state_of p v.0) (one i) ≡ false) ⊎ KeepsHost p v.0 old now k.leave) m n → AreSpared (λ i. ((t : ℕ) → comes_by i t k.come ≡ false) ⊎ CameBefore old k.come) n o → AreSpared (λ i. IsStill p (load_scope (one i)) (Vm v) old now) m o
machine_spared p v old now k m n o short fewer is host come =
    weaker (λ i. ((hosted_in (state_of p v.0) (one i) ≡ false) ⊎ KeepsHost p v.0 old now k.leave) × (((t : ℕ) → comes_by i t k.come ≡ false) ⊎ CameBefore old k.come)) (λ i. IsStill p (load_scope (one i)) (Vm v) old now) m o
    (λ i x. still i x.0 x.1)
    (both (λ i. (hosted_in (state_of p v.0) (one i) ≡ false) ⊎ KeepsHost p v.0 old now k.leave) (λ i. ((t : ℕ) → comes_by i t k.come ≡ false) ⊎ CameBefore old k.come) m n o host come)
  where
    came : (i : ℕ) → ((t : ℕ) → comes_by i t k.come ≡ false) ⊎ CameBefore old k.come → (t : ℕ) → comes_by i t k.come ≡ true → (c : Choice) → Contains old c → has_come i t c ≡ true
    came i (inl none) t e c h = absurd (false≢true (sym (none t) ∙ e))
    came i (inr before) t e c h = before i t e c h

    still : (i : ℕ) → (hosted_in (state_of p v.0) (one i) ≡ false) ⊎ KeepsHost p v.0 old now k.leave → ((t : ℕ) → comes_by i t k.come ≡ false) ⊎ CameBefore old k.come → IsStill p (load_scope (one i)) (Vm v) old now
    still i (inl off) come = machine_still p v.0 i old now k short fewer is off (came i come)
    still i (inr keeps) come = by (hosted_in (state_of p v.0) (one i)) refl
      where
        by : (b : Bool) → hosted_in (state_of p v.0) (one i) ≡ b → IsStill p (load_scope (one i)) (Vm v) old now
        by true e = host_still p v.0 i old now k.leave short fewer is.leave keeps (keeps.away i e)
        by false e = machine_still p v.0 i old now k short fewer is e (came i come)

-- where nothing is dirty
pub all_spared : (P : ℕ → Type 0) (m : Levels) → ((i : ℕ) → P i) → AreSpared P m m
all_spared P m each = record { older = refl; count = refl; kept = λ k h e. (e, each k) }

-- where the host of a machine is dirty
pub host_spared : (on : ℕ → Bool) (h : ℕ) (m n : Levels) → ((k : ℕ) → on k ≡ one k h) → AreSpared (λ k. k ≢ h) m n → AreSpared (λ k. on k ≡ false) m n
host_spared on h m n is s = weaker (λ k. k ≢ h) (λ k. on k ≡ false) m n (λ k ne. is k ∙ ne_eqb h k (λ same. ne (sym same))) s

-- where a node is dirty
pub node_spared : (p : Instance) (x : NodeId) (old now : List Choice) (m n : Levels) → AreSpared (λ i. i ≢ x.0) m n → AreSpared (λ i. IsStill p (load_scope (one i)) (TheNode x) old now) m n
node_spared p x old now m n s = weaker (λ i. i ≢ x.0) (λ i. IsStill p (load_scope (one i)) (TheNode x) old now) m n (λ i ne. node_still p x.0 i old now ne) s

-- with all nodes together dirty, where the loads of single nodes that are not dirty are spared
pub disturbed : (p : Instance) (s : Sets) (x : Element) (old : List Choice) (m n o : Levels) → length m.top ≡ node_count p + 1 →
    AreSpared (λ k. k ≢ node_count p) m n → AreSpared (λ k. IsStill p (load_scope (one k)) x old (s x)) n o → IsDisturbed (watch_at p) p s x old m o
disturbed p s x old m n o count total single =
    let spared = both (λ k. k ≢ node_count p) (λ k. IsStill p (load_scope (one k)) x old (s x)) m n o total single in
    record {
      older = spared.older;
      count = spared.count;
      kept = λ k h e. (spared.kept k h e).0;
      still = λ k h e.
          let at = (spared.kept k h e).1 in
          let low : k < node_count p = omega (arith, at.0, h, spared.count, count) in
          inl (subst (λ set. IsStill p (load_scope set) x old (s x)) (sym (one_at p k low)) at.1);
    }
