-- How long a machine that may stay is on its host.
use Rattle.standings.proofs.Prelude.{◌≡◌, ℕ, ◌+◌, ◌<◌, Bool, true, false, ◌&&◌, ◌==◌, nat_lt, cond, None, [], refl, sym, ◌∙◌, Decides-eqb, choices, DomainView, Instance, IsStanding, kept_use, least, leave_of, never, NodeId, one, Presence, Sets, Standing, state_of, sure, vm, Running}
use Rattle.standings.proofs.LawLemmas.{present_law}

-- one that may stay has not come elsewhere
idle_standing : (p : Instance) (v : ℕ) (d : DomainView) (k : Standing) → d.idle ≡ true → k.leave ≡ least (leave_of p v) (choices d) → k.come ≡ None → IsStanding p v (choices d) k
idle_standing p v d k idle leave come = record { leave = leave; come = λ n t. rw (come, idle) refl }

some-choice : (d : DomainView) → d.idle ≡ true → choices d ≡ [] → ⊥
some-choice d idle e = let some = rw idle at e in cc

-- what it has there counts for one until then
counted : (b : Bool) → nat_lt 0 (cond (true && b) 1 0 + 0) ≡ b
counted true = refl
counted false = refl

-- one that may stay is on the node on which it runs until it leaves
pub stays_there : (p : Instance) (s : Sets) (v : ℕ) (n : NodeId) (t : ℕ) (d : DomainView) (leave : ℕ) → t < never → d.idle ≡ true → state_of p v ≡ Running n → s (vm v) ≡ choices d → leave ≡ least (leave_of p v) (choices d) → nat_lt t leave ≡ (sure p s t).present v (one n.0)
unfolding sure
stays_there p s v n t d leave short idle runs same is =
    let k : Standing = record { leave = leave; come = None } in
    let there : (n.0 == n.0) ≡ true = (Decides-eqb n.0 n.0).1 refl in
    let count : nat_lt 0 (kept_use p v Presence n.0 t k) ≡ nat_lt t leave = rw (runs, there) (counted (nat_lt t leave)) in
    rw same (sym (present_law p v n.0 t (choices d) k short (some-choice d idle) (idle_standing p v d k idle is refl) ∙ count))
