-- What is added up is the load of the node.
use Rattle.profiles.proofs.Prelude.{◌≡◌, ℕ, ◌+◌, ◌<◌, Bool, true, false, ◌&&◌, nat_lt, cond, refl, sym, ap, ◌∙◌, slice_index_or, sum_to-same, Amount, base, comes_by, gain, hosted_in, Instance, IsProfile, IsShare, kept_use, load, machine_count, never, no_share, no_standing, one, ProfileView, Sets, Share, share_use, Standing, state_of, sum_to, sure, total_use}
use Rattle.standings.proofs.Public.{load_law}

-- a machine's share is what it surely has
share-is : (p : Instance) (n r v t : ℕ) (x : Share) (k : Standing) → IsShare p n r v x → kept_use p v (Amount r) n t k ≡ share_use n t x k
share-is p n r v t x k is = rw (is.base, is.gain) (by (hosted_in (state_of p v) (one n)) (nat_lt t k.leave))
  where
    by : (a b : Bool) → cond (a && b) (base p v (Amount r)) 0 + cond (comes_by n t k.come) (gain p v (Amount r) n) 0 ≡ cond b (cond a (base p v (Amount r)) 0) 0 + cond (comes_by n t k.come) (gain p v (Amount r) n) 0
    by true b = refl
    by false true = refl
    by false false = refl

pub total_is : (p : Instance) (s : Sets) (x : ProfileView) (t : ℕ) → t < never → IsProfile p s x → total_use x.node t x.shares x.table.top ≡ load p (sure p s t) x.resource (one x.node)
total_is p s x t h is =
    let here : load p (sure p s t) x.resource (one x.node) ≡ sum_to (machine_count p) (λ v. kept_use p v (Amount x.resource) x.node t (slice_index_or x.table.top v no_standing)) = load_law p s x.table.top x.resource x.node t h is.standing in
    let each : sum_to (machine_count p) (λ v. kept_use p v (Amount x.resource) x.node t (slice_index_or x.table.top v no_standing)) ≡ sum_to (machine_count p) (λ v. share_use x.node t (slice_index_or x.shares v no_share) (slice_index_or x.table.top v no_standing)) =
    sum_to-same (machine_count p) _ _ (λ v l. share-is p x.node x.resource v t (slice_index_or x.shares v no_share) (slice_index_or x.table.top v no_standing) (is.shares.each v l)) in
    sym (here ∙ each ∙ ap (λ m. sum_to m (λ v. share_use x.node t (slice_index_or x.shares v no_share) (slice_index_or x.table.top v no_standing))) (sym is.shares.count))
