-- Hosts, and the most that is used, by lists.
use Rattle.profiles.proofs.Prelude.{Vec, ◌≡◌, inl, inr, ℕ, ◌+◌, ◌<◌, Bool, List, [], ◌∷◌, ◌++◌, Option, Some, None, get_or, sym, ap, subst, ◌∙◌, arith, IsNonDecreasingBy, IsPermutation, cases_eq, get_or-map, length-append, length-map, map-append, All-push, All-weaker, Contains-append_left, Contains-push, All-permutation, Contains-permutation, AreHosts, AreMostUses, AreOrders, AreTotalBases, AreUses, hosted_in, HostIs, Instance, IsMostUse, IsOrder, IsTotalBase, lists_of, machine_count, most_use, MostUse, NodeId, one, state_of}
use Rattle.standings.proofs.Public.{each_push}
use Rattle.base.proofs.Public.{Global}

-- both tell whether the node is the host
pub host_tells : (h : Option NodeId) (n : ℕ) (a b : Bool) → HostIs h n a → HostIs h n b → a ≡ b
host_tells None n a b first second = first ∙ sym second
host_tells (Some m) n a b first second = first ∙ sym second

pub hosts_push : (p : Instance) (n : ℕ) (xs : List (Option NodeId)) (x : Option NodeId) → AreHosts p n xs → ((k : ℕ) → HostIs x k (hosted_in (state_of p n) (one k))) → AreHosts p (n + 1) (xs ++ x ∷ [])
hosts_push p n xs x hosts is = record {
  count = omega (arith, length-append xs (x ∷ []), hosts.count);
  each = each_push (λ v h. (k : ℕ) → HostIs h k (hosted_in (state_of p v) (one k))) None n xs x hosts.count hosts.each is;
}

pub uses_push : (p : Instance) (n : ℕ) (xs : List ℕ) (x : ℕ) → AreMostUses p n xs → IsMostUse p n (machine_count p) x → AreMostUses p (n + 1) (xs ++ x ∷ [])
uses_push p n xs x uses is = record {
  count = omega (arith, length-append xs (x ∷ []), uses.count);
  each = each_push (λ r m. IsMostUse p r (machine_count p) m) 0 n xs x uses.count uses.each is;
}

pub bases_push : (p : Instance) (n : ℕ) (xs : List ℕ) (x : ℕ) → AreTotalBases p n xs → IsTotalBase p n x → AreTotalBases p (n + 1) (xs ++ x ∷ [])
bases_push p n xs x bases is = record {
  count = omega (arith, length-append xs (x ∷ []), bases.count);
  each = each_push (λ r m. IsTotalBase p r m) 0 n xs x bases.count bases.each is;
}

-- ---- the machines by what they use at the most

pub uses_next : (p : Instance) (r n : ℕ) (xs : List MostUse) → AreUses p r n xs → AreUses p r (n + 1) (xs ++ most_use p r n ∷ [])
uses_next p r n xs uses = record {
  each = λ v h. elim (cases_eq v n) [ inl same ↦ rw same (Contains-push xs (most_use p r n)) | inr other ↦ Contains-append_left xs (most_use p r n ∷ []) (most_use p r v) (uses.each v (omega (arith, h, other))) ];
  machines = All-push (λ (x : MostUse). x.machine.0 < n + 1) xs (most_use p r n) (All-weaker (λ (x : MostUse). x.machine.0 < n) (λ (x : MostUse). x.machine.0 < n + 1) (λ x h. omega (arith, h)) xs uses.machines) (omega arith);
}

-- in another order
pub uses_ordered : (p : Instance) (r : ℕ) (xs ys : List MostUse) → AreUses p r (machine_count p) xs → IsPermutation xs ys → IsNonDecreasingBy (λ (x : MostUse). x.most) ys → IsOrder p r ys
uses_ordered p r xs ys uses moved climbs = record {
  uses = record {
    each = λ v h. Contains-permutation xs ys (most_use p r v) moved (uses.each v h);
    machines = All-permutation (λ (x : MostUse). x.machine.0 < machine_count p) xs ys moved uses.machines;
  };
  climbs = climbs;
}

pub orders_push : (p : Instance) (n : ℕ) (xs : List (Vec MostUse Global)) (x : Vec MostUse Global) → AreOrders p n (lists_of xs) → IsOrder p n x.items → AreOrders p (n + 1) (lists_of (xs ++ x ∷ []))
orders_push p n xs x orders is = rw (map-append (λ (x : Vec MostUse Global). x.items) xs (x ∷ [])) (record {
  count = omega (arith, length-append (lists_of xs) (x.items ∷ []), orders.count);
  each = each_push (λ r o. IsOrder p r o) [] n (lists_of xs) x.items orders.count orders.each is;
})

pub order_at : (p : Instance) (n r : ℕ) (xs : List (Vec MostUse Global)) (x : Vec MostUse Global) → r < n → AreOrders p n (lists_of xs) → get_or xs r x ≡ x → IsOrder p r x.items
order_at p n r xs x low orders is =
    subst (λ o. IsOrder p r o) (get_or-map (λ (x : Vec MostUse Global). x.items) xs r x [] (omega (arith, low, orders.count, length-map xs (λ (x : Vec MostUse Global). x.items))) ∙ ap (λ (x : Vec MostUse Global). x.items) is) (orders.each r low)
