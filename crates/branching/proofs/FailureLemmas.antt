-- The most failures among elements, one after another.
use Rattle.std.proofs.Common.{◌≡◌, ◌⊎◌, inl, inr, ℕ, ◌+◌, ◌<◌, ◌≤◌, sym, ap, ◌∙◌, subst, arith}
use Rattle.branching.specs.Prelude.{ComesBefore, Element, element_at, element_count, element_number, HasElement, HasMostFailures, Instance, Inventory, inventory_of, IsBetter, IsFirstUnfixed, IsListed, IsSized, IsUnfixed, Node, RegionView, Vm}
use Rattle.cluster.proofs.Public.{element_at-element_number, element_number-element_at, element_number-lt}

-- of the elements of the first so many numbers none has more, and none before the best one as many
pub record HasMostUpto (p : Instance) (failures : Element → ℕ) (g : RegionView) (x : ℕ) (best : Element) : Type 0 where
  pub is_open : IsUnfixed g best
  pub most : (e : Element) → IsUnfixed g e → element_number (inventory_of p) e < x → failures e ≤ failures best
  pub first : (e : Element) → IsUnfixed g e → ComesBefore e best → failures e < failures best

listed : (p : Instance) (g : RegionView) → IsSized p g → (e : Element) → HasElement g e → IsListed (inventory_of p) e
listed p g sized (Vm v) h = omega (arith, sized.machines, h)
listed p g sized (Node n) h = omega (arith, sized.nodes, h)

before_number : (k : Inventory) (y e : Element) → IsListed k y → ComesBefore y e → element_number k y < element_number k e
before_number k (Vm v) (Vm w) h b = b
before_number k (Vm v) (Node n) h b = omega (arith, h)
before_number k (Node m) (Vm w) h b = absurd b
before_number k (Node m) (Node n) h b = omega (arith, b)

pub most_start : (p : Instance) (failures : Element → ℕ) (g : RegionView) (x : Element) → IsFirstUnfixed g x → HasMostUpto p failures g 0 x
most_start p failures g x is = record {
  is_open = record { there = is.there; unfixed = is.unfixed };
  most = λ e unfixed low. absurd (omega (arith, low));
  first = λ e unfixed before. absurd (unfixed.unfixed (is.before e unfixed.there before));
}

-- the element of the next number
here_is : (p : Instance) (g : RegionView) → IsSized p g → (x : ℕ) (y e : Element) → e ≡ element_at (inventory_of p) x → HasElement g y → element_number (inventory_of p) y ≡ x → y ≡ e
here_is p g sized x y e is there at = sym (element_at-element_number (inventory_of p) y (listed p g sized y there)) ∙ ap (element_at (inventory_of p)) at ∙ sym is

pub most_step : (p : Instance) (failures : Element → ℕ) (g : RegionView) → IsSized p g → (x : ℕ) (best e result : Element) → x < element_count (inventory_of p) → e ≡ element_at (inventory_of p) x → HasMostUpto p failures g x best → IsBetter failures g best e result → HasMostUpto p failures g (x + 1) result
most_step p failures g sized x best e result low is upto (inl (same, unfixed, more)) = rw same (record {
  is_open = unfixed;
  most = λ y unfixed below. up_to y unfixed (grind arith);
  first = λ y unfixed before.
      let l = before_number (inventory_of p) y e (listed p g sized y unfixed.there) before in
      let at : element_number (inventory_of p) e ≡ x = ap (element_number (inventory_of p)) is ∙ element_number-element_at (inventory_of p) x low in
      omega (arith, more, upto.most y unfixed (omega (arith, l, at)));
})
  where
    up_to : (y : Element) → IsUnfixed g y → (element_number (inventory_of p) y ≡ x) ⊎ (element_number (inventory_of p) y < x) → failures y ≤ failures e
    up_to y unfixed (inl at) = let q : failures y ≡ failures e = ap failures (here_is p g sized x y e is unfixed.there at) in omega (arith, q)
    up_to y unfixed (inr below) = omega (arith, more, upto.most y unfixed below)
most_step p failures g sized x best e result low is upto (inr (same, no_more)) = rw same (record {
  is_open = upto.is_open;
  most = λ y unfixed below. up_to y unfixed (grind arith);
  first = upto.first;
})
  where
    up_to : (y : Element) → IsUnfixed g y → (element_number (inventory_of p) y ≡ x) ⊎ (element_number (inventory_of p) y < x) → failures y ≤ failures best
    up_to y unfixed (inl at) =
        let q : y ≡ e = here_is p g sized x y e is unfixed.there at in
        let f : failures y ≡ failures e = ap failures q in
        omega (arith, f, no_more (subst (IsUnfixed g) q unfixed))
    up_to y unfixed (inr below) = upto.most y unfixed below

pub most_done : (p : Instance) (failures : Element → ℕ) (g : RegionView) → IsSized p g → (best : Element) → HasMostUpto p failures g (element_count (inventory_of p)) best → HasMostFailures failures g best
most_done p failures g sized best upto = record {
  is_open = upto.is_open;
  most = λ e unfixed. upto.most e unfixed (element_number-lt (inventory_of p) e (listed p g sized e unfixed.there));
  first = upto.first;
}
