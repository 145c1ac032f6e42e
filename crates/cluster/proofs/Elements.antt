-- Elements and their numbers.
use Rattle.base.proofs.Public.{◌≡◌, ℕ, ◌+◌, ◌-◌, ◌<◌, ◌≤◌, Bool, true, false, length, nat_lt, arith, refl, ap, common_steps, if◌then◌else◌}
use Rattle.cluster.specs.Prelude.{Element, element_at, element_count, element_number, Inventory, IsListed, Node as NodeElement, Vm}

-- the number of a listed element is below the count
pub element_number-lt : (k : Inventory) (e : Element) → IsListed k e → element_number k e < element_count k
element_number-lt k (Vm v) lt = omega (arith, lt)
element_number-lt k (NodeElement n) lt = omega (arith, lt)

-- and its element is that element
pub element_at-element_number : (k : Inventory) (e : Element) → IsListed k e → element_at k (element_number k e) ≡ e
element_at-element_number k (Vm v) lt =
    let test : nat_lt v.0 (length k.machines) ≡ true = grind (arith, common_steps) in
    rw test refl
element_at-element_number k (NodeElement n) lt =
    let test : nat_lt (length k.machines + n.0) (length k.machines) ≡ false = grind (arith, common_steps) in
    let place : length k.machines + n.0 - length k.machines ≡ n.0 = omega arith in
    rw test (ap (λ x. NodeElement (record { 0 = x })) place)

module _ (k : Inventory) (x : ℕ) (lt : x < element_count k) where
  -- the element of a number is listed
  pub IsListed-element_at : IsListed k (element_at k x)
  IsListed-element_at = by (nat_lt x (length k.machines)) refl
    where
      by : (b : Bool) → nat_lt x (length k.machines) ≡ b → IsListed k (if b then Vm (record { 0 = x }) else NodeElement (record { 0 = x - length k.machines }))
      by true below = grind (arith, common_steps)
      by false above = let from : length k.machines ≤ x = grind (arith, common_steps) in omega (arith, lt)

  -- and that is its number
  pub element_number-element_at : element_number k (element_at k x) ≡ x
  element_number-element_at = by (nat_lt x (length k.machines)) refl
    where
      by : (b : Bool) → nat_lt x (length k.machines) ≡ b → element_number k (if b then Vm (record { 0 = x }) else NodeElement (record { 0 = x - length k.machines })) ≡ x
      by true below = refl
      by false above = let from : length k.machines ≤ x = grind (arith, common_steps) in omega arith
