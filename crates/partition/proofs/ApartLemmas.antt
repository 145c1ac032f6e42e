-- Groups that share no node, one more at a time.
use Rattle.std.proofs.Common.{IsTrue}
use Rattle.std.proofs.lemmas.List.{get_or_push}
use Rattle.base.proofs.Public.{◌≡◌, inl, inr, ◌⊎◌, ℕ, ◌<◌, Bool, true, false, ◌||◌, ◌==◌, List, [], ◌∷◌, ◌++◌, length, sym, ap, subst, ◌∙◌, arith, cases_eq, cases_lt, false≢true, get_or_append_left, get_or_past, length-append, list_any, list_any_at, ne_eqb}
use Rattle.cluster.specs.declared.sets.NodeSet.{NodeSet}
use Rattle.cluster.proofs.Public.{has_node-no_nodes, has_node-with_node}
use Rattle.catalogue.specs.Prelude.{has_node, Instance, max_nodes, no_nodes, with_node}
use Rattle.parts.specs.Groups.{AreGroups, in_group}
use Rattle.partition.specs.GroupsText.{AreApart, IsNew}

pub new_none : (count : ℕ) (groups : List NodeSet) → IsNew count groups no_nodes
new_none count groups n has = absurd (false≢true (sym (has_node-no_nodes n) ∙ has))

pub new_with : (count : ℕ) (groups : List NodeSet) (group : NodeSet) (n : ℕ) → n < max_nodes → n < count → (has_node group n || list_any (λ other. has_node other n) groups) ≡ false → IsNew count groups group → IsNew count groups (with_node group n)
new_with count groups group n small below fresh old m has = by (has_node-with_node group n m small)
  where
    second : (a b : Bool) → (a || b) ≡ false → b ≡ false
    second false b e = e
    second true b e = absurd (false≢true (sym e))

    by : has_node (with_node group n) m ≡ ((m == n) || has_node group m) → (m < count) × (list_any (λ other. has_node other m) groups ≡ false)
    by is = elim (cases_eq m n) [
      | inl same ↦ (subst (λ (x : ℕ). x < count) (sym same) below, subst (λ (x : ℕ). list_any (λ other. has_node other x) groups ≡ false) (sym same) (second (has_node group n) _ fresh))
      | inr other ↦ old m (sym (ap (λ (b : Bool). b || has_node group m) (ne_eqb m n other)) ∙ sym is ∙ has)
    ]

no_group_in : (i n : ℕ) → IsTrue (in_group [] i n) → ⊥
no_group_in i n has = false≢true (sym (has_node-no_nodes n) ∙ has)

pub apart_none : (count : ℕ) → AreApart count []
apart_none count = record {
  listed = λ i n has. absurd (no_group_in i n has);
  apart = λ i j n has_i has_j. absurd (no_group_in i n has_i);
}

module _ (count : ℕ) (groups : List NodeSet) (group : NodeSet) (old : AreApart count groups) (new : IsNew count groups group) where
  -- a group is one of those before, or it is the last
  which : (i n : ℕ) → IsTrue (in_group (groups ++ group ∷ []) i n) → IsTrue (in_group groups i n) × (i < length groups) ⊎ (i ≡ length groups) × IsTrue (has_node group n)
  which i n has =
      elim (cases_lt i (length groups)) [
        | inl low ↦ inl (ap (λ (s : NodeSet). has_node s n) (sym (get_or_append_left groups (group ∷ []) no_nodes i low)) ∙ has, low)
        | inr high ↦ elim (cases_eq i (length groups)) [
          | inl last ↦ inr (last, ap (λ (s : NodeSet). has_node s n) (sym (get_or_push groups group no_nodes i (sym last))) ∙ has)
          | inr past ↦ absurd (false≢true (sym (has_node-no_nodes n) ∙ ap (λ (s : NodeSet). has_node s n) (sym (get_or_past (groups ++ group ∷ []) i no_nodes (omega (arith, high, past, length-append groups (group ∷ []))))) ∙ has))
        ]
      ]

  -- a node of the last is in none before
  not_both : (i n : ℕ) → IsTrue (in_group groups i n) → i < length groups → IsTrue (has_node group n) → ⊥
  not_both i n before l last = false≢true (sym (new n last).1 ∙ list_any_at (λ (other : NodeSet). has_node other n) groups i no_nodes l before)

  pub apart_more : AreApart count (groups ++ group ∷ [])
  apart_more = record {
    listed = λ i n has. elim (which i n has) [ inl before ↦ old.listed i n before.0 | inr last ↦ (new n last.1).0 ];
    apart = λ i j n has_i has_j.
        elim (which i n has_i) [
          | inl before_i ↦ elim (which j n has_j) [
            | inl before_j ↦ old.apart i j n before_i.0 before_j.0
            | inr last_j ↦ absurd (not_both i n before_i.0 before_i.1 last_j.1)
          ]
          | inr last_i ↦ elim (which j n has_j) [
            | inl before_j ↦ absurd (not_both j n before_j.0 before_j.1 last_i.1)
            | inr last_j ↦ last_i.0 ∙ sym last_j.0
          ]
        ];
  }

pub are_groups : (p : Instance) (groups : List NodeSet) → 0 < length groups → AreApart (length p.nodes) groups → AreGroups p groups
are_groups p groups some h = record { some = some; listed = h.listed; apart = h.apart }
