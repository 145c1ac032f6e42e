-- What it means that groups split a problem.
use Rattle.base.proofs.Public.{◌≡◌, inl, inr, ℕ, ◌<◌, ◌&&◌, Bool, List, length, Option, if◌then◌else◌, unwrap_or, cases_Bool, None, Some, is_none, option_map, option_or, false, true, refl, arith, sym, ap, ◌∙◌}
use Rattle.cluster.specs.declared.sets.NodeSet.{NodeSet}
use Rattle.cluster.specs.declared.ids.NodeId.{NodeId}
use Rattle.cluster.specs.States.{host_of}
use Rattle.catalogue.specs.Prelude.{Instance, is_member}
use Rattle.slices.specs.Actions.{wanted_state}
use Rattle.slices.specs.Elements.{node_count, state_of}
use Rattle.slices.specs.Forms.{Form, Apart, Allowed, Together, Ordered, InTurn, Bounded, Powered, Settled, Outside, Within, OnHost, form_of}
use Rattle.parts.specs.Groups.{group_by, has_some, in_group, is_inside, is_to_run, machine_group, node_group, only_group, tie, tied_group}
use Rattle.parts.specs.Laws.{PartEmbeds, Split}
use Rattle.parts.specs.Splits.{first_free, first_spanning, first_uncovered, split_fault}
use Rattle.parts.specs.declared.fault.SplitFault.{SplitFault}
use Rattle.parts.specs.declared.fault.SplitFault.TheVariants.{Uncovered, Free, Spans}
use Rattle.parts.proofs.EmbedLemmas.{AreCovered, embeds}
use Rattle.parts.proofs.FindLemmas.{finds, first_given, found}

-- no fault of any kind
pub record IsFaultless (p : Instance) (groups : List NodeSet) : Type 0 where
  pub uncovered : first_uncovered p groups ≡ None
  pub free : first_free p groups ≡ None
  pub spanning : first_spanning p groups ≡ None

faultless : (p : Instance) (groups : List NodeSet) → split_fault p groups ≡ None → IsFaultless p groups
unfolding split_fault
faultless p groups none = by (first_uncovered p groups) (first_free p groups) (first_spanning p groups) refl refl refl none
  where
    clash : (f : SplitFault) → Some f ≡ None → ⊥
    clash f e = cc e

    by : (a b c : Option ℕ) → first_uncovered p groups ≡ a → first_free p groups ≡ b → first_spanning p groups ≡ c →
        option_or (option_map (λ n. Uncovered (record { 0 = n })) a) (option_or (option_map (λ v. Free (record { 0 = v })) b) (option_map Spans c)) ≡ None → IsFaultless p groups
    by (Some n) b c ea eb ec e = absurd (clash _ e)
    by None (Some v) c ea eb ec e = absurd (clash _ e)
    by None None (Some x) ea eb ec e = absurd (clash _ e)
    by None None None ea eb ec e = record { uncovered = ea; free = eb; spanning = ec }

pub whole : (p : Instance) (groups : List NodeSet) → Split p groups → IsFaultless p groups
whole p groups split = faultless p groups split.faultless

pub covered : (p : Instance) (groups : List NodeSet) → Split p groups → AreCovered p groups
covered p groups split n l = by (node_group groups n) refl
  where
    clash : (j : ℕ) → Some j ≡ None → ⊥
    clash j e = cc e

    by : (o : Option ℕ) → node_group groups n ≡ o → (j : ℕ) × (node_group groups n ≡ Some j)
    by (Some j) e = (j, e)
    by None e =
        let w = finds (λ m. is_none (node_group groups m)) 0 (node_count p) n (record { passes = ap is_none e; low = omega arith; high = omega (arith, l) }) in
        absurd (clash w.0 (sym w.1 ∙ (whole p groups split).uncovered))

-- the group of a machine is one of the groups
pub group_in : (p : Instance) (groups : List NodeSet) → Split p groups → (v : ℕ) → machine_group p groups v < length groups
unfolding machine_group
group_in p groups split v = by_host (host_of (state_of p v))
  where
    by_group : (n : ℕ) (o : Option ℕ) → node_group groups n ≡ o → unwrap_or o 0 < length groups
    by_group n None e = split.are_groups.some
    by_group n (Some i) e = omega (arith, (found (λ i. in_group groups i n) 0 (length groups) i e).high)

    tie_in : (f : Form) (j : ℕ) → tie p groups v f ≡ Some j → j < length groups
    tie_in (Allowed vs (Within ns)) j e =
        elim (cases_Bool (is_member vs v)) [
          | inl member ↦ let one : only_group p groups ns ≡ Some j = rw member at e in omega (arith, (found (λ i. has_some p groups i ns && is_inside p groups i ns) 0 (length groups) j one).high)
          | inr other ↦ let none : None ≡ Some j = rw other at e in absurd (clash j none)
        ]
      where
        clash : (j : ℕ) → None ≡ Some j → ⊥
        clash j x = cc x
    tie_in (Allowed vs (Outside ns)) j e = absurd (cc e)
    tie_in (Allowed vs OnHost) j e = absurd (cc e)
    tie_in (Apart separation) j e = absurd (cc e)
    tie_in (Together vs choices) j e = absurd (cc e)
    tie_in (Ordered before after) j e = absurd (cc e)
    tie_in (InTurn vs) j e = absurd (cc e)
    tie_in (Bounded weight ns amount) j e = absurd (cc e)
    tie_in (Powered ns amount) j e = absurd (cc e)
    tie_in Settled j e = absurd (cc e)

    by_tie : (o : Option ℕ) → tied_group p groups v ≡ o → unwrap_or o 0 < length groups
    by_tie None e = split.are_groups.some
    by_tie (Some j) e = let w = first_given (λ c. tie p groups v (form_of c)) p.constraints j e in tie_in (form_of w.item) j w.gives

    by_wish : (b : Bool) → (if b then unwrap_or (tied_group p groups v) 0 else 0) < length groups
    by_wish true = by_tie (tied_group p groups v) refl
    by_wish false = split.are_groups.some

    by_host : (o : Option NodeId) → group_by p groups v o < length groups
    by_host (Some h) = by_group h.0 (node_group groups h.0) refl
    by_host None = by_wish (is_to_run (wanted_state p v))

pub part_embeds : PartEmbeds
part_embeds p groups split i = embeds p groups i split.sound split.are_groups (covered p groups split)
