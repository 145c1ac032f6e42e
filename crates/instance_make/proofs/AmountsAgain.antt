-- Printed amounts and durations are read again.
use Rattle.std.proofs.Common.{map, slice_index_or, option_map, codes, if◌then◌else◌}
use Rattle.base.proofs.Public.{◌≡◌, ℕ, ◌+◌, ◌-◌, ◌<◌, ◌≤◌, ◌==◌, ◌&&◌, ◌||◌, Bool, true, false, not, List, [], ◌∷◌, length, take, drop, replicate, get_or, slice_index, nat_le, Option, Some, None, is_some, is_none, unwrap_or, Ok, refl, sym, ap, ◌∙◌, arith, ⊎_elim, common_steps, and_parts, cases_lt, ltb-false, leb-false, get_or_default, get_or-map, get_or-take, get_or-drop, length-take, length-drop, length-map, take-append-drop, take_all, list_any_at, get_or-range_with_len, length-range_with_len, bytes_eq-Decides, list_all, list_any, range_with_len, bytes_eq, item_passes, all_pass}
use Rattle.instance_make.specs.Prelude.{Allocate, amounts_data, amounts_fit, amounts_from, are_distinct, base_durations, Boot, Duration, duration_by_kind, duration_data, duration_fits, duration_from, duration_of_kind, durations_data, durations_from, Field, field_of, Forge, given_duration, has_kind, Inventory, is_kind_key, is_name, IsInventory, key_path, keys_of, Kill, Kind, kind_count, kind_number, kind_word, kind_words, kinds, listed_resource, machine_kind_count, machine_own_fits, max_amount, max_duration, max_resources, members_by, Migrate, no_durations, node_own_fits, NodeBoot, NodeShutdown, number_field_of, number_of, object_of, one_instant, only_of, optional, optional_number, own_data, own_durations, own_fits, resource_amounts, Resume, Shutdown, Suspend, unit_from, Walk}
use Rattle.serde_json.specs.Data.{Data, string, number, unsigned}
use Rattle.serde_json.specs.Find.{get, get_member}
use Rattle.cluster.proofs.Public.{IsDuration-fits, kind_number-lt, resource_named-listed}
use Rattle.instance_json.proofs.Public.{DurationOwner, of_machine, of_node, of_either, map_walk-items, name_from-name}
use Rattle.instance_make.proofs.Making.{list_all_of, all_none}
use Rattle.instance_make.proofs.Putting.{found_by, keys_by, names_to, amounts_to}

pub from_zero : (a most : ℕ) → a ≤ most → (nat_le 0 a && nat_le a most) ≡ true
from_zero a most le = grind (arith, common_steps)

-- ---- amounts

zeros : (xs : List ℕ) → list_all (λ a. a == 0) xs ≡ true → xs ≡ replicate (length xs) 0
zeros [] all = refl
zeros (x ∷ xs) all =
    let here : x ≡ 0 = grind (arith, common_steps) in
    let rest : xs ≡ replicate (length xs) 0 = zeros xs (and_parts (x == 0) _ all).1 in
    rw (here, ← rest) refl

module _ (k : Inventory) (sound : IsInventory k) (amounts : List ℕ) (long : length amounts ≡ max_resources) (fit : amounts_fit (length k.resources) amounts ≡ true) where
  names_again : map (λ r. slice_index_or k.resources r []) (range_with_len 0 (length k.resources)) ≡ k.resources
  names_again = names_to k.resources (length k.resources) (omega arith) ∙ take_all (length k.resources) k.resources (omega arith)

  amount_found : (i : ℕ) → i < length k.resources
      → get_member (slice_index_or k.resources i []) (amounts_to k.resources amounts (length k.resources))
      ≡ Some (number (unsigned (slice_index amounts i)))
  amount_found i lt =
      let place : get_or (range_with_len 0 (length k.resources)) i 0 ≡ i = get_or-range_with_len 0 (length k.resources) i 0 lt ∙ omega arith in
      let distinct : are_distinct (map (λ r. slice_index_or k.resources r []) (range_with_len 0 (length k.resources))) ≡ true = ap are_distinct names_again ∙ sound.apart_resources in
      rw place at (found_by (λ r. slice_index_or k.resources r []) (λ r. Some (number (unsigned (slice_index amounts r)))) (range_with_len 0 (length k.resources)) i 0 distinct (omega (arith, lt, length-range_with_len 0 (length k.resources))))

  small_at : (i : ℕ) → slice_index amounts i ≤ max_amount
  small_at i =
      let small = item_passes (λ a. nat_le a max_amount) 0 refl amounts i (and_parts _ (list_all (λ a. a == 0) (drop (length k.resources) amounts)) fit).0 in
      grind (arith, common_steps)

  amount_again : (path : List ℕ) (i : ℕ) (x : List ℕ) (y : ℕ) → i < length k.resources
      → optional_number Field max_amount (amounts_data k.resources amounts) path (get_or k.resources i x) ≡ Ok (get_or (take (length k.resources) amounts) i y)
  unfolding amounts_data optional number_of
  amount_again path i x y lt =
      let read : get_or (take (length k.resources) amounts) i y ≡ slice_index amounts i = get_or-take (length k.resources) amounts i y lt ∙ get_or_default amounts i y 0 (omega (arith, lt, sound.few_resources, long)) in
      rw (get_or_default k.resources i x [] lt, amount_found i lt, from_zero (slice_index amounts i) max_amount (small_at i), read) refl

  known_again : list_all (λ key. list_any (bytes_eq key) k.resources) (keys_of (amounts_to k.resources amounts (length k.resources))) ≡ true
  known_again = keys_by (λ r. slice_index_or k.resources r []) (λ r. Some (number (unsigned (slice_index amounts r)))) (λ key. list_any (bytes_eq key) k.resources) (range_with_len 0 (length k.resources))
      (all_pass (λ r. list_any (bytes_eq (slice_index_or k.resources r [])) k.resources) 0 (length k.resources)
      (λ r low high. list_any_at (bytes_eq (slice_index_or k.resources r [])) k.resources r [] (omega arith) ((bytes_eq-Decides (slice_index_or k.resources r []) (slice_index_or k.resources r [])).1 refl)))

  pub amounts_again : (path : List ℕ) → amounts_from k.resources (amounts_data k.resources amounts) path ≡ Ok amounts
  unfolding amounts_from resource_amounts object_of amounts_data
  amounts_again path =
      let count : length (take (length k.resources) amounts) ≡ length k.resources = omega (arith, length-take (length k.resources) amounts, sound.few_resources, long) in
      let each = map_walk-items (optional_number Field max_amount (amounts_data k.resources amounts) path) k.resources (take (length k.resources) amounts) count (amount_again path) in
      let past : replicate (max_resources - length k.resources) 0 ≡ drop (length k.resources) amounts =
      ap (λ n. replicate n 0) (omega (arith, length-drop (length k.resources) amounts, long))
      ∙ sym (zeros (drop (length k.resources) amounts) (and_parts (list_all (λ a. nat_le a max_amount) amounts) _ fit).1) in
      rw (each, past, take-append-drop (length k.resources) amounts, known_again) refl

-- ---- durations

pub resource_again : (k : Inventory) → IsInventory k → (r : ℕ) (path : List ℕ) → r < length k.resources → listed_resource k.resources (string (slice_index_or k.resources r [])) path ≡ Ok r
unfolding listed_resource
resource_again k sound r path listed =
    let named : is_name (slice_index_or k.resources r []) ≡ true = sound.named_resources r [] listed in
    rw (name_from-name (slice_index_or k.resources r []) path named, resource_named-listed k r sound listed) refl

pub duration_again : (k : Inventory) → IsInventory k → (base per : ℕ) (resource : Option ℕ) (path : List ℕ) → duration_fits (length k.resources) (record { base = base; per = per; resource = resource }) ≡ true
    → duration_from k.resources (duration_data k.resources (record { base = base; per = per; resource = resource })) path ≡ Ok (record { base = base; per = per; resource = resource })
unfolding duration_from duration_data number_field_of field_of number_of only_of optional unit_from
duration_again k sound base per None path fits =
    let d = IsDuration-fits (length k.resources) (record { base = base; per = per; resource = None }) fits in
    let low : (nat_le 1 base && nat_le base max_duration) ≡ true = grind (arith, common_steps) in
    let none : per ≡ 0 = d.plain refl in
    rw (low, none) refl
duration_again k sound base per (Some r) path fits =
    let d = IsDuration-fits (length k.resources) (record { base = base; per = per; resource = Some r }) fits in
    let low : (nat_le 1 base && nat_le base max_duration) ≡ true = grind (arith, common_steps) in
    let listed : r < length k.resources = d.listed in
    rw (low, from_zero per max_duration d.per, resource_again k sound r (key_path path (codes "resource")) listed) refl

-- ---- durations by kind

-- no duration of a kind that is not the owner's, and all within their limits
pub record FitsOwner (count : ℕ) (owner : DurationOwner) (ds : List (Option Duration)) : Type 0 where
  pub long : length ds ≡ kind_count
  pub fits : (i : ℕ) → own_fits count (slice_index_or ds i None) ≡ true
  pub none : (i : ℕ) (kind : Kind) → kind_number kind ≡ i → has_kind owner kind ≡ false → slice_index_or ds i None ≡ None

is_none-None : (o : Option Duration) → is_none o ≡ true → o ≡ None
is_none-None None h = refl
is_none-None (Some d) h = absurd (cc)

none-fits : (count : ℕ) (o : Option Duration) → is_none o ≡ true → own_fits count o ≡ true
none-fits count None h = refl
none-fits count (Some d) h = absurd (cc)

-- what the first places and what the others hold
before_bound : (test : Option Duration → Bool) → test None ≡ true → (ds : List (Option Duration)) (bound i : ℕ) → i < bound → list_all test (take bound ds) ≡ true → test (slice_index_or ds i None) ≡ true
before_bound test none ds bound i lt all = rw (← get_or-take bound ds i None lt) (item_passes test None none (take bound ds) i all)

from_bound : (test : Option Duration → Bool) → test None ≡ true → (ds : List (Option Duration)) (bound i : ℕ) → bound ≤ i → list_all test (drop bound ds) ≡ true → test (slice_index_or ds i None) ≡ true
from_bound test none ds bound i le all =
    let place : bound + (i - bound) ≡ i = omega arith in
    let here = item_passes test None none (drop bound ds) (i - bound) all in
    rw (get_or-drop bound ds (i - bound) None, place) at here

pub machine_fits-owner : (count : ℕ) (ds : List (Option Duration)) → length ds ≡ kind_count → machine_own_fits count ds ≡ true → FitsOwner count of_machine ds
machine_fits-owner count ds long all =
    let sides = and_parts (list_all (own_fits count) (take machine_kind_count ds)) _ all in
    record {
      long = long;
      fits = λ i. ⊎_elim
          (λ (lt : i < machine_kind_count). before_bound (own_fits count) refl ds machine_kind_count i lt sides.0)
          (λ (le : machine_kind_count ≤ i). none-fits count _ (from_bound is_none refl ds machine_kind_count i le sides.1))
          (cases_lt i machine_kind_count);
      none = λ i kind number other.
          let le : machine_kind_count ≤ i = omega (arith, number, ltb-false (kind_number kind) machine_kind_count other) in
          is_none-None _ (from_bound is_none refl ds machine_kind_count i le sides.1);
    }

pub node_fits-owner : (count : ℕ) (ds : List (Option Duration)) → length ds ≡ kind_count → node_own_fits count ds ≡ true → FitsOwner count of_node ds
node_fits-owner count ds long all =
    let sides = and_parts (list_all is_none (take machine_kind_count ds)) _ all in
    record {
      long = long;
      fits = λ i. ⊎_elim
          (λ (lt : i < machine_kind_count). none-fits count _ (before_bound is_none refl ds machine_kind_count i lt sides.0))
          (λ (le : machine_kind_count ≤ i). from_bound (own_fits count) refl ds machine_kind_count i le sides.1)
          (cases_lt i machine_kind_count);
      none = λ i kind number other.
          let lt : i < machine_kind_count = omega (arith, number, leb-false machine_kind_count (kind_number kind) other) in
          is_none-None _ (before_bound is_none refl ds machine_kind_count i lt sides.0);
    }

each_fits : (count : ℕ) (ds : List Duration) → list_all (duration_fits count) ds ≡ true → list_all (own_fits count) (map Some ds) ≡ true
each_fits count [] all = refl
each_fits count (d ∷ ds) all = rw ((and_parts (duration_fits count d) _ all).0, each_fits count ds (and_parts (duration_fits count d) _ all).1) refl

pub all_fit-owner : (count : ℕ) (ds : List Duration) → length ds ≡ kind_count → list_all (duration_fits count) ds ≡ true → FitsOwner count of_either (map Some ds)
all_fit-owner count ds long all = record {
  long = length-map ds Some ∙ long;
  fits = λ i. item_passes (own_fits count) None refl (map Some ds) i (each_fits count ds all);
  none = λ i kind number other. absurd (cc);
}

distinct_words : are_distinct (map kind_word kinds) ≡ true
unfolding kinds kind_word kind_words
distinct_words = refl

number_at : (i : ℕ) (kind : Kind) → i < kind_count → kind_number (get_or kinds i kind) ≡ i
unfolding kinds
number_at i kind lt = sym (get_or-map kind_number kinds i kind 0 lt) ∙ get_or-range_with_len 0 kind_count i 0 lt ∙ omega arith

kind_here : (kind : Kind) → get_or kinds (kind_number kind) kind ≡ kind
unfolding kinds
kind_here Forge = refl
kind_here Boot = refl
kind_here Shutdown = refl
kind_here Suspend = refl
kind_here Resume = refl
kind_here Migrate = refl
kind_here Allocate = refl
kind_here Kill = refl
kind_here NodeBoot = refl
kind_here NodeShutdown = refl

length-kinds : length kinds ≡ kind_count
unfolding kinds
length-kinds = refl

module _ (k : Inventory) (sound : IsInventory k) (owner : DurationOwner) (ds : List (Option Duration)) (fit : FitsOwner (length k.resources) owner ds) where
  option_again : (o : Option Duration) (found : Option Data) (path : List ℕ) → own_fits (length k.resources) o ≡ true → found ≡ option_map (duration_data k.resources) o
      → optional None (λ v. given_duration k.resources v path) found ≡ Ok o
  unfolding optional given_duration
  option_again None found path fits is = rw is refl
  option_again (Some d) found path fits is = rw (is, duration_again k sound d.base d.per d.resource path fits) refl

  by_test : (test : Bool) (o : Option Duration) (read : Walk (Option Duration)) → (test ≡ false → o ≡ None) → read ≡ Ok o → (if test then read else Ok None) ≡ Ok o
  by_test true o read none is = is
  by_test false o read none is = rw (none refl) refl

  kind_again : (path : List ℕ) (i : ℕ) (x : Kind) (y : Option Duration) → i < length kinds → duration_by_kind k.resources owner (durations_data k.resources ds) path (get_or kinds i x) ≡ Ok (get_or ds i y)
  unfolding duration_by_kind durations_data
  kind_again path i x y lt =
      let kind = get_or kinds i x in
      let number : kind_number kind ≡ i = number_at i x (omega (arith, lt, length-kinds)) in
      let found : get_member (kind_word kind) (members_by kind_word (duration_of_kind k.resources ds) kinds) ≡ option_map (duration_data k.resources) (slice_index_or ds i None) =
      rw number at (found_by kind_word (duration_of_kind k.resources ds) kinds i x distinct_words lt) in
      let read : get_or ds i y ≡ slice_index_or ds i None = get_or_default ds i y None (omega (arith, lt, length-kinds, fit.long)) in
      rw read (by_test (has_kind owner kind) (slice_index_or ds i None) _ (fit.none i kind number) (option_again (slice_index_or ds i None) _ (key_path path (kind_word kind)) (fit.fits i) found))

  owned_key : (kind : Kind) (b : Bool) → has_kind owner kind ≡ b → (not (is_some (duration_of_kind k.resources ds kind)) || is_kind_key owner (kind_word kind)) ≡ true
  owned_key kind false is = rw (fit.none (kind_number kind) kind refl is) refl
  owned_key kind true is =
      let here : (has_kind owner (get_or kinds (kind_number kind) kind) && bytes_eq (kind_word kind) (kind_word (get_or kinds (kind_number kind) kind))) ≡ true =
      rw (kind_here kind, is) ((bytes_eq-Decides (kind_word kind) (kind_word kind)).1 refl) in
      let known : is_kind_key owner (kind_word kind) ≡ true =
      list_any_at (λ other. has_kind owner other && bytes_eq (kind_word kind) (kind_word other)) kinds (kind_number kind) kind (omega (arith, kind_number-lt kind, length-kinds)) here in
      rw known (or_true (not (is_some (duration_of_kind k.resources ds kind))))
    where
      or_true : (a : Bool) → (a || true) ≡ true
      or_true true = refl
      or_true false = refl

  pub durations_again : (path : List ℕ) → durations_from k.resources owner (durations_data k.resources ds) path ≡ Ok ds
  unfolding durations_from object_of durations_data
  durations_again path =
      let each = map_walk-items (duration_by_kind k.resources owner (durations_data k.resources ds) path) kinds ds (fit.long ∙ sym length-kinds) (kind_again path) in
      let known = keys_by kind_word (duration_of_kind k.resources ds) (is_kind_key owner) kinds (list_all_of (λ kind. not (is_some (duration_of_kind k.resources ds kind)) || is_kind_key owner (kind_word kind)) kinds (λ kind. owned_key kind (has_kind owner kind) refl)) in
      rw (each, known) refl

  own_by : (any : Bool) (found : Option Data) (path : List ℕ) → list_any is_some ds ≡ any → found ≡ (if any then Some (durations_data k.resources ds) else None)
      → optional no_durations (λ v. durations_from k.resources owner v path) found ≡ Ok ds
  unfolding optional
  own_by true found path any is = rw is (durations_again path)
  own_by false found path any is =
      let none : no_durations ≡ ds = ap (λ n. replicate n None) (sym fit.long) ∙ sym (all_none ds any) in
      rw is (ap Ok none)

  -- the member `durations`, where what is found there is what an element has of its own
  pub own_again : (d : Data) (path : List ℕ) → get (codes "durations") d ≡ own_data k.resources ds → own_durations k.resources owner d path ≡ Ok ds
  own_again d path found = own_by (list_any is_some ds) (get (codes "durations") d) (key_path path (codes "durations")) refl found

unwrapped : (ds : List Duration) → map (λ d. unwrap_or d one_instant) (map Some ds) ≡ ds
unwrapped [] = refl
unwrapped (d ∷ ds) = ap (λ (rest : List Duration). d ∷ rest) (unwrapped ds)

pub base_again : (k : Inventory) → IsInventory k → (d : Data) (path : List ℕ) → get (codes "durations") d ≡ Some (durations_data k.resources (map Some k.durations))
    → base_durations k.resources d path ≡ Ok k.durations
unfolding base_durations optional
base_again k sound d path found =
    let fit = all_fit-owner (length k.resources) k.durations sound.each_kind sound.durations_fit in
    rw (found, durations_again k sound of_either (map Some k.durations) fit (key_path path (codes "durations")), unwrapped k.durations) refl
