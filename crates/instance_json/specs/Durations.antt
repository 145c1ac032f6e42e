-- Durations.
use Rattle.std.specs.Prelude.{ℕ, Bool, true, List, map, replicate, ◌==◌, ◌&&◌, nat_lt, nat_le, Option, Some, None, unwrap_or, Ok, Err, codes, if◌then◌else◌}
use Rattle.std.specs.List.{list_any, list_all}
use Rattle.std.specs.Str.{bytes_eq}
use Rattle.json_walk.specs.Prelude.{as_walk, fault_at, key_path, keys_of, map_walk, number_field, object_of, only_keys, optional_by, optional_number, wants, ◌>>=◌, ◌>>◌}
use Rattle.catalogue.specs.Prelude.{kind_count, kind_number, kind_word, kinds, machine_kind_count, max_duration}
use Rattle.json_walk.specs.declared.fault.FaultKind.TheVariants.{Missing, Unknown}
use Rattle.cluster.specs.declared.kinds.Kind.{Kind}
use Rattle.cluster.specs.declared.durations.Duration.{Duration}
use Rattle.serde_json.specs.Data.{Data}
use Rattle.serde_json.specs.Find.{get}
use Rattle.instance_json.specs.declared.keys.TheConstants.{DURATION_KEYS}
use Rattle.instance_json.specs.declared.durations.Owner.{Owner}
use Rattle.instance_json.specs.declared.durations.Owner.TheVariants.{Machine, Node, Either}
use Rattle.instance_json.specs.declared.fault.InstanceFault.TheVariants.{Field}
use Rattle.instance_json.specs.Walk.{Walk, Test}
use Rattle.instance_json.specs.Names.{listed_resource}

-- the resource whose amount is multiplied, which must be there where something is
unfoldable pub unit_from : List (List ℕ) → ℕ → Option Data → List ℕ → Walk (Option ℕ)
unit_from resources per None path = if per == 0 then Ok None else Err (Field (fault_at path Missing))
unit_from resources per (Some d) path = do
  r ← listed_resource resources d path
  Ok (Some r)

-- a duration, whose value is base + per * amount
unfoldable pub duration_from : List (List ℕ) → Test Duration
duration_from resources d path = do
  base ← number_field Field 1 max_duration d path (codes "base")
  per ← optional_number Field max_duration d path (codes "per")
  resource ← unit_from resources per (get (codes "resource") d) (key_path path (codes "resource"))
  only_keys Field (map (λ key. key.now) DURATION_KEYS) d path
  Ok (record { base = base; per = per; resource = resource })

-- ---- durations by kind

-- whether an object of durations may have one of the kind, by whose durations they are
abbrev pub has_kind : Owner → Kind → Bool
has_kind Machine kind = nat_lt (kind_number kind) machine_kind_count
has_kind Node kind = nat_le machine_kind_count (kind_number kind)
has_kind Either kind = true

-- a duration that is there
unfoldable pub given_duration : List (List ℕ) → Test (Option Duration)
given_duration resources d path = do
  duration ← duration_from resources d path
  Ok (Some duration)

-- the duration that an object has of a kind, if it has one
unfoldable pub duration_by_kind : List (List ℕ) → Owner → Data → List ℕ → Kind → Walk (Option Duration)
duration_by_kind resources owner d path kind =
    if has_kind owner kind then optional_by None (given_duration resources) d path (kind_word kind) else Ok None

-- whether the key is the word of a kind of which the object may have a duration
abbrev pub is_kind_key : Owner → List ℕ → Bool
is_kind_key owner key = list_any (λ kind. has_kind owner kind && bytes_eq key (kind_word kind)) kinds

-- an object of durations by kind, in the order of the ten kinds
unfoldable pub durations_from : List (List ℕ) → Owner → Test (List (Option Duration))
durations_from resources owner d path = do
  members ← as_walk Field (object_of d path)
  durations ← map_walk (duration_by_kind resources owner d path) kinds
  wants (list_all (is_kind_key owner) (keys_of members)) (Field (fault_at path Unknown))
  Ok durations

-- a duration of no kind
abbrev pub no_durations : List (Option Duration)
no_durations = replicate kind_count None

-- the member `durations`
abbrev pub own_durations : List (List ℕ) → Owner → Data → List ℕ → Walk (List (Option Duration))
own_durations resources owner d path = optional_by no_durations (durations_from resources owner) d path (codes "durations")

-- what stands for a duration that is not given
abbrev pub one_instant : Duration
one_instant = record { base = 1; per = 0; resource = None }

-- the durations of the ten kinds for elements without one of their own
unfoldable pub base_durations : List (List ℕ) → Data → List ℕ → Walk (List Duration)
base_durations resources d path = do
  durations ← own_durations resources Either d path
  Ok (map (λ duration. unwrap_or duration one_instant) durations)
