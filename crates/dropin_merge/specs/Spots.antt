-- Where the assignments of a unit's service are. Each is listed in the bucket of its key.
use Rattle.std.specs.Prelude.{◌≡◌, ◌==◌, ◌+◌, ◌*◌, ◌%◌, ◌<◌, ◌++◌, ◌∷◌, ℕ, Bool, cond, Option, List, [], filter, get_or, length, option_and_then, option_map, set}
use Rattle.std.specs.List.{filter_map, slice_get}
use Rattle.unit_grammar.specs.declared.unit.Assignment.{Assignment}
use Rattle.dropin_merge.specs.declared.resolved.UnitFile.{UnitFile}
use Rattle.dropin_merge.specs.declared.spots.Spot.{Spot}
use Rattle.dropin_merge.specs.declared.unit_values.value.Place.{Place}
use Rattle.dropin_merge.specs.unit_values.Service.{is_of_service, placed}

-- the bucket of a key
unfoldable pub bucket_of : List ℕ → ℕ
bucket_of key = (2 * (length key % 64) + get_or key 7 0) % 64

abbrev pub in_bucket : ℕ → Place × Assignment → Bool
in_bucket bucket one = bucket_of one.1.key == bucket

-- the assignment at a spot of the files, with its place
abbrev pub assignment_at : List UnitFile → Spot → Option (Place × Assignment)
assignment_at files spot =
    option_and_then (λ file. option_map (placed spot.file) (slice_get file.text.assignments spot.at)) (slice_get files spot.file)

-- the buckets with one more spot
abbrev pub with_spot : List (List Spot) → ℕ → Spot → List (List Spot)
with_spot buckets bucket spot = set buckets bucket (get_or buckets bucket [] ++ spot ∷ [])

-- an assignment of the service adds its spot to the bucket of its key
abbrev pub with_assignment : List (List Spot) → Spot → Assignment → List (List Spot)
with_assignment buckets spot assignment = cond (is_of_service assignment) (with_spot buckets (bucket_of assignment.key) spot) buckets

-- each bucket has the spots of its assignments among these, in their order
abbrev pub HoldSpots : List UnitFile → List (Place × Assignment) → List (List Spot) → Type 0
HoldSpots files ones buckets = (bucket : ℕ) → bucket < length buckets
    → filter_map (assignment_at files) (get_or buckets bucket []) ≡ filter (in_bucket bucket) ones
