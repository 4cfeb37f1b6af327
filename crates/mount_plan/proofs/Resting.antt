-- A plan asks the host only at its places.
use Rattle.std.proofs.Common.{◌≡◌, ◌∙◌, List, [], ◌∷◌, refl, ap}
use Rattle.std.specs.Prelude.{map}
use Rattle.path_settings.specs.abs_path.Paths.{Path}
use Rattle.path_settings.specs.declared.mentions.Mention.{Mention}
use Rattle.path_settings.specs.view_map.Asked.{beneath_place, beneath_places}
use Rattle.path_settings.specs.view_map.Kept.{Host}
use Rattle.path_settings.specs.view_map.Object.{object_at}
use Rattle.path_settings.specs.view_map.Resting.{AreSame}
use Rattle.path_settings.specs.view_map.View.{is_read_only, is_no_exec}
use Rattle.path_settings.specs.declared.view_map.rules.Beneath.{Beneath}
use Rattle.path_settings.proofs.Resting.{all_parts, beneath_at_same}
use Rattle.kern_mounts.specs.declared.step.MountStep.{MountStep}
use Rattle.mount_plan.specs.Plan.{places_of, step_at, what_of, flags_of, hides_dir, hides_dir_at}
use Rattle.mount_plan.specs.Resting.{PlanRestsOnItsPlaces}

module _ (row_at other : Host) where
  steps_same : (kept : List Mention) (places : List Path) → AreSame row_at other (beneath_places kept places)
      → map (step_at kept (hides_dir_at other kept)) places ≡ map (step_at kept (hides_dir_at row_at kept)) places
  steps_same kept [] same = refl
  steps_same kept (place ∷ places) same =
      let parts = all_parts (λ p. other p ≡ row_at p) (beneath_place kept place) (beneath_places kept places) same in
      ap (λ (b : Beneath). record { place = place; what = what_of (object_at kept place) (hides_dir b); flags = flags_of (object_at kept place) (is_read_only kept place) (is_no_exec kept place) } ∷ map (step_at kept (hides_dir_at other kept)) places) (beneath_at_same row_at other kept place parts.0)
      ∙ ap (λ (steps : List MountStep). step_at kept (hides_dir_at row_at kept) place ∷ steps) (steps_same kept places parts.1)

pub plan_rests : PlanRestsOnItsPlaces
plan_rests row_at other kept same = steps_same row_at other kept (places_of kept) same
