-- What a path finds at the place of an empty file system, and below it.
use Rattle.std.proofs.Common.{◌≡◌, ℕ, cond, List, Option, Some, ap, ◌∙◌}
use Rattle.std.proofs.lemmas.Bool.{false_from_ne_true}
use Rattle.abs_path.specs.Paths.{Path}
use Rattle.abs_path.specs.Prefix.{is_same}
use Rattle.abs_path.proofs.Prefixes.{same_itself, same_path}
use Rattle.linux_numbers.specs.Errnos.{enoent}
use Rattle.kern_mounts.specs.declared.step.MountStep.{MountStep}
use Rattle.kern_mounts.specs.declared.step.What.TheVariants.{Empty}
use Rattle.kern_mounts.specs.Entry.{entry_of}
use Rattle.kern_mounts.specs.Finds.{found_by, found_at, finds, empty_directory, nothing}

-- what a path finds at an entry that is an empty file system
at_empty : (rows : Path → Option ℕ) (table : List MountStep) (path : Path) (step : MountStep) → entry_of table path ≡ Some step
    → step.what ≡ Empty
    → finds rows table path ≡ cond (is_same step.place path) empty_directory (nothing enoent)
at_empty rows table path step e h = ap (found_at rows path) e ∙ ap (λ what. found_by rows what step.place path) h

pub an_empty_directory : (rows : Path → Option ℕ) (table : List MountStep) (step : MountStep) → entry_of table step.place ≡ Some step
    → step.what ≡ Empty
    → finds rows table step.place ≡ empty_directory
an_empty_directory rows table step e h = at_empty rows table step.place step e h
    ∙ ap (λ same. cond same empty_directory (nothing enoent)) (same_itself step.place)

pub nothing_below : (rows : Path → Option ℕ) (table : List MountStep) (path : Path) (step : MountStep) → entry_of table path ≡ Some step
    → step.what ≡ Empty → (step.place ≡ path → ⊥)
    → finds rows table path ≡ nothing enoent
nothing_below rows table path step e h other =
    at_empty rows table path step e h
    ∙ ap (λ same. cond same empty_directory (nothing enoent))
    (false_from_ne_true (is_same step.place path) (λ same. other (same_path step.place path same)))
