-- What is found at a path can be bound.
use Rattle.std.proofs.Common.{◌≡◌, ℕ, true, false, ◌++◌, Option, Some, None, refl, ap}
use Rattle.std.specs.Prelude.{not}
use Rattle.abs_path.specs.Paths.{Path}
use Rattle.abs_path.specs.Prefix.{rest_of}
use Rattle.linux_numbers.specs.Errnos.{enoent, eacces}
use Rattle.kern_mounts.specs.declared.step.What.{What}
use Rattle.kern_mounts.specs.declared.step.What.TheVariants.{Host, Empty, Hidden}
use Rattle.kern_mounts.specs.declared.step.MountStep.{MountStep}
use Rattle.kern_mounts.specs.Entry.{entry_of}
use Rattle.kern_mounts.specs.Finds.{nothing, row_or_nothing, found_by, found_at, finds}
use Rattle.kern_mounts.specs.Split.{Table}
use Rattle.kern_mounts.specs.Bind.{is_long, can_show, can_show_at, can_bind}

shows : {Row : Type 0} (rows : Path → Option Row) → ((path : Path) (found : Row) → rows path ≡ Some found → is_long path ≡ false)
    → (what : What) (place path : Path)
    → ((errno : ℕ) → found_by rows what place path ≡ nothing errno → ⊥) → can_show what place path ≡ true
shows {Row = Row} rows short (Host source) place path found = by (rows (source ++ rest_of place path)) refl
  where
    by : (o : Option Row) → rows (source ++ rest_of place path) ≡ o → not (is_long (source ++ rest_of place path)) ≡ true
    by None e = absurd (found enoent (ap row_or_nothing e))
    by (Some row) e = ap not (short (source ++ rest_of place path) row e)
shows rows short Empty place path found = refl
shows rows short (Hidden directory) place path found = absurd (found eacces refl)

-- where the rows of a site are no longer than paths are
pub found_can_be_bound : {Row : Type 0} (rows : Path → Option Row) (table : Table) (source : Path)
    → ((path : Path) (found : Row) → rows path ≡ Some found → is_long path ≡ false)
    → ((errno : ℕ) → finds rows table source ≡ nothing errno → ⊥) → can_bind table source ≡ true
found_can_be_bound {Row = Row} rows table source short found = by (entry_of table source) (λ errno e. found errno e)
  where
    by : (o : Option MountStep) → ((errno : ℕ) → found_at rows source o ≡ nothing errno → ⊥) → can_show_at source o ≡ true
    by None found = absurd (found enoent refl)
    by (Some step) found = shows rows short step.what step.place source found
