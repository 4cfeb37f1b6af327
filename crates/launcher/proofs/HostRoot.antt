-- A table that can be mounted begins with the root on the host, and has no other entry there.
use Rattle.std.proofs.Common.{◌≡◌, ◌∙◌, Bool, true, false, [], ◌∷◌, Option, refl, sym, subst}
use Rattle.std.specs.Prelude.{map}
use Rattle.std.specs.List.{AllByRecursion}
use Rattle.exec_settings.specs.abs_path.Paths.{Path, is_root}
use Rattle.kernel_laws.specs.kern_mounts.declared.step.What.TheVariants.{Host}
use Rattle.kernel_laws.specs.kern_mounts.declared.step.MountStep.{MountStep}
use Rattle.kernel_laws.specs.kern_mounts.Launch.{BeginsAtRoot, CanBeMounted}
use Rattle.kernel_laws.specs.kern_mounts.Split.{Table}
use Rattle.exec_settings.specs.abs_path.ByteOrder.{AreAscending, is_before}
use Rattle.exec_settings.proofs.OfAbsPath.ByteOrder.{not_before_itself}
use Rattle.std.proofs.lemmas.Bool.{false≢true}

abbrev pub AreBelowRoot : Table → Type 0
AreBelowRoot table = AllByRecursion (λ (step : MountStep). is_root step.place ≡ false) table

abbrev pub BeginsAtHostRoot : Table → Type 0
BeginsAtHostRoot [] = ⊥
BeginsAtHostRoot (first ∷ rest) = (first.place ≡ []) × (first.what ≡ Host []) × AreBelowRoot rest

not_root : (path : Path) → is_before [] path ≡ true → is_root path ≡ false
not_root [] before = absurd (false≢true (sym (not_before_itself []) ∙ before))
not_root (part ∷ path) before = refl

below_root : (table : Table) → AllByRecursion (λ other. is_before [] other ≡ true) (map (λ step. step.place) table) → AreBelowRoot table
below_root [] others = tt
below_root (step ∷ table) others = (not_root step.place others.0, below_root table others.1)

begins : (table : Table) → BeginsAtRoot table → AreAscending (map (λ step. step.place) table) → BeginsAtHostRoot table
begins [] root ascend = absurd root
begins (first ∷ rest) root ascend =
    (root.0, root.1, below_root rest (subst (λ (path : Path). AllByRecursion (λ other. is_before path other ≡ true) (map (λ step. step.place) rest)) root.0 ascend.0))

pub begins_at_host : (rows : Path → Option Bool) (table : Table) → CanBeMounted rows table → BeginsAtHostRoot table
begins_at_host rows table can = begins table can.begins_at_root can.places_ascend
