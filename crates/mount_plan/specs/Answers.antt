-- The answers of the parts of a plan. Memory may run out in any of them.
use Rattle.std.specs.Prelude.{◌≡◌, ⊤, Bool, List, [], ◌∷◌, ◌++◌, Option, Some, None, Result, Ok, Err, Vec}
use Rattle.std.specs.declared.alloc.Global.{Global}
use Rattle.path_settings.specs.declared.mentions.Mention.{Mention}
use Rattle.path_settings.specs.view_map.Kept.{Refusal, missing, wrong_kind, Host, kept_of}
use Rattle.kern_mounts.specs.declared.step.MountStep.{MountStep}
use Rattle.mount_plan.specs.declared.error.PlanError.{PlanError}
use Rattle.mount_plan.specs.declared.error.PlanError.TheVariants.{Missing, Kind, Memory}
use Rattle.path_settings.specs.declared.mentioned.Mentioned.{Mentioned}
use Rattle.path_settings.specs.declared.systemd.entries.MountEntry.{MountEntry}
use Rattle.path_settings.specs.systemd.Made.{made_of}
use Rattle.mount_plan.specs.Plan.{table_of}
use Rattle.mount_plan.specs.Planned.{planned}
use Rattle.mount_plan.specs.systemd.Table as systemd

abbrev pub first_of : List Refusal → Option Refusal
first_of [] = None
first_of (refusal ∷ refusals) = Some refusal

-- the answer is the refusal, if there is one
abbrev pub Refuses : Option Refusal → Result (Unit {0}) PlanError → Type 0
Refuses refusal (Ok done) = refusal ≡ None
Refuses refusal (Err Memory) = ⊤
Refuses refusal (Err (Missing path)) = refusal ≡ Some (missing path)
Refuses refusal (Err (Kind path)) = refusal ≡ Some (wrong_kind path)

-- the kept mentions of a path are added after the old ones, or the answer is the refusal there
abbrev pub AddsKept : Result (List Mention) Refusal → List Mention → List Mention → Result (Unit {0}) PlanError → Type 0
AddsKept found old new (Ok done) = (more : List Mention) × (found ≡ Ok more) × (new ≡ old ++ more)
AddsKept found old new (Err Memory) = ⊤
AddsKept found old new (Err (Missing path)) = found ≡ Err (missing path)
AddsKept found old new (Err (Kind path)) = found ≡ Err (wrong_kind path)

-- the answer is the kept mentions, or the first refusal
abbrev pub Keeps : Result (List Mention) Refusal → Result (Vec Mention Global) PlanError → Type 0
Keeps found (Ok kept) = found ≡ Ok kept.items
Keeps found (Err Memory) = ⊤
Keeps found (Err (Missing path)) = found ≡ Err (missing path)
Keeps found (Err (Kind path)) = found ≡ Err (wrong_kind path)

-- the answer is the table of the kept mentions, or the first refusal
abbrev pub PlansBase : Host → List Mention → Result (List MountStep) PlanError → Type 0
PlansBase row_at mentions (Ok table) = (kept : List Mention) × (kept_of row_at mentions ≡ Ok kept) × (table ≡ table_of row_at kept)
PlansBase row_at mentions (Err Memory) = ⊤
PlansBase row_at mentions (Err (Missing path)) = kept_of row_at mentions ≡ Err (missing path)
PlansBase row_at mentions (Err (Kind path)) = kept_of row_at mentions ≡ Err (wrong_kind path)

-- the answer is the table of the made entries, by whether NoNewPrivileges= or DynamicUser= is on, or the first refusal
abbrev pub Tables : Host → Bool → List MountEntry → Result (Vec MountStep Global) PlanError → Type 0
Tables row_at no_new_privs entries (Ok table) =
    (made : List MountEntry) × (made_of row_at entries ≡ Ok made) × (table.items ≡ systemd.table_of row_at no_new_privs entries)
Tables row_at no_new_privs entries (Err Memory) = ⊤
Tables row_at no_new_privs entries (Err (Missing path)) = made_of row_at entries ≡ Err (missing path)
Tables row_at no_new_privs entries (Err (Kind path)) = made_of row_at entries ≡ Err (wrong_kind path)

-- the answer is the plan, or the first refusal, by the rules that read the mentions
abbrev pub Plans : Host → Mentioned → Result (List MountStep) PlanError → Type 0
Plans row_at mentioned (Ok table) = planned row_at mentioned ≡ Ok table
Plans row_at mentioned (Err Memory) = ⊤
Plans row_at mentioned (Err (Missing path)) = planned row_at mentioned ≡ Err (missing path)
Plans row_at mentioned (Err (Kind path)) = planned row_at mentioned ≡ Err (wrong_kind path)
