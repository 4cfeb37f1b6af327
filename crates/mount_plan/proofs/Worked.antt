-- Examples of plans, which compute.
use Rattle.std.proofs.Common.{◌≡◌, true, false, cond, List, [], ◌∷◌, Some, None, Result, Ok, Err, refl}
use Rattle.std.specs.Prelude.{codes}
use Rattle.std.specs.List.{list_any}
use Rattle.path_settings.specs.abs_path.Paths.{Path}
use Rattle.path_settings.specs.abs_path.Prefix.{is_same}
use Rattle.path_settings.specs.declared.mentions.Kind.{Kind}
use Rattle.path_settings.specs.declared.mentions.Kind.TheVariants.{Ro, Rw, NoExec, Hide, Tmp, Bind}
use Rattle.path_settings.specs.declared.mentions.Mention.{Mention}
use Rattle.path_settings.specs.view_map.Kept.{Host, Refusal, missing, wrong_kind, kept_of}
use Rattle.kern_mounts.specs.declared.step.Flags.{Flags}
use Rattle.kern_mounts.specs.declared.step.What.{What}
use Rattle.kern_mounts.specs.declared.step.What.TheVariants as what
use Rattle.kern_mounts.specs.declared.step.MountStep.{MountStep}
use Rattle.kern_mounts.specs.Table.{no_flags}
use Rattle.mount_plan.specs.Plan.{table_of}

abbrev srv : Path
srv = codes "srv" ∷ []

abbrev srv_a : Path
srv_a = codes "srv" ∷ codes "a" ∷ []

abbrev srv_log : Path
srv_log = codes "srv" ∷ codes "log" ∷ []

abbrev data_path : Path
data_path = codes "data" ∷ []

abbrev tmp_x : Path
tmp_x = codes "tmp" ∷ codes "x" ∷ []

-- a few directories, and one file
abbrev site : Host
site path = cond (list_any (is_same path) ([] ∷ data_path ∷ srv ∷ srv_a ∷ [])) (Some true) (cond (is_same path srv_log) (Some false) None)

abbrev says : Path → Kind → Mention
says path kind = record { path = path; kind = kind; optional = false }

abbrev step : Path → What → Flags → MountStep
step place shows flags = record { place = place; what = shows; flags = flags }

abbrev table_if : Result (List Mention) Refusal → Result (List MountStep) Refusal
table_if (Ok kept) = Ok (table_of site kept)
table_if (Err refusal) = Err refusal

abbrev planned : List Mention → Result (List MountStep) Refusal
planned mentions = table_if (kept_of site mentions)

-- a hidden folder, and a bind of an object below it
hidden_and_bound : planned (says srv Hide ∷ says data_path (Bind srv_a false true) ∷ [])
    ≡ Ok (step [] (what.Host []) no_flags ∷ step data_path (what.Host srv_a) no_flags ∷ step srv (what.Hidden true) no_flags ∷ [])
hidden_and_bound = refl

-- read-only on a tie, and no execution below
read_only_on_a_tie : planned (says srv Ro ∷ says srv Rw ∷ says srv_a NoExec ∷ [])
    ≡ Ok (step [] (what.Host []) no_flags ∷ step srv (what.Host srv) (record no_flags { read_only = true })
    ∷ step srv_a (what.Host srv_a) (record { read_only = true; no_exec = true; no_suid = false }) ∷ [])
read_only_on_a_tie = refl

-- a read-write path below a hidden one stays hidden
not_reopened : planned (says srv_a Rw ∷ says srv Hide ∷ []) ≡ Ok
    (step [] (what.Host []) no_flags ∷ step srv (what.Hidden true) no_flags ∷ [])
not_reopened = refl

-- a hidden file; a hidden object below an empty file system is a directory
hidden_kinds : planned (says srv_log Hide ∷ says srv_a (Tmp true false false) ∷ says (codes "srv" ∷ codes "a" ∷ codes "x" ∷ []) Hide ∷ [])
    ≡ Ok (step [] (what.Host []) no_flags ∷ step srv_a what.Empty (record no_flags { read_only = true })
    ∷ step (codes "srv" ∷ codes "a" ∷ codes "x" ∷ []) (what.Hidden true) no_flags ∷ step srv_log (what.Hidden false) no_flags ∷ [])
hidden_kinds = refl

-- a path that is not a row is refused, the first in byte order
missing_path : planned (says tmp_x Ro ∷ says (codes "none" ∷ []) Ro ∷ []) ≡ Err (missing (codes "none" ∷ []))
missing_path = refl

-- an empty file system does not cover a file
over_a_file : planned (says srv_log (Tmp false false false) ∷ []) ≡ Err (wrong_kind srv_log)
over_a_file = refl
