-- A plan shows the programs that its view has and leaves executable.
use Rattle.std.proofs.Common.{◌≡◌, ℕ, Bool, false, cond, List, [], ◌∷◌, ◌++◌, Option, Some, refl, ap, ◌∙◌}
use Rattle.std.specs.Prelude.{filter}
use Rattle.std.specs.List.{AllByRecursion, Contains, enumerate_from}
use Rattle.std.proofs.lemmas.List.Elements.{All-contains, All-from_recursion}
use Rattle.launcher.specs.abs_path.Paths.{Path}
use Rattle.launcher.specs.abs_path.Prefix.{is_prefix, rest_of}
use Rattle.launcher.specs.kernel_model.kern_files.Looking.{flags_by}
use Rattle.launcher.specs.kern_mounts.declared.step.Flags.{Flags}
use Rattle.launcher.specs.kern_mounts.declared.step.MountStep.{MountStep}
use Rattle.launcher.specs.kern_mounts.declared.step.What.{What}
use Rattle.launcher.specs.kern_mounts.declared.step.What.TheVariants as what
use Rattle.launcher.specs.kern_mounts.Finds.{row, row_or_nothing, found_by, found_at}
use Rattle.launcher.specs.mount_plan.AsView.{Agrees, shown_by}
use Rattle.launcher.specs.mount_plan.Plan.{flags_of}
use Rattle.launcher.specs.mount_plan.Planned.{base_view}
use Rattle.launcher.specs.path_settings.Mentions.{is_origin}
use Rattle.launcher.specs.path_settings.declared.mentions.Mention.{Mention}
use Rattle.launcher.specs.site_table.declared.row.Row.{Row}
use Rattle.launcher.specs.site_table.Table.{row_at}
use Rattle.launcher.proofs.OfPathSettings.ViewMapLists.{all_enumerated}
use Rattle.launcher.specs.path_settings.view_map.Object.{Object, on_host, object_at, object_from}
use Rattle.launcher.specs.path_settings.view_map.View.{is_read_only, is_no_exec, leading_to, longest, prevails, says_exec, says_no_exec}
use Rattle.sample_inputs.specs.sample_launch.Shown.{ShownByTheView, AreElsewhere, ShownBesideMentions}

-- what an entry of the host's shows
host_shown : (rows : Path → Option Row) (what' : What) (own path place : Path) (program : Row) → shown_by what' own path ≡ on_host place
    → rows place ≡ Some program → found_by rows what' own path ≡ row program
host_shown rows (what.Host source) own path place program is there =
    let same : source ++ rest_of own path ≡ place = cc in
    ap (λ (p : Path). row_or_nothing (rows p)) same ∙ ap row_or_nothing there
host_shown rows what.Empty own path place program is there = cc
host_shown rows (what.Hidden is_dir) own path place program is there = cc

pub shown_by_the_view : ShownByTheView
shown_by_the_view site kept plan path place program as_view at runs there is =
    let entry = as_view path in
    let step : MountStep = entry.0 in
    let agrees : Agrees (base_view kept path) path step = entry.2 in
    record {
      program = program;
      found = ap (found_at (row_at site.rows) path) entry.1 ∙ host_shown (row_at site.rows) step.what step.place path place program
          (agrees.origin ∙ at) there;
      exe = is.exe;
      plain = is.plain;
      runs = ap (λ (o : Option MountStep). (flags_by o).no_exec) entry.1
          ∙ ap (λ (f : Flags). f.no_exec) agrees.flags
          ∙ ap (λ (o : Object). (flags_of o (is_read_only kept path) (is_no_exec kept path)).no_exec) at
          ∙ runs;
    }

none_left : {X : Type 0} (p : X → Bool) (xs : List X) → AllByRecursion (λ x. p x ≡ false) xs → filter p xs ≡ []
none_left p [] none' = refl
none_left p (x ∷ xs) none' = ap (λ b. cond b (x ∷ filter p xs) (filter p xs)) none'.0 ∙ none_left p xs none'.1

kept_elsewhere : (path : Path) (mentions kept : List Mention) → AllByRecursion (Contains mentions) kept → AreElsewhere path mentions
    → AreElsewhere path kept
kept_elsewhere path mentions [] among away = tt
kept_elsewhere path mentions (one ∷ kept) among away =
    (All-contains (λ (mention : Mention). is_prefix mention.path path ≡ false) mentions one (All-from_recursion (λ mention. is_prefix mention.path path ≡ false) mentions away) among.0, kept_elsewhere path mentions kept among.1 away)

none_leads : (path : Path) (kept : List Mention) → AreElsewhere path kept → leading_to path kept ≡ []
none_leads path kept away =
    none_left (λ (one : ℕ × Mention). is_prefix one.1.path path) (enumerate_from 0 kept)
    (all_enumerated (λ mention. is_prefix mention.path path ≡ false) 0 kept away)

pub shown_beside_mentions : ShownBesideMentions
shown_beside_mentions site mentions kept plan path program keeps as_view away there is =
    let none' : leading_to path kept ≡ [] = none_leads path kept (kept_elsewhere path mentions kept keeps.among away) in
    let own : object_at kept path ≡ on_host path = ap (λ (found : List (ℕ × Mention)). object_from (longest is_origin found) path) none' in
    let runs : is_no_exec kept path ≡ false = ap (prevails says_no_exec says_exec) none' in
    shown_by_the_view site kept plan path path program as_view own runs there is
