-- Refusals and settings ask a site only for accounts, for implied paths and for the paths of a program.
use Rattle.std.proofs.Common.{◌≡◌, ◌∙◌, ℕ, zero, suc, length, ltb, arith, Bool, true, false, cond, List, [], ◌∷◌, ◌++◌, Option, Some, None}
use Rattle.std.proofs.Common.{refl, ap, sym}
use Rattle.std.specs.Prelude.{◌&&◌, not, find, position, is_some, option_map, slice_get, filter, Result}
use Rattle.std.specs.List.{AllByRecursion, position_or_len}
use Rattle.std.specs.Option.{option_map_or}
use Rattle.std.proofs.lemmas.Bool.Decides.{nat_tests}
use Rattle.std.proofs.lemmas.List.Folds.{find_at}
use Rattle.mount_settings.specs.abs_path.Prefix.{is_same}
use Rattle.cred_settings.specs.Identities.{identity_of}
use Rattle.cred_settings.specs.declared.accounts.Identity.{Identity}
use Rattle.cred_settings.specs.declared.error.IdentityError.{IdentityError}
use Rattle.cred_settings.specs.dropin_merge.declared.resolved.Resolved.{Resolved}
use Rattle.mount_settings.specs.Effects.{has_row}
use Rattle.mount_settings.specs.Written.{unit_written}
use Rattle.cred_settings.specs.site_table.declared.row.Row.{Row}
use Rattle.cred_settings.specs.site_table.Table.{Site, site_with, kind_at}
use Rattle.cred_settings.specs.site_table.Kinds.{is_exe}
use Rattle.mount_settings.specs.abs_path.Paths.{Path}
use Rattle.exec_settings.specs.declared.commands.Command.{Command}
use Rattle.exec_settings.specs.declared.commands.Program.{Program}
use Rattle.exec_settings.specs.declared.commands.Program.TheVariants.{Absolute, Relative, Named}
use Rattle.exec_settings.specs.declared.errors.SettingsError.TheVariants.{OutsideProfile}
use Rattle.exec_settings.specs.Launched.{unit_command}
use Rattle.exec_settings.specs.Profile.{outside_key}
use Rattle.exec_settings.specs.Search.{has_exe, looked_up, path_of, searched, searched_for}
use Rattle.exec_settings.specs.Settings.{program_path, unit_program}
use Rattle.mount_settings.proofs.OtherSites.{same_for_sites}
use Rattle.exec_settings.specs.Mounts.{paths_refusal, unit_mentions, unit_switches}
use Rattle.exec_settings.specs.OtherSites.{AreSameFor, implied_by, RefusalRestsOnFew, SettingsRestOnFew}
use Rattle.exec_settings.specs.Refusals.{command_refusal, first_reason, group_refusal, identity_reason, identity_refusal, no_command}
use Rattle.exec_settings.specs.Refusals.{outside, privileged, refusal_of}
use Rattle.exec_settings.specs.RunsAs.{unit_identity}

-- ---- implied paths
-- a row that is found has a place
get_within : (rows : List Row) (n : ℕ) → is_some (slice_get rows n) ≡ ltb n (length rows)
get_within [] n = grind (arith, nat_tests)
get_within (row ∷ rows) zero = grind (arith, nat_tests)
get_within (row ∷ rows) (suc n) = get_within rows n ∙ less n (length rows)
  where
    less : (n m : ℕ) → ltb n m ≡ ltb (suc n) (suc m)
    less n m = grind (arith, nat_tests)

some_kind : (o : Option Row) → is_some (option_map (λ (row : Row). row.kind) o) ≡ is_some o
some_kind None = refl
some_kind (Some row) = refl

some_if : (b : Bool) (n : ℕ) → is_some (cond b (Some n) None) ≡ b
some_if true n = refl
some_if false n = refl

placed : (p : Row → Bool) (rows : List Row) → is_some (position p rows) ≡ is_some (option_map (λ (row : Row). row.kind) (find p rows))
placed p rows = some_if (ltb (position_or_len p rows) (length rows)) (position_or_len p rows)
    ∙ sym (get_within rows (position_or_len p rows)) ∙ sym (ap is_some (find_at p rows)) ∙ sym (some_kind (find p rows))

row_same : (site other : Site) (path : Path) → kind_at other.rows path ≡ kind_at site.rows path → has_row other path ≡ has_row site path
row_same site other path same = placed (λ row. is_same row.path path) other.rows ∙ ap is_some same
    ∙ sym (placed (λ row. is_same row.path path) site.rows)

each_row : (site other : Site) (paths : List Path) → AllByRecursion (λ path. kind_at other.rows path ≡ kind_at site.rows path) paths
    → AllByRecursion (λ path. has_row other path ≡ has_row site path) paths
each_row site other [] same = tt
each_row site other (path ∷ paths) same = (row_same site other path same.0, each_row site other paths same.1)

mentions_same : (unit : Resolved) (site other : Site)
    → AllByRecursion (λ path. kind_at other.rows path ≡ kind_at site.rows path) (implied_by unit)
    → unit_mentions unit other ≡ unit_mentions unit site
unfolding unit_mentions
mentions_same unit site other same =
    same_for_sites site other unit (unit_switches unit) (unit_written unit) unit.systemd (each_row site other (implied_by unit) same)

-- ---- ids do not depend on the rows of a site
ids_same : (unit : Resolved) (site other : Site) → AreSameFor unit site other → unit_identity unit other ≡ unit_identity unit site
unfolding identity_of
ids_same unit site other agree =
    ap (λ uid. unit_identity unit (site_with uid other.user_namespaces other.systemd other.io_uring other.rows other.users other.groups))
    agree.dynamic_uid
    ∙ ap (λ (users : _). unit_identity unit (site_with site.dynamic_uid other.user_namespaces other.systemd other.io_uring other.rows users other.groups))
    agree.users
    ∙ ap (λ (groups : _). unit_identity unit (site_with site.dynamic_uid other.user_namespaces other.systemd other.io_uring other.rows site.users groups))
    agree.groups

-- ---- the program is looked up at few paths
kind_same : (site other : Site) (path : Path) → kind_at other.rows path ≡ kind_at site.rows path → has_exe other path ≡ has_exe site path
kind_same site other path same = ap (λ kind. option_map_or is_exe kind false) same

first_same : (site other : Site) (paths : List Path) → AllByRecursion (λ path. kind_at other.rows path ≡ kind_at site.rows path) paths
    → find (has_exe other) paths ≡ find (has_exe site) paths
first_same site other [] same = refl
first_same site other (path ∷ paths) same =
    ap (λ b. cond b (Some path) (find (has_exe other) paths)) (kind_same site other path same.0)
    ∙ ap (λ (found : Option Path). cond (has_exe site path) (Some path) found) (first_same site other paths same.1)

module _ (unit : Resolved) (site other : Site) where
  path_same : (one : Program) → AllByRecursion (λ path. kind_at other.rows path ≡ kind_at site.rows path) (searched_for unit one)
      → path_of unit other one ≡ path_of unit site one
  unfolding looked_up
  path_same (Absolute path) same = refl
  path_same Relative same = refl
  path_same (Named name) same = first_same site other (searched unit name) same

  -- the paths of a command that may be missing
  AreSearchedAlike : Option Command → Type 0
  AreSearchedAlike command = AllByRecursion (λ path. kind_at other.rows path ≡ kind_at site.rows path)
      (option_map_or (λ (one : Command). searched_for unit one.program) command [])

  paths_same : (command : Option Command) → AreSearchedAlike command → program_path unit other command ≡ program_path unit site command
  unfolding AreSearchedAlike
  paths_same None same = refl
  paths_same (Some command) same = path_same command.program same

  outside_same : (command : Option Command) → AreSearchedAlike command → outside unit other command ≡ outside unit site command
  unfolding AreSearchedAlike
  outside_same None same = refl
  outside_same (Some command) same =
      ap (λ path. option_map OutsideProfile (outside_key unit (not (is_some path)))) (path_same command.program same)

  program_same : AreSameFor unit site other → unit_program unit other ≡ unit_program unit site
  unfolding unit_program AreSearchedAlike
  program_same agree = paths_same (unit_command unit) agree.searched

  command_same : AreSameFor unit site other → command_refusal unit other ≡ command_refusal unit site
  unfolding command_refusal AreSearchedAlike
  command_same agree =
      ap (λ reason. first_reason (no_command (unit_command unit) ∷ privileged (unit_command unit) ∷ reason ∷ []))
      (outside_same (unit_command unit) agree.searched)

pub refusal_rests : RefusalRestsOnFew
unfolding refusal_of identity_refusal
refusal_rests unit table site other same =
    ap (λ reason. first_reason
    (reason ∷ identity_reason (unit_identity unit other) ∷ group_refusal unit table ∷ paths_refusal unit ∷ []))
    (command_same unit site other same)
    ∙ ap (λ (ids : Result Identity IdentityError). first_reason
    (command_refusal unit site ∷ identity_reason ids ∷ group_refusal unit table ∷ paths_refusal unit ∷ [])) (ids_same unit site other same)

pub settings_rest : SettingsRestOnFew
settings_rest unit table site other made same own = record {
  launches_the_first_command = program_same unit site other same ∙ own.launches_the_first_command;
  runs_as = ids_same unit site other same ∙ own.runs_as;
  bounding_without_what_is_taken = own.bounding_without_what_is_taken;
  ambient = own.ambient;
  keeps_for_the_filters = own.keeps_for_the_filters;
  new_privileges = own.new_privileges;
  refuses_memory = own.refuses_memory;
  filters_as_wanted = own.filters_as_wanted;
  mentions_written_and_implied = own.mentions_written_and_implied ∙ sym (mentions_same unit site other same.implied);
  leaves_the_root = own.leaves_the_root;
  paths_are_short = own.paths_are_short;
  all_notes_in_order = own.all_notes_in_order;
}
