-- The folders in which a program without a path is looked up (systemd.service(5), Command lines; systemd.exec(5), ExecSearchPath=).
use Rattle.std.specs.Prelude.{ℕ, ◌==◌, not, cond, is_some, Bool, false, codes, Option, Some, None, List, [], ◌∷◌, ◌++◌, length, find}
use Rattle.std.specs.List.{filter_map}
use Rattle.std.specs.Option.{option_map_or}
use Rattle.std.specs.Str.{byte as ascii}
use Rattle.cred_settings.specs.dropin_merge.declared.resolved.Resolved.{Resolved}
use Rattle.cred_settings.specs.dropin_merge.unit_values.Values.{in_force, written_values}
use Rattle.cred_settings.specs.site_table.Kinds.{is_exe}
use Rattle.cred_settings.specs.site_table.Table.{Site, kind_at}
use Rattle.mount_settings.specs.abs_path.Paths.{Path}
use Rattle.mount_settings.specs.unit_names.declared.version.Version.{Version}
use Rattle.mount_settings.specs.unit_names.declared.version.Version.TheVariants.{V252, V257}
use Rattle.exec_settings.specs.Commands.{program_of}
use Rattle.exec_settings.specs.Launched.{unit_command}
use Rattle.exec_settings.specs.declared.commands.Command.{Command}
use Rattle.exec_settings.specs.declared.commands.Program.{Program}
use Rattle.exec_settings.specs.declared.commands.Program.TheVariants.{Absolute, Relative, Named}

-- the search path that a systemd is built with
abbrev pub folders_of : Option Version → List (List ℕ)
folders_of None = []
folders_of (Some V252) =
    codes "/usr/local/sbin" ∷ codes "/usr/local/bin" ∷ codes "/usr/sbin" ∷ codes "/usr/bin" ∷ codes "/sbin" ∷ codes "/bin" ∷ []
folders_of (Some V257) = codes "/usr/local/sbin" ∷ codes "/usr/local/bin" ∷ codes "/usr/sbin" ∷ codes "/usr/bin" ∷ []

-- ExecSearchPath= has folders of its own: a value that no later empty value resets
abbrev pub searches_elsewhere : Resolved → Bool
searches_elsewhere unit = not (length (in_force (written_values unit (codes "ExecSearchPath"))) == 0)

abbrev pub unit_folders : Resolved → List (List ℕ)
unit_folders unit = cond (searches_elsewhere unit) [] (folders_of unit.systemd)

-- the path of a program that is a path
abbrev pub absolute : Option Program → Option Path
absolute None = None
absolute (Some (Absolute path)) = Some path
absolute (Some Relative) = None
absolute (Some (Named name)) = None

-- the path of this name in a folder, if both together are a path
abbrev pub path_in : List ℕ → List ℕ → Option Path
path_in name folder = absolute (program_of (folder ++ ascii "/" ∷ name))

-- the paths at which a name is looked up, in this order
abbrev pub searched : Resolved → List ℕ → List Path
searched unit name = filter_map (path_in name) (unit_folders unit)

-- the site has an executable there
abbrev pub has_exe : Site → Path → Bool
has_exe site path = option_map_or is_exe (kind_at site.rows path) false

-- the first of these paths at which the site has an executable
unfoldable pub looked_up : Resolved → Site → List ℕ → Option Path
looked_up unit site name = find (has_exe site) (searched unit name)

-- the path of a program
abbrev pub path_of : Resolved → Site → Program → Option Path
path_of unit site (Absolute path) = Some path
path_of unit site Relative = None
path_of unit site (Named name) = looked_up unit site name

-- a program that has no path is relative
abbrev pub is_relative : Resolved → Site → Program → Bool
is_relative unit site program = not (is_some (path_of unit site program))

-- the paths at which the program of a command is looked up
abbrev pub searched_for : Resolved → Program → List Path
searched_for unit (Absolute path) = []
searched_for unit Relative = []
searched_for unit (Named name) = searched unit name

abbrev pub searched_by : Resolved → List Path
searched_by unit = option_map_or (λ (command : Command). searched_for unit command.program) (unit_command unit) []
