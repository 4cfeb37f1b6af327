-- The unit of a sample (systemd.exec(5), Paths): a service of a user of its own, which finds three of four folders changed.
use Rattle.std.specs.Prelude.{ℕ, ◌+◌, ◌%◌, ◌==◌, codes, Option, Some, None, List, [], ◌∷◌, ◌++◌, map, flat_map, cond}
use Rattle.launcher.specs.unit_grammar.declared.unit.Assignment.{Assignment}
use Rattle.launcher.specs.unit_grammar.declared.unit.UnitText.{UnitText}
use Rattle.launcher.specs.unit_names.Names.{Name}
use Rattle.sample_inputs.specs.Calls.{text_of_lines}
use Rattle.sample_inputs.specs.Site.{folder_path, numbers_from}

-- its name, and the file that it is read from
abbrev pub unit_name : List ℕ
unit_name = codes "sample.service"

abbrev pub sample_name : Name
sample_name = record { prefix = codes "sample"; instance = None }

abbrev pub unit_path : List ℕ
unit_path = codes "etc/systemd/system/sample.service"

-- a key with its value
pub record Setting : Type 0 where
  pub key : List ℕ
  pub value : List ℕ

abbrev pub setting : List ℕ → List ℕ → Setting
setting key value = record { key = key; value = value }

-- what the unit says of a folder, in four turns: read-only, inaccessible, without programs, and nothing
abbrev pub folder_settings_by : ℕ → List ℕ → List Setting
folder_settings_by turn path =
    cond (turn == 0) (record { key = codes "ReadOnlyPaths"; value = path } ∷ [])
    (cond (turn == 1) (record { key = codes "InaccessiblePaths"; value = path } ∷ [])
    (cond (turn == 2) (record { key = codes "NoExecPaths"; value = path } ∷ []) []))

-- the key of a turn
abbrev pub folder_key : ℕ → Option (List ℕ)
folder_key turn = cond (turn == 0) (Some (codes "ReadOnlyPaths"))
    (cond (turn == 1) (Some (codes "InaccessiblePaths")) (cond (turn == 2) (Some (codes "NoExecPaths")) None))

abbrev pub folder_settings : ℕ → ℕ → List Setting
folder_settings n k = folder_settings_by ((k + n) % 4) (folder_path k)

-- an even sample has no_new_privs
abbrev pub privilege_settings : ℕ → List Setting
privilege_settings n = cond (n % 2 == 0) (record { key = codes "NoNewPrivileges"; value = codes "yes" } ∷ []) []

abbrev pub unit_settings : ℕ → List Setting
unit_settings n =
    record { key = codes "ExecStart"; value = codes "/usr/bin/app" } ∷ record { key = codes "User"; value = codes "app" } ∷
    (privilege_settings n ++ flat_map (folder_settings n) (numbers_from 0 16))

-- its lines: the header, and each setting
abbrev pub line_of : Setting → List ℕ
line_of setting = setting.key ++ codes "=" ++ setting.value

unfoldable pub unit_text : ℕ → List ℕ
unit_text n = text_of_lines (codes "[Service]" ∷ map line_of (unit_settings n))

-- what they are read as: an assignment of each line after the header's, and nothing to note
abbrev pub assignments_from : ℕ → List Setting → List Assignment
assignments_from line [] = []
assignments_from line (setting ∷ settings) = record { section = codes "Service"; key = setting.key; value = setting.value; line = line } ∷
    assignments_from (line + 1) settings

abbrev pub unit_said : ℕ → UnitText
unit_said n = record { assignments = assignments_from 2 (unit_settings n); notes = [] }
