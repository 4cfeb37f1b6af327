-- The site of site.toml, or the line of its refusal.
use Rattle.std.specs.Prelude.{ℕ, List, [], ◌++◌, codes, Result}
use Rattle.std.specs.Fmt.{decimal}
use Rattle.exec_settings.specs.host_io.Files.{Files}
use Rattle.exec_settings.specs.site_table.Reading.{site_of}
use Rattle.exec_settings.specs.site_table.Table.{Site}
use Rattle.exec_settings.specs.site_table.declared.error.RowCause.{RowCause}
use Rattle.exec_settings.specs.site_table.declared.error.RowCause.TheVariants.{Key, Path, Kind, Number, Caps, Both, Duplicate, NoParent}
use Rattle.exec_settings.specs.site_table.declared.error.SiteError.{SiteError}
use Rattle.exec_settings.specs.site_table.declared.error.SiteError.TheVariants.{NotToml, Top, TooMany, Row, User, Group, Memory}
use Rattle.unit_inputs.specs.command_answers.Refusals.{refused_line}
use Rattle.unit_inputs.specs.FileRefusals.{bytes_in}
use Rattle.unit_inputs.specs.command_answers.CommandErrors.{and_then, or_line}

abbrev pub site_path : List ℕ
site_path = codes "site.toml"

-- the printed word for the fault of a row
abbrev pub cause_word : RowCause → List ℕ
cause_word Key = codes "key"
cause_word Path = codes "path"
cause_word Kind = codes "kind"
cause_word Number = codes "number"
cause_word Caps = codes "caps"
cause_word Both = codes "both"
cause_word Duplicate = codes "duplicate"
cause_word NoParent = codes "no-parent"

-- the first faulty row, from 1, and its cause
abbrev pub row_cause : ℕ → RowCause → List ℕ
row_cause row cause = codes "row " ++ decimal row ++ codes " " ++ cause_word cause

-- the cause of the refusal of site.toml; users and groups are numbered from 1, and `Memory` has no cause to print
abbrev pub site_cause : SiteError → List ℕ
site_cause NotToml = codes "toml"
site_cause Top = codes "top"
site_cause TooMany = codes "too-many"
site_cause (Row row cause) = row_cause row cause
site_cause (User user) = codes "user " ++ decimal user
site_cause (Group group) = codes "group " ++ decimal group
site_cause Memory = []

abbrev pub site_line : SiteError → List ℕ
site_line error = refused_line site_path (site_cause error)

-- the site of these bytes, or the line of the refusal
unfoldable pub site_said : List ℕ → Result Site (List ℕ)
site_said bytes = or_line site_line (site_of bytes)

-- the site of site.toml over these files, or the line of the refusal
abbrev pub site_in : Files → Result Site (List ℕ)
site_in files = and_then (bytes_in files site_path) site_said
