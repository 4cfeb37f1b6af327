-- A unit that allows some calls beside `@default`, and no others (systemd.exec(5), SystemCallFilter=).
use Rattle.std.specs.Prelude.{ℕ, Bool, List, [], ◌∷◌, ◌++◌, codes, flat_map, filter, length, slice_get}
use Rattle.std.specs.List.{range_with_len}
use Rattle.std.specs.Option.{option_map_or}
use Rattle.asked_service.specs.call_table.Members.{is_first}
use Rattle.asked_service.specs.call_table.Table.{Table, every_call}
use Rattle.asked_service.specs.dropin_merge.declared.resolved.Resolved.{Resolved}
use Rattle.asked_service.specs.launching.Longer.{with_file}

-- the name of the call line at a place
abbrev pub name_at : Table → ℕ → List ℕ
name_at table place = option_map_or (λ line. line.name) (slice_get (every_call table) place) []

-- the drop-in: an empty value takes back what was set before, and the next line is all that is allowed
abbrev pub drop_in_text : Table → List ℕ → List ℕ
drop_in_text table names =
    codes "[Service]\nSystemCallFilter=\nSystemCallFilter=@default" ++ (flat_map (λ place. 32 ∷ name_at table place) names ++ 10 ∷ [])

-- the unit with that drop-in after its files
abbrev pub extended : Resolved → Table → List ℕ → Resolved
extended unit table names = with_file unit (drop_in_text table names)

-- no earlier line has the name of the line; with two ABIs a name may occur twice
abbrev pub is_first_line : Table → ℕ → Bool
is_first_line table place = is_first (every_call table) (name_at table place) place

-- every name of the table, by its first line
abbrev pub every_name : Table → List ℕ
every_name table = filter (is_first_line table) (range_with_len 0 (length (every_call table)))

-- the unit that allows every call of the table
abbrev pub open_unit : Resolved → Table → Resolved
open_unit unit table = extended unit table (every_name table)
