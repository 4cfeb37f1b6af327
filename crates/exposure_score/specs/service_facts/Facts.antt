-- The facts of a unit's settings, and the identifiers that they have.
use Rattle.std.specs.Prelude.{◌≡◌, ◌≤◌, ℕ, Bool, List, ◌++◌, map, flat_map, IsPermutation}
use Rattle.std.specs.Ordering.{nat_cmp}
use Rattle.std.specs.Cmp.Lexicographic.{slice_cmp}
use Rattle.std.specs.List.{list_any}
use Rattle.std.specs.List.Sorted.{IsSortedByKey}
use Rattle.std.specs.Str.{bytes_eq}
use Rattle.exec_settings.specs.call_table.Table.{Table}
use Rattle.exec_settings.specs.dropin_merge.declared.resolved.Resolved.{Resolved}
use Rattle.exec_settings.specs.declared.service.Settings.{Settings}
use Rattle.exposure_score.specs.declared.facts.Fact.{Fact}
use Rattle.exposure_score.specs.declared.facts.Facts.{Facts}
use Rattle.exposure_score.specs.declared.service_facts.sandbox.Sandbox.{Sandbox}
use Rattle.exposure_score.specs.service_facts.Each.{End, ends, names}
use Rattle.exposure_score.specs.service_facts.Sandbox.{sandbox_of, writable_paths}
use Rattle.exposure_score.specs.service_facts.Table.{Line, lines}

-- an identifier and its badness
abbrev pub Told : Type 0
Told = List ℕ × ℕ

-- the identifiers and badnesses of facts
abbrev pub told : List Fact → List Told
told facts = map (λ fact. (fact.id, fact.badness)) facts

-- the end of an identifier after the front of a line
abbrev pub behind : List ℕ → End → Told
behind front end = (front ++ end.0, end.1)

-- the tests of a line of the table
abbrev pub told_by_line : Sandbox → Table → Line → List Told
told_by_line sandbox table line = map (behind line.0) (ends sandbox table line.1)

-- the tests of all lines
abbrev pub told_by_lines : Sandbox → Table → List Told
told_by_lines sandbox table = flat_map (told_by_line sandbox table) lines

-- the facts are the tests of the table's lines, in byte order of identifiers
pub record AreTests (sandbox : Sandbox) (table : Table) (facts : List Fact) : Type 0 where
  pub those_of_the_lines : IsPermutation (told_by_lines sandbox table) (told facts)
  pub in_byte_order : IsSortedByKey (λ fact. fact.id) (slice_cmp nat_cmp) facts

-- the facts of a unit's settings
pub record AreFacts (unit : Resolved) (table : Table) (settings : Settings) (facts : Facts) : Type 0 where
  pub uid : facts.uid ≡ settings.uid
  pub bounding : facts.bounding ≡ settings.bounding
  pub ambient : facts.ambient ≡ settings.ambient
  pub no_new_privs : facts.no_new_privs ≡ settings.no_new_privs
  pub writable_paths : facts.writable_paths ≡ writable_paths unit
  pub few_writable_paths : facts.writable_paths ≤ 128
  pub tests : AreTests (sandbox_of unit table settings) table facts.tests

-- a line of the table has a test of this identifier
abbrev pub is_of_line : Table → List ℕ → Line → Bool
is_of_line table id line = list_any (λ name. bytes_eq (line.0 ++ name) id) (names table line.1)

-- the table has a test of this identifier, for this table of calls
abbrev pub is_known : List ℕ → Table → Bool
is_known id table = list_any (is_of_line table id) lines
