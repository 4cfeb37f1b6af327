-- A unit with one more file after its files (systemd.unit(5)): the assignments of a later file are added, or take back what was before.
use Rattle.std.specs.Prelude.{ℕ, List, [], Result, Ok, Err}
use Rattle.judge.specs.dropin_merge.Changed.{extended}
use Rattle.judge.specs.dropin_merge.declared.resolved.Resolved.{Resolved}
use Rattle.report_text.specs.unit_grammar.Reading.{unit_of}
use Rattle.report_text.specs.unit_grammar.declared.unit.UnitError.{UnitError}
use Rattle.report_text.specs.unit_grammar.declared.unit.UnitText.{UnitText}

-- what a file says; one that is refused says nothing
abbrev pub unless_refused : Result UnitText UnitError → UnitText
unless_refused (Ok text) = text
unless_refused (Err error) = record { assignments = []; notes = [] }

abbrev pub says : List ℕ → UnitText
says bytes = unless_refused (unit_of bytes)

-- the unit with a file of these bytes after its files
abbrev pub with_file : Resolved → List ℕ → Resolved
with_file unit bytes = extended unit (says bytes)
