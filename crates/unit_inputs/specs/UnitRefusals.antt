-- The unit of a name, or the line of its refusal (systemd.unit(5)).
use Rattle.std.specs.Prelude.{◌≡◌, ℕ, List, [], ◌++◌, codes, IsSome, None, Result, Ok, Err}
use Rattle.std.specs.Fmt.{decimal}
use Rattle.exec_settings.specs.host_io.Files.{Files}
use Rattle.exec_settings.specs.unit_grammar.declared.unit.UnitError.{UnitError}
use Rattle.exec_settings.specs.unit_grammar.declared.unit.UnitError.TheVariants as text
use Rattle.exec_settings.specs.dropin_merge.Resolving.{resolved_of}
use Rattle.exec_settings.specs.dropin_merge.declared.errors.ResolveError.{ResolveError}
use Rattle.exec_settings.specs.dropin_merge.declared.errors.ResolveError.TheVariants.{BadName, NotFound, Masked, DropIns, TooLarge, Text}
use Rattle.exec_settings.specs.dropin_merge.declared.errors.ResolveError.TheVariants.{ReadFault, Memory}
use Rattle.exec_settings.specs.dropin_merge.declared.resolved.Resolved.{Resolved}
use Rattle.unit_inputs.specs.command_answers.Refusals.{refused_line}
use Rattle.unit_inputs.specs.command_answers.CommandErrors.{or_line}
use Rattle.unit_inputs.specs.declared.command_answers.error.CommandError.{CommandError}
use Rattle.unit_inputs.specs.declared.command_answers.error.CommandError.TheVariants as stop
use Rattle.exec_settings.specs.unit_names.Cutting.{name_of}

-- the cause of the refusal of a text
abbrev pub text_cause : UnitError → List ℕ
text_cause text.NotText = codes "not-text"
text_cause (text.BadHeader line) = codes "line " ++ decimal line ++ codes " header"
text_cause text.TooMany = codes "too-many"
text_cause text.Memory = []

-- the line of a unit that is not resolved; it is empty for a fault and for exhausted memory
abbrev pub unit_line : List ℕ → ResolveError → List ℕ
unit_line unit BadName = refused_line unit (codes "bad-name")
unit_line unit NotFound = refused_line unit (codes "not-found")
unit_line unit Masked = refused_line unit (codes "masked")
unit_line unit DropIns = refused_line unit (codes "drop-ins")
unit_line unit (TooLarge path) = refused_line path (codes "too-large")
unit_line unit (Text path fault) = refused_line path (text_cause fault)
unit_line unit ReadFault = []
unit_line unit Memory = []

-- the unit over these files, or the line of its refusal
abbrev pub unit_in : Files → List ℕ → Result Resolved (List ℕ)
unit_in files unit = or_line (unit_line unit) (resolved_of files unit)

-- the text is the name of a service, or the line refuses it as no name
abbrev pub HasNameOrTells : List ℕ → Result (Unit {0}) CommandError → Type 0
HasNameOrTells unit (Ok u) = IsSome (name_of unit)
HasNameOrTells unit (Err (stop.Refused line)) = (name_of unit ≡ None) × (line.items ≡ refused_line unit (codes "bad-name"))
HasNameOrTells unit (Err stop.ReadFault) = ⊥
HasNameOrTells unit (Err stop.Memory) = Unit {0}
