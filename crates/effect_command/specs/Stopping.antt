-- What the steps of an answer ask of each other.
use Rattle.std.specs.Prelude.{◌≡◌, Result, Ok, Err}
use Rattle.asked_service.specs.call_table.Table as calls
use Rattle.asked_service.specs.unit_inputs.declared.command_answers.error.CommandError.{CommandError}
use Rattle.asked_service.specs.unit_inputs.declared.command_answers.error.CommandError.TheVariants as stop
use Rattle.asked_service.specs.launcher.declared.launched.Launched.{Launched as Service}
use Rattle.asked_service.specs.site_table.Table.{Site}
use Rattle.asked_service.specs.dropin_merge.declared.resolved.Resolved.{Resolved}
use Rattle.asked_service.specs.launcher.declared.error.LaunchError.{LaunchError}
use Rattle.asked_service.specs.launching.Launched.{IsLaunchedUnit}
use Rattle.effect_command.specs.Lines.{with_line}

-- the same refusal, of the unit with the drop-in, unless memory ran out
abbrev pub IsBehindWith : CommandError → CommandError → Type 0
IsBehindWith (stop.Refused line) (stop.Refused told) = told.items ≡ with_line line.items
IsBehindWith (stop.Refused line) stop.ReadFault = ⊥
IsBehindWith (stop.Refused line) stop.Memory = Unit {0}
IsBehindWith stop.ReadFault told = told ≡ stop.ReadFault
IsBehindWith stop.Memory told = told ≡ stop.Memory

-- what is launched is launched for some unit over these tables
abbrev pub IsOver : calls.Table → Site → Service → Type 0
IsOver table site service = (unit : Resolved) × IsLaunchedUnit unit table site service

abbrev pub StartsOver : calls.Table → Site → Result Service LaunchError → Type 0
StartsOver table site (Ok service) = IsOver table site service
StartsOver table site (Err error) = Unit {0}

-- over the same tables
pub record AreTogether (before after : Service) : Type 0 where
  pub table : calls.Table
  pub site : Site
  pub first : IsOver table site before
  pub second : IsOver table site after

pub record StartTogether (first second : Result Service LaunchError) : Type 0 where
  pub table : calls.Table
  pub site : Site
  pub starts : StartsOver table site first
  pub starts_with : StartsOver table site second
