-- What is found of a unit that is launched without some lines.
use Rattle.std.specs.Prelude.{◌≡◌, ◌⊎◌, List, Vec}
use Rattle.std.specs.declared.alloc.Global.{Global}
use Rattle.why_command.specs.deciding_lines.Least.{IsPartOf}
use Rattle.asked_service.specs.dropin_merge.declared.unit_values.value.Place.{Place}
use Rattle.why_command.specs.deciding_lines.Deciding.{AreDeciding}
use Rattle.why_command.specs.deciding_lines.Tried.{IsDeniedWithout, IsOpenWithout, Tried}
use Rattle.why_command.specs.declared.deciding_lines.reason.Reason.{Reason}
use Rattle.why_command.specs.declared.deciding_lines.reason.Reason.TheVariants as reason

-- without these lines the question is denied, and the other reason is given; or it is open, and some of these lines deny it
abbrev pub DeniesWithout : Tried → List Place → Reason → Reason → Type 0
DeniesWithout tried gone otherwise told = (IsDeniedWithout tried gone × (told ≡ otherwise))
    ⊎ ((found : Vec Place Global) × (told ≡ reason.Lines found) × IsOpenWithout tried gone × IsPartOf found.items gone
    × AreDeciding tried found.items)
