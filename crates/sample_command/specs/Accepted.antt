-- A unit of which nothing is refused.
use Rattle.std.specs.Prelude.{◌≢◌}
use Rattle.asked_service.specs.call_table.Table as calls
use Rattle.asked_service.specs.dropin_merge.declared.resolved.Resolved.{Resolved}
use Rattle.asked_service.specs.launching.Launched.{IsNotLaunched}
use Rattle.asked_service.specs.declared.launching.refusal.Refusal.{Refusal}
use Rattle.asked_service.specs.declared.launching.refusal.Refusal.TheVariants.{Memory}
use Rattle.asked_service.specs.site_table.Table.{Site}

abbrev pub IsNeverRefused : Resolved → calls.Table → Site → Type 0
IsNeverRefused unit table site = (refusal : Refusal) → refusal ≢ Memory → IsNotLaunched unit table site refusal → ⊥
