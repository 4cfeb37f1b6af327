-- Verdicts on the questions about a launched service, and about a unit.
use Rattle.std.specs.Prelude.{◌≡◌, ◌↔◌, ℕ, Bool, false, not, List, filter, length, map}
use Rattle.std.specs.List.{AllByRecursion}
use Rattle.judge.specs.call_table.Table as calls
use Rattle.judge.specs.dropin_merge.declared.resolved.Resolved.{Resolved}
use Rattle.judge.specs.kernel_laws.Denied.{IsDenied}
use Rattle.judge.specs.kernel_laws.Questions as asked
use Rattle.judge.specs.kernel_model.World.{World}
use Rattle.asked_service.specs.launching.Launched.{IsLaunchedUnit}
use Rattle.judge.specs.launcher.declared.launched.Launched.{Launched as Service}
use Rattle.judge.specs.kernel_laws.declared.question_types.question.Question.{Question}
use Rattle.judge.specs.site_table.Table.{Site}
use Rattle.asked_service.specs.Asked.{is_open_by}
use Rattle.asked_service.specs.declared.rows.VerdictRow.{VerdictRow}

-- the verdict is exact: denied exactly if no list of calls of the service and its descendants reaches the question
abbrev pub IsSo : World → Question → Bool → Type 0
IsSo world question is_open = (is_open ≡ false) ↔ IsDenied world question

-- one exact verdict on each question of the tables, in their order
pub record AreRows (world : World) (rows : List VerdictRow) : Type 0 where
  pub one_each : map (λ row. row.question) rows ≡ asked.questions world.calls world.site
  pub each_is_so : AllByRecursion (λ row. IsSo world row.question row.is_open) rows

-- the verdicts on what the service of a unit is asked
pub record AreRowsOf (unit : Resolved) (table : calls.Table) (site : Site) (rows : List VerdictRow) : Type 0 where
  pub service : Service
  pub launched : IsLaunchedUnit unit table site service
  pub are_rows : AreRows service.world rows

-- the verdicts by the rule
abbrev pub rows_of : World → List Question → List VerdictRow
rows_of world list = map (λ question. record { question = question; is_open = is_open_by world question }) list

-- how many of some verdicts say that the question is open, or that it is denied
abbrev pub count_open : List VerdictRow → ℕ
count_open rows = length (filter (λ row. row.is_open) rows)

abbrev pub count_denied : List VerdictRow → ℕ
count_denied rows = length (filter (λ row. not row.is_open) rows)
