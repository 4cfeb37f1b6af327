-- A unit over one table of calls and one site has one answer: its service, or one refusal.
use Rattle.std.specs.Prelude.{◌≡◌, ◌≢◌, Result, Ok, Err}
use Rattle.judge.specs.call_table.Facts.{IsWhole}
use Rattle.judge.specs.call_table.Table as calls
use Rattle.judge.specs.dropin_merge.declared.resolved.Resolved.{Resolved}
use Rattle.judge.specs.kernel_model.World.{World}
use Rattle.judge.specs.launcher.Alike.{AnswerAlike, HasWordArchs, above}
use Rattle.judge.specs.launcher.Answers.{codes_of}
use Rattle.judge.specs.launcher.declared.launched.Launched.{Launched as Service}
use Rattle.judge.specs.site_table.Table.{IsSite, Site}
use Rattle.asked_service.specs.launching.Launched.{Launches}
use Rattle.asked_service.specs.declared.launching.refusal.Refusal.{Refusal}
use Rattle.asked_service.specs.declared.launching.refusal.Refusal.TheVariants.{Memory}

-- a table of calls and a site as they are read: the table has the calls of every launch, the architecture of each ABI is a word of
-- 32 bits, and the site is sound
pub record AreTables (table : calls.Table) (site : Site) : Type 0 where
  pub whole : IsWhole table
  pub word_archs : HasWordArchs table
  pub is_site : IsSite site

-- after the same number of steps the two worlds differ in the programs of the launch alone, and these answer alike
pub record AreOneService (one other : Service) : Type 0 where
  pub as_many_steps : one.steps ≡ other.steps
  pub base : World
  pub first : one.world ≡ above (codes_of one.filters) base
  pub second : other.world ≡ above (codes_of other.filters) base
  pub answer_alike : AnswerAlike (codes_of one.filters) (codes_of other.filters)

-- a unit that is launched is not refused, by no setting, no path and no step; and one that is refused is refused for one cause. An answer
-- that memory ran out says nothing
abbrev pub AreOneAnswer : Result Service Refusal → Result Service Refusal → Type 0
AreOneAnswer (Ok one) (Ok other) = AreOneService one other
AreOneAnswer (Ok service) (Err refusal) = refusal ≡ Memory
AreOneAnswer (Err refusal) (Ok service) = refusal ≡ Memory
AreOneAnswer (Err one) (Err other) = one ≢ Memory → other ≢ Memory → one ≡ other

-- of a unit over one table and one site there is one answer
abbrev pub LaunchesOnce : Type 0
LaunchesOnce = (unit : Resolved) (table : calls.Table) (site : Site) (one other : Result Service Refusal) → AreTables table site
    → Launches unit table site one → Launches unit table site other → AreOneAnswer one other
