-- What is read of a unit, as its parts are lent.
use Rattle.std.proofs.Common.{◌≡◌, ◌∙◌, ap}
use Rattle.judge.specs.call_table.Table.{Table}
use Rattle.judge.specs.dropin_merge.declared.resolved.Resolved.{Resolved}
use Rattle.judge.specs.site_table.Table.{Site}
use Rattle.plan_command.specs.unit_inputs.Inputs.{Inputs}
use Rattle.asked_service.specs.launching.Starting.{given}

pub same_inputs : (inputs : Inputs) (unit : Resolved) (calls : Table) (site : Site) → unit ≡ inputs.unit → calls ≡ inputs.calls
    → site ≡ inputs.site → given unit calls site ≡ inputs
same_inputs inputs unit calls site one two three =
    ap (λ own. given own calls site) one ∙ ap (λ own. given inputs.unit own site) two ∙ ap (λ own. given inputs.unit inputs.calls own) three
