use Rattle.std.proofs.Common.{◌≡◌, ℕ, List, ap, subst, ◌∙◌}
use Rattle.asked_service.specs.judge.Alike.{IsAlike}
use Rattle.asked_service.specs.launcher.Answers.{given_bytes, launch_with}
use Rattle.kernel_rows.proofs.alike.elsewhere.is_blind_at.Goals as goal

pub returns-clause-same_there : goal.returns-clause-same_there
returns-clause-same_there c =
    let asked = c.args.asked.now in
    let service = c.args.service.now in
    let programs : given_bytes c.list.result.now ≡ given_bytes service.filters = ap given_bytes c.list.ensures.all_in_order in
    λ is agree.
    subst (λ (bytes : List (List ℕ)). IsAlike asked.unit.now asked.calls.now asked.other.now c.args.settings.now c.args.plan.now bytes
    service.world service.steps) programs
    (c.know_alike.ensures.whichever_programs service.world service.steps
    (ap (λ (bytes : List (List ℕ)). launch_with asked.calls.now asked.site.now c.args.settings.now c.args.plan.now bytes) programs
    ∙ c.requires.launched.launches.ends)
    (c.blind.ensures.blind is) agree)
