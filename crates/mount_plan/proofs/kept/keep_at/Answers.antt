use Rattle.std.proofs.Common.{◌∙◌, ap, subst, map, List, Result}
use Rattle.path_settings.specs.declared.mentions.Mention.{Mention}
use Rattle.path_settings.specs.view_map.Kept.{Refusal, kept_among, beneath_at, unbeaten}
use Rattle.mount_plan.specs.Host.{host_of}
use Rattle.mount_plan.specs.Answers.{AddsKept}
use Rattle.mount_plan.proofs.kept.keep_at.Goals as goal

pub returns : goal.returns
returns c =
    let row_at = host_of c.args.site.now in
    let beneath = c.beneath_at-beneath.ensures.by_the_longest_above ∙ ap (λ kept. beneath_at row_at kept c.args.path.now) c.deref.ensures.value in
    let here = ap (map (λ mention. mention.now)) c.deref-3.ensures.value ∙ c.in_ok-here-2.ensures.none_is_beaten ∙ ap unbeaten (ap (map (λ mention. mention.now)) c.deref-2.ensures.value ∙ c.in_ok-here.ensures.those_at_the_path) in
    subst (λ (found : Result (List Mention) Refusal). AddsKept found c.args.kept.now.items c.keep.new.kept.items c.keep.result)
    (ap (λ b. kept_among row_at b (map (λ mention. mention.now) c.deref-3.result.now)) beneath
    ∙ ap (kept_among row_at (beneath_at row_at c.args.kept.now.items c.args.path.now)) here)
    c.keep.ensures
