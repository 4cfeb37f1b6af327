use Rattle.std.proofs.Common.{◌+◌, ◌∙◌, ap, subst, sym, drop, List, Result, Err}
use Rattle.std.proofs.lemmas.Result.{err_from_is_err_and}
use Rattle.path_settings.specs.declared.mentions.Mention.{Mention}
use Rattle.path_settings.specs.view_map.Kept.{Refusal, kept_from}
use Rattle.mount_plan.specs.Host.{host_of}
use Rattle.mount_plan.specs.Answers.{Keeps}
use Rattle.mount_plan.proofs.Keeping.{from_refused, from_goes, drop_item}
use Rattle.mount_plan.proofs.kept.kept_at_all.Goals as goal

pub returns-in_err-keep_at : goal.returns-in_err-keep_at
returns-in_err-keep_at c =
    let row_at = host_of c.args.site.now in
    let next = drop_item c.args.paths.now c.loop-path.path-index c.path-item.result c.loop-path-test.true c.path-item.is in
    let told = err_from_is_err_and c.from_residual.result c.from_residual.ensures.1 in
    record {
      kept_or_refused =
          rw (told.1, told.2) (subst (λ (found : Result (List Mention) Refusal). Keeps found (Err c.in_err-keep_at.field-0.0))
          (ap (λ paths. kept_from row_at c.args.mentions.now paths c.loop-path.kept.items) (sym next) ∙ c.loop-path.invariant)
          (from_refused row_at c.args.mentions.now c.loop-path.kept.items c.keep_at.new.kept.items c.path-item.result
          (drop (c.loop-path.path-index + 1) c.args.paths.now) c.in_err-keep_at.field-0.0 c.in_err-keep_at.ensures));
    }

pub loop-path-preserved : goal.loop-path-preserved
loop-path-preserved c =
    let row_at = host_of c.args.site.now in
    let next = drop_item c.args.paths.now c.loop-path.path-index c.path-item.result c.loop-path-test.true c.path-item.is in
    sym (from_goes row_at c.args.mentions.now c.loop-path.kept.items c.keep_at.new.kept.items c.path-item.result
    (drop (c.loop-path.path-index + 1) c.args.paths.now) c.in_ok-keep_at.ensures)
    ∙ ap (λ paths. kept_from row_at c.args.mentions.now paths c.loop-path.kept.items) (sym next) ∙ c.loop-path.invariant
