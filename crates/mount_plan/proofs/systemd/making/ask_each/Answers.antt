use Rattle.std.proofs.Common.{◌+◌, ◌∙◌, ap, subst, sym, drop, map, List, Option, Err}
use Rattle.std.proofs.lemmas.Result.{err_from_is_err_and}
use Rattle.path_settings.specs.declared.systemd.entries.MountEntry.{MountEntry}
use Rattle.path_settings.specs.view_map.Kept.{Refusal}
use Rattle.mount_plan.specs.Host.{host_of}
use Rattle.mount_plan.specs.Answers.{Refuses, first_of}
use Rattle.mount_plan.proofs.EntriesMade.{goes_past, refusals_in, stops_at}
use Rattle.mount_plan.proofs.Keeping.{drop_lent}
use Rattle.mount_plan.proofs.systemd.making.ask_each.Goals as goal

pub returns-in_err-refusal : goal.returns-in_err-refusal
returns-in_err-refusal c =
    let row_at = host_of c.args.site.now in
    let put = map (λ one. one.now) c.args.putting.now in
    let rest = map (λ one. one.now) (drop (c.loop-one.one-index + 1) c.args.listed.now) in
    let next = drop_lent c.args.listed.now c.loop-one.one-index c.one-item.result c.loop-one-test.true c.one-item.is in
    let told = err_from_is_err_and c.from_residual.result c.from_residual.ensures.1 in
    rw (told.1, told.2) (subst (λ (found : Option Refusal). Refuses found (Err c.in_err-refusal.field-0.0))
    (ap (λ (some : List MountEntry). first_of (refusals_in row_at put some)) (sym next) ∙ c.loop-one.invariant)
    (stops_at row_at put c.one-item.result.now rest c.fate_at.result c.in_err-refusal.field-0.0 c.fate_at.ensures c.in_err-refusal.ensures))

pub loop-one-preserved : goal.loop-one-preserved
loop-one-preserved c =
    let row_at = host_of c.args.site.now in
    let put = map (λ one. one.now) c.args.putting.now in
    let rest = map (λ one. one.now) (drop (c.loop-one.one-index + 1) c.args.listed.now) in
    let next = drop_lent c.args.listed.now c.loop-one.one-index c.one-item.result c.loop-one-test.true c.one-item.is in
    goes_past row_at put c.one-item.result.now rest c.fate_at.result c.fate_at.ensures c.in_ok-refusal.ensures
    ∙ ap (λ (some : List MountEntry). first_of (refusals_in row_at put some)) (sym next) ∙ c.loop-one.invariant
