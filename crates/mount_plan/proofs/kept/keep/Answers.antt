use Rattle.std.proofs.Common.{map}
use Rattle.std.proofs.lemmas.Result.{err_from_is_err_and}
use Rattle.mount_plan.specs.Host.{host_of}
use Rattle.mount_plan.proofs.Keeping.{origin_refused, flag_refused, none_refused}
use Rattle.mount_plan.proofs.kept.keep.Goals as goal

pub returns-in_err-ask : goal.returns-in_err-ask
returns-in_err-ask c =
    let told = err_from_is_err_and c.from_residual.result c.from_residual.ensures.1 in
    rw (told.1, told.2) (origin_refused (host_of c.args.site.now) c.args.beneath
    (map (λ mention. mention.now) c.args.here.now) c.args.kept.now.items c.is_put-is_put.result c.in_err-ask.field-0.0
    c.is_put-is_put.ensures.some_is_put c.in_err-ask.ensures)

pub returns-in_err-ask-2 : goal.returns-in_err-ask-2
returns-in_err-ask-2 c =
    let told = err_from_is_err_and c.from_residual-in_err-ask-2.result c.from_residual-in_err-ask-2.ensures.1 in
    rw (told.1, told.2) (flag_refused (host_of c.args.site.now) c.args.beneath
    (map (λ mention. mention.now) c.args.here.now) c.args.kept.now.items c.is_put-is_put.result c.in_err-ask-2.field-0.0
    c.is_put-is_put.ensures.some_is_put c.in_ok-ask.ensures c.in_err-ask-2.ensures)

pub returns : goal.returns
returns c =
    none_refused (host_of c.args.site.now) c.args.beneath (map (λ mention. mention.now) c.args.here.now) c.args.kept.now.items
    c.add.new.kept.items c.is_put-is_put.result
    c.is_put-is_put.ensures.some_is_put c.in_ok-ask.ensures c.in_ok-ask-2.ensures c.in_ok-add.ensures
