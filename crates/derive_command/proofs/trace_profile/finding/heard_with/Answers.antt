use Rattle.std.proofs.Common.{sym, subst}
use Rattle.std.specs.Prelude.{IfErr}
use Rattle.asked_service.specs.launching.Launched.{IsLaunchedUnit, IsNotLaunched}
use Rattle.derive_command.specs.trace_profile.Extended.{extended}
use Rattle.derive_command.proofs.Tried.{at_error}
use Rattle.derive_command.proofs.trace_profile.finding.heard_with.Goals as goal

pub returns-in_err-service-clause-refused : goal.returns-in_err-service-clause-refused
returns-in_err-service-clause-refused c =
    at_error (λ made. IfErr made
    (λ error. IsNotLaunched (extended c.args.unit.now c.args.calls.now c.args.names.now) c.args.calls.now c.args.site.now error))
    c.from_residual-in_err-service.result c.in_err-service.field-0.0 c.from_residual-in_err-service.ensures.1
    (subst (λ own. IsNotLaunched own c.args.calls.now c.args.site.now c.in_err-service.field-0.0) c.in_ok-open.ensures.drop_in_stands_last
    c.in_err-service.ensures.launches)

pub returns-clause-replies : goal.returns-clause-replies
returns-clause-replies c = record {
  serves = record {
    service = c.in_ok-service.service;
    launched = subst (λ own. IsLaunchedUnit own c.args.calls.now c.args.site.now c.in_ok-service.service)
        c.in_ok-open.ensures.drop_in_stands_last c.in_ok-service.ensures.launches;
    replies = sym c.in_ok-heard.ensures.replies;
  };
  of_its_service = c.in_ok-heard.ensures.fates;
}
