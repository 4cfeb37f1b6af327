use Rattle.std.proofs.Common.{subst, sym}
use Rattle.asked_service.specs.launching.Launched.{IsLaunchedUnit}
use Rattle.asked_service.specs.launcher.declared.launched.Launched.{Launched as Service}
use Rattle.tighten_command.specs.tightening.Searching.{tried_of}
use Rattle.tighten_command.specs.tightening.Wishes.{wishes_by}
use Rattle.tighten_command.proofs.Served.{is_over, tells_refusal, tells_service}
use Rattle.tighten_command.proofs.tightening.trial.Trial.serves.Goals as goal

pub bound-requires : goal.bound-requires
bound-requires g c = record { served = c.in-Ok.ensures.launches.launched.is_served }

pub unless_lacking-requires-clause-over_the_tables : goal.unless_lacking-requires-clause-over_the_tables
unless_lacking-requires-clause-over_the_tables g c =
    let tried = tried_of c.args.self.now (wishes_by (λ wish. wish.must_open) (λ wish shown answer. (goal.Fn-dyn g).post (wish.test.vtable, wish.test.value) (shown, tt) answer) c.args.wishes.now) in
    is_over tried c.in_ok-unit.unit c.in_ok-bound-in-Ok.field-0
    (subst (λ (service : Service). IsLaunchedUnit c.in_ok-unit.unit tried.table tried.site service) (sym c.in_ok-bound-in-Ok.ensures.bounds.0) c.in-Ok.ensures.launches) c.in_ok-bound-in-Ok.ensures.bounds.1

pub returns-in-Ok : goal.returns-in-Ok
returns-in-Ok g c = record {
  tells_whether_they_serve =
      let tried = tried_of c.args.self.now (wishes_by (λ wish. wish.must_open) (λ wish shown answer. (goal.Fn-dyn g).post (wish.test.vtable, wish.test.value) (shown, tt) answer) c.args.wishes.now) in
      tells_service tried c.args.set.now c.in_ok-unit.unit c.in_ok-unit.ensures c.in_ok-bound-in-Ok.field-0 c.unless_lacking.result
      (subst (λ (service : Service). IsLaunchedUnit c.in_ok-unit.unit tried.table tried.site service) (sym c.in_ok-bound-in-Ok.ensures.bounds.0) c.in-Ok.ensures.launches) c.in_ok-bound-in-Ok.ensures.bounds.1
      c.unless_lacking.ensures;
}

pub returns : goal.returns
returns g c = record {
  tells_whether_they_serve =
      tells_refusal (tried_of c.args.self.now
      (wishes_by (λ wish. wish.must_open)
      (λ wish shown answer. (goal.Fn-dyn g).post (wish.test.vtable, wish.test.value) (shown, tt) answer) c.args.wishes.now))
      c.args.set.now c.in_ok-unit.unit c.in_ok-unit.ensures c.in-Err.refusal c.none_for.result c.in-Err.ensures.launches
      c.none_for.ensures;
}
