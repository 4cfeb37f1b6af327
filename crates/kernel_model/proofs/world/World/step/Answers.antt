use Rattle.std.proofs.Common.{sym, arith}
use Rattle.kernel_model.specs.kernel_calls.Seen.{seen}
use Rattle.kernel_model.proofs.Lifts.{step_is, kernel_after, kernel_ended, decides_here, step_seen, ready_seen}
use Rattle.kernel_model.proofs.world.World.step.Goals as goal

pub invariant_of-self : goal.invariant_of-self
invariant_of-self c =
    (c.self.invariant.0, kernel_ended c.self.inside.told.calls.now c.self.inside.told.site.now c.self.inside.state c.end.new.self c.args.call.now.pid c.in-Some.place (sym c.in-Some.ensures.place) c.self.invariant.1 c.end.ensures.has_ended)

pub invariant_of-self-in-Does : goal.invariant_of-self-in-Does
invariant_of-self-in-Does c = (
  c.self.invariant.0,
  kernel_after c.self.inside.told.calls.now c.self.inside.told.site.now c.self.inside.state c.perform.new.self c.args.call.now
      c.perform.result c.self.invariant.1
      (step_is _ _ c.args.call.now c.in-Some.place c.decide.result (seen c.in-Does.operation) c.perform.result (sym c.in-Some.ensures.place)
      (decides_here c.self.inside.told.calls.now c.self.inside.told.site.now c.self.inside.state c.in-Some.place c.args.call.now c.arch_of.result c.decide.result (let many = c.abis.ensures.counts in omega (arith, many, c.if-call-abis.false)) c.arch_of.ensures.by_position c.decide.ensures.by_its_programs)
      c.in-Pass.is (sym c.in-Does.ensures.by_number_words_and_payload) c.perform.ensures.performs)
      c.perform.ensures.stays,
)

pub returns-in-Does-clause-makes_the_step : goal.returns-in-Does-clause-makes_the_step
returns-in-Does-clause-makes_the_step c =
    step_seen _ c.args.self.now c.self.view_is _ c.args.call.now c.in-Some.place c.decide.result (seen c.in-Does.operation) c.perform.result
    (sym c.in-Some.ensures.place)
    (decides_here c.self.inside.told.calls.now c.self.inside.told.site.now c.self.inside.state c.in-Some.place c.args.call.now c.arch_of.result c.decide.result (let many = c.abis.ensures.counts in omega (arith, many, c.if-call-abis.false)) c.arch_of.ensures.by_position c.decide.ensures.by_its_programs)
    c.in-Pass.is (sym c.in-Does.ensures.by_number_words_and_payload) c.perform.ensures.performs

pub returns-in-Does-clause-needs_no_memory : goal.returns-in-Does-clause-needs_no_memory
returns-in-Does-clause-needs_no_memory c =
    ready_seen _ c.args.self.now c.self.view_is c.args.call.now c.in-Some.place c.decide.result (seen c.in-Does.operation) c.perform.result
    (sym c.in-Some.ensures.place)
    (decides_here c.self.inside.told.calls.now c.self.inside.told.site.now c.self.inside.state c.in-Some.place c.args.call.now c.arch_of.result c.decide.result (let many = c.abis.ensures.counts in omega (arith, many, c.if-call-abis.false)) c.arch_of.ensures.by_position c.decide.ensures.by_its_programs)
    c.in-Pass.is (sym c.in-Does.ensures.by_number_words_and_payload) c.perform.ensures.needs_no_memory
