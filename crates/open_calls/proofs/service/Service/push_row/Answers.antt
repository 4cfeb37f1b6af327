use Rattle.std.proofs.Common.{◌≡◌, ◌++◌, ◌∙◌, ap, append_assoc, sym, subst, List}
use Rattle.std.specs.Prelude.{OnOk, is_some}
use Rattle.ceilings.specs.linux_numbers.Capabilities.{cap_sys_admin}
use Rattle.ceilings.specs.kernel_model.declared.kernel_calls.call.Call.{Call}
use Rattle.ceilings.specs.kernel_laws.Reach.{mount_wish, reaches}
use Rattle.ceilings.specs.kernel_laws.declared.question_types.power.Power.TheVariants.{None as Nowise}
use Rattle.ceilings.specs.kernel_laws.declared.question_types.wish.Wish.{Wish}
use Rattle.ceilings.specs.kernel_laws.Launched.{launch_of}
use Rattle.ceilings.specs.kernel_laws.declared.question_types.power.Power.{Power}
use Rattle.open_calls.specs.chosen_calls.Chosen.{wished_calls}
use Rattle.open_calls.specs.chosen_calls.Gaining.{gaining}
use Rattle.open_calls.proofs.Listed.{far_row, shown_far}
use Rattle.open_calls.proofs.service.Service.push_row.Goals as goal

pub returns : goal.returns
returns c =
    let launch = launch_of c.args.self.now.world.now in
    let front = gaining launch c.args.self.now.program.now cap_sys_admin in
    let Ends : List Call → Type 0 = λ calls. OnOk c.push_wished-2.result (c.push_wished-2.new.calls.items ≡ calls) in
    let wished : Power → List Call = λ power. wished_calls launch power c.args.wish c.args.row.now in
    let power = c.args.self.now.power in
    subst (λ calls. Ends (c.args.calls.now.items ++ calls))
    (far_row launch c.args.self.now.program.now 0 c.args.wish c.args.row.now (sym c.is_held_off.ensures ∙ c.if-is_held_off.false)
    (ap (λ (needed : Wish). reaches Nowise launch.table c.args.row.now.path needed) (sym c.mount_wish-needed.ensures.of_the_kind)
    ∙ ap is_some (sym c.reach_by-near.ensures.by_the_rule) ∙ sym c.is_some.ensures ∙ c.if-is_some.false))
    (subst (λ own. Ends (c.args.calls.now.items ++ (front ++ wished own))) c.args.self.now.its_own
    (subst Ends (append_assoc c.args.calls.now.items front (wished power))
    (subst (λ begun. Ends (begun ++ wished power)) c.in_ok-push_gaining.ensures c.push_wished-2.ensures)))

pub push_wished-requires-2-clause-aimed : goal.push_wished-requires-2-clause-aimed
push_wished-requires-2-clause-aimed c =
    let launch = launch_of c.args.self.now.world.now in
    record {
      known = c.requires.known;
      reached = ap (λ (needed : Wish). reaches c.args.self.now.power launch.table c.args.row.now.path needed) c.mount_wish-needed.ensures.of_the_kind
          ∙ ap (λ (power : Power). reaches power launch.table c.args.row.now.path (mount_wish c.args.row.now.kind c.args.wish)) c.args.self.now.its_own
          ∙ shown_far launch c.args.self.now.program.now 0 c.args.wish c.args.row.now c.requires.reachable;
      number = c.lead-at.ensures.first;
    }
