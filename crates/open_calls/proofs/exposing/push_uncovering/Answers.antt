use Rattle.std.proofs.Common.{◌≡◌, ◌∙◌, sym, arith, ap, ◌-◌, ◌+◌, ◌++◌, ◌∷◌, []}
use Rattle.ceilings.specs.kernel_model.declared.kernel_calls.call.Call.{Call}
use Rattle.ceilings.specs.kern_mounts.Mounts.{steps_of}
use Rattle.ceilings.proofs.OfKernMounts.Mounts.{steps_long}
use Rattle.open_calls.specs.Firsts.{place_in}
use Rattle.open_calls.proofs.Uncovering.{calls_from, covers_here, passes_here, none_left}
use Rattle.open_calls.proofs.exposing.push_uncovering.Goals as goal

pub loop-at-init : goal.loop-at-init
loop-at-init c = (omega (arith, c.requires.in_range, c.len-at.ensures.number_of_entries, steps_long c.args.table.now), none_left (place_in c.args.first) c.args.path.now (steps_of c.args.table.now) c.len-at.result (omega (arith, c.len-at.ensures.number_of_entries, steps_long c.args.table.now)) c.args.calls.now.items)

pub loop-at-preserved-in_ok-push : goal.loop-at-preserved-in_ok-push
loop-at-preserved-in_ok-push c =
    let step : c.loop-at.at ≡ (c.loop-at.at - 1) + 1 = omega arith in
    let before = c.loop-at.invariant.1 ∙ ap (λ n. c.args.calls.now.items ++ calls_from (place_in c.args.first) c.args.path.now (steps_of c.args.table.now) n) step in (
      omega arith,
      c.in_ok-push.ensures.items ∙ ap (λ (call : Call). c.loop-at.calls.items ++ call ∷ []) c.in_ok-umount_call.ensures
          ∙ covers_here (place_in c.args.first) c.args.path.now (steps_of c.args.table.now)
          (c.loop-at.at - 1) c.entry.result.now c.entry.ensures.entry
          (sym c.if-is_prefix.ensures.by_whole_parts) c.args.calls.now.items c.loop-at.calls.items before,
    )

pub loop-at-preserved : goal.loop-at-preserved
loop-at-preserved c =
    let step : c.loop-at.at ≡ (c.loop-at.at - 1) + 1 = omega arith in
    let before = c.loop-at.invariant.1 ∙ ap (λ n. c.args.calls.now.items ++ calls_from (place_in c.args.first) c.args.path.now (steps_of c.args.table.now) n) step in
    (omega arith, passes_here (place_in c.args.first) c.args.path.now (steps_of c.args.table.now) (c.loop-at.at - 1) c.entry.result.now c.entry.ensures.entry (sym c.if-is_prefix.ensures.by_whole_parts) c.args.calls.now.items c.loop-at.calls.items before)

pub returns : goal.returns
returns c =
    let end : c.loop-at.at ≡ c.args.from = omega (arith, c.loop-at.invariant.0) in
    c.loop-at.invariant.1 ∙ ap
    (λ n. c.args.calls.now.items ++ calls_from (place_in c.args.first) c.args.path.now (steps_of c.args.table.now) n) end
