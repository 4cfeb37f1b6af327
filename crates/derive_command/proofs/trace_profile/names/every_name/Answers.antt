use Rattle.std.proofs.Common.{◌∙◌, ◌++◌, ◌∷◌, [], ℕ, List, ap, cond, sym}
use Rattle.derive_command.specs.trace_profile.Extended.{is_first_line}
use Rattle.derive_command.proofs.Lists.{range_more}
use Rattle.derive_command.proofs.trace_profile.names.every_name.Goals as goal

pub loop-place-preserved : goal.loop-place-preserved
loop-place-preserved c =
    c.in_ok-push_first.ensures
    ∙ ap (λ (these : List ℕ). these ++ cond (is_first_line c.args.calls.now c.loop-place.place) (c.loop-place.place ∷ []) [])
    c.loop-place.invariant
    ∙ sym (range_more (is_first_line c.args.calls.now) c.loop-place.place)
