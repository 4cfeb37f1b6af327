use Rattle.std.proofs.Common.{[], ◌∷◌, sym, ap, ◌∙◌}
use Rattle.std.specs.Option.{option_map}
use Rattle.unit_inputs.proofs.OfAbsPath.Stripped.{strip_text}
use Rattle.check_command.proofs.Joined.{joined, not_joined}
use Rattle.check_command.proofs.naming.is_behind_at.Goals as goal

pub returns-in-Some : goal.returns-in-Some
returns-in-Some c =
    let stripped = strip_text (64 ∷ []) c.args.text.now c.strip_prefix.result c.strip_prefix.ensures.cases in
    let rest = sym stripped ∙ ap (option_map (λ x. x.now)) c.in-Some.is in
    c.eq.ensures ∙ sym (joined (64 ∷ []) c.args.text.now c.args.abi.now c.in-Some.rest.now rest)

pub returns-in-None : goal.returns-in-None
returns-in-None c =
    let stripped = strip_text (64 ∷ []) c.args.text.now c.strip_prefix.result c.strip_prefix.ensures.cases in
    let rest = sym stripped ∙ ap (option_map (λ x. x.now)) c.in-None.is in
    sym (not_joined (64 ∷ []) c.args.text.now c.args.abi.now rest)
