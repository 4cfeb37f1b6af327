use Rattle.std.proofs.Common.{sym, ap, ◌∙◌}
use Rattle.std.specs.Option.{option_map}
use Rattle.exec_settings.proofs.OfAbsPath.Stripped.{strip_text}
use Rattle.exposure_score.specs.service_facts.Each.{names}
use Rattle.exposure_score.proofs.Behind.{found, not_found}
use Rattle.exposure_score.proofs.service_facts.each.is_of_line.Goals as goal

pub returns-in-Some : goal.returns-in-Some
returns-in-Some c =
    let stripped = strip_text c.args.line.now.0.now c.args.id.now c.strip_prefix.result c.strip_prefix.ensures.cases in
    let rest = sym stripped ∙ ap (option_map (λ x. x.now)) c.in-Some.is in
    c.is_end.ensures ∙ sym (found c.args.line.now.0.now c.args.id.now c.in-Some.end.now (names c.args.calls.now c.args.line.now.1) rest)

pub returns-in-None : goal.returns-in-None
returns-in-None c =
    let stripped = strip_text c.args.line.now.0.now c.args.id.now c.strip_prefix.result c.strip_prefix.ensures.cases in
    let rest = sym stripped ∙ ap (option_map (λ x. x.now)) c.in-None.is in
    sym (not_found c.args.line.now.0.now c.args.id.now (names c.args.calls.now c.args.line.now.1) rest)
