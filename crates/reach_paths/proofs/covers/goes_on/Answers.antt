use Rattle.std.proofs.Common.{ap, ◌∙◌, Some, None}
use Rattle.std.specs.Prelude.{is_some, option_and_then}
use Rattle.kernel_laws.specs.abs_path.Prefix.{behind_only}
use Rattle.kernel_laws.proofs.OfAbsPath.Stripped.{strip_text}
use Rattle.reach_paths.proofs.Stripping.{some_behind}
use Rattle.reach_paths.proofs.covers.goes_on.Goals as goal

pub returns-in-None : goal.returns-in-None
returns-in-None c =
    ap (λ o. is_some (option_and_then behind_only o)) (strip_text c.args.front.now c.args.text.now None c.in-None.ensures.cases)

pub returns-in-Some : goal.returns-in-Some
returns-in-Some c =
    c.is_behind.ensures ∙ some_behind c.in-Some.rest.now
    ∙ ap (λ o. is_some (option_and_then behind_only o))
    (strip_text c.args.front.now c.args.text.now (Some c.in-Some.rest) c.in-Some.ensures.cases)
