use Rattle.std.proofs.Common.{◌∙◌, ap, option_map}
use Rattle.path_settings.specs.view_map.View.{saying, leading_to, length_of, longest}
use Rattle.path_settings.specs.view_map.Scan.{is_said, reaches_as_far, shown}
use Rattle.path_settings.proofs.Largest.{largest_reaches}
use Rattle.path_settings.proofs.view_map.seen.prevails.Goals as goal

pub returns : goal.returns
returns c =
    let found = leading_to c.args.path.now c.args.kept.now in
    c.reaches_as_far.ensures ∙ ap (λ one. reaches_as_far one (option_map shown c.longest-2.result)) c.longest.ensures
    ∙ ap (reaches_as_far (longest (is_said c.args.says) found)) c.longest-2.ensures
    ∙ largest_reaches length_of (saying (is_said c.args.says) found) (saying (is_said c.args.denies) found)
