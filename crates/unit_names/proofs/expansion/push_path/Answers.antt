use Rattle.std.proofs.Common.{ap, ◌∙◌, ◌++◌}
use Rattle.unit_names.specs.Specifiers.{behind_slashes}
use Rattle.unit_names.specs.Unescaping.{unescaped}
use Rattle.unit_names.proofs.Taken.{path_taken}
use Rattle.unit_names.proofs.expansion.push_path.Goals as goal

pub returns : goal.returns
returns c =
    path_taken c.args.bytes.now.items c.new-path.result.items c.extend_from_slice.new.self.items c.extend_from_slice-2.new.self.items
    c.push_unescaped.new.bytes.items (unescaped c.args.text.now) c.new-path.ensures.items c.in_ok-push_unescaped.ensures.adds_its_meaning
    c.in_ok-extend_from_slice.ensures.items
    (c.in_ok-extend_from_slice-2.ensures.items ∙ ap (λ text. c.extend_from_slice.new.self.items ++ text)
    (c.behind_slashes.ensures ∙ ap behind_slashes c.as_slice.ensures.value))
