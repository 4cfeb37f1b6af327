use Rattle.std.proofs.Common.{◌∷◌, ◌++◌, sym, ap, ◌∙◌}
use Rattle.std.specs.Str.{bytes_eq}
use Rattle.unit_inputs.specs.call_table.Table.{abi_at}
use Rattle.unit_inputs.specs.filter_settings.filter_rules.Names.{text_of}
use Rattle.check_command.proofs.Joined.{with_abi}
use Rattle.check_command.proofs.naming.means_with_abi.Goals as goal

pub returns-in-Some : goal.returns-in-Some
returns-in-Some c =
    c.is_joined.ensures ∙ ap (λ name. bytes_eq (name ++ 64 ∷ c.in-Some.abi.now) c.args.word.now) c.text-name.ensures.as_printed
    ∙ sym (with_abi (λ abi. bytes_eq (text_of c.args.filter.now.name ++ 64 ∷ abi) c.args.word.now)
    (abi_at c.args.table.now c.args.filter.now.abi) c.in-Some.abi.now c.in-Some.ensures.by_position)
