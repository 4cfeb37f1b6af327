use Rattle.std.proofs.Common.{◌≡◌, true, false, sym, ap, ◌∙◌}
use Rattle.std.specs.Prelude.{is_some, not}
use Rattle.std.specs.Option.{option_map}
use Rattle.exec_settings.proofs.Outside.{no_root_key, not_relative}
use Rattle.exec_settings.proofs.program.program_of.Goals as goal

pub unreachable-requires : goal.unreachable-requires
unreachable-requires c =
    let none = sym c.in_ok-key.ensures.first_in_byte_order ∙ ap (option_map (λ name. name.now)) c.in_default.is in
    let found = not_relative c.args.unit.now c.is_none.result none in
    let no : true ≡ false = ap not (sym found) ∙ sym c.is_none.ensures ∙ ap is_some c.in-None.is in
    cc

pub returns-clause-leaves_the_root : goal.returns-clause-leaves_the_root
returns-clause-leaves_the_root c =
    no_root_key c.args.unit.now c.is_none.result
    (sym c.in_ok-key.ensures.first_in_byte_order ∙ ap (option_map (λ name. name.now)) c.in_default.is)
