use Rattle.std.proofs.Common.{rules, ◌≡◌, ap, ◌∙◌, sym, true, cond, Some, None, length}
use Rattle.std.specs.Prelude.{◌==◌}
use Rattle.std.specs.List.{list_all}
use Rattle.std.specs.Str.Parse.{digits_value}
use Rattle.std.proofs.lemmas.Bool.{and_from, eqb-true}
use Rattle.call_table.specs.Numbers.{is_lower_hex, arch_of}
use Rattle.call_table.proofs.Hexes.{arch_read}
use Rattle.call_table.proofs.numbers.read_arch.Goals as goal

pub returns-then-are_lower_hex : goal.returns-then-are_lower_hex
unfolding arch_of
returns-then-are_lower_hex c =
    let digits = c.args.digits.now in
    let lower : list_all is_lower_hex digits ≡ true = sym c.are_lower_hex.ensures ∙ c.if-are_lower_hex.true in
    let eight : length digits == 8 ≡ true = search rules in
    record {
      its_arch = c.ok.ensures.value ∙ arch_read digits _ c.from_str_radix.ensures.value (eqb-true _ _ eight) lower
          ∙ ap (λ b. cond b (Some (digits_value 16 digits)) None) (sym (and_from _ _ eight lower));
    }
