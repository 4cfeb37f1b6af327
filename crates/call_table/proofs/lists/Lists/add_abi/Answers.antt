use Rattle.std.proofs.Common.{◌≡◌, ℕ, arith, false, Option, None, Some, is_some, refl, sym, ap, ◌∙◌}
use Rattle.std.specs.Prelude.{◌==◌}
use Rattle.std.specs.Option.{option_map}
use Rattle.std.proofs.lemmas.Bool.Decides.{nat_tests}
use Rattle.std.specs.Str.{bytes_eq}
use Rattle.call_table.specs.declared.lists.SecondAbi.{SecondAbi}
use Rattle.call_table.specs.Views.{made, made_second}
use Rattle.call_table.proofs.Adding.{opens_sound}
use Rattle.call_table.proofs.lists.Lists.add_abi.Goals as goal

alone : (second : Option SecondAbi) → is_some second ≡ false → option_map made_second second ≡ None
alone None e = refl
alone (Some second) e = cc

other_arch : (arch native : ℕ) → (arch ≡ native → ⊥) → arch == native ≡ false
other_arch arch native h = grind (arith, nat_tests)

pub returns-clause-sound : goal.returns-clause-sound
returns-clause-sound c =
    opens_sound (made c.args.self.now) c.in_ok-new.field-0 c.in-Some.arch c.new-2.result c.new-2.ensures.no_line c.requires
    (alone c.args.self.now.second (sym c.is_some.ensures ∙ c.if-is_some.false))
    (ap (λ name. bytes_eq name c.args.self.now.name) c.in_ok-new.ensures.same_text
    ∙ ap (bytes_eq c.args.name.now) (sym c.as_str.ensures.same_text) ∙ sym c.eq-2.ensures ∙ c.if-eq-2.false)
    (other_arch c.in-Some.arch c.args.self.now.arch c.if-arch-self.false)
