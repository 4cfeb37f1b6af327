-- The unit's text is read as what it says: its four forms by evaluation.
use Rattle.std.proofs.Common.{◌≡◌, ℕ, zero, suc, ◌%◌, ◌<◌, Some, Ok, refl, sym, ap, ◌∙◌, arith, codes, [], ◌∷◌, map}
use Rattle.std.specs.Str.{is_utf8, chars}
use Rattle.std.specs.Fmt.{digits}
use lib.Utf8.{encode}
use Rattle.launcher.specs.unit_grammar.Reading.{unit_of}
use Rattle.launcher.specs.unit_names.Cutting.{name_of}
use Rattle.sample_inputs.specs.Calls.{text_of_lines}
use Rattle.sample_inputs.specs.Unit.{sample_name, unit_name, unit_text, unit_said, line_of, assignments_from}
use Rattle.sample_inputs.proofs.Turns.{same_settings}

first_form : unit_of (unit_text 0) ≡ Ok (unit_said 0)
unfolding unit_text is_utf8 chars digits encode
first_form = refl

second_form : unit_of (unit_text 1) ≡ Ok (unit_said 1)
unfolding unit_text is_utf8 chars digits encode
second_form = refl

third_form : unit_of (unit_text 2) ≡ Ok (unit_said 2)
unfolding unit_text is_utf8 chars digits encode
third_form = refl

fourth_form : unit_of (unit_text 3) ≡ Ok (unit_said 3)
unfolding unit_text is_utf8 chars digits encode
fourth_form = refl

each_form : (m : ℕ) → m < 4 → unit_of (unit_text m) ≡ Ok (unit_said m)
each_form zero below = first_form
each_form (suc zero) below = second_form
each_form (suc (suc zero)) below = third_form
each_form (suc (suc (suc zero))) below = fourth_form
each_form (suc (suc (suc (suc m)))) below = absurd (omega arith)

pub name_reads : name_of unit_name ≡ Some sample_name
name_reads = refl

-- the text and what it says, by the settings
same_text : (n : ℕ) → unit_text n ≡ unit_text (n % 4)
unfolding unit_text
same_text n = ap (λ settings. text_of_lines (codes "[Service]" ∷ map line_of settings)) (same_settings n)

same_said : (n : ℕ) → unit_said n ≡ unit_said (n % 4)
same_said n = ap (λ settings. record { assignments = assignments_from 2 settings; notes = [] }) (same_settings n)

pub unit_reads : (n : ℕ) → unit_of (unit_text n) ≡ Ok (unit_said n)
unit_reads n = ap unit_of (same_text n) ∙ each_form (n % 4) (omega arith) ∙ ap Ok (sym (same_said n))
