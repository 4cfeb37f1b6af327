-- The data of the calls that a launch makes, as filters see them.
use Rattle.std.proofs.Common.{◌≡◌, ℕ, List, [], ◌∷◌, Option, Some, None, refl, arith}
use Rattle.std.specs.Prelude.{◌<◌, ◌^◌, All}
use Rattle.std.specs.Option.{option_map_or}
use Rattle.std.proofs.lemmas.List.Elements.{All-from_recursion}
use Rattle.kernel_laws.specs.bpf_code.Meaning.{IsCallData}
use Rattle.kernel_laws.specs.call_table.declared.listed.CallLine.{CallLine}
use Rattle.kernel_laws.specs.call_table.Facts.{IsWhole}
use Rattle.kernel_laws.specs.call_table.Lookups.{IsInRange, has_name, named}
use Rattle.kernel_laws.specs.call_table.Table as calls
use Rattle.kernel_laws.proofs.OfCallTable.Places.{found_holds}
use Rattle.launcher.specs.Alike.{HasWordArchs}
use Rattle.launcher.specs.Launch.{number_of}

-- the numbers of calls are small
number_small : (lines : List CallLine) (name : List ℕ) → All IsInRange lines → number_of lines name < 2 ^ 32
number_small lines name in_range = by (named name lines) refl
  where
    by : (o : Option CallLine) → named name lines ≡ o → option_map_or (λ line. line.number) o 0 < 2 ^ 32
    by None is = omega arith
    by (Some line) is = let r = found_holds IsInRange (has_name name) lines line in_range is in let n = r.number in omega arith

pub fits : (table : calls.Table) → IsWhole table → HasWordArchs table → (name : List ℕ) (one : ℕ) → one < 2 ^ 64
    → IsCallData (record { nr = number_of table.calls name; arch = table.arch; ip = 0; args = one ∷ 0 ∷ 0 ∷ 0 ∷ 0 ∷ 0 ∷ [] })
fits table whole arch name one small = record {
  nr = number_small table.calls name whole.sound.calls.in_range;
  arch = arch 0;
  ip = omega arith;
  count = refl;
  args = All-from_recursion (λ arg. arg < 2 ^ 64) (one ∷ 0 ∷ 0 ∷ 0 ∷ 0 ∷ 0 ∷ [])
      (small, (omega arith, (omega arith, (omega arith, (omega arith, (omega arith, tt))))));
}

-- the same of two words
pub fits_two : (table : calls.Table) → IsWhole table → HasWordArchs table → (name : List ℕ) (one two : ℕ) → one < 2 ^ 64 → two < 2 ^ 64
    → IsCallData (record { nr = number_of table.calls name; arch = table.arch; ip = 0; args = one ∷ two ∷ 0 ∷ 0 ∷ 0 ∷ 0 ∷ [] })
fits_two table whole arch name one two small small' = record {
  nr = number_small table.calls name whole.sound.calls.in_range;
  arch = arch 0;
  ip = omega arith;
  count = refl;
  args = All-from_recursion (λ arg. arg < 2 ^ 64) (one ∷ two ∷ 0 ∷ 0 ∷ 0 ∷ 0 ∷ [])
      (small, (small', (omega arith, (omega arith, (omega arith, (omega arith, tt))))));
}
