-- A search among all calls of a table goes over those of the native ABI, then over those of the other.
use Rattle.std.proofs.Common.{◌≡◌, ℕ, Bool, true, false, cond, List, [], ◌∷◌, Option, Some, None, refl, ap, ◌∙◌, sym, length, ◌≤◌, Bor}
use Rattle.std.specs.Prelude.{find, is_some, option_copied, ◌||◌}
use Rattle.std.specs.List.{list_any}
use Rattle.std.specs.Option.{option_map_or, option_or}
use Rattle.std.proofs.lemmas.List.Folds.{find-append}
use Rattle.std.proofs.lemmas.Option.{slice_get_past}
use Rattle.kernel_ways.specs.call_table.Table.{Abi, Table, abis, arch_of, calls_in, every_call, second_calls}
use Rattle.kernel_ways.specs.call_table.declared.listed.CallLine.{CallLine}
use Rattle.kernel_ways.proofs.OfCallTable.AllCalls.{second_are}

-- of all calls it finds what it finds first
pub found_in_all : (p : CallLine → Bool) (table : Table) → find p (every_call table)
    ≡ option_or (find p table.calls) (find p (calls_in table 1))
found_in_all p table = find-append p table.calls (second_calls table.second)
    ∙ ap (λ lines. option_or (find p table.calls) (find p lines)) (second_are table.second)

-- something is so where something is found
pub any_is_found : (p : CallLine → Bool) (lines : List CallLine) → list_any p lines ≡ is_some (find p lines)
any_is_found p [] = refl
any_is_found p (line ∷ lines) = by (p line) (any_is_found p lines)
  where
    by : (b : Bool) → list_any p lines ≡ is_some (find p lines) → (b || list_any p lines) ≡ is_some (cond b (Some line) (find p lines))
    by true more = refl
    by false more = more

-- a line that is lent is there where the line is
pub lent_is : (o : Option (Bor CallLine)) → is_some o ≡ is_some (option_copied o)
lent_is None = refl
lent_is (Some line) = refl

-- beyond the ABIs of a table there is no architecture
pub no_arch : (table : Table) (abi : ℕ) → length (abis table) ≤ abi → 0 ≡ arch_of table abi
no_arch table abi past = sym (ap (λ (o : Option Abi). option_map_or (λ found. found.arch) o 0) (slice_get_past (abis table) abi past))
