-- Words of either ABI, and what a table says of the calls of each.
use Rattle.std.proofs.Common.{◌≡◌, ℕ, zero, suc, ◌+◌, false, List, [], ◌∷◌, ◌++◌, length, get_or, Option, Some, None, IfSome, IsSome, refl}
use Rattle.std.proofs.Common.{sym, ap, ◌∙◌, arith, eq-eqb, length-append}
use Rattle.std.specs.Prelude.{◌==◌, option_and_then, slice_get}
use Rattle.std.specs.Option.{option_map_or, option_to_list}
use Rattle.std.proofs.lemmas.Bool.{false≢true}
use Rattle.std.proofs.lemmas.Bool.Decides.{nat_tests}
use Rattle.std.proofs.lemmas.List.Elements.{All-from_recursion}
use Rattle.kernel_model.specs.call_table.declared.listed.CallLine.{CallLine}
use Rattle.kernel_model.specs.call_table.Facts.{IsSecond, IsTable}
use Rattle.kernel_model.specs.call_table.Lookups.{AreOnce}
use Rattle.kernel_model.specs.call_table.Table.{Abi, Table, abi_at, calls_in}
use Rattle.kernel_model.specs.call_table.call_words.Words.{Lacks, HasOtherName, named_abi, spelling}
use Rattle.kernel_model.proofs.OfCallTable.Back.{read_back}
use Rattle.script_text.specs.PrintedAgain.{IsWord}
use Rattle.script_text.specs.Reading.{Named, named_in, named_call}
use Rattle.script_text.proofs.Spaced.{HasNo, all_append}

lacks : (mark : ℕ) (word : List ℕ) → HasNo mark word → Lacks mark word
lacks mark word h i small e =
    absurd (false≢true (sym (All-from_recursion (λ byte. (byte == mark) ≡ false) word h i 0 small) ∙ eq-eqb (get_or word i 0) mark e))

-- a word of an ABI names what it names among the calls of that ABI
pub names_there : (table : Table) (abi : ℕ) (word : List ℕ) (named : Named) → HasOtherName table → IsSome (abi_at table abi)
    → HasNo 58 word → named_in table abi word ≡ Some named → named_call table (spelling table abi word) ≡ Some named
unfolding named_call
names_there table abi word named other there h e = by (abi_at table abi) refl there
  where
    by : (o : Option Abi) → abi_at table abi ≡ o → IsSome o → named_call table (spelling table abi word) ≡ Some named
    by None at none = absurd (false≢true none)
    by (Some found) at some = ap (option_and_then (λ call. named_in table call.0 call.1))
        (read_back table other abi found word at (lacks 58 word h)) ∙ e

longer : (front word : List ℕ) → (length word == 0) ≡ false → (length (front ++ word) == 0) ≡ false
longer front word h = let long : length (front ++ word) ≡ length front + length word = length-append front word in grind (arith, nat_tests, long, h)

pub spelling_shown : (table : Table) (abi : ℕ) (word : List ℕ) → IfSome table.second (λ second. IsWord second.name) → IsWord word
    → IsWord (spelling table abi word)
spelling_shown table zero word second w = w
spelling_shown table (suc abi) word second w = by table.second second
  where
    by : (o : Option Abi) → IfSome o (λ second. IsWord second.name) → IsWord (named_abi o ++ word)
    by None h = w
    by (Some other) h = record {
      some = longer (other.name ++ 58 ∷ []) word w.some;
      plain = all_append _ (other.name ++ 58 ∷ []) word (all_append _ other.name (58 ∷ []) h.plain (refl, tt)) w.plain;
    }

abbrev no_lines : List CallLine
no_lines = []

none_once : AreOnce no_lines
none_once = record { by_name = λ at line e. cc; by_number = λ at line e. cc }

pub each_once : (table : Table) → IsTable table → (abi : ℕ) → AreOnce (calls_in table abi)
each_once table is zero = is.calls.once
each_once table is (suc abi) = by table.second abi is.second
  where
    by : (o : Option Abi) (abi : ℕ) → IfSome o (IsSecond table)
        → AreOnce (option_map_or (λ found. found.calls) (slice_get (option_to_list o) abi) [])
    by None abi h = none_once
    by (Some second) zero h = h.calls.once
    by (Some second) (suc abi) h = none_once
