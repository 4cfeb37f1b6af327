-- Some call of a table is let through where one of either ABI is.
use Rattle.std.proofs.Common.{◌≡◌, ◌∙◌, Bool, true, false, List, refl, ap, sym}
use Rattle.std.specs.Prelude.{◌||◌}
use Rattle.std.specs.List.{list_any}
use Rattle.std.proofs.lemmas.List.Folds.{list_any-append}
use Rattle.kernel_ways.proofs.OfCallTable.AllCalls.{second_are}
use Rattle.kernel_ways.specs.call_table.Table.{Table, calls_in, every_call, second_calls}
use Rattle.kernel_ways.specs.call_table.declared.listed.CallLine.{CallLine}
use Rattle.kernel_ways.specs.kernel_laws.declared.question_types.kind.CallKind.{CallKind}
use Rattle.kernel_ways.specs.kernel_laws.Launched.{Launch, lets, lets_line}

pub some_in_all : (p : CallLine → Bool) (table : Table) → (list_any p table.calls || list_any p (calls_in table 1))
    ≡ list_any p (every_call table)
some_in_all p table = sym (list_any-append p table.calls (second_calls table.second)
    ∙ ap (λ (lines : List CallLine). list_any p table.calls || list_any p lines) (second_are table.second))

lets_is : (launch : Launch) (kind : CallKind) → list_any (lets_line launch kind) (every_call launch.calls) ≡ lets launch kind
unfolding lets
lets_is launch kind = refl

-- by the calls of the native ABI, and where none of these passes by those of the other
module _ (launch : Launch) (kind : CallKind) (table : Table) (told : table ≡ launch.calls) (lines : List CallLine) (listed : lines ≡ table.calls) where
  native : (b : Bool) → b ≡ list_any (lets_line launch kind) lines → list_any (lets_line launch kind) launch.calls.calls ≡ b
  native b is = ap (list_any (lets_line launch kind)) (sym (listed ∙ ap (λ (t : Table). t.calls) told)) ∙ sym is

  pub by_native : (b : Bool) → b ≡ list_any (lets_line launch kind) lines → b ≡ true → b ≡ lets launch kind
  by_native b is on =
      on
      ∙ sym (ap (λ first. first || list_any (lets_line launch kind) (calls_in launch.calls 1)) (native b is ∙ on))
      ∙ some_in_all (lets_line launch kind) launch.calls
      ∙ lets_is launch kind

  pub by_second : (b : Bool) → b ≡ list_any (lets_line launch kind) lines → b ≡ false → (others : List CallLine) → others ≡ calls_in table 1
      → (second : Bool) → second ≡ list_any (lets_line launch kind) others → second ≡ lets launch kind
  by_second b is off others own second so =
      so
      ∙ ap (list_any (lets_line launch kind)) (own ∙ ap (λ (t : Table). calls_in t 1) told)
      ∙ sym (ap (λ first. first || list_any (lets_line launch kind) (calls_in launch.calls 1)) (native b is ∙ off))
      ∙ some_in_all (lets_line launch kind) launch.calls
      ∙ lets_is launch kind
