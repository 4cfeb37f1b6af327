-- What a table of two ABIs gives a launch, for each ABI.
use Rattle.std.proofs.Common.{◌≡◌, ℕ, zero, suc, ◌<◌, Bool, true, false, List, [], ◌∷◌, ◌++◌, length, get_or, Option, Some, None, refl, sym}
use Rattle.std.proofs.Common.{ap, ◌∙◌, subst, arith, append-nil}
use Rattle.std.specs.Prelude.{slice_get, ◌==◌, ◌^◌, IfSome, map, filter, cond}
use Rattle.std.specs.Option.{option_map_or, option_to_list}
use Rattle.std.specs.List.{All, AllByRecursion}
use Rattle.std.proofs.lemmas.List.Elements.{All-append}
use Rattle.std.proofs.lemmas.List.{get_or_default}
use Rattle.std.proofs.lemmas.List.Folds.{find_at}
use Rattle.std.proofs.lemmas.Option.{slice_get-get_or}
use Rattle.kernel_laws.proofs.OfCallTable.Places.{place_is}
use Rattle.exec_settings.specs.filter_settings.filter_rules.Names.{Place, all_programs}
use Rattle.exec_settings.specs.filter_settings.filter_rules.Installed.{place_of, is_installed, installed}
use Rattle.exec_settings.specs.filter_settings.declared.filter_rules.installed.Filter.{Filter}
use Rattle.exec_settings.specs.filter_settings.declared.filter_rules.settings.FilterSettings.{FilterSettings}
use Rattle.launcher.specs.Alike.{HasWordArchs}
use Rattle.kernel_laws.specs.call_table.declared.listed.CallLine.{CallLine}
use Rattle.kernel_laws.specs.call_table.Table.{Abi, Table, native, second_calls, every_call, abis, abi_at, arch_of, calls_in}
use Rattle.kernel_laws.specs.call_table.Lookups.{IsInRange, named, place_named, place_numbered, has_name}
use Rattle.kernel_laws.specs.call_table.Facts.{AreLines, AreOf, HasCapAmong, IsSecond, IsTable}

-- what holds of the calls of each ABI
in_each : (P : ℕ → List CallLine → Type 0) (table : Table) → P 0 table.calls
    → ((second : Abi) → table.second ≡ Some second → P 1 second.calls) → ((abi : ℕ) → P abi []) → (abi : ℕ) → P abi (calls_in table abi)
in_each P table own other none zero = own
in_each P table own other none (suc abi) = by abi table.second refl
  where
    by : (abi : ℕ) (o : Option Abi) → table.second ≡ o → P (suc abi)
        (option_map_or (λ found. found.calls) (slice_get (option_to_list table.second) abi) [])
    by abi None e = subst (λ (s : Option Abi). P (suc abi) (option_map_or (λ found. found.calls) (slice_get (option_to_list s) abi) []))
        (sym e) (none (suc abi))
    by zero (Some second) e = subst (λ (s : Option Abi). P 1 (option_map_or (λ found. found.calls) (slice_get (option_to_list s) 0) []))
        (sym e) (other second e)
    by (suc abi) (Some second) e =
        subst (λ (s : Option Abi). P (suc (suc abi)) (option_map_or (λ found. found.calls) (slice_get (option_to_list s) (suc abi)) []))
        (sym e) (none (suc (suc abi)))

second_is : (table : Table) → IsTable table → (second : Abi) → table.second ≡ Some second → IsSecond table second
second_is table t second e = subst (λ (o : Option Abi). IfSome o (IsSecond table)) e t.second

pub once_in : (table : Table) → IsTable table → (abi at : ℕ) (line : CallLine) → slice_get (calls_in table abi) at ≡ Some line
    → place_numbered line.number (calls_in table abi) ≡ Some at
once_in table t = in_each (λ abi lines. (at : ℕ) (line : CallLine) → slice_get lines at ≡ Some line
    → place_numbered line.number lines ≡ Some at) table t.calls.once.by_number
    (λ second e. (second_is table t second e).calls.once.by_number) (λ abi at line e. cc)

pub of_abi_in : (table : Table) → IsTable table → (abi : ℕ) → AreOf abi (calls_in table abi)
of_abi_in table t = in_each (λ abi lines. AreOf abi lines) table t.native (λ second e. (second_is table t second e).own)
    (λ abi k d lt. absurd (omega arith))

pub range_in : (table : Table) → IsTable table → (abi : ℕ) → All IsInRange (calls_in table abi)
range_in table t = in_each (λ abi lines. All IsInRange lines) table t.calls.in_range
    (λ second e. (second_is table t second e).calls.in_range) (λ abi k d lt. absurd (omega arith))

pub archs_differ : (table : Table) → IsTable table → IfSome table.second (λ second. second.arch == table.arch ≡ false)
archs_differ table t = by table.second t.second
  where
    by : (o : Option Abi) → IfSome o (IsSecond table) → IfSome o (λ second. second.arch == table.arch ≡ false)
    by None h = tt
    by (Some second) h = h.other_arch

-- a name has one capability
named_line : (lines : List CallLine) (k : ℕ) (line : CallLine) → place_named line.name lines ≡ Some k → slice_get lines k ≡ Some line
    → named line.name lines ≡ Some line
named_line lines k line at there = find_at (has_name line.name) lines ∙ ap (slice_get lines) (place_is (has_name line.name) lines k at).0
    ∙ there

abbrev SameCap : CallLine → CallLine → Type 0
SameCap line other = line.name ≡ other.name → line.cap ≡ other.cap

in_one : (most : ℕ) (lines : List CallLine) → AreLines most lines → All (λ line. All (SameCap line) lines) lines
in_one most lines are k d lt j e lt' name =
    let line = get_or lines k d in
    let other = get_or lines j e in
    let places : Some k ≡ Some j = sym (are.once.by_name k line (slice_get-get_or lines k d lt)) ∙ ap (λ n. place_named n lines) name ∙ are.once.by_name j other (slice_get-get_or lines j e lt') in
    let same : k ≡ j = cc in
    ap (λ (l : CallLine). l.cap) (get_or_default lines k d e lt ∙ ap (λ n. get_or lines n e) same)

across : (most : ℕ) (lines others : List CallLine) → AreLines most lines → All (HasCapAmong lines) others
    → All (λ line. All (SameCap line) others) lines
across most lines others are caps k d lt j e lt' name =
    let line = get_or lines k d in
    let other = get_or others j e in
    let there = slice_get-get_or lines k d lt in
    let found : named other.name lines ≡ Some line = ap (λ n. named n lines) (sym name) ∙ named_line lines k line (are.once.by_name k line there) there in
    subst (λ (o : Option CallLine). IfSome o (λ own. own.cap ≡ other.cap)) found (caps j e lt')

pub one_cap_in : (table : Table) → IsTable table → All (λ line. All (SameCap line) (every_call table)) (every_call table)
one_cap_in table t = by table.second t.second
  where
    by : (o : Option Abi) → IfSome o (IsSecond table) → All (λ line. All (SameCap line) (table.calls ++ second_calls o))
        (table.calls ++ second_calls o)
    by None h =
        let own = in_one 512 table.calls t.calls in
        subst (λ (lines : List CallLine). All (λ line. All (SameCap line) lines) lines) (sym (append-nil table.calls)) own
    by (Some second) h =
        let cross = across 512 table.calls second.calls t.calls h.same_caps in
        let P : CallLine → Type 0 = λ line. All (SameCap line) (table.calls ++ second.calls) in
        All-append P table.calls second.calls
        (λ k d lt. All-append (SameCap (get_or table.calls k d)) table.calls second.calls (in_one 512 table.calls t.calls k d lt)
        (cross k d lt))
        (λ k d lt. All-append (SameCap (get_or second.calls k d)) table.calls second.calls
        (λ j e lt' name. sym (cross j e lt' k d lt (sym name))) (in_one 512 second.calls h.calls k d lt))

-- the ABI of each program that is installed is there
abbrev pub IsThere : Table → ℕ → Type 0
IsThere table abi = (found : Abi) × (abi_at table abi ≡ Some found)

there_in : (n : Abi) (o : Option Abi)
    → AllByRecursion (λ (place : Place). (found : Abi) × (slice_get (n ∷ option_to_list o) place.1 ≡ Some found)) (all_programs o)
there_in n None = ((n, refl), ((n, refl), ((n, refl), ((n, refl), ((n, refl), ((n, refl), ((n, refl), ((n, refl), ((n, refl), ((n, refl), ((n, refl), ((n, refl), ((n, refl), tt)))))))))))))
there_in n (Some s) = ((s, refl), ((n, refl), ((s, refl), ((n, refl), ((s, refl), ((n, refl), ((s, refl), ((n, refl), ((s, refl), ((n, refl), ((s, refl), ((n, refl), ((s, refl), ((n, refl), ((s, refl), ((n, refl), ((s, refl), ((n, refl), ((s, refl), ((n, refl), ((s, refl), ((n, refl), ((s, refl), ((n, refl), ((s, refl), ((n, refl), ((s, refl), tt)))))))))))))))))))))))))))

kept : {X : Type 0} (P : X → Type 0) (test : X → Bool) (xs : List X) → AllByRecursion P xs → AllByRecursion P (filter test xs)
kept P test [] each = tt
kept P test (x ∷ xs) each = by (test x) (kept P test xs each.1)
  where
    by : (b : Bool) → AllByRecursion P (filter test xs) → AllByRecursion P (cond b (x ∷ filter test xs) (filter test xs))
    by true more = (each.0, more)
    by false more = more

of_places : (P : Place → Type 0) (filters : List Filter) → AllByRecursion P (map place_of filters)
    → AllByRecursion (λ one. P (place_of one)) filters
of_places P [] each = tt
of_places P (one ∷ filters) each = (each.0, of_places P filters each.1)

pub filters_there : (settings : FilterSettings) (table : Table) (filters : List Filter) → map place_of filters ≡ installed settings table
    → AllByRecursion (λ one. IsThere table one.abi) filters
filters_there settings table filters are =
    of_places (λ place. IsThere table place.1) filters
    (subst (AllByRecursion (λ (place : Place). IsThere table place.1)) (sym are)
    (kept (λ (place : Place). IsThere table place.1) (is_installed settings) (all_programs table.second)
    (there_in (native table) table.second)))

-- two numbers of 32 bits are all architectures of a table
pub word_archs : (table : Table) → table.arch < 2 ^ 32 → arch_of table 1 < 2 ^ 32 → HasWordArchs table
word_archs table own other zero = own
word_archs table own other (suc zero) = other
word_archs table own other (suc (suc abi)) = by table.second refl
  where
    by : (o : Option Abi) → table.second ≡ o → option_map_or (λ found. found.arch)
        (slice_get (option_to_list table.second) (suc abi)) 0 < 2 ^ 32
    by None e = subst (λ (s : Option Abi). option_map_or (λ found. found.arch) (slice_get (option_to_list s) (suc abi)) 0 < 2 ^ 32)
        (sym e) (omega arith)
    by (Some second) e = subst
        (λ (s : Option Abi). option_map_or (λ found. found.arch) (slice_get (option_to_list s) (suc abi)) 0 < 2 ^ 32) (sym e) (omega arith)
