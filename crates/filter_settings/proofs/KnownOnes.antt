-- The table has the families that a list mentions.
use Rattle.std.proofs.Common.{◌≡◌, ℕ, Bool, true, false, cond, eqb, Option, Some, None, List, [], ◌∷◌, refl, ap, ◌∙◌, arith}
use Rattle.std.specs.Prelude.{◌||◌, unwrap_or, option_and_then}
use Rattle.std.specs.Option.{option_map, IfSome, ForSome}
use Rattle.std.specs.List.{All, list_any, after_last}
use Rattle.std.proofs.lemmas.Bool.Decides.{nat_tests}
use Rattle.std.proofs.lemmas.List.Elements.{All-nil}
use Rattle.call_table.specs.Table.{Table}
use Rattle.call_table.specs.Lookups.{named, has_name, has_number}
use Rattle.call_table.specs.declared.listed.CallLine.{CallLine}
use Rattle.dropin_merge.specs.unit_names.declared.version.Version.{Version}
use Rattle.dropin_merge.specs.declared.resolved.Resolved.{Resolved}
use Rattle.dropin_merge.specs.declared.unit_values.listed.Listed.{Listed}
use Rattle.dropin_merge.specs.unit_values.Listed.{unit_listed}
use Rattle.filter_settings.specs.declared.filter_rules.mentions.Mode.{Mode}
use Rattle.filter_settings.specs.declared.filter_rules.mentions.Mode.TheVariants.{Allow}
use Rattle.filter_settings.specs.declared.filter_rules.mentions.FamilyList.{FamilyList}
use Rattle.filter_settings.specs.filter_rules.Known.{IsKnown}
use Rattle.filter_settings.specs.Lines.{in_force}
use Rattle.filter_settings.specs.Modes.{list_mode, adds_to}
use Rattle.filter_settings.specs.FamilyLists.{family_name, family_mention, family_mentions, is_none_line, list_of, begun_by}
use Rattle.filter_settings.specs.FamilyLists.{read_behind_none, nothing_allowed, begun_anew, unless_idle, family_list}
use Rattle.filter_settings.specs.filter_rules.Families.{denies_no_family}
use Rattle.filter_settings.specs.FamilyLists.{unit_family_list}
use Rattle.filter_settings.proofs.Each.{each_some, each_of_all, for_some}

same_passes : (n : ℕ) (rest : Bool) → (eqb n n || rest) ≡ true
same_passes n rest = ap (λ b. b || rest) (same_number n)
  where
    same_number : (n : ℕ) → eqb n n ≡ true
    same_number n = grind (arith, nat_tests)

or_true : (a : Bool) → (a || true) ≡ true
or_true true = refl
or_true false = refl

-- a line that is found by its name is in the list
found_known : (word : List ℕ) (families : List CallLine) → IfSome (named word families)
    (λ found. list_any (has_number found.number) families ≡ true)
found_known word [] = tt
found_known word (family ∷ families) = first (has_name word family) (named word families) (found_known word families)
  where
    later : (o : Option CallLine) → IfSome o (λ found. list_any (has_number found.number) families ≡ true)
        → IfSome o (λ found. (has_number found.number family || list_any (has_number found.number) families) ≡ true)
    later None h = tt
    later (Some found) h = ap (λ b. has_number found.number family || b) h ∙ or_true (has_number found.number family)

    first : (b : Bool) (o : Option CallLine) → IfSome o (λ found. list_any (has_number found.number) families ≡ true)
        → IfSome (cond b (Some family) o) (λ found. (has_number found.number family || list_any (has_number found.number) families) ≡ true)
    first true o h = same_passes family.number (list_any (has_number family.number) families)
    first false o h = later o h

mention_known : (systemd : Option Version) (table : Table) (adds : Bool) (word : List ℕ)
    → IfSome (family_mention systemd table adds word) (IsKnown table)
mention_known systemd table adds word = by (named (family_name systemd word) table.families)
    (found_known (family_name systemd word) table.families)
  where
    by : (o : Option CallLine) → IfSome o (λ found. list_any (has_number found.number) table.families ≡ true)
        → IfSome (option_map (λ number. record { adds = adds; number = number }) (option_map (λ family. family.number) o)) (IsKnown table)
    by None h = tt
    by (Some family) h = h

abbrev AllKnown : Table → FamilyList → Type 0
AllKnown table list = All (IsKnown table) list.mentions

lines_known : (systemd : Option Version) (table : Table) (mode : Mode) (lines : List Listed) → AllKnown table (list_of systemd table mode lines)
lines_known systemd table mode lines =
    each_of_all (IsKnown table) (λ one. family_mentions systemd table mode one.line)
    (λ one. each_some (IsKnown table) (family_mention systemd table (adds_to mode one.line))
    (mention_known systemd table (adds_to mode one.line)) one.line.words)
    lines

begun_known : (systemd : Option Version) (table : Table) (lines : List Listed) → IfSome (begun_by systemd table lines) (AllKnown table)
begun_known systemd table lines = by (list_mode lines)
  where
    by : (mode : Option Mode) → IfSome (option_map (λ mode. list_of systemd table mode lines) mode) (AllKnown table)
    by None = tt
    by (Some mode) = lines_known systemd table mode lines

-- only the lines after `none`
behind_known : (systemd : Option Version) (table : Table) (read : List Listed → FamilyList) → ((lines : List Listed) → AllKnown table (read lines))
    → (lines : List Listed) → IfSome (read_behind_none read systemd table lines) (AllKnown table)
behind_known systemd table read known lines = by (list_any is_none_line lines)
  where
    by : (b : Bool) → IfSome (cond b (Some (read (after_last is_none_line lines))) (begun_by systemd table lines)) (AllKnown table)
    by true = known (after_last is_none_line lines)
    by false = begun_known systemd table lines

or_nothing : (table : Table) (begun : Option FamilyList) → IfSome begun (AllKnown table) → AllKnown table (unwrap_or begun nothing_allowed)
or_nothing table None h = All-nil (IsKnown table)
or_nothing table (Some list) h = h

list_known : (systemd : Option Version) (table : Table) (lines : List Listed) → IfSome (family_list systemd table lines) (AllKnown table)
list_known None table lines = behind_known None table (list_of None table Allow) (lines_known None table Allow) lines
list_known (Some version) table lines = by (begun_anew (Some version) table lines)
    (behind_known (Some version) table (λ behind. unwrap_or (begun_by (Some version) table behind) nothing_allowed)
    (λ behind. or_nothing table (begun_by (Some version) table behind) (begun_known (Some version) table behind)) lines)
  where
    unless : (b : Bool) (list : FamilyList) → AllKnown table list → IfSome (cond b None (Some list)) (AllKnown table)
    unless true list h = tt
    unless false list h = h

    by : (begun : Option FamilyList) → IfSome begun (AllKnown table) → IfSome (option_and_then (unless_idle table) begun) (AllKnown table)
    by None h = tt
    by (Some list) h = unless (denies_no_family table list) list h

pub unit_families_known : (unit : Resolved) (table : Table) (key : List ℕ)
    → ForSome (unit_family_list unit table key) (λ list. All (IsKnown table) list.mentions)
unfolding unit_family_list
unit_families_known unit table key = for_some (AllKnown table) (family_list unit.systemd table (in_force (unit_listed unit key)))
    (list_known unit.systemd table (in_force (unit_listed unit key)))
