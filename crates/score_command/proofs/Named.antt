-- The units of a host, by the map that holds them.
use Rattle.std.proofs.Common.{◌≡◌, ℕ, ◌<◌, ◌≤◌, Bool, true, false, cond, length, None, Ok, Err, map, Vec, String, Global, refl, sym}
use Rattle.std.proofs.Common.{ap, ◌∙◌, arith}
use Rattle.std.specs.Prelude.{◌||◌, nat_lt, flat_map}
use Rattle.std.specs.List.{list_any}
use Rattle.std.specs.Map.{values_of}
use Rattle.std.specs.String.{string_cmp}
use Rattle.std.specs.BTreeMap.{BTreeMap, IsOrdered}
use Rattle.std.proofs.lemmas.Bool.Decides.{nat_tests}
use Rattle.std.proofs.lemmas.Map.Entries.{length-values_of}
use Rattle.unit_inputs.specs.host_io.Agreeing.{ForFiles}
use Rattle.unit_inputs.specs.host_io.Files.{Files, names_in}
use Rattle.unit_inputs.specs.unit_names.Cutting.{name_of}
use Rattle.unit_inputs.specs.unit_names.Names.{Name}
use Rattle.report_text.specs.dropin_merge.Places.{locations}
use Rattle.report_text.specs.dropin_merge.Resolving.{is_overfull}
use Rattle.report_text.specs.dropin_merge.Winners.{in_byte_order}
use Rattle.report_text.proofs.OfDropinMerge.Ordered.{any-in_byte_order, in_byte_order-sorted}
use Rattle.score_command.specs.fleet_command.fleet_names.Answers.{AreNamed}
use Rattle.score_command.specs.fleet_command.fleet_names.Steps.{CollectsUnits}
use Rattle.score_command.specs.fleet_command.fleet_names.Units.{are_too_many, units_of}
use Rattle.score_command.specs.declared.fleet_command.fleet_names.errors.NamesError.TheVariants.{TooMany}
use Rattle.score_command.proofs.Keyed.{given, keyed, lookup_given, lookup_keyed, same_from_lookups, sorted_given, sorted_keyed}
use Rattle.score_command.proofs.Keyed.{values_given, values_keyed}

above : (n : ℕ) → 1024 < n → nat_lt 1024 n ≡ true
above n h = grind (arith, nat_tests)

not_above : (n : ℕ) → n ≤ 1024 → nat_lt 1024 n ≡ false
not_above n h = grind (arith, nat_tests)

or_true : (a : Bool) → (a || true) ≡ true
or_true true = refl
or_true false = refl

module _ (files : Files) (units : BTreeMap (String Global) Name) (ordered : IsOrdered string_cmp units) (collected : CollectsUnits files locations (Ok units)) where
  entries_are : map keyed units.entries ≡ given name_of (in_byte_order (flat_map (names_in files) locations))
  entries_are =
      same_from_lookups (map keyed units.entries) (given name_of (in_byte_order (flat_map (names_in files) locations)))
      (sorted_keyed units.entries ordered) (sorted_given name_of _ (in_byte_order-sorted (flat_map (names_in files) locations)))
      (λ q.
      lookup_keyed q units.entries ∙ collected.0 q
      ∙ ap (λ b. cond b (name_of q) None) (sym (any-in_byte_order q (flat_map (names_in files) locations)))
      ∙ sym (lookup_given name_of q (in_byte_order (flat_map (names_in files) locations))))

  values_are : values_of units.entries ≡ units_of files
  values_are =
      sym (values_keyed units.entries) ∙ ap values_of entries_are
      ∙ values_given name_of (in_byte_order (flat_map (names_in files) locations))

  count_is : length (units_of files) ≡ length units.entries
  count_is = ap length (sym values_are) ∙ length-values_of units.entries

  pub too_many : 1024 < length units.entries → are_too_many files ≡ true
  too_many h =
      ap (λ n. list_any (is_overfull files) locations || nat_lt 1024 n) count_is
      ∙ ap (λ b. list_any (is_overfull files) locations || b) (above (length units.entries) h)
      ∙ or_true (list_any (is_overfull files) locations)

  pub few : length units.entries ≤ 1024 → are_too_many files ≡ false
  few h = ap (λ b. b || nat_lt 1024 (length (units_of files))) collected.1 ∙ ap (nat_lt 1024) count_is ∙ not_above (length units.entries) h

-- what was answered of the files that agree
module _ (agrees : Files → Type 0) where
  pub refuses_many : (units : BTreeMap (String Global) Name) → IsOrdered string_cmp units
      → ForFiles agrees (λ files. CollectsUnits files locations (Ok units)) → 1024 < length units.entries
      → ForFiles agrees (λ files. AreNamed files (Err TooMany))
  refuses_many units ordered collected h =
      (λ files known. too_many files units ordered
      (collected files known) h)

  pub names_units : (units : BTreeMap (String Global) Name) (names : Vec Name Global) → IsOrdered string_cmp units
      → ForFiles agrees (λ files. CollectsUnits files locations (Ok units)) → length units.entries ≤ 1024
      → names.items ≡ values_of units.entries → ForFiles agrees (λ files. AreNamed files (Ok names))
  names_units units names ordered collected h given =
      (λ files known.
      let own = collected files known in
      (few files units ordered own h, given ∙ values_are files units ordered own))
