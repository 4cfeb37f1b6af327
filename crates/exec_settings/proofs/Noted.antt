-- The notes of a unit, key by key and then in order.
use Rattle.std.proofs.Common.{◌≡◌, List, ◌++◌, subst}
use Rattle.std.specs.Prelude.{IsPermutation}
use Rattle.std.specs.List.Sorted.{IsSortedByKey, IsStableByKey}
use Rattle.filter_settings.specs.call_table.Table.{Table}
use Rattle.cred_settings.specs.dropin_merge.declared.resolved.Resolved.{Resolved}
use Rattle.filter_settings.specs.Settings.{filter_notes}
use Rattle.mount_settings.specs.Notes.{written_notes}
use Rattle.mount_settings.specs.Protections.{protection_notes}
use Rattle.cred_settings.specs.dropin_merge.declared.unit_values.value.FileNote.{FileNote}
use Rattle.exec_settings.specs.Launched.{unit_command_notes}
use Rattle.exec_settings.specs.Notes.{all_notes, credential_notes, text_notes}
use Rattle.exec_settings.specs.Order.{AreInOrder, place_cmp, place_of}

six : {X : Type 0} (t w c i f p : List X) {k m n o q r : List X} → k ≡ t → m ≡ k ++ w → n ≡ m ++ c → o ≡ n ++ i → q ≡ o ++ f → r ≡ q ++ p
    → r ≡ ((((t ++ w) ++ c) ++ i) ++ f) ++ p
six t w c i f p first second third fourth fifth sixth = cc

pub key_by_key : (unit : Resolved) (table : Table) (k m n o q r : List FileNote) → k ≡ text_notes unit → m ≡ k ++ written_notes unit
    → n ≡ m ++ unit_command_notes unit → o ≡ n ++ credential_notes unit → q ≡ o ++ filter_notes unit table
    → r ≡ q ++ protection_notes unit → r ≡ all_notes unit table
unfolding all_notes
key_by_key unit table k m n o q r = six (text_notes unit) (written_notes unit) (unit_command_notes unit) (credential_notes unit)
    (filter_notes unit table) (protection_notes unit)

pub in_order : (wanted old new : List FileNote) → old ≡ wanted → IsPermutation old new → IsSortedByKey place_of place_cmp new
    → IsStableByKey place_of place_cmp old new → AreInOrder wanted new
in_order wanted old new is same by_place stable = record {
  same = subst (λ notes. IsPermutation notes new) is same;
  by_place = by_place;
  stable = subst (λ notes. IsStableByKey place_of place_cmp notes new) is stable;
}
