-- A derived list is the only one, by what holds of every table, site and script.
use Rattle.std.proofs.Common.{◌≡◌, ℕ, ◌<◌, ◌^◌, None, List, All, subst}
use Rattle.std.proofs.lemmas.List.Elements.{recursion_from_All}
use Rattle.asked_service.specs.call_table.Facts.{IsWhole}
use Rattle.asked_service.specs.call_table.Table as calls
use Rattle.asked_service.specs.dropin_merge.declared.resolved.Resolved.{Resolved}
use Rattle.asked_service.specs.kernel_model.kernel_calls.Calls.{IsCall}
use Rattle.asked_service.specs.kernel_model.declared.kernel_calls.call.Call.{Call}
use Rattle.asked_service.proofs.OfLauncher.TwoAbis.{word_archs}
use Rattle.asked_service.specs.site_table.Table.{IsSite, Site}
use Rattle.derive_command.specs.trace_profile.Derived.{IsDerived, IsOnlyOne}
use Rattle.derive_command.specs.trace_profile.PlainNames.{HasPlainNames, IsReadFrom}
use Rattle.derive_command.specs.trace_profile.Scripts.{first_seccomp}
use Rattle.derive_command.proofs.OneList.{least_is_only_one}
use Rattle.derive_command.proofs.PlainTables.{table_is_plain}

module _ (unit : Resolved) (table : calls.Table) (site : Site) (script : List Call) (sound : IsSite site) (whole : IsWhole table) (native : table.arch < 2 ^ 32) (second : calls.arch_of table 1 < 2 ^ 32) (fit : All IsCall script) (none : first_seccomp table script ≡ None) (names : List ℕ) (is : IsDerived unit table site script names) where
  pub only_over_plain : HasPlainNames table → IsOnlyOne unit table site script names
  only_over_plain plain = least_is_only_one unit table site script names sound whole (word_archs table native second)
      (recursion_from_All IsCall script fit) none plain is

  -- over a table that was read
  pub only_over_read : (bytes : List ℕ) → IsReadFrom bytes table → IsOnlyOne unit table site script names
  only_over_read bytes read = only_over_plain (subst HasPlainNames read.is_known_by
      (table_is_plain bytes read.read read.kernel read.fits_a_file read.is_its_table))
