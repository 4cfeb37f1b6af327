-- One more line adds to the lists of a table.
use Rattle.std.proofs.Common.{◌≡◌, ◌≤◌, ℕ, Bool, false, List, [], ◌++◌, length, length-append, Option, None, Some, Result, Ok, Err, refl}
use Rattle.std.proofs.Common.{sym, ap, subst, arith}
use Rattle.std.specs.Prelude.{OnOk, IfSome, ◌==◌}
use Rattle.std.specs.List.{All}
use Rattle.std.specs.Str.{bytes_eq}
use Rattle.call_table.specs.Faults.{most_calls}
use Rattle.call_table.specs.Facts.{AreLines, AreOf, AreGroups, HasCapAmong, IsSecond, IsTable}
use Rattle.call_table.specs.Progress.{Steps, HasRead}
use Rattle.call_table.specs.Table.{Abi, Table, second_calls, every_call}
use Rattle.call_table.specs.declared.listed.CallLine.{CallLine}
use Rattle.call_table.specs.declared.causes.CallsCause.{CallsCause}
use Rattle.call_table.specs.declared.causes.CallsError.{CallsError}
use Rattle.call_table.proofs.Grouping.{groups_wider, no_groups}
use Rattle.call_table.proofs.ReadBy.{read_base}

no_lines : (most : ℕ) → AreLines most []
no_lines most = record {
  once = record { by_name = λ at line e. cc; by_number = λ at line e. cc };
  in_range = λ k d lt. absurd (omega arith);
  few = omega arith;
}

-- a table is sound if its parts are
every_longer : (old new more tail : List CallLine) → new ≡ old ++ more → length (old ++ tail) ≤ length (new ++ tail)
every_longer old new more tail e =
    let long = length-append old more in
    let before = length-append old tail in
    let after = length-append new tail in
    omega (arith, ap length e)

-- one more call of the native ABI leaves the groups sound while there is no other ABI
pub native_sound : (table : Table) (cause : Option CallsCause) (at : ℕ) (more new : List CallLine) (result : Result (Unit {0}) CallsError)
    → IsTable table → table.second ≡ None
    → Steps cause at (table.calls ++ more) new result → OnOk result (AreLines most_calls new) → OnOk result (AreOf 0 new)
    → OnOk result (IsTable (record
    { name = table.name; arch = table.arch; calls = new; families = table.families; groups = table.groups; second = table.second }))
native_sound table cause at more new (Ok done) h alone steps sound own = record {
  calls = sound;
  native = own;
  no_abi = h.no_abi;
  families = h.families;
  groups = groups_wider (length (every_call table)) (length (new ++ second_calls table.second)) table.groups
      (every_longer table.calls new more (second_calls table.second) steps.1) h.groups;
  few_groups = h.few_groups;
  second = subst (λ (o : Option Abi). IfSome o (IsSecond (record { name = table.name; arch = table.arch; calls = new; families = table.families; groups = table.groups; second = table.second }))) (sym alone) tt;
}
native_sound table cause at more new (Err error) h alone steps sound own = tt

-- one more call of the second ABI leaves the groups sound
pub second_sound : (table : Table) (second : Abi) (cause : Option CallsCause) (at : ℕ) (more new : List CallLine)
    (result : Result (Unit {0}) CallsError) → IsTable table → table.second ≡ Some second
    → Steps cause at (second.calls ++ more) new result → OnOk result (AreLines most_calls new)
    → OnOk result (All (HasCapAmong table.calls) new) → OnOk result (AreOf 1 new)
    → OnOk result (IsTable (record { name = table.name; arch = table.arch; calls = table.calls; families = table.families; groups = table.groups; second = Some (record { name = second.name; arch = second.arch; calls = new }) }))
second_sound table second cause at more new (Ok done) h is steps sound caps own =
    let old = subst (λ (o : Option Abi). IfSome o (IsSecond table)) is h.second in
    record {
      calls = h.calls;
      native = h.native;
      no_abi = h.no_abi;
      families = h.families;
      groups = groups_wider (length (every_call table)) (length (table.calls ++ new)) table.groups
          (wider (ap (λ (o : Option Abi). length (table.calls ++ second_calls o)) is)) h.groups;
      few_groups = h.few_groups;
      second = record { calls = sound; own = own; other_name = old.other_name; other_arch = old.other_arch; same_caps = caps };
    }
  where
    wider : length (every_call table) ≡ length (table.calls ++ second.calls) → length (every_call table) ≤ length (table.calls ++ new)
    wider e =
        let long = length-append second.calls more in
        let before = length-append table.calls second.calls in
        let after = length-append table.calls new in
        omega (arith, e, ap length steps.1)
second_sound table second cause at more new (Err error) h is steps sound caps own = tt

-- a second ABI begins without calls
pub opens_sound : (table : Table) (name : List ℕ) (arch : ℕ) (calls : List CallLine) → calls ≡ [] → IsTable table → table.second ≡ None
    → bytes_eq name table.name ≡ false → arch == table.arch ≡ false
    → IsTable (record { name = table.name; arch = table.arch; calls = table.calls; families = table.families; groups = table.groups; second = Some (record { name = name; arch = arch; calls = calls }) })
opens_sound table name arch calls none h alone other_name other_arch = subst (λ (lines : List CallLine). IsTable (record { name = table.name; arch = table.arch; calls = table.calls; families = table.families; groups = table.groups; second = Some (record { name = name; arch = arch; calls = lines }) })) (sym none)
    (record {
      calls = h.calls;
      native = h.native;
      no_abi = h.no_abi;
      families = h.families;
      groups = subst (λ (n : ℕ). AreGroups n table.groups) (ap (λ (o : Option Abi). length (table.calls ++ second_calls o)) alone) h.groups;
      few_groups = h.few_groups;
      second = record { calls = no_lines most_calls; own = λ k d lt. absurd (omega arith); other_name = other_name; other_arch = other_arch; same_caps = λ k d lt. absurd (omega arith) };
    })

-- the table before the first line
pub begins : (two : Bool) (name : List ℕ) (arch : ℕ) (table : Table)
    → table ≡ record { name = name; arch = arch; calls = []; families = []; groups = []; second = None }
    → HasRead two (record { name = name; arch = arch }) [] table
begins two name arch table e = record {
  faultless = refl;
  read = e;
  sound = subst IsTable (sym e) (record { calls = no_lines 512; native = λ k d lt. absurd (omega arith); no_abi = λ k d lt. absurd (omega arith); families = no_lines 128; groups = no_groups 0; few_groups = omega arith; second = tt });
  by_kernel = read_base (record { name = name; arch = arch }) [] table e;
}
