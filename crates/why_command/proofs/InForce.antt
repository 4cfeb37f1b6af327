-- Assignments that are in force, or are not taken away.
use Rattle.std.proofs.Common.{◌≡◌, ◌∙◌, ℕ, Bool, true, false, List, Option, Some, codes, refl, sym, ap₂, subst}
use Rattle.std.specs.Prelude.{◌&&◌, IfSome}
use Rattle.std.specs.Str.{bytes_eq}
use Rattle.std.proofs.lemmas.Slice.Eq.{bytes_eq-Decides}
use Rattle.asked_service.specs.exec_settings.Keys.{is_read}
use Rattle.asked_service.specs.unit_grammar.declared.unit.Assignment.{Assignment}
use Rattle.asked_service.specs.unit_names.declared.version.Version.{Version}
use Rattle.why_command.specs.declared.deciding_lines.unit_lines.in_force.Seen.{Seen}
use Rattle.why_command.specs.deciding_lines.unit_lines.Lines.{is_in_force}
use Rattle.why_command.specs.deciding_lines.unit_lines.Seen.{IsSeen, has_same_key}

both : (a b : Bool) → (a && b) ≡ true → (a ≡ true) × (b ≡ true)
both true true is = (refl, refl)
both true false is = (let e : false ≡ true = is in cc)
both false b is = (let e : false ≡ true = is in cc)

-- of two assignments to one key of one section both are in force, or none
same_key : (systemd : Option Version) (one other : Assignment) → has_same_key one other ≡ true
    → is_in_force systemd one ≡ is_in_force systemd other
same_key systemd one other is =
    let keys : (bytes_eq one.section other.section ≡ true) × (bytes_eq one.key other.key ≡ true) =
    both (bytes_eq one.section other.section) (bytes_eq one.key other.key) is in
    ap₂ (λ (section key : List ℕ). bytes_eq section (codes "Service") && is_read systemd key)
    ((bytes_eq-Decides one.section other.section).0 keys.0) ((bytes_eq-Decides one.key other.key).0 keys.1)

-- the answer for the last assignment is that for one with its key
pub seen_again : (systemd : Option Version) (seen : Option Seen) (last : Seen) (assignment : Assignment) (answer : Bool)
    → seen ≡ Some last → IfSome seen (IsSeen systemd) → answer ≡ has_same_key last.assignment.now assignment → answer ≡ true
    → last.is_in_force ≡ is_in_force systemd assignment
seen_again systemd seen last assignment answer is known says holds =
    let own : last.is_in_force ≡ is_in_force systemd last.assignment.now =
    subst (λ (one : Option Seen). IfSome one (IsSeen systemd)) is known in
    own ∙ same_key systemd last.assignment.now assignment (sym says ∙ holds)

-- what is at none of the places is not taken away
pub not_taken : (a b answer : Bool) → answer ≡ b → answer ≡ false → false ≡ (a && b)
not_taken true b answer is off = sym off ∙ is
not_taken false b answer is off = refl
