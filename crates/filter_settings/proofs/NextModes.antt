-- The mode of a list after one more value.
use Rattle.std.proofs.Common.{◌≡◌, ℕ, ◌+◌, ◌<◌, Bool, true, false, cond, Option, Some, None, List, [], ◌∷◌, ◌++◌, length, take, get_or, refl, ap}
use Rattle.std.proofs.Common.{◌∙◌, sym, append_assoc}
use Rattle.std.specs.Prelude.{unwrap_or}
use Rattle.dropin_merge.proofs.OfUnitGrammar.Befores.{given_more}
use Rattle.dropin_merge.specs.declared.unit_values.listed.Listed.{Listed}
use Rattle.dropin_merge.specs.declared.unit_values.value.FileNote.{FileNote}
use Rattle.dropin_merge.specs.unit_values.Listed.{is_reset}
use Rattle.dropin_merge.proofs.OneMore.{after_last-push, take_item}
use Rattle.dropin_merge.specs.unit_names.declared.version.Version.{Version}
use Rattle.call_table.specs.Table.{Table}
use Rattle.filter_settings.specs.Lines.{in_force}
use Rattle.filter_settings.specs.Modes.{mode_of, list_mode, mode_behind}
use Rattle.filter_settings.specs.CallLists.{line_notes, call_notes}
use Rattle.filter_settings.specs.Steps.{next_mode}

mode_cond : (b : Bool) (lines : List Listed) (one : Listed) → list_mode (cond b [] (lines ++ one ∷ []))
    ≡ cond b None (Some (unwrap_or (list_mode lines) (mode_of one.line)))
mode_cond true lines one = refl
mode_cond false [] one = refl
mode_cond false (first ∷ lines) one = refl

pub mode_next : (all : List Listed) (i : ℕ) (one : Listed) → i < length all → one ≡ get_or all i one
    → list_mode (in_force (take (i + 1) all)) ≡ next_mode (list_mode (in_force (take i all))) one
mode_next all i one lt is =
    ap (λ xs. list_mode (in_force xs)) (take_item all i one lt is)
    ∙ ap list_mode (after_last-push is_reset (take i all) one)
    ∙ mode_cond (is_reset one) (in_force (take i all)) one

-- the notes after one more value
pub notes_next : (systemd : Option Version) (table : Table) (all : List Listed) (i : ℕ) (one : Listed) (old now next : List FileNote) → i < length all
    → one ≡ get_or all i one → now ≡ old ++ call_notes systemd table (take i all)
    → next ≡ now ++ line_notes systemd table (mode_behind (take i all) one) one → next ≡ old ++ call_notes systemd table (take (i + 1) all)
notes_next systemd table all i one old now next lt is before step =
    step
    ∙ ap (λ ns. ns ++ line_notes systemd table (mode_behind (take i all) one) one) before
    ∙ append_assoc old (call_notes systemd table (take i all)) (line_notes systemd table (mode_behind (take i all) one) one)
    ∙ ap (λ ns. old ++ ns) (sym (ap (call_notes systemd table) (take_item all i one lt is)
    ∙ given_more (λ place. line_notes systemd table (mode_behind place.0 place.1) place.1) (take i all) one))
