-- What a unit says to which a drop-in was added that allows some names.
use Rattle.std.proofs.Common.{◌≡◌, ℕ, suc, ◌+◌, ◌≤◌, Bool, true, false, cond, Option, Some, None, List, [], ◌∷◌, ◌++◌, codes, flat_map}
use Rattle.std.proofs.Common.{length, map, refl, ap, ◌∙◌, sym, arith}
use Rattle.std.specs.Prelude.{◌==◌, unwrap_or}
use Rattle.std.specs.List.{AllByRecursion, after_last, cons_option, filter_map, list_all}
use Rattle.std.specs.Option.{option_map}
use Rattle.std.specs.Str.{is_utf8, chars}
use lib.Utf8.{encode}
use Rattle.std.proofs.lemmas.Bool.Decides.{nat_tests}
use Rattle.std.proofs.lemmas.List.{append_assoc, append-nil}
use Rattle.std.proofs.lemmas.List.Elements.{filter_map-append}
use Rattle.asked_service.specs.call_table.Names.{is_name}
use Rattle.asked_service.specs.call_table.Table.{Table, every_call}
use Rattle.asked_service.specs.call_table.declared.listed.CallLine.{CallLine}
use Rattle.asked_service.specs.dropin_merge.declared.resolved.Resolved.{Resolved}
use Rattle.asked_service.specs.dropin_merge.declared.resolved.UnitFile.{UnitFile}
use Rattle.asked_service.specs.exec_settings.Dynamic.{unit_filters}
use Rattle.asked_service.specs.exec_settings.Profile.{asked_by, asks as asks_of, is_asked}
use Rattle.asked_service.specs.filter_settings.CallLists.{call_list, unit_call_list}
use Rattle.asked_service.specs.filter_settings.Lines.{in_force}
use Rattle.asked_service.specs.filter_settings.declared.filter_rules.mentions.Mention.{Mention}
use Rattle.asked_service.specs.filter_settings.declared.filter_rules.mentions.Mode.TheVariants.{Allow}
use Rattle.asked_service.specs.unit_names.declared.version.Version.{Version}
use Rattle.asked_service.specs.unit_names.declared.version.Version.TheVariants.{V252, V257}
use Rattle.asked_service.specs.mount_settings.Assigned.{assigned_by}
use Rattle.asked_service.specs.unit_grammar.Before.{last_of}
use Rattle.asked_service.specs.unit_grammar.declared.unit.Assignment.{Assignment}
use Rattle.asked_service.specs.unit_grammar.declared.unit.UnitText.{UnitText}
use Rattle.asked_service.specs.unit_names.Expansion.{expansion, longest_value}
use Rattle.asked_service.specs.unit_names.Names.{Name}
use Rattle.asked_service.proofs.OfDropinMerge.OneMore.{after_last-push}
use Rattle.asked_service.specs.dropin_merge.unit_values.Assignments.{service_assignments, service_from, service_in}
use Rattle.asked_service.specs.dropin_merge.unit_values.Listed.{is_reset, listed, unit_listed}
use Rattle.asked_service.specs.dropin_merge.unit_values.Values.{expanded_at, given_by, values_of, written_by, written_values}
use Rattle.asked_service.specs.dropin_merge.declared.unit_values.lines.Line.{Line}
use Rattle.asked_service.specs.dropin_merge.declared.unit_values.listed.Listed.{Listed}
use Rattle.asked_service.specs.dropin_merge.declared.unit_values.value.Place.{Place}
use Rattle.asked_service.specs.launching.Longer.{says, unless_refused}
use Rattle.derive_command.specs.trace_profile.Extended.{drop_in_text, extended, is_first_line, name_at}
use Rattle.derive_command.proofs.AllowedNames.{names_are, said_list, said_words}
use Rattle.derive_command.proofs.DropInText.{allows, reset, unit_is, value}
use Rattle.derive_command.proofs.ListedWords.{expanded, line_is}
use Rattle.derive_command.proofs.SameButCalls.{AddsCallsAlone, filters, is_other, with_calls}
use Rattle.derive_command.proofs.TameBytes.{are_names, tail_of}

-- the assignments of one more file stand behind the others
record Added (number : ℕ) (files : List UnitFile) (file : UnitFile) : Type 0 where
  pub place : ℕ
  pub is : service_from number (files ++ file ∷ []) ≡ service_from number files ++ service_in place file.text.assignments

added : (number : ℕ) (files : List UnitFile) (file : UnitFile) → Added number files file
added number [] file = record { place = number; is = append-nil (service_in number file.text.assignments) }
added number (first ∷ files) file =
    let more = added (number + 1) files file in
    record {
      place = more.place;
      is = ap (λ rest. service_in number first.text.assignments ++ rest) more.is
          ∙ sym (append_assoc (service_in number first.text.assignments) (service_from (number + 1) files)
          (service_in more.place file.text.assignments));
    }

nonzero : (n : ℕ) → (suc n == 0) ≡ false
nonzero n = grind (arith, nat_tests)

nothing_expands : (systemd : Option Version) (name : Name) → expansion systemd name [] ≡ Some []
unfolding is_utf8 chars encode
nothing_expands systemd name = refl

pub tails_are : (table : Table) (names : List ℕ) → flat_map (λ place. 32 ∷ name_at table place) names ≡ tail_of (map (name_at table) names)
tails_are table [] = refl
tails_are table (place ∷ names) = ap (λ rest. 32 ∷ (name_at table place ++ rest)) (tails_are table names)

module _ (unit : Resolved) (table : Table) (named : list_all (λ (line : CallLine). is_name line.name) (every_call table) ≡ true) (names : List ℕ) (first : AllByRecursion (λ place. is_first_line table place ≡ true) names) where
  abbrev words : List (List ℕ)
  words = map (name_at table) names

  pub are_words : are_names words ≡ true
  are_words = names_are table named names first

  abbrev said : UnitText
  said = record { assignments = reset words are_words ∷ allows words are_words ∷ []; notes = [] }

  says_so : says (drop_in_text table names) ≡ said
  says_so =
      ap (λ tail. says (codes "[Service]\nSystemCallFilter=\nSystemCallFilter=@default" ++ (tail ++ 10 ∷ []))) (tails_are table names)
      ∙ ap unless_refused (unit_is words are_words)

  abbrev files : List UnitFile
  files = unit.files ++ record { path = []; text = says (drop_in_text table names) } ∷ []

  more : Added 0 unit.files (record { path = []; text = says (drop_in_text table names) })
  more = added 0 unit.files (record { path = []; text = says (drop_in_text table names) })

  place_of : ℕ → Place
  place_of line = record { file = more.place; line = line }

  two : List (Place × Assignment)
  two = (place_of 2, reset words are_words) ∷ (place_of 3, allows words are_words) ∷ []

  assigned : service_assignments (extended unit table names) ≡ service_assignments unit ++ two
  unfolding service_assignments two place_of
  assigned = more.is ∙ ap (λ (text : UnitText). service_from 0 unit.files ++ service_in more.place text.assignments) says_so

  module _ (key : List ℕ) (other : is_other key) where
    no_value : filter_map (given_by unit.systemd unit.name key) two ≡ []
    unfolding two
    no_value =
        ap (λ b. cons_option (cond b (expanded_at unit.systemd unit.name (place_of 2, reset words are_words)) None)
        (cons_option (cond b (expanded_at unit.systemd unit.name (place_of 3, allows words are_words)) None) [])) other

    other_values : values_of (extended unit table names) key ≡ values_of unit key
    other_values =
        ap (filter_map (given_by unit.systemd unit.name key)) assigned ∙ filter_map-append (given_by unit.systemd unit.name key) (service_assignments unit) two
        ∙ ap (λ rest. values_of unit key ++ rest) no_value ∙ append-nil (values_of unit key)

    none_written : filter_map (written_by key) two ≡ []
    unfolding two
    none_written =
        ap (λ b. cons_option (cond b (Some (record { place = place_of 2; text = [] })) None)
        (cons_option (cond b (Some (record { place = place_of 3; text = value words are_words })) None) [])) other

    other_written : written_values (extended unit table names) key ≡ written_values unit key
    other_written =
        ap (filter_map (written_by key)) assigned ∙ filter_map-append (written_by key) (service_assignments unit) two
        ∙ ap (λ rest. written_values unit key ++ rest) none_written ∙ append-nil (written_values unit key)

    abbrev asks : Place × Assignment → Option Bool
    asks one = asked_by key one.1

    unasked : filter_map asks two ≡ []
    unfolding two
    unasked = ap (λ b. cons_option (cond b (Some (asks_of [])) None)
        (cons_option (cond b (Some (asks_of (value words are_words))) None) [])) other

    other_asked : is_asked (extended unit table names) key ≡ is_asked unit key
    other_asked =
        ap (λ found. unwrap_or (last_of found) false)
        (ap (filter_map asks) assigned ∙ filter_map-append asks (service_assignments unit) two
        ∙ ap (λ rest. filter_map asks (service_assignments unit) ++ rest) unasked
        ∙ append-nil (filter_map asks (service_assignments unit)))

  no_path_in : (systemd : Option Version) → filter_map (assigned_by systemd unit.name) two ≡ []
  unfolding two
  no_path_in None = refl
  no_path_in (Some V252) = refl
  no_path_in (Some V257) = refl

  no_path : filter_map (assigned_by unit.systemd unit.name) two ≡ []
  no_path = no_path_in unit.systemd

  pub adds_calls : AddsCallsAlone unit files
  adds_calls = record {
    values = other_values;
    written = other_written;
    paths = ap (filter_map (assigned_by unit.systemd unit.name)) assigned ∙ filter_map-append (assigned_by unit.systemd unit.name) (service_assignments unit) two
        ∙ ap (λ rest. filter_map (assigned_by unit.systemd unit.name) (service_assignments unit) ++ rest) no_path
        ∙ append-nil (filter_map (assigned_by unit.systemd unit.name) (service_assignments unit));
    asked = other_asked;
  }

  module _ (short : length (value words are_words) ≤ longest_value) where
    abbrev key : List ℕ
    key = codes "SystemCallFilter"

    empty : Listed
    empty = record { value = record { place = place_of 2; text = [] }; line = record { is_inverted = false; words = [] } }

    filled : Listed
    filled = record { value = record { place = place_of 3; text = value words are_words }; line = record { is_inverted = false; words = codes "@default" ∷ words } }

    two_values : filter_map (given_by unit.systemd unit.name key) two ≡ empty.value ∷ filled.value ∷ []
    unfolding two empty filled
    two_values =
        ap (λ (found : Option (List ℕ)). cons_option (option_map (λ text. record { place = place_of 2; text = text }) found)
        (cons_option (given_by unit.systemd unit.name key (place_of 3, allows words are_words)) [])) (nothing_expands unit.systemd unit.name)
        ∙ ap (λ (found : Option (List ℕ)). record { place = place_of 2; text = [] } ∷ cons_option
        (option_map (λ text. record { place = place_of 3; text = text }) found) []) (expanded words are_words unit.systemd unit.name short)

    two_lines : filter_map listed (empty.value ∷ filled.value ∷ []) ≡ empty ∷ filled ∷ []
    unfolding empty filled
    two_lines = ap (λ (found : Option Line). empty ∷ cons_option
        (option_map (λ line. record { value = filled.value; line = line }) found) []) (line_is words are_words)

    lines : unit_listed (extended unit table names) key ≡ unit_listed unit key ++ empty ∷ filled ∷ []
    unfolding unit_listed
    lines =
        ap (λ assignments. filter_map listed (filter_map (given_by unit.systemd unit.name key) assignments)) assigned
        ∙ ap (filter_map listed) (filter_map-append (given_by unit.systemd unit.name key) (service_assignments unit) two
        ∙ ap (λ rest. values_of unit key ++ rest) two_values)
        ∙ filter_map-append listed (values_of unit key) (empty.value ∷ filled.value ∷ [])
        ∙ ap (λ rest. filter_map listed (values_of unit key) ++ rest) two_lines

    resets : is_reset empty ≡ true
    unfolding empty
    resets = refl

    stays : is_reset filled ≡ false
    unfolding filled
    stays = nonzero _

    -- the last line alone is in force
    last_line : in_force (unit_listed (extended unit table names) key) ≡ filled ∷ []
    last_line =
        ap (after_last is_reset) (lines ∙ sym (append_assoc (unit_listed unit key) (empty ∷ []) (filled ∷ [])))
        ∙ after_last-push is_reset (unit_listed unit key ++ empty ∷ []) filled
        ∙ ap (λ b. cond b [] (after_last is_reset (unit_listed unit key ++ empty ∷ []) ++ filled ∷ [])) stays
        ∙ ap (λ rest. rest ++ filled ∷ []) (after_last-push is_reset (unit_listed unit key) empty
        ∙ ap (λ b. cond b [] (after_last is_reset (unit_listed unit key) ++ empty ∷ [])) resets)

    calls_are : unit_call_list (extended unit table names) table key ≡ Some (said_list table named unit.systemd names)
    unfolding unit_call_list filled
    calls_are = ap (call_list unit.systemd table) last_line ∙ by unit.systemd
      where
        by : (systemd : Option Version) → call_list systemd table (filled ∷ []) ≡ Some (said_list table named systemd names)
        by None = ap (λ (mentions : List Mention). Some (record { mode = Allow; mentions = mentions; hides_unknown = false }))
            (sym (append-nil (said_words table named None names)))
        by (Some V252) = ap (λ (mentions : List Mention). Some (record { mode = Allow; mentions = mentions; hides_unknown = false }))
            (sym (append-nil (said_words table named (Some V252) names)))
        by (Some V257) = refl

    -- what the filters of the unit are
    pub filters_are : unit_filters (extended unit table names) table
        ≡ with_calls (unit_filters unit table) (Some (said_list table named unit.systemd names))
    filters_are = filters unit files adds_calls table ∙ ap (with_calls (unit_filters unit table)) calls_are
