-- What the lines of a list of capabilities say about one capability (systemd.exec(5), CapabilityBoundingSet=).
use Rattle.std.specs.Prelude.{ℕ, ◌==◌, Bool, true, false, cond, Option, Some, None, List, [], ◌∷◌, unwrap_or}
use Rattle.std.specs.List.{list_any, filter_map}
use Rattle.dropin_merge.specs.unit_grammar.Before.{with_before, last_of}
use Rattle.dropin_merge.specs.declared.unit_values.lines.Line.{Line}
use Rattle.dropin_merge.specs.declared.unit_values.listed.Listed.{Listed}
use Rattle.dropin_merge.specs.unit_values.Listed.{is_reset}
use Rattle.site_table.specs.cap_sets.Sets.{has}
use Rattle.cred_settings.specs.CapLists.{caps_by}
use Rattle.cred_settings.specs.Writings.{is_name_of}

-- a line that names the capability says `named`; any other line speaks of it only if it begins anew, and then says the contrary
abbrev pub says_of : Bool → Bool → Bool → Bool → Option Bool
says_of named contrary names begins = cond names (Some named) (cond begins (Some contrary) None)

-- `~` alone takes all in; any other inverted line takes out what it names, and takes all others in if it begins anew
abbrev pub inverted_says : ℕ → Bool → List (List ℕ) → Option Bool
inverted_says number begins [] = Some true
inverted_says number begins (word ∷ words) = says_of false true (list_any (is_name_of number) (word ∷ words)) begins

-- a plain line takes in what it names, and takes all others out if it begins anew
abbrev pub line_says : ℕ → Bool → Line → Option Bool
line_says number begins line =
    cond line.is_inverted (inverted_says number begins line.words) (says_of true false (list_any (is_name_of number) line.words) begins)

-- an empty value takes all out; a line begins anew if the lines before it make just the default
abbrev pub says : ℕ → ℕ → List Listed × Listed → Option Bool
says default number place =
    cond (is_reset place.1) (Some false) (line_says number (caps_by default place.0 == default) place.1.line)

-- the last line that speaks of the capability takes it in; without such a line, the default has it
abbrev pub is_taken_in : ℕ → ℕ → List Listed → Bool
is_taken_in default number lines = unwrap_or (last_of (filter_map (says default number) (with_before [] lines))) (has default number)
