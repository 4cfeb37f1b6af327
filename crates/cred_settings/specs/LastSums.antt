-- What the lines of a list of capabilities say about one capability, as a version of systemd reads them (systemd.exec(5),
-- CapabilityBoundingSet=).
use Rattle.std.specs.Prelude.{ℕ, ◌==◌, ◌||◌, Bool, true, false, cond, Option, List, [], unwrap_or}
use Rattle.std.specs.List.{list_any, filter_map}
use Rattle.dropin_merge.specs.unit_grammar.Before.{with_before, last_of}
use Rattle.dropin_merge.specs.declared.unit_values.lines.Line.{Line}
use Rattle.dropin_merge.specs.declared.unit_values.listed.Listed.{Listed}
use Rattle.site_table.specs.cap_sets.Sets.{has, none}
use Rattle.cred_settings.specs.CapNames.{named_caps}
use Rattle.cred_settings.specs.CapSums.{counted, is_untouched, summed}
use Rattle.cred_settings.specs.LastLines.{says_of}
use Rattle.cred_settings.specs.Writings.{is_name_of}

-- a line begins anew if it names no capability, or if the lines before it leave the set as it was without them
abbrev pub begins_anew : Option ℕ → List Listed → Line → Bool
begins_anew default before line = named_caps line.words == none || is_untouched default (summed default before)

-- a plain line takes in what it names, and an inverted line takes it out. A line that begins anew says the contrary of all others
abbrev pub line_says : ℕ → Bool → Line → Option Bool
line_says number begins line = cond line.is_inverted (says_of false true (list_any (is_name_of number) line.words) begins)
    (says_of true false (list_any (is_name_of number) line.words) begins)

abbrev pub says : Option ℕ → ℕ → List Listed × Listed → Option Bool
says default number place = line_says number (begins_anew default place.0 place.1.line) place.1.line

-- the last line that speaks of the capability takes it in; without such a line, the default has it
abbrev pub is_taken_in : Option ℕ → ℕ → List Listed → Bool
is_taken_in default number lines =
    unwrap_or (last_of (filter_map (says default number) (with_before [] lines))) (has (counted default) number)
