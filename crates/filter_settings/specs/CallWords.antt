-- systemd.exec(5), SystemCallFilter=: the words of a line.
use Rattle.std.specs.Prelude.{ℕ, is_some, not, ◌||◌, Bool, true, false, if◌then◌else◌, Option, Some, None, List, [], ◌∷◌, ◌++◌}
use Rattle.std.specs.Option.{option_map}
use Rattle.std.specs.Str.{byte as ascii}
use Rattle.dropin_merge.specs.unit_grammar.Kinds.{cut_at}
use Rattle.dropin_merge.specs.unit_names.declared.version.Version.{Version}
use Rattle.dropin_merge.specs.unit_grammar.declared.notes.NoteCause.{NoteCause}
use Rattle.dropin_merge.specs.unit_grammar.declared.notes.NoteCause.TheVariants.{Value as ValueCause, UnknownName}
use Rattle.call_rules.specs.declared.actions.Action.{Action}
use Rattle.call_table.specs.Table.{Table, every_call}
use Rattle.call_table.specs.Names.{behind_at}
use Rattle.call_table.specs.Lookups.{place_named, group_named}
use Rattle.filter_settings.specs.declared.filter_rules.mentions.Mode.{Mode}
use Rattle.filter_settings.specs.declared.filter_rules.mentions.Mode.TheVariants.{Allow, Deny}
use Rattle.filter_settings.specs.declared.filter_rules.mentions.Mention.{Mention}
use Rattle.filter_settings.specs.ErrorActions.{error_action}
use Rattle.filter_settings.specs.declared.call_words.CallWord.{CallWord as ReadWord}
use Rattle.filter_settings.specs.declared.call_words.Suffix.{Suffix}
use Rattle.filter_settings.specs.declared.call_words.Suffix.TheVariants.{IsAction, Dropped, Refused}

-- a word as it is read: the name, the action of its suffix, and whether it has a suffix that is ignored
pub record CallWord : Type 0 where
  pub name : List ℕ
  pub action : Option Action
  pub has_stray : Bool

-- only a word that is added to a list that denies may have a suffix
abbrev pub may_have_suffix : Mode → Bool → Bool
may_have_suffix Allow adds = false
may_have_suffix Deny adds = adds

-- the word is on a line with `~`: it is taken off a list that allows, or added to a list that denies
abbrev pub is_inverted : Mode → Bool → Bool
is_inverted Allow adds = not adds
is_inverted Deny adds = adds

-- a suffix that is not allowed is ignored; in a version of systemd each word of a line with `~` may have one, and any other word with
-- one cannot be read
abbrev pub suffix_of : Option Version → Mode → Bool → Suffix
suffix_of None mode adds = if may_have_suffix mode adds then IsAction else Dropped
suffix_of (Some version) mode adds = if is_inverted mode adds then IsAction else Refused

-- a suffix is an action; a word with any other suffix cannot be read
abbrev pub suffixed : Suffix → List ℕ → List ℕ → Option CallWord
suffixed IsAction name suffix = option_map (λ action. record { name = name; action = Some action; has_stray = false }) (error_action suffix)
suffixed Dropped name suffix = Some (record { name = name; action = None; has_stray = true })
suffixed Refused name suffix = None

abbrev pub word_of_sides : Suffix → List ℕ → Option (List ℕ × List ℕ) → Option CallWord
word_of_sides kind word None = Some (record { name = word; action = None; has_stray = false })
word_of_sides kind word (Some sides) = suffixed kind sides.0 sides.1

-- the suffix follows the first colon; names have no colon
abbrev pub word_of : Suffix → List ℕ → Option CallWord
word_of kind word = word_of_sides kind word (cut_at (ascii ":") word)

abbrev pub is_known_by : Table → List ℕ → Option (List ℕ) → Bool
is_known_by table name None = is_some (place_named name (every_call table))
is_known_by table name (Some group) = is_some (group_named group table.groups)

-- some ABI of the table has a call of this name, or the table has the group after `@`
abbrev pub is_known : Table → List ℕ → Bool
is_known table name = is_known_by table name (behind_at name)

-- a known name is mentioned; if the word has an action, the calls are listed with it
abbrev pub mention_of : Table → Bool → Option CallWord → Option Mention
mention_of table adds None = None
mention_of table adds (Some word) = if is_known table word.name then Some
    (record { adds = adds || is_some word.action; name = word.name; action = word.action }) else None

abbrev pub word_mention : Option Version → Table → Mode → Bool → List ℕ → Option Mention
word_mention systemd table mode adds word = mention_of table adds (word_of (suffix_of systemd mode adds) word)

-- a word that cannot be read is noted; any other word is noted for a suffix that is ignored, and then for an unknown name
abbrev pub causes_of : Table → Option CallWord → List NoteCause
causes_of table None = ValueCause ∷ []
causes_of table (Some word) = (if word.has_stray then ValueCause ∷ [] else []) ++
    (if is_known table word.name then [] else UnknownName ∷ [])

abbrev pub word_causes : Option Version → Table → Mode → Bool → List ℕ → List NoteCause
word_causes systemd table mode adds word = causes_of table (word_of (suffix_of systemd mode adds) word)

-- the word of the code as the word of the specification
abbrev pub seen : ReadWord → CallWord
seen word = record { name = word.name.now; action = word.action; has_stray = word.has_stray }
