-- Each cause of a note has a printed word.
use Rattle.std.specs.Prelude.{ℕ, List, codes}
use Rattle.unit_grammar.specs.declared.notes.NoteCause.{NoteCause}
use Rattle.unit_grammar.specs.declared.notes.NoteCause.TheVariants.{NoSection, NoEquals, Value, Unjudged, Specifier, UnknownName}

abbrev pub cause_text : NoteCause → List ℕ
cause_text NoSection = codes "no-section"
cause_text NoEquals = codes "no-equals"
cause_text Value = codes "value"
cause_text Unjudged = codes "unjudged"
cause_text Specifier = codes "specifier"
cause_text UnknownName = codes "unknown-name"
