-- What the settings of a unit say about paths, by the rules that read them.
use Rattle.std.specs.Prelude.{Bool}
use Rattle.std.specs.List.{list_all}
use Rattle.path_settings.specs.declared.mentioned.Mentioned.{Mentioned}
use Rattle.path_settings.specs.declared.mentioned.Mentioned.TheVariants.{Base, Systemd}
use Rattle.path_settings.specs.Mentions as mentions
use Rattle.path_settings.specs.Short as short
use Rattle.path_settings.specs.systemd.Entries as entries

-- nothing says which object is at the root
abbrev pub leaves_the_root : Mentioned → Bool
leaves_the_root (Base list) = mentions.leaves_the_root list
leaves_the_root (Systemd list no_new_privs) = entries.leaves_the_root list

-- each path, and each source of a bind, is a path as it is kept
abbrev pub are_whole : Mentioned → Bool
are_whole (Base list) = list_all mentions.is_whole list
are_whole (Systemd list no_new_privs) = list_all entries.is_whole list

-- there are at most 192 mentions, and each is whole
abbrev pub AreKept : Mentioned → Type 0
AreKept (Base list) = mentions.AreKept list
AreKept (Systemd list no_new_privs) = entries.AreKept list

-- each path, and each source of a bind, has at most 250 bytes
abbrev pub AreShort : Mentioned → Type 0
AreShort (Base list) = short.AreShort list
AreShort (Systemd list no_new_privs) = entries.AreShort list
