-- The specifiers that a value may have (systemd.unit(5), Specifiers).
use Rattle.std.specs.Prelude.{ℕ, ◌==◌, ◌&&◌, not, Bool, true, false, cond, is_some, Option, Some, None, unwrap_or, List, [], ◌∷◌, ◌++◌}
use Rattle.std.specs.Prelude.{slice_index, find, codes}
use Rattle.std.specs.List.{after_last, list_any}
use Rattle.std.specs.Option.{option_map}
use Rattle.unit_names.specs.Names.{Name, stem_of, text_of}
use Rattle.unit_names.specs.Unescaping.{dash, slash, unescaped}
use Rattle.unit_names.specs.Versions.{is_known}
use Rattle.unit_names.specs.declared.version.Version.{Version}
use Rattle.unit_names.specs.declared.specifier.Specifier.{Specifier}
use Rattle.unit_names.specs.declared.specifier.Specifier.TheVariants.{Percent, WholeName, Stem, Prefix, Instance, LastPart, PrefixUnescaped}
use Rattle.unit_names.specs.declared.specifier.Specifier.TheVariants.{InstanceUnescaped, LastPartUnescaped, RuntimeFolder, StateFolder}
use Rattle.unit_names.specs.declared.specifier.Specifier.TheVariants.{CacheFolder, LogFolder, ConfigFolder, TemporaryFolder}
use Rattle.unit_names.specs.declared.specifier.Specifier.TheVariants.{LastingTemporaryFolder, UserName, UserNumber, HomeFolder, NamedPath}
use Rattle.unit_names.specs.declared.specifier.Specifier.TheVariants.{GroupName, GroupNumber, Shell}

-- `%`
abbrev pub percent : ℕ
percent = 37

-- a specifier is written as a percent sign and a letter
abbrev pub spelling : Specifier → List ℕ
spelling Percent = percent ∷ codes "%"
spelling WholeName = percent ∷ codes "n"
spelling Stem = percent ∷ codes "N"
spelling Prefix = percent ∷ codes "p"
spelling Instance = percent ∷ codes "i"
spelling LastPart = percent ∷ codes "j"
spelling PrefixUnescaped = percent ∷ codes "P"
spelling InstanceUnescaped = percent ∷ codes "I"
spelling LastPartUnescaped = percent ∷ codes "J"
spelling RuntimeFolder = percent ∷ codes "t"
spelling StateFolder = percent ∷ codes "S"
spelling CacheFolder = percent ∷ codes "C"
spelling LogFolder = percent ∷ codes "L"
spelling ConfigFolder = percent ∷ codes "E"
spelling TemporaryFolder = percent ∷ codes "T"
spelling LastingTemporaryFolder = percent ∷ codes "V"
spelling UserName = percent ∷ codes "u"
spelling UserNumber = percent ∷ codes "U"
spelling HomeFolder = percent ∷ codes "h"
spelling NamedPath = percent ∷ codes "f"
spelling GroupName = percent ∷ codes "g"
spelling GroupNumber = percent ∷ codes "G"
spelling Shell = percent ∷ codes "s"

-- the prefix after its last dash, or the whole prefix if it has no dash
abbrev pub last_part : List ℕ → List ℕ
last_part prefix = after_last (λ byte. byte == dash) prefix

-- the instance, or an empty text without one
abbrev pub instance_text : Name → List ℕ
instance_text name = unwrap_or name.instance []

-- the text of a specifier before unescaping, in a unit that the system's manager runs with uid 0
abbrev pub specified_text : Name → Specifier → List ℕ
specified_text name Percent = codes "%"
specified_text name WholeName = text_of name
specified_text name Stem = stem_of name
specified_text name Prefix = name.prefix
specified_text name Instance = instance_text name
specified_text name LastPart = last_part name.prefix
specified_text name PrefixUnescaped = name.prefix
specified_text name InstanceUnescaped = instance_text name
specified_text name LastPartUnescaped = last_part name.prefix
specified_text name RuntimeFolder = codes "/run"
specified_text name StateFolder = codes "/var/lib"
specified_text name CacheFolder = codes "/var/cache"
specified_text name LogFolder = codes "/var/log"
specified_text name ConfigFolder = codes "/etc"
specified_text name TemporaryFolder = codes "/tmp"
specified_text name LastingTemporaryFolder = codes "/var/tmp"
specified_text name UserName = codes "root"
specified_text name UserNumber = codes "0"
specified_text name HomeFolder = codes "/root"
specified_text name NamedPath = unwrap_or name.instance name.prefix
specified_text name GroupName = codes "root"
specified_text name GroupNumber = codes "0"
specified_text name Shell = codes "/bin/sh"

-- whether the text of a specifier is unescaped
abbrev pub unescapes : Specifier → Bool
unescapes PrefixUnescaped = true
unescapes InstanceUnescaped = true
unescapes LastPartUnescaped = true
unescapes specifier = false

-- whether a specifier is a path: a slash and an unescaped text
abbrev pub is_path : Specifier → Bool
is_path NamedPath = true
is_path specifier = false

-- a text without the slashes at its front
abbrev pub behind_slashes : List ℕ → List ℕ
behind_slashes [] = []
behind_slashes (byte ∷ text) = cond (byte == slash) (behind_slashes text) (byte ∷ text)

-- the path of a text has one slash in place of all slashes at the front
abbrev pub rooted : List ℕ → List ℕ
rooted text = slash ∷ behind_slashes text

-- the text of a specifier that is no path, or nothing if it cannot be unescaped
abbrev pub plain_meaning : Name → Specifier → Option (List ℕ)
plain_meaning name specifier =
    cond (unescapes specifier) (unescaped (specified_text name specifier)) (Some (specified_text name specifier))

-- the text of a specifier, or nothing if it cannot be unescaped
abbrev pub meaning : Name → Specifier → Option (List ℕ)
meaning name specifier =
    cond (is_path specifier) (option_map rooted (unescaped (specified_text name specifier))) (plain_meaning name specifier)

-- every unit has these specifiers
abbrev pub base_specifiers : List Specifier
base_specifiers =
    Percent ∷ WholeName ∷ Stem ∷ Prefix ∷ Instance ∷ LastPart ∷ PrefixUnescaped ∷ InstanceUnescaped ∷ LastPartUnescaped ∷ RuntimeFolder ∷
    StateFolder ∷ CacheFolder ∷ LogFolder ∷ ConfigFolder ∷ TemporaryFolder ∷ LastingTemporaryFolder ∷ UserName ∷ UserNumber ∷
    HomeFolder ∷ []

-- a unit has these too if its version of systemd is known
abbrev pub further_specifiers : List Specifier
further_specifiers = NamedPath ∷ GroupName ∷ GroupNumber ∷ Shell ∷ []

-- all specifiers of a unit
abbrev pub specifiers : Option Version → List Specifier
specifiers None = base_specifiers
specifiers (Some version) = base_specifiers ++ further_specifiers

-- the character after the `%`
abbrev pub letter_of : Specifier → ℕ
letter_of specifier = slice_index (spelling specifier) 1

-- the specifier with this letter, if there is one
abbrev pub specifier_at : Option Version → ℕ → Option Specifier
specifier_at systemd letter = find (λ specifier. letter_of specifier == letter) (specifiers systemd)

-- the letters of specifiers whose text the running machine, its system or the unit's own files give
abbrev pub host_letters : List ℕ
host_letters = codes "aAbBcdDHlmMoqrRvwWyY"

-- a character that makes no specifier stays as it is written, with its `%`: systemd looks a letter up in its table
abbrev pub is_kept : Option Version → ℕ → Bool
is_kept systemd letter =
    (is_known systemd && not (list_any (λ host. letter == host) host_letters)) && not (is_some (specifier_at systemd letter))
