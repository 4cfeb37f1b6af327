-- Examples of values: what they mean, and which of them are in force.
use Rattle.std.proofs.Common.{◌≡◌, ℕ, true, List, [], ◌∷◌, Some, None, refl, map, codes}
use Rattle.std.specs.Str.{is_utf8, chars}
use lib.Utf8.{encode}
use Rattle.dropin_merge.specs.text_forms.Booleans.{bool_value, is_one_of}
use Rattle.dropin_merge.specs.text_forms.Words.{words_of, words_in, text_only, closed_only, mark_of, open_after, escape_of, symbols_of}
use Rattle.path_settings.specs.abs_path.Paths.{Path}
use Rattle.path_settings.specs.declared.dialect.Dialect.TheVariants.{Base}
use Rattle.path_settings.specs.declared.keys.PathKey.{PathKey}
use Rattle.path_settings.specs.declared.keys.PathKey.TheVariants.{ReadWritePaths, ReadOnlyPaths}
use Rattle.mount_settings.specs.declared.protections.SystemProtection.TheVariants.{Yes, Strict}
use Rattle.mount_settings.specs.declared.protections.HomeProtection.TheVariants.{Tmpfs}
use Rattle.mount_settings.specs.declared.written.WrittenPath.{WrittenPath}
use Rattle.mount_settings.specs.System.{system_value}
use Rattle.mount_settings.specs.Home.{home_value}
use Rattle.mount_settings.specs.Tmp.{is_tmp_on}
use Rattle.mount_settings.specs.Assigned.{Assigned}
use Rattle.mount_settings.specs.Written.{written}

system_strict : system_value (codes "strict") ≡ Some Strict
unfolding bool_value is_one_of
system_strict = refl

system_on : system_value (codes "On") ≡ Some Yes
unfolding bool_value is_one_of
system_on = refl

system_is_exact : system_value (codes "Full") ≡ None
unfolding bool_value is_one_of
system_is_exact = refl

home_tmpfs : home_value (codes "tmpfs") ≡ Some Tmpfs
unfolding bool_value is_one_of
home_tmpfs = refl

tmp_disconnected : is_tmp_on (codes "disconnected") ≡ Some true
unfolding bool_value is_one_of
tmp_disconnected = refl

at : ℕ → PathKey → List ℕ → Assigned
at line key text = record { key = key; value = record { place = record { file = 0; line = line }; text = text } }

abbrev said : List WrittenPath → List (PathKey × Path)
said paths = map (λ path. (path.key, path.mention.path)) paths

-- two keys, one of which is reset between
one_key_is_reset : said (written Base
    (at 2 ReadOnlyPaths (codes "/a /b") ∷ at 3 ReadWritePaths (codes "/c") ∷ at 4 ReadOnlyPaths [] ∷ at 5 ReadOnlyPaths
    (codes "/d d") ∷ [])) ≡ (ReadWritePaths, codes "c" ∷ []) ∷ (ReadOnlyPaths, codes "d" ∷ []) ∷ []
unfolding at words_of words_in text_only closed_only mark_of open_after escape_of symbols_of is_utf8 chars encode
one_key_is_reset = refl
