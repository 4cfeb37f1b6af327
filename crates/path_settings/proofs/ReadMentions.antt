-- Mentions that are read have short paths.
use Rattle.std.proofs.Common.{◌≡◌, ℕ, Bool, true, false, List, Option, Some, None, option_map, refl, subst}
use Rattle.std.specs.Prelude.{codes, option_and_then, if◌then◌else◌}
use Rattle.std.specs.List.{before_first, after_first}
use Rattle.std.proofs.lemmas.Bool.{and_from}
use Rattle.abs_path.specs.Paths.{Path, parts_of}
use Rattle.abs_path.specs.Read.{fault_of}
use Rattle.abs_path.specs.declared.error.PathError.{PathError}
use Rattle.path_settings.specs.declared.keys.PathKey.{PathKey}
use Rattle.path_settings.specs.declared.keys.PathKey.TheVariants.{ReadWritePaths, ReadOnlyPaths, InaccessiblePaths, ExecPaths, NoExecPaths}
use Rattle.path_settings.specs.declared.keys.PathKey.TheVariants.{BindPaths, BindReadOnlyPaths, TemporaryFileSystem, StateDirectory}
use Rattle.path_settings.specs.declared.keys.PathKey.TheVariants.{RuntimeDirectory, CacheDirectory, LogsDirectory, ConfigurationDirectory}
use Rattle.path_settings.specs.declared.mentions.Kind.{Kind}
use Rattle.path_settings.specs.declared.mentions.Kind.TheVariants.{Ro, Rw, Exec, NoExec, Hide, Bind}
use Rattle.path_settings.specs.declared.mentions.Mention.{Mention}
use Rattle.path_settings.specs.Short.{is_short_path, has_short_source, is_short}
use Rattle.path_settings.specs.SettingPaths.{unless_fault, setting_path}
use Rattle.path_settings.specs.Marks.{is_marked, without}
use Rattle.path_settings.specs.Lists.{path_mention}
use Rattle.path_settings.specs.Binds.{bind_pieces, ends_of, bind_between, bind_mention}
use Rattle.path_settings.specs.Temporary.{is_colon, tmp_with, temporary_mention}
use Rattle.path_settings.specs.Folders.{is_relative, text_below, folder_mention}
use Rattle.path_settings.specs.Keys.{is_implied, mention_of}

pub setting_is_short : (text : List ℕ) (path : Path) → setting_path text ≡ Some path → is_short_path path ≡ true
setting_is_short text path e = by (fault_of text) e
  where
    by : (fault : Option PathError) → unless_fault fault (parts_of text) ≡ Some path → is_short_path path ≡ true
    by None e = test (is_short_path (parts_of text)) refl e
      where
        test : (b : Bool) → is_short_path (parts_of text) ≡ b → (if b then Some (parts_of text) else None) ≡ Some path
            → is_short_path path ≡ true
        test true short e = let same : parts_of text ≡ path = cc in subst (λ (p : Path). is_short_path p ≡ true) same short
        test false short e = cc
    by (Some fault) e = cc

-- if the mention of each path that can be read has a property, so has the mention of this text
mapped : (P : Mention → Type 0) (text : List ℕ) (f : Path → Mention) (mention : Mention)
    → ((path : Path) → is_short_path path ≡ true → P (f path)) → option_map f (setting_path text) ≡ Some mention → P mention
mapped P text f mention h e = by (setting_path text) refl e
  where
    by : (o : Option Path) → setting_path text ≡ o → option_map f o ≡ Some mention → P mention
    by None read e = cc
    by (Some path) read e = let same : f path ≡ mention = cc in subst P same (h path (setting_is_short text path read))

-- the same for a bind between two paths that can be read
bound : (P : Mention → Type 0) (read_only optional : Bool) (ends : List ℕ × List ℕ × Bool) (mention : Mention) →
    ((source place : Path) → is_short_path source ≡ true → is_short_path place ≡ true
    → P (record { path = place; kind = Bind source read_only ends.2; optional = optional })) →
    bind_between read_only optional ends ≡ Some mention → P mention
bound P read_only optional ends mention h e = by (setting_path ends.0) refl e
  where
    by : (o : Option Path) → setting_path ends.0 ≡ o →
        option_and_then (λ source. option_map (λ place. record { path = place; kind = Bind source read_only ends.2; optional = optional })
        (setting_path ends.1)) o ≡ Some mention → P mention
    by None read e = cc
    by (Some source) read e = mapped P ends.1 (λ place. record { path = place; kind = Bind source read_only ends.2; optional = optional })
        mention (λ place short. h source place (setting_is_short ends.0 source read) short) e

path_short : (kind : Kind) (word : List ℕ) (mention : Mention) → has_short_source kind ≡ true → path_mention kind word ≡ Some mention
    → is_short mention ≡ true
path_short kind word mention source e =
    mapped (λ mention. is_short mention ≡ true) (without (codes "+") (without (codes "-") word))
    (λ path. record { path = path; kind = kind; optional = is_marked word }) mention (λ path short. and_from _ _ short source) e

bind_short : (read_only : Bool) (word : List ℕ) (mention : Mention) → bind_mention read_only word ≡ Some mention → is_short mention ≡ true
bind_short read_only word mention e = by (ends_of (bind_pieces (without (codes "-") word))) e
  where
    by : (o : Option (List ℕ × List ℕ × Bool)) → option_and_then (bind_between read_only (is_marked word)) o ≡ Some mention
        → is_short mention ≡ true
    by None e = cc
    by (Some ends) e = bound (λ mention. is_short mention ≡ true) read_only (is_marked word) ends mention
        (λ source place from to. and_from _ _ to from) e

temporary_short : (word : List ℕ) (mention : Mention) → temporary_mention word ≡ Some mention → is_short mention ≡ true
temporary_short word mention e =
    mapped (λ mention. is_short mention ≡ true) (before_first is_colon word)
    (λ path. record { path = path; kind = tmp_with (after_first is_colon word); optional = false }) mention
    (λ path short. and_from _ _ short refl) e

folder_is : (P : Mention → Type 0) (folder name : List ℕ) (mention : Mention)
    → ((path : Path) → is_short_path path ≡ true → P (record { path = path; kind = Rw; optional = true }))
    → folder_mention folder name ≡ Some mention → P mention
folder_is P folder name mention h e = by (is_relative name) e
  where
    by : (b : Bool) → (if b then option_map (λ path. record { path = path; kind = Rw; optional = true })
        (setting_path (text_below folder name)) else None) ≡ Some mention → P mention
    by true e = mapped P (text_below folder name) (λ path. record { path = path; kind = Rw; optional = true }) mention h e
    by false e = cc

folder_short : (folder name : List ℕ) (mention : Mention) → folder_mention folder name ≡ Some mention → is_short mention ≡ true
folder_short folder name mention e = folder_is (λ mention. is_short mention ≡ true) folder name mention
    (λ path short. and_from _ _ short refl) e

folder_optional : (folder name : List ℕ) (mention : Mention) → folder_mention folder name ≡ Some mention → mention.optional ≡ true
folder_optional folder name mention e = folder_is (λ mention. mention.optional ≡ true) folder name mention (λ path short. refl) e

pub mention_short : (key : PathKey) (word : List ℕ) (mention : Mention) → mention_of key word ≡ Some mention → is_short mention ≡ true
mention_short ReadWritePaths word mention e = path_short Rw word mention refl e
mention_short ReadOnlyPaths word mention e = path_short Ro word mention refl e
mention_short InaccessiblePaths word mention e = path_short Hide word mention refl e
mention_short ExecPaths word mention e = path_short Exec word mention refl e
mention_short NoExecPaths word mention e = path_short NoExec word mention refl e
mention_short BindPaths word mention e = bind_short false word mention e
mention_short BindReadOnlyPaths word mention e = bind_short true word mention e
mention_short TemporaryFileSystem word mention e = temporary_short word mention e
mention_short StateDirectory word mention e = folder_short (codes "/var/lib") word mention e
mention_short RuntimeDirectory word mention e = folder_short (codes "/run") word mention e
mention_short CacheDirectory word mention e = folder_short (codes "/var/cache") word mention e
mention_short LogsDirectory word mention e = folder_short (codes "/var/log") word mention e
mention_short ConfigurationDirectory word mention e = folder_short (codes "/etc") word mention e

pub implied_optional : (key : PathKey) (word : List ℕ) (mention : Mention) → is_implied key ≡ true → mention_of key word ≡ Some mention
    → mention.optional ≡ true
implied_optional StateDirectory word mention implied e = folder_optional (codes "/var/lib") word mention e
implied_optional RuntimeDirectory word mention implied e = folder_optional (codes "/run") word mention e
implied_optional CacheDirectory word mention implied e = folder_optional (codes "/var/cache") word mention e
implied_optional LogsDirectory word mention implied e = folder_optional (codes "/var/log") word mention e
implied_optional ConfigurationDirectory word mention implied e = folder_optional (codes "/etc") word mention e
implied_optional _ word mention implied e = cc
