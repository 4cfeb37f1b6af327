-- Written paths are as their keys allow: only four keys say which object is at a path.
use Rattle.std.proofs.Common.{◌≡◌, ℕ, Bool, true, false, cond, Option, Some, None, List, [], ◌∷◌, refl, sym, ap, ◌∙◌}
use Rattle.std.specs.Prelude.{◌&&◌, ◌||◌, not, codes, unwrap_or}
use Rattle.std.specs.List.{list_all, list_any}
use Rattle.std.proofs.lemmas.Bool.{and_from}
use Rattle.std.specs.Option.{option_map}
use Rattle.std.proofs.lemmas.List.Folds.{list_all-append}
use Rattle.path_settings.specs.abs_path.Paths.{Path, is_root}
use Rattle.path_settings.specs.declared.dialect.Dialect.{Dialect}
use Rattle.path_settings.specs.declared.dialect.Dialect.TheVariants.{Base, Systemd252, Systemd257}
use Rattle.path_settings.specs.declared.keys.PathKey.{PathKey}
use Rattle.path_settings.specs.declared.keys.PathKey.TheVariants.{ReadWritePaths, ReadOnlyPaths, InaccessiblePaths, ExecPaths, NoExecPaths}
use Rattle.path_settings.specs.declared.keys.PathKey.TheVariants.{BindPaths, BindReadOnlyPaths, TemporaryFileSystem, StateDirectory}
use Rattle.path_settings.specs.declared.keys.PathKey.TheVariants.{RuntimeDirectory, CacheDirectory, LogsDirectory, ConfigurationDirectory}
use Rattle.path_settings.specs.declared.mentions.Kind.{Kind}
use Rattle.path_settings.specs.declared.mentions.Kind.TheVariants.{Ro, Rw, Exec, NoExec}
use Rattle.path_settings.specs.declared.mentions.Mention.{Mention}
use Rattle.path_settings.specs.Mentions.{is_origin}
use Rattle.path_settings.specs.Marks.{is_marked, without}
use Rattle.path_settings.specs.SettingPaths.{setting_path}
use Rattle.path_settings.specs.Folders.{is_relative, text_below, folder_mention}
use Rattle.path_settings.specs.Lists.{path_mention}
use Rattle.path_settings.specs.Keys.{is_implied, mention_of}
use Rattle.path_settings.specs.FolderWords.{folder_of, mentions_of_word, one_mention, shown_at, word_below}
use Rattle.path_settings.proofs.ReadFolders.{of_words}
use Rattle.path_settings.specs.Short.{is_short, is_short_path}
use Rattle.path_settings.proofs.ReadMentions.{mention_short}
use Rattle.mount_settings.specs.Assigned.{Assigned, is_key}
use Rattle.dropin_merge.specs.unit_values.Words.{split}
use Rattle.mount_settings.specs.Written.{gives, is_reset_by, mentions_in_word, of_its_key, paths_in, word_paths, written}
use Rattle.mount_settings.proofs.EachMention.{both}
use Rattle.mount_settings.specs.Roots.{is_as_its_key, root_keys, AreRead}

-- the mentions that a key may have
abbrev fits : PathKey → Option Mention → Bool
fits key None = true
fits key (Some mention) = is_as_its_key (record { key = key; mention = mention })

pub or_true : (a : Bool) → (a || true) ≡ true
or_true true = refl
or_true false = refl

-- one of the four keys may have any mention
any_fits : (key : PathKey) (mention : Option Mention) → list_any (is_key key) root_keys ≡ true → fits key mention ≡ true
any_fits key None among = refl
any_fits key (Some mention) among =
    ap (λ v. not (is_origin mention.kind) || (v || (is_implied key && not (is_root mention.path)))) among
    ∙ or_true (not (is_origin mention.kind))

-- each key may have a mention that does not say which object is at its path
use_fits : (key : PathKey) (kind : Kind) (optional : Bool) (path : Option Path) → is_origin kind ≡ false
    → fits key (option_map (λ place. record { path = place; kind = kind; optional = optional }) path) ≡ true
use_fits key kind optional None plain = refl
use_fits key kind optional (Some path) plain =
    ap (λ v. not v || (list_any (is_key key) root_keys || (is_implied key && not (is_root path)))) plain

path_fits : (key : PathKey) (kind : Kind) (word : List ℕ) → is_origin kind ≡ false → fits key (path_mention kind word) ≡ true
path_fits key kind word plain = use_fits key kind (is_marked word) (setting_path (without (codes "+") (without (codes "-") word))) plain

folder_fits : (key : PathKey) (folder name : List ℕ) → fits key (folder_mention folder name) ≡ true
folder_fits key folder name =
    elim (is_relative name) as
    (λ v. fits key (cond v
    (option_map (λ path. record { path = path; kind = Rw; optional = true }) (setting_path (text_below folder name))) None) ≡ true) [
      | true ↦ use_fits key Rw true (setting_path (text_below folder name)) refl
      | false ↦ refl
    ]

mention_fits : (key : PathKey) (word : List ℕ) → fits key (mention_of key word) ≡ true
mention_fits ReadWritePaths word = path_fits ReadWritePaths Rw word refl
mention_fits ReadOnlyPaths word = path_fits ReadOnlyPaths Ro word refl
mention_fits InaccessiblePaths word = any_fits InaccessiblePaths (mention_of InaccessiblePaths word) refl
mention_fits ExecPaths word = path_fits ExecPaths Exec word refl
mention_fits NoExecPaths word = path_fits NoExecPaths NoExec word refl
mention_fits BindPaths word = any_fits BindPaths (mention_of BindPaths word) refl
mention_fits BindReadOnlyPaths word = any_fits BindReadOnlyPaths (mention_of BindReadOnlyPaths word) refl
mention_fits TemporaryFileSystem word = any_fits TemporaryFileSystem (mention_of TemporaryFileSystem word) refl
mention_fits StateDirectory word = folder_fits StateDirectory (codes "/var/lib") word
mention_fits RuntimeDirectory word = folder_fits RuntimeDirectory (codes "/run") word
mention_fits CacheDirectory word = folder_fits CacheDirectory (codes "/var/cache") word
mention_fits LogsDirectory word = folder_fits LogsDirectory (codes "/var/log") word
mention_fits ConfigurationDirectory word = folder_fits ConfigurationDirectory (codes "/etc") word

-- a folder that is shown below the root is as its key allows
shown_fits : (key : PathKey) (read_only : Bool) (source path : Path) → is_implied key ≡ true → is_root path ≡ false
    → is_as_its_key (record { key = key; mention = shown_at read_only source path }) ≡ true
shown_fits key read_only source path implied deep =
    ap (λ v. list_any (is_key key) root_keys || (v && not (is_root path))) implied
    ∙ ap (λ v. list_any (is_key key) root_keys || not v) deep
    ∙ or_true (list_any (is_key key) root_keys)

-- if each mention of a word of a key, and each folder that is shown, has a property, so have all written mentions
pub record Holds (q : PathKey → Mention → Bool) : Type 0 where
  pub alone : (key : PathKey) (word : List ℕ) (mention : Mention) → mention_of key word ≡ Some mention → q key mention ≡ true
  pub shown : (key : PathKey) (read_only : Bool) (source path : Path) → is_implied key ≡ true → is_short_path source ≡ true
      → is_short_path path ≡ true → is_root path ≡ false → q key (shown_at read_only source path) ≡ true

module _ (q : PathKey → Mention → Bool) (h : Holds q) where
  in_some : (key : PathKey) (o : Option (List Mention)) → ((mentions : List Mention) → o ≡ Some mentions → list_all (q key) mentions ≡ true)
      → list_all (q key) (unwrap_or o []) ≡ true
  in_some key None each = refl
  in_some key (Some mentions) each = each mentions refl

  one_holds : (key : PathKey) (word : List ℕ) → list_all (q key) (unwrap_or (one_mention key word) []) ≡ true
  one_holds key word =
      (elim (mention_of key word) as (λ o. mention_of key word ≡ o
      → list_all (q key) (unwrap_or (option_map (λ (m : Mention). m ∷ []) o) []) ≡ true) [
        | None ↦ λ e. refl
        | Some mention ↦ λ e. ap (λ v. v && true) (h.alone key word mention e)
      ]) refl

  -- the same for a key that has no folder
  plain_holds : (dialect : Dialect) (key : PathKey) (word : List ℕ) → folder_of key ≡ None
      → list_all (q key) (mentions_in_word dialect key word) ≡ true
  plain_holds Base key word none = one_holds key word
  plain_holds Systemd252 key word none =
      ap (λ folder. list_all (q key) (unwrap_or (word_below false key word folder) [])) none ∙ one_holds key word
  plain_holds Systemd257 key word none =
      ap (λ folder. list_all (q key) (unwrap_or (word_below true key word folder) [])) none ∙ one_holds key word

  folder_holds : (dialect : Dialect) (key : PathKey) (word : List ℕ) → is_implied key ≡ true
      → list_all (q key) (mentions_in_word dialect key word) ≡ true
  folder_holds dialect key word implied =
      in_some key (mentions_of_word dialect key word)
      (λ mentions e. of_words (q key) (λ read_only source path from at deep. h.shown key read_only source path implied from at deep)
      dialect key word mentions (h.alone key word) e)

  word_holds : (dialect : Dialect) (key : PathKey) (word : List ℕ) → list_all (q key) (mentions_in_word dialect key word) ≡ true
  word_holds dialect ReadWritePaths word = plain_holds dialect ReadWritePaths word refl
  word_holds dialect ReadOnlyPaths word = plain_holds dialect ReadOnlyPaths word refl
  word_holds dialect InaccessiblePaths word = plain_holds dialect InaccessiblePaths word refl
  word_holds dialect ExecPaths word = plain_holds dialect ExecPaths word refl
  word_holds dialect NoExecPaths word = plain_holds dialect NoExecPaths word refl
  word_holds dialect BindPaths word = plain_holds dialect BindPaths word refl
  word_holds dialect BindReadOnlyPaths word = plain_holds dialect BindReadOnlyPaths word refl
  word_holds dialect TemporaryFileSystem word = plain_holds dialect TemporaryFileSystem word refl
  word_holds dialect StateDirectory word = folder_holds dialect StateDirectory word refl
  word_holds dialect RuntimeDirectory word = folder_holds dialect RuntimeDirectory word refl
  word_holds dialect CacheDirectory word = folder_holds dialect CacheDirectory word refl
  word_holds dialect LogsDirectory word = folder_holds dialect LogsDirectory word refl
  word_holds dialect ConfigurationDirectory word = folder_holds dialect ConfigurationDirectory word refl

  of_key_holds : (key : PathKey) (mentions : List Mention) → list_all (q key) mentions ≡ true
      → list_all (λ path. q path.key path.mention) (of_its_key key mentions) ≡ true
  of_key_holds key [] all = refl
  of_key_holds key (m ∷ mentions) all =
      let parts = both (q key m) (list_all (q key) mentions) all in
      ap (λ v. v && list_all (λ path. q path.key path.mention) (of_its_key key mentions)) parts.0 ∙ of_key_holds key mentions parts.1

  words_hold : (dialect : Dialect) (key : PathKey) (words : List (List ℕ))
      → list_all (λ path. q path.key path.mention) (paths_in dialect key words) ≡ true
  words_hold dialect key [] = refl
  words_hold dialect key (word ∷ words) =
      list_all-append (λ path. q path.key path.mention) (word_paths dialect key word) (paths_in dialect key words)
      ∙ ap (λ v. v && list_all (λ path. q path.key path.mention) (paths_in dialect key words))
      (of_key_holds key (mentions_in_word dialect key word) (word_holds dialect key word))
      ∙ words_hold dialect key words

  in_force_hold : (dialect : Dialect) (reset : Bool) (one : Assigned)
      → list_all (λ path. q path.key path.mention) (cond reset [] (gives dialect one)) ≡ true
  in_force_hold dialect true one = refl
  in_force_hold dialect false one = words_hold dialect one.key (unwrap_or (split one.value.text) [])

  pub all_hold : (dialect : Dialect) (values : List Assigned) → list_all (λ path. q path.key path.mention) (written dialect values) ≡ true
  all_hold dialect [] = refl
  all_hold dialect (one ∷ later) =
      list_all-append (λ path. q path.key path.mention) (cond (is_reset_by later one.key) [] (gives dialect one)) (written dialect later)
      ∙ ap (λ v. v && list_all (λ path. q path.key path.mention) (written dialect later))
      (in_force_hold dialect (is_reset_by later one.key) one)
      ∙ all_hold dialect later

-- so written paths are as their keys allow, and short
pub written_are_read : (dialect : Dialect) (values : List Assigned) → AreRead (written dialect values)
written_are_read dialect values = record {
  as_their_keys = all_hold (λ key mention. is_as_its_key (record { key = key; mention = mention })) (record {
    alone = λ key word mention e. ap (fits key) (sym e) ∙ mention_fits key word;
    shown = λ key read_only source path implied from at deep. shown_fits key read_only source path implied deep;
  }) dialect values;
  short = all_hold (λ key mention. is_short mention) (record {
    alone = λ key word mention e. mention_short key word mention e;
    shown = λ key read_only source path implied from at deep. and_from _ _ at from;
  }) dialect values;
}
