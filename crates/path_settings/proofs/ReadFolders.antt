-- Mentions of words of folder keys are short and optional, as a version of systemd reads them.
use Rattle.std.proofs.Common.{◌≡◌, ℕ, Bool, true, false, List, [], ◌∷◌, Option, Some, None, option_map, refl, sym, ap, ◌∙◌, subst}
use Rattle.std.specs.Prelude.{IfSome, option_and_then, if◌then◌else◌}
use Rattle.std.specs.List.{list_all}
use Rattle.std.proofs.lemmas.Bool.{and_from}
use Rattle.abs_path.specs.Paths.{Path, is_root, parts_of}
use Rattle.abs_path.specs.Read.{fault_of}
use Rattle.abs_path.specs.declared.error.PathError.{PathError}
use Rattle.path_settings.specs.declared.dialect.Dialect.{Dialect}
use Rattle.path_settings.specs.declared.dialect.Dialect.TheVariants.{Base, Systemd252, Systemd257}
use Rattle.path_settings.specs.declared.keys.PathKey.{PathKey}
use Rattle.path_settings.specs.declared.keys.PathKey.TheVariants.{ReadWritePaths, ReadOnlyPaths, InaccessiblePaths, ExecPaths, NoExecPaths}
use Rattle.path_settings.specs.declared.keys.PathKey.TheVariants.{BindPaths, BindReadOnlyPaths, TemporaryFileSystem, StateDirectory}
use Rattle.path_settings.specs.declared.keys.PathKey.TheVariants.{RuntimeDirectory, CacheDirectory, LogsDirectory, ConfigurationDirectory}
use Rattle.path_settings.specs.declared.mentions.Mention.{Mention}
use Rattle.path_settings.specs.Short.{is_short_path, is_short}
use Rattle.path_settings.specs.SettingPaths.{setting_path, unless_fault}
use Rattle.path_settings.specs.Binds.{bind_pieces}
use Rattle.path_settings.specs.Folders.{is_relative, text_below}
use Rattle.path_settings.specs.FolderWords.{folder_of, has_links, ends_of_folder, path_below, is_private, unless_private, public_path, shown_at}
use Rattle.path_settings.specs.FolderWords.{with_link, folder_mentions, one_mention, word_below, mentions_of_word}
use Rattle.path_settings.specs.Keys.{is_implied, mention_of}
use Rattle.path_settings.proofs.ReadMentions.{implied_optional, mention_short, setting_is_short}

-- each path below the folder is below the root
abbrev pub IsDeep : List ℕ → Type 0
IsDeep folder = (name : List ℕ) → is_root (parts_of (text_below folder name)) ≡ false

folder_deep : (key : PathKey) → IfSome (folder_of key) IsDeep
folder_deep ReadWritePaths = tt
folder_deep ReadOnlyPaths = tt
folder_deep InaccessiblePaths = tt
folder_deep ExecPaths = tt
folder_deep NoExecPaths = tt
folder_deep BindPaths = tt
folder_deep BindReadOnlyPaths = tt
folder_deep TemporaryFileSystem = tt
folder_deep StateDirectory = λ name. refl
folder_deep RuntimeDirectory = λ name. refl
folder_deep CacheDirectory = λ name. refl
folder_deep LogsDirectory = λ name. refl
folder_deep ConfigurationDirectory = λ name. refl

-- a path that is read has the parts of its text
read_parts : (text : List ℕ) (path : Path) → setting_path text ≡ Some path → parts_of text ≡ path
read_parts text path e = by (fault_of text) e
  where
    by : (fault : Option PathError) → unless_fault fault (parts_of text) ≡ Some path → parts_of text ≡ path
    by None e = test (is_short_path (parts_of text)) e
      where
        test : (b : Bool) → (if b then Some (parts_of text) else None) ≡ Some path → parts_of text ≡ path
        test true e = cc
        test false e = cc
    by (Some fault) e = cc

below_is_deep : (folder name : List ℕ) (path : Path) → IsDeep folder → path_below folder name ≡ Some path → is_root path ≡ false
below_is_deep folder name path deep e = by (is_relative name) e
  where
    by : (b : Bool) → (if b then setting_path (text_below folder name) else None) ≡ Some path → is_root path ≡ false
    by true e = ap is_root (sym (read_parts (text_below folder name) path e)) ∙ deep name
    by false e = cc

below_is_short : (folder name : List ℕ) (path : Path) → path_below folder name ≡ Some path → is_short_path path ≡ true
below_is_short folder name path e = by (is_relative name) e
  where
    by : (b : Bool) → (if b then setting_path (text_below folder name) else None) ≡ Some path → is_short_path path ≡ true
    by true e = setting_is_short (text_below folder name) path e
    by false e = cc

-- a path that is not private is the path of its name
public_is_below : (folder name : List ℕ) (path : Path) → public_path folder name ≡ Some path → path_below folder name ≡ Some path
public_is_below folder name path e = by (path_below folder name) refl e
  where
    test : (below : Path) (b : Bool) → (if b then None else Some below) ≡ Some path → below ≡ path
    test below true e = cc
    test below false e = cc

    by : (o : Option Path) → path_below folder name ≡ o → option_and_then (unless_private folder) o ≡ Some path → o ≡ Some path
    by None read e = cc
    by (Some below) read e = ap Some (test below (is_private folder below) e)

-- if each folder that is shown at a short path has a property, so have all mentions of a word
module _ (q : Mention → Bool) (shows : (read_only : Bool) (source path : Path) → is_short_path source ≡ true → is_short_path path ≡ true
    → is_root path ≡ false → q (shown_at read_only source path) ≡ true) where
  two : (one other : Mention) → q one ≡ true → q other ≡ true → list_all q (one ∷ other ∷ []) ≡ true
  two one other a b = and_from _ _ a (and_from _ _ b refl)

  of_link : (folder link : List ℕ) (read_only : Bool) (path : Path) (mentions : List Mention) → IsDeep folder
      → is_short_path path ≡ true → is_root path ≡ false → with_link folder link read_only path ≡ Some mentions → list_all q mentions ≡ true
  of_link folder [] read_only path mentions deep short own e =
      let same : shown_at read_only path path ∷ [] ≡ mentions = cc in
      subst (λ ms. list_all q ms ≡ true) same (and_from _ _ (shows read_only path path short short own) refl)
  of_link folder (byte ∷ link) read_only path mentions deep short own e = by (path_below folder (byte ∷ link)) refl e
    where
      by : (o : Option Path) → path_below folder (byte ∷ link) ≡ o
          → option_map (λ place. shown_at read_only path path ∷ shown_at read_only path place ∷ []) o ≡ Some mentions
          → list_all q mentions ≡ true
      by None read e = cc
      by (Some place) read e =
          let same : shown_at read_only path path ∷ shown_at read_only path place ∷ [] ≡ mentions = cc in
          subst (λ ms. list_all q ms ≡ true) same
          (two (shown_at read_only path path) (shown_at read_only path place) (shows read_only path path short short own)
          (shows read_only path place short (below_is_short folder (byte ∷ link) place read)
          (below_is_deep folder (byte ∷ link) place deep read)))

  of_folder : (folder : List ℕ) (ends : Option (List ℕ × List ℕ × Bool)) (mentions : List Mention) → IsDeep folder
      → option_and_then (folder_mentions folder) ends ≡ Some mentions → list_all q mentions ≡ true
  of_folder folder None mentions deep e = cc
  of_folder folder (Some ends) mentions deep e = by (public_path folder ends.0) refl e
    where
      by : (o : Option Path) → public_path folder ends.0 ≡ o → option_and_then (with_link folder ends.1 ends.2) o ≡ Some mentions
          → list_all q mentions ≡ true
      by None read e = cc
      by (Some path) read e =
          let below = public_is_below folder ends.0 path read in
          of_link folder ends.1 ends.2 path mentions deep (below_is_short folder ends.0 path below)
          (below_is_deep folder ends.0 path deep below) e

  of_one : (key : PathKey) (word : List ℕ) (mentions : List Mention)
      → ((mention : Mention) → mention_of key word ≡ Some mention → q mention ≡ true)
      → one_mention key word ≡ Some mentions → list_all q mentions ≡ true
  of_one key word mentions alone e = by (mention_of key word) refl e
    where
      by : (o : Option Mention) → mention_of key word ≡ o → option_map (λ mention. mention ∷ []) o ≡ Some mentions
          → list_all q mentions ≡ true
      by None read e = cc
      by (Some mention) read e =
          let same : mention ∷ [] ≡ mentions = cc in
          subst (λ ms. list_all q ms ≡ true) same (and_from _ _ (alone mention read) refl)

  of_below : (may_mark : Bool) (key : PathKey) (word : List ℕ) (folder : Option (List ℕ)) (mentions : List Mention) → IfSome folder IsDeep
      → ((mention : Mention) → mention_of key word ≡ Some mention → q mention ≡ true)
      → word_below may_mark key word folder ≡ Some mentions → list_all q mentions ≡ true
  of_below may_mark key word None mentions deep alone e = of_one key word mentions alone e
  of_below may_mark key word (Some folder) mentions deep alone e =
      of_folder folder (ends_of_folder (has_links key) may_mark (bind_pieces word)) mentions deep e

  pub of_words : (dialect : Dialect) (key : PathKey) (word : List ℕ) (mentions : List Mention)
      → ((mention : Mention) → mention_of key word ≡ Some mention → q mention ≡ true)
      → mentions_of_word dialect key word ≡ Some mentions → list_all q mentions ≡ true
  of_words Base key word mentions alone e = of_one key word mentions alone e
  of_words Systemd252 key word mentions alone e = of_below false key word (folder_of key) mentions (folder_deep key) alone e
  of_words Systemd257 key word mentions alone e = of_below true key word (folder_of key) mentions (folder_deep key) alone e

pub words_short : (dialect : Dialect) (key : PathKey) (word : List ℕ) (mentions : List Mention)
    → mentions_of_word dialect key word ≡ Some mentions → list_all is_short mentions ≡ true
words_short dialect key word mentions e =
    of_words is_short (λ read_only source path from at deep. and_from _ _ at from) dialect key word mentions (mention_short key word) e

pub words_optional : (dialect : Dialect) (key : PathKey) (word : List ℕ) (mentions : List Mention) → is_implied key ≡ true
    → mentions_of_word dialect key word ≡ Some mentions → list_all (λ mention. mention.optional) mentions ≡ true
words_optional dialect key word mentions implied e =
    of_words (λ mention. mention.optional) (λ read_only source path from at deep. refl) dialect key word mentions
    (λ mention read. implied_optional key word mention implied read) e
