-- The written paths of one key are those that its own values list.
use Rattle.std.proofs.Common.{◌≡◌, ℕ, Bool, true, false, cond, Option, Some, None, List, [], ◌∷◌, ◌++◌, length, map, refl, sym, ap, ◌∙◌}
use Rattle.std.proofs.Common.{append_assoc, append-nil}
use Rattle.std.specs.Prelude.{◌==◌, not, filter, flat_map, unwrap_or}
use Rattle.std.specs.List.{cons_option, filter_map}
use Rattle.std.specs.Option.{option_map}
use Rattle.std.proofs.lemmas.List.Concat.{flat_map-append}
use Rattle.path_settings.specs.declared.dialect.Dialect.{Dialect}
use Rattle.path_settings.specs.declared.dialect.Dialect.TheVariants.{Base}
use Rattle.path_settings.specs.declared.keys.PathKey.{PathKey}
use Rattle.path_settings.specs.declared.mentions.Mention.{Mention}
use Rattle.path_settings.specs.Keys.{mention_of}
use Rattle.dropin_merge.specs.declared.resolved.Resolved.{Resolved}
use Rattle.dropin_merge.specs.declared.unit_values.value.Value.{Value}
use Rattle.dropin_merge.specs.unit_values.Values.{in_force}
use Rattle.dropin_merge.proofs.OneMore.{after_last-push}
use Rattle.mount_settings.specs.declared.written.WrittenPath.{WrittenPath}
use Rattle.mount_settings.specs.Assigned.{Assigned, is_key, assigned_of, dialect_of}
use Rattle.dropin_merge.specs.unit_values.Words.{split}
use Rattle.mount_settings.specs.Written.{gives, mentions_in_word, of_its_key, of_key, paths_in, unit_written}
use Rattle.mount_settings.specs.OneKey.{listed_by, values_named, values_to}
use Rattle.mount_settings.specs.Steps.{without_key, with_value, after}
use Rattle.mount_settings.proofs.SameKeys.{same_key, is_itself}
use Rattle.mount_settings.proofs.Standing.{of_key_adds}
use Rattle.mount_settings.proofs.Passing.{written_is}
use Rattle.mount_settings.proofs.OwnValues.{values_add, own_values}

-- forgetting a key leaves none of its paths, and all paths of another key
of_other : (key gone : PathKey) (paths : List WrittenPath) → is_key gone key ≡ false
    → of_key key (without_key gone paths) ≡ of_key key paths
of_other key gone [] other = refl
of_other key gone (path ∷ paths) other =
    let rest = of_other key gone paths other in
    (elim (is_key path.key gone) as (λ b. is_key path.key gone ≡ b
    → of_key key (cond (not b) (path ∷ without_key gone paths) (without_key gone paths)) ≡ of_key key (path ∷ paths)) [
      | true ↦ λ same. rest ∙ sym
          (ap (λ b. map (λ (p : WrittenPath). p.mention)
          (cond b (path ∷ filter (λ p. is_key p.key key) paths) (filter (λ p. is_key p.key key) paths)))
          (ap (λ k. is_key k key) (same_key path.key gone same) ∙ other))
      | false ↦ λ e. elim (is_key path.key key) as
          (λ b. map (λ (p : WrittenPath). p.mention)
          (cond b (path ∷ filter (λ p. is_key p.key key) (without_key gone paths))
          (filter (λ p. is_key p.key key) (without_key gone paths)))
          ≡ map (λ (p : WrittenPath). p.mention)
          (cond b (path ∷ filter (λ p. is_key p.key key) paths) (filter (λ p. is_key p.key key) paths))) [
            | true ↦ ap (λ ms. path.mention ∷ ms) rest
            | false ↦ rest
          ]
    ]) refl

of_gone : (key : PathKey) (paths : List WrittenPath) → of_key key (without_key key paths) ≡ []
of_gone key [] = refl
of_gone key (path ∷ paths) =
    let rest = of_gone key paths in
    (elim (is_key path.key key) as (λ b. is_key path.key key ≡ b
    → of_key key (cond (not b) (path ∷ without_key key paths) (without_key key paths)) ≡ []) [
      | true ↦ λ e. rest
      | false ↦ λ e. ap (λ b. map (λ (p : WrittenPath). p.mention)
          (cond b (path ∷ filter (λ p. is_key p.key key) (without_key key paths))
          (filter (λ p. is_key p.key key) (without_key key paths)))) e ∙ rest
    ]) refl

-- the paths of words
one_of : (b : Bool) (key other : PathKey) (mentions : List Mention) (rest : List WrittenPath) → is_key other key ≡ b
    → of_key key (of_its_key other mentions ++ rest) ≡ cond b (mentions ++ of_key key rest) (of_key key rest)
one_of true key other [] rest e = refl
one_of false key other [] rest e = refl
one_of true key other (m ∷ mentions) rest e =
    let F : List WrittenPath = filter (λ p. is_key p.key key) (of_its_key other mentions ++ rest) in
    ap (λ b. map (λ (p : WrittenPath). p.mention) (cond b (record { key = other; mention = m } ∷ F) F)) e
    ∙ ap (λ ms. m ∷ ms) (one_of true key other mentions rest e)
one_of false key other (m ∷ mentions) rest e =
    let F : List WrittenPath = filter (λ p. is_key p.key key) (of_its_key other mentions ++ rest) in
    ap (λ b. map (λ (p : WrittenPath). p.mention) (cond b (record { key = other; mention = m } ∷ F) F)) e
    ∙ one_of false key other mentions rest e

of_words : (dialect : Dialect) (key : PathKey) (words : List (List ℕ))
    → of_key key (paths_in dialect key words) ≡ flat_map (mentions_in_word dialect key) words
of_words dialect key [] = refl
of_words dialect key (word ∷ words) =
    one_of true key key (mentions_in_word dialect key word) (paths_in dialect key words) (is_itself key)
    ∙ ap (λ ms. mentions_in_word dialect key word ++ ms) (of_words dialect key words)

of_other_words : (dialect : Dialect) (key other : PathKey) (words : List (List ℕ)) → is_key other key ≡ false
    → of_key key (paths_in dialect other words) ≡ []
of_other_words dialect key other [] e = refl
of_other_words dialect key other (word ∷ words) e =
    one_of false key other (mentions_in_word dialect other word) (paths_in dialect other words) e
    ∙ of_other_words dialect key other words e

-- the list of a key after one more value
listed_push : (dialect : Dialect) (key : PathKey) (values : List Value) (value : Value)
    → listed_by dialect key (values ++ value ∷ []) ≡ cond (length value.text == 0) []
    (listed_by dialect key values ++ flat_map (mentions_in_word dialect key) (unwrap_or (split value.text) []))
listed_push dialect key values value =
    ap (λ vs. flat_map (mentions_in_word dialect key) (flat_map (λ v. unwrap_or (split v.text) []) vs))
    (after_last-push (λ v. length v.text == 0) values value)
    ∙ elim (length value.text == 0) as
    (λ b. flat_map (mentions_in_word dialect key)
    (flat_map (λ v. unwrap_or (split v.text) []) (cond b [] (in_force values ++ value ∷ [])))
    ≡ cond b [] (listed_by dialect key values ++ flat_map (mentions_in_word dialect key) (unwrap_or (split value.text) []))) [
      | true ↦ refl
      | false ↦
          ap (flat_map (mentions_in_word dialect key))
          (flat_map-append (λ v. unwrap_or (split v.text) []) (in_force values) (value ∷ [])
          ∙ ap (λ ys. flat_map (λ v. unwrap_or (split v.text) []) (in_force values) ++ ys)
          (append-nil (unwrap_or (split value.text) [])))
          ∙ flat_map-append (mentions_in_word dialect key) (flat_map (λ v. unwrap_or (split v.text) []) (in_force values))
          (unwrap_or (split value.text) [])
    ]

-- a value of the key itself
own_step : (dialect : Dialect) (key : PathKey) (paths : List WrittenPath) (values : List Value) (value : Value) → of_key key paths ≡ listed_by dialect key values
    → of_key key (with_value dialect paths (record { key = key; value = value })) ≡ listed_by dialect key (values ++ value ∷ [])
own_step dialect key paths values value so_far =
    elim (length value.text == 0) as
    (λ b. of_key key (cond b (without_key key paths) (paths ++ paths_in dialect key (unwrap_or (split value.text) [])))
    ≡ cond b [] (listed_by dialect key values ++ flat_map (mentions_in_word dialect key) (unwrap_or (split value.text) []))) [
      | true ↦ of_gone key paths
      | false ↦
          of_key_adds key paths (paths_in dialect key (unwrap_or (split value.text) []))
          ∙ ap (λ ms. ms ++ of_key key (paths_in dialect key (unwrap_or (split value.text) []))) so_far
          ∙ ap (λ ms. listed_by dialect key values ++ ms) (of_words dialect key (unwrap_or (split value.text) []))
    ]
    ∙ sym (listed_push dialect key values value)

-- a value of another key
other_step : (dialect : Dialect) (key : PathKey) (paths : List WrittenPath) (one : Assigned) → is_key one.key key ≡ false
    → of_key key (with_value dialect paths one) ≡ of_key key paths
other_step dialect key paths one other =
    elim (length one.value.text == 0) as (λ b. of_key key (cond b (without_key one.key paths) (paths ++ gives dialect one)) ≡ of_key key paths) [
      | true ↦ of_other key one.key paths other
      | false ↦
          of_key_adds key paths (gives dialect one)
          ∙ ap (λ ms. of_key key paths ++ ms) (of_other_words dialect key one.key (unwrap_or (split one.value.text) []) other)
          ∙ append-nil (of_key key paths)
    ]

step : (dialect : Dialect) (key : PathKey) (paths : List WrittenPath) (before : List Assigned) (one : Assigned)
    → of_key key paths ≡ listed_by dialect key (values_to key before)
    → of_key key (with_value dialect paths one) ≡ listed_by dialect key (values_to key (before ++ one ∷ []))
step dialect key paths before one so_far =
    (elim (is_key one.key key) as (λ b. is_key one.key key ≡ b
    → of_key key (with_value dialect paths one)
    ≡ listed_by dialect key (values_to key before ++ map (λ (o : Assigned). o.value) (cond b (one ∷ []) []))) [
      | true ↦ λ same.
          ap (λ k. of_key key (with_value dialect paths (record { key = k; value = one.value }))) (same_key one.key key same)
          ∙ own_step dialect key paths (values_to key before) one.value so_far
      | false ↦ λ other.
          other_step dialect key paths one other ∙ so_far ∙ ap (listed_by dialect key) (sym (append-nil (values_to key before)))
    ]) refl
    ∙ ap (listed_by dialect key) (sym (values_add key before (one ∷ [])))

all_steps : (dialect : Dialect) (key : PathKey) (paths : List WrittenPath) (before values : List Assigned)
    → of_key key paths ≡ listed_by dialect key (values_to key before)
    → of_key key (after dialect paths values) ≡ listed_by dialect key (values_to key (before ++ values))
all_steps dialect key paths before [] so_far = so_far ∙ ap (λ vs. listed_by dialect key (values_to key vs)) (sym (append-nil before))
all_steps dialect key paths before (one ∷ later) so_far =
    all_steps dialect key (with_value dialect paths one) (before ++ one ∷ []) later (step dialect key paths before one so_far)
    ∙ ap (λ vs. listed_by dialect key (values_to key vs)) (append_assoc before (one ∷ []) later)

pub words_in_force : (unit : Resolved) (key : PathKey)
    → of_key key (unit_written unit) ≡ listed_by (dialect_of unit.systemd) key (values_named unit key)
unfolding unit_written
words_in_force unit key =
    ap (of_key key) (sym (written_is (dialect_of unit.systemd) (assigned_of unit)))
    ∙ all_steps (dialect_of unit.systemd) key [] [] (assigned_of unit) refl
    ∙ ap (listed_by (dialect_of unit.systemd) key) (own_values unit key)

-- ---- in the base profile a word has one mention
one_or_none : (mention : Option Mention) (rest : List Mention)
    → unwrap_or (option_map (λ (m : Mention). m ∷ []) mention) [] ++ rest ≡ cons_option mention rest
one_or_none None rest = refl
one_or_none (Some mention) rest = refl

words_of_base : (key : PathKey) (words : List (List ℕ)) → flat_map (mentions_in_word Base key) words ≡ filter_map (mention_of key) words
words_of_base key [] = refl
words_of_base key (word ∷ words) =
    one_or_none (mention_of key word) (flat_map (mentions_in_word Base key) words)
    ∙ ap (cons_option (mention_of key word)) (words_of_base key words)

pub base_lists : (key : PathKey) (values : List Value)
    → listed_by Base key values ≡ filter_map (mention_of key) (flat_map (λ value. unwrap_or (split value.text) []) (in_force values))
base_lists key values = words_of_base key (flat_map (λ value. unwrap_or (split value.text) []) (in_force values))
