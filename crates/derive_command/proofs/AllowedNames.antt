-- Which calls the list of a drop-in allows.
use Rattle.std.proofs.Common.{◌≡◌, ◌⊎◌, inl, inr, ℕ, zero, suc, ◌+◌, length, Bool, true, false, cond, Option, Some, None, List, [], ◌∷◌}
use Rattle.std.proofs.Common.{◌++◌, codes, find, map, reverse, refl, ap, ◌∙◌, sym, arith}
use Rattle.std.specs.Prelude.{not, ◌&&◌, ◌||◌, ◌==◌, is_some, slice_get, option_and_then, unwrap_or}
use Rattle.std.specs.List.{AllByRecursion, cons_option, filter_map, list_all, list_any, position_or_len, before_first, after_first}
use Rattle.std.specs.Option.{option_map_or}
use Rattle.std.specs.Str.{bytes_eq}
use Rattle.std.proofs.lemmas.Bool.{and_parts, le-ltb}
use Rattle.std.proofs.lemmas.Bool.Decides.{nat_tests}
use Rattle.std.proofs.lemmas.List.{append-nil}
use Rattle.std.proofs.lemmas.List.Folds.{list_any-append}
use Rattle.std.proofs.lemmas.List.Quantifiers.{position-Some}
use Rattle.std.proofs.lemmas.List.Sorted.{IsPermutation-reverse, list_any-IsPermutation}
use Rattle.std.proofs.lemmas.Option.{slice_get-get_or}
use Rattle.std.proofs.lemmas.Slice.Eq.{bytes_eq-Decides}
use Rattle.asked_service.specs.call_rules.declared.actions.Action.{Action}
use Rattle.asked_service.specs.call_rules.declared.actions.Action.TheVariants.{Allow as Allowed}
use Rattle.asked_service.proofs.OfCallTable.Places.{some_line}
use Rattle.asked_service.specs.call_table.Lookups.{has_name, place_named}
use Rattle.asked_service.specs.call_table.Names.{behind_at, is_name, is_name_byte}
use Rattle.asked_service.specs.call_table.Table.{Table, every_call}
use Rattle.asked_service.specs.call_table.declared.listed.CallLine.{CallLine}
use Rattle.asked_service.specs.filter_settings.filter_rules.Calls.{call_action, hidden_action, if_adds, is_unknown, list_action, listed_action, listed_by}
use Rattle.asked_service.specs.filter_settings.filter_rules.GivingUp.{is_on_list}
use Rattle.asked_service.specs.filter_settings.filter_rules.Covers.{covers, covers_by}
use Rattle.asked_service.specs.filter_settings.declared.filter_rules.mentions.CallList.{CallList}
use Rattle.asked_service.specs.filter_settings.declared.filter_rules.mentions.Mention.{Mention}
use Rattle.asked_service.specs.filter_settings.declared.filter_rules.mentions.Mode.TheVariants.{Allow}
use Rattle.asked_service.specs.filter_settings.CallWords.{is_known, is_known_by, mention_of, suffix_of, word_mention, word_of_sides}
use Rattle.asked_service.specs.unit_grammar.Kinds.{cut_at}
use Rattle.asked_service.specs.unit_names.Versions.{is_257}
use Rattle.asked_service.specs.unit_names.declared.version.Version.{Version}
use Rattle.derive_command.specs.trace_profile.Extended.{is_first_line, name_at}
use Rattle.derive_command.specs.trace_profile.Names.{without}
use Rattle.derive_command.proofs.TameBytes.{IsWord, are_names, of_name, word_of}

-- ---- names of the table
pub word_at : {X : Type 0} (p : X → Bool) (xs : List X) (i : ℕ) (x : X) → list_all p xs ≡ true → slice_get xs i ≡ Some x → p x ≡ true
word_at p [] i x all is = cc
word_at p (y ∷ xs) zero x all is =
    let same : y ≡ x = cc in
    ap p (sym same) ∙ (and_parts (p y) (list_all p xs) all).0
word_at p (y ∷ xs) (suc i) x all is = word_at p xs i x (and_parts (p y) (list_all p xs) all).1 is

module _ (table : Table) where
  abbrev lines : List CallLine
  lines = every_call table

  -- the first line of a name
  pub first_place : (place : ℕ) → is_first_line table place ≡ true → place_named (name_at table place) lines ≡ Some place
  first_place place h = by (place_named (name_at table place) lines) refl h
    where
      by : (o : Option ℕ) → place_named (name_at table place) lines ≡ o → option_map_or (λ own. own == place) o false ≡ true
          → place_named (name_at table place) lines ≡ Some place
      by None e h = cc
      by (Some own) e h = e ∙ ap Some (grind (arith, nat_tests))

  abbrev AreFirst : List ℕ → Type 0
  AreFirst names = AllByRecursion (λ place. is_first_line table place ≡ true) names

  -- two first lines of one name are one
  one_line : (place other : ℕ) → is_first_line table place ≡ true → is_first_line table other ≡ true
      → name_at table place ≡ name_at table other → place ≡ other
  one_line place other h k same = same_some (sym (first_place place h) ∙ ap (λ name. place_named name lines) same ∙ first_place other k)
    where
      same_some : {A : Type 0} {x y : A} → Some x ≡ Some y → x ≡ y
      same_some e = cc

  module _ (named : list_all (λ (line : CallLine). is_name line.name) lines ≡ true) where
    -- such a name is one
    pub name_is : (place : ℕ) → is_first_line table place ≡ true → is_name (name_at table place) ≡ true
    name_is place h =
        let there = (position-Some (has_name (name_at table place)) lines place some_line (first_place place h)).0 in
        let line = slice_get-get_or lines place some_line there in
        ap (λ (o : Option CallLine). is_name (option_map_or (λ own. own.name) o [])) line
        ∙ word_at (λ (own : CallLine). is_name own.name) lines place _ named line

    pub names_are : (names : List ℕ) → AreFirst names → are_names (map (name_at table) names) ≡ true
    names_are [] first = refl
    names_are (place ∷ names) first = ap (λ b. b && are_names (map (name_at table) names)) (name_is place first.0) ∙ names_are names first.1

    -- ---- the mentions of words
    no_colon : (word : List ℕ) → list_all is_name_byte word ≡ true → cut_at 58 word ≡ None
    no_colon word h =
        ap (λ b. cond b (Some (before_first (λ b. b == 58) word, after_first (λ b. b == 58) word)) None)
        (le-ltb (position_or_len (λ b. b == 58) word) (length word) (omega (arith, nowhere word h)))
      where
        nowhere : (word : List ℕ) → list_all is_name_byte word ≡ true → position_or_len (λ b. b == 58) word ≡ length word
        nowhere [] h = refl
        nowhere (byte ∷ word) h =
            let both = and_parts (is_name_byte byte) (list_all is_name_byte word) h in
            let rest = nowhere word both.1 in
            ap (λ b. cond (not b) (1 + position_or_len (λ b. b == 58) word) 0) (of_name byte both.0).tame.no_colon ∙ omega (arith, rest)

    no_group : (word : List ℕ) → IsWord word → behind_at word ≡ None
    no_group word is = ap behind_at is.is ∙ ap (λ b. cond b (Some is.rest) None) (of_name is.first is.first_byte).tame.no_at

    abbrev pub mention_for : List ℕ → Mention
    mention_for word = record { adds = true; name = word; action = None }

    mentioned : (systemd : Option Version) (place : ℕ) → is_first_line table place ≡ true
        → word_mention systemd table Allow true (name_at table place) ≡ Some (mention_for (name_at table place))
    mentioned systemd place h =
        let is = word_of (name_at table place) (name_is place h) in
        ap (λ sides. mention_of table true (word_of_sides (suffix_of systemd Allow true) (name_at table place) sides)) (no_colon (name_at table place) is.bytes)
        ∙ ap (λ group. cond (is_known_by table (name_at table place) group) (Some (mention_for (name_at table place))) None)
        (no_group (name_at table place) is)
        ∙ ap (λ found. cond (is_some found) (Some (mention_for (name_at table place))) None) (first_place place h)

    mentions_are : (systemd : Option Version) (names : List ℕ) → AreFirst names
        → filter_map (word_mention systemd table Allow true) (map (name_at table) names) ≡ map mention_for (map (name_at table) names)
    mentions_are systemd [] first = refl
    mentions_are systemd (place ∷ names) first =
        ap (λ found. cons_option found (filter_map (word_mention systemd table Allow true) (map (name_at table) names)))
        (mentioned systemd place first.0)
        ∙ ap (λ rest. mention_for (name_at table place) ∷ rest) (mentions_are systemd names first.1)

    -- ---- what a list of such words decides
    abbrev pub default_word : List ℕ
    default_word = codes "@default"

    abbrev pub said_words : Option Version → List ℕ → List Mention
    said_words systemd names = mention_for default_word ∷
        (filter_map (word_mention systemd table Allow true) (default_word ∷ map (name_at table) names) ++ [])

    -- systemd 257 adds a word for write(2)
    abbrev pub write_words : Option Version → List Mention
    write_words systemd = cond (is_257 systemd) (mention_for (codes "write") ∷ []) []

    abbrev pub said_list : Option Version → List ℕ → CallList
    said_list systemd names = record { mode = Allow; mentions = said_words systemd names ++ write_words systemd; hides_unknown = is_257 systemd }

    -- the name is among those of some places, and the name is let through
    abbrev pub is_among : List ℕ → List ℕ → Bool
    is_among names name = list_any (λ place. bytes_eq (name_at table place) name) names

    abbrev pub is_let_through : List ℕ → List ℕ → Bool
    is_let_through names name = covers table default_word name || is_among names name

    -- or by the word that the version adds
    abbrev pub is_added : Option Version → List ℕ → Bool
    is_added systemd name = is_257 systemd && covers table (codes "write") name

    -- what is done to any other name
    abbrev pub rest_in : Option Version → Action → List ℕ → Action
    rest_in systemd default name = hidden_action (is_257 systemd && is_unknown table name) Allow default

    -- no word that allows what it covers
    abbrev is_odd : Mention → Bool
    is_odd mention = not mention.adds || is_some mention.action

    module _ (default rest : Action) (p : Mention → Bool) where
      found_action : (mentions : List Mention) → list_any is_odd mentions ≡ false
          → option_map_or (listed_action Allow default) (option_and_then if_adds (find p mentions)) rest
          ≡ cond (list_any p mentions) Allowed rest
      found_action [] plain = refl
      found_action (mention ∷ mentions) plain = by (p mention)
          (found_action mentions (or_off (is_odd mention) (list_any is_odd mentions) plain).1)
        where
          or_off : (a b : Bool) → (a || b) ≡ false → (a ≡ false) × (b ≡ false)
          or_off true b e = cc
          or_off false b e = (refl, e)

          on : (b : Bool) → not b ≡ false → b ≡ true
          on true e = refl
          on false e = cc

          without_action : (o : Option Action) → is_some o ≡ false → unwrap_or o Allowed ≡ Allowed
          without_action None e = refl
          without_action (Some action) e = cc

          by : (b : Bool) → option_map_or (listed_action Allow default) (option_and_then if_adds (find p mentions)) rest
              ≡ cond (list_any p mentions) Allowed rest
              → option_map_or (listed_action Allow default) (option_and_then if_adds (cond b (Some mention) (find p mentions))) rest
              ≡ cond (b || list_any p mentions) Allowed rest
          by true tail =
              let parts = or_off (not mention.adds) (is_some mention.action) (or_off (is_odd mention) (list_any is_odd mentions) plain).0 in
              ap (λ adds. option_map_or (listed_action Allow default) (cond adds (Some mention) None) rest) (on mention.adds parts.0)
              ∙ without_action mention.action parts.1
          by false tail = tail

    -- a word that allows is found where some word covers the name
    found_some : (p : Mention → Bool) (mentions : List Mention) → list_any is_odd mentions ≡ false
        → is_some (option_and_then if_adds (find p mentions)) ≡ list_any p mentions
    found_some p [] plain = refl
    found_some p (mention ∷ mentions) plain = by (p mention) (found_some p mentions (or_off (is_odd mention) (list_any is_odd mentions) plain).1)
      where
        or_off : (a b : Bool) → (a || b) ≡ false → (a ≡ false) × (b ≡ false)
        or_off true b e = cc
        or_off false b e = (refl, e)

        on : (b : Bool) → not b ≡ false → b ≡ true
        on true e = refl
        on false e = cc

        by : (b : Bool) → is_some (option_and_then if_adds (find p mentions)) ≡ list_any p mentions
            → is_some (option_and_then if_adds (cond b (Some mention) (find p mentions))) ≡ (b || list_any p mentions)
        by true tail =
            let parts = or_off (not mention.adds) (is_some mention.action) (or_off (is_odd mention) (list_any is_odd mentions) plain).0 in
            ap (λ adds. is_some (cond adds (Some mention) None)) (on mention.adds parts.0)
        by false tail = tail

    none_odd : (words : List (List ℕ)) → list_any is_odd (map mention_for words) ≡ false
    none_odd [] = refl
    none_odd (word ∷ words) = none_odd words

    -- the word that the version adds
    write_plain : (later : Bool) → list_any is_odd (cond later (mention_for (codes "write") ∷ []) []) ≡ false
    write_plain true = refl
    write_plain false = refl

    write_found : (later : Bool) (name : List ℕ)
        → list_any (λ (mention : Mention). covers table mention.name name) (cond later (mention_for (codes "write") ∷ []) [])
        ≡ (later && covers table (codes "write") name)
    write_found true name = or_none (covers table (codes "write") name)
      where
        or_none : (b : Bool) → (b || false) ≡ b
        or_none true = refl
        or_none false = refl
    write_found false name = refl

    covers_word : (place : ℕ) (name : List ℕ) → is_first_line table place ≡ true
        → covers table (name_at table place) name ≡ bytes_eq (name_at table place) name
    unfolding covers
    covers_word place name h = ap (covers_by table (name_at table place) name)
        (no_group (name_at table place) (word_of (name_at table place) (name_is place h)))

    covered : (names : List ℕ) (name : List ℕ) → AreFirst names
        → list_any (λ mention. covers table mention.name name) (map mention_for (map (name_at table) names)) ≡ is_among names name
    covered [] name first = refl
    covered (place ∷ names) name first =
        ap (λ b. b || list_any (λ mention. covers table mention.name name) (map mention_for (map (name_at table) names)))
        (covers_word place name first.0)
        ∙ ap (λ b. bytes_eq (name_at table place) name || b) (covered names name first.1)

    module _ (systemd : Option Version) (names : List ℕ) (first : AreFirst names) (default : Action) (name : List ℕ) where
      abbrev own : List Mention
      own = map mention_for (map (name_at table) names)

      twice : (a b : Bool) → (a || (a || b)) ≡ (a || b)
      twice true b = refl
      twice false b = refl

      abbrev words_by : Bool → List Mention
      words_by b = mention_for default_word ∷ (cons_option (cond b (Some (mention_for default_word)) None) own ++ [])

      abbrev list_by : List Mention → CallList
      list_by mentions = record { mode = Allow; mentions = mentions ++ write_words systemd; hides_unknown = is_257 systemd }

      odd_by : (b : Bool) → list_any is_odd (words_by b) ≡ false
      odd_by true = ap (list_any is_odd) (append-nil own) ∙ none_odd (map (name_at table) names)
      odd_by false = ap (list_any is_odd) (append-nil own) ∙ none_odd (map (name_at table) names)

      any_by : (b : Bool) → list_any (λ (mention : Mention). covers table mention.name name) (words_by b) ≡ is_let_through names name
      any_by true =
          ap (λ mentions. covers table default_word name ||
          (covers table default_word name || list_any (λ (mention : Mention). covers table mention.name name) mentions))
          (append-nil own)
          ∙ twice (covers table default_word name) (list_any (λ (mention : Mention). covers table mention.name name) own)
          ∙ ap (λ b. covers table default_word name || b) (covered names name first)
      any_by false =
          ap (λ mentions. covers table default_word name || list_any (λ (mention : Mention). covers table mention.name name) mentions)
          (append-nil own)
          ∙ ap (λ b. covers table default_word name || b) (covered names name first)

      action_by : (b : Bool) → list_action table default name (list_by (words_by b))
          ≡ cond (is_let_through names name || is_added systemd name) Allowed (rest_in systemd default name)
      action_by b =
          let mentions = words_by b ++ write_words systemd in
          let p : Mention → Bool = λ mention. covers table mention.name name in
          let turned = IsPermutation-reverse mentions in
          let plain : list_any is_odd mentions ≡ false =
          list_any-append is_odd (words_by b) (write_words systemd) ∙ ap (λ t. t || list_any is_odd (write_words systemd)) (odd_by b) ∙ write_plain (is_257 systemd) in
          let any : list_any p mentions ≡ (is_let_through names name || is_added systemd name) =
          list_any-append p (words_by b) (write_words systemd) ∙ ap (λ t. t || list_any p (write_words systemd)) (any_by b) ∙ ap (λ t. is_let_through names name || t) (write_found (is_257 systemd) name) in
          found_action default (rest_in systemd default name) p (reverse mentions)
          (sym (list_any-IsPermutation is_odd mentions (reverse mentions) turned) ∙ plain)
          ∙ ap (λ t. cond t Allowed (rest_in systemd default name))
          (sym (list_any-IsPermutation p mentions (reverse mentions) turned) ∙ any)

      -- what is done to a call of the name
      pub action_is : call_action table (Some (said_list systemd names)) default name
          ≡ cond (is_let_through names name || is_added systemd name) Allowed (rest_in systemd default name)
      action_is =
          ap (λ rest. list_action table default name (list_by (mention_for default_word ∷ (cons_option (word_mention systemd table Allow true default_word) rest ++ []))))
          (mentions_are systemd names first)
          ∙ action_by (is_known table default_word)

      some_by : (b : Bool) → is_some (listed_by table (words_by b ++ write_words systemd) name)
          ≡ (is_let_through names name || is_added systemd name)
      some_by b =
          let mentions = words_by b ++ write_words systemd in
          let p : Mention → Bool = λ mention. covers table mention.name name in
          let turned = IsPermutation-reverse mentions in
          let plain : list_any is_odd mentions ≡ false =
          list_any-append is_odd (words_by b) (write_words systemd) ∙ ap (λ t. t || list_any is_odd (write_words systemd)) (odd_by b) ∙ write_plain (is_257 systemd) in
          let any : list_any p mentions ≡ (is_let_through names name || is_added systemd name) =
          list_any-append p (words_by b) (write_words systemd) ∙ ap (λ t. t || list_any p (write_words systemd)) (any_by b) ∙ ap (λ t. is_let_through names name || t) (write_found (is_257 systemd) name) in
          found_some p (reverse mentions) (sym (list_any-IsPermutation is_odd mentions (reverse mentions) turned) ∙ plain)
          ∙ sym (list_any-IsPermutation p mentions (reverse mentions) turned) ∙ any

      -- whether the name is on the list
      pub on_is : is_on_list table (said_list systemd names) name ≡ (is_let_through names name || is_added systemd name)
      on_is =
          ap (λ rest. is_some (listed_by table
          ((mention_for default_word ∷ (cons_option (word_mention systemd table Allow true default_word) rest ++ []))
          ++ write_words systemd) name)) (mentions_are systemd names first)
          ∙ some_by (is_known table default_word)

    -- ---- a name less
    among_fewer : (place : ℕ) (names : List ℕ) (name : List ℕ) → is_among (without place names) name ≡ true → is_among names name ≡ true
    among_fewer place [] name h = h
    among_fewer place (one ∷ names) name h = by (one == place) h (among_fewer place names name)
      where
        rest : (a b c : Bool) → (a || b) ≡ true → (b ≡ true → c ≡ true) → (a || c) ≡ true
        rest true b c e more = refl
        rest false b c e more = more e

        later : (a c : Bool) → c ≡ true → (a || c) ≡ true
        later true c e = refl
        later false c e = e

        by : (b : Bool) → is_among (cond (not b) (one ∷ without place names) (without place names)) name ≡ true
            → (is_among (without place names) name ≡ true → is_among names name ≡ true)
            → (bytes_eq (name_at table one) name || is_among names name) ≡ true
        by true e more = later (bytes_eq (name_at table one) name) (is_among names name) (more e)
        by false e more = rest (bytes_eq (name_at table one) name) (is_among (without place names) name) (is_among names name) e more

    -- fewer names let through no more
    pub fewer_let : (place : ℕ) (names : List ℕ) (name : List ℕ) → is_let_through (without place names) name ≡ true
        → is_let_through names name ≡ true
    fewer_let place names name h = by (covers table default_word name) h
      where
        by : (a : Bool) → (a || is_among (without place names) name) ≡ true → (a || is_among names name) ≡ true
        by true e = refl
        by false e = among_fewer place names name e

    none_left : (place : ℕ) (names : List ℕ) → list_any (λ one. one == place) (without place names) ≡ false
    none_left place [] = refl
    none_left place (one ∷ names) = by (one == place) refl (none_left place names)
      where
        by : (b : Bool) → (one == place) ≡ b → list_any (λ other. other == place) (without place names) ≡ false
            → list_any (λ other. other == place) (cond (not b) (one ∷ without place names) (without place names)) ≡ false
        by true e rest = rest
        by false e rest = ap (λ t. t || list_any (λ other. other == place) (without place names)) e ∙ rest

    -- a list without the place lacks its name
    lacks : (place : ℕ) (names : List ℕ) (name : List ℕ) → is_first_line table place ≡ true → AreFirst names
        → list_any (λ one. one == place) names ≡ false → bytes_eq (name_at table place) name ≡ true → is_among names name ≡ false
    lacks place [] name h first none is = refl
    lacks place (one ∷ names) name h first none is =
        let parts = or_off (one == place) (list_any (λ one. one == place) names) none in
        or_on (bytes_eq (name_at table one) name) (is_among names name) (other (bytes_eq (name_at table one) name) refl parts.0)
        (lacks place names name h first.1 parts.1 is)
      where
        or_off : (a b : Bool) → (a || b) ≡ false → (a ≡ false) × (b ≡ false)
        or_off true b e = cc
        or_off false b e = (refl, e)

        or_on : (a b : Bool) → a ≡ false → b ≡ false → (a || b) ≡ false
        or_on a b e d = ap (λ t. t || b) e ∙ d

        other : (b : Bool) → bytes_eq (name_at table one) name ≡ b → (one == place) ≡ false → b ≡ false
        other true e differs =
            let same : name_at table one ≡ name_at table place = (bytes_eq-Decides (name_at table one) name).0 e ∙ sym ((bytes_eq-Decides (name_at table place) name).0 is) in
            let line = one_line one place first.0 h same in
            let equal : (one == place) ≡ true = grind (arith, nat_tests) in
            absurd (clash (one == place) equal differs)
          where
            clash : (b : Bool) → b ≡ true → b ≡ false → ⊥
            clash b x y = cc
        other false e differs = refl

    -- other names stay
    stays : (place : ℕ) (names : List ℕ) (name : List ℕ) → bytes_eq (name_at table place) name ≡ false
        → is_among (without place names) name ≡ is_among names name
    stays place [] name differs = refl
    stays place (one ∷ names) name differs = by (one == place) refl (stays place names name differs)
      where
        by : (b : Bool) → (one == place) ≡ b → is_among (without place names) name ≡ is_among names name
            → is_among (cond (not b) (one ∷ without place names) (without place names)) name
            ≡ (bytes_eq (name_at table one) name || is_among names name)
        by true e rest =
            let same : one ≡ place = grind (arith, nat_tests) in
            rest ∙ ap (λ t. t || is_among names name) (sym (ap (λ own. bytes_eq (name_at table own) name) same ∙ differs))
        by false e rest = ap (λ t. bytes_eq (name_at table one) name || t) rest

    module _ (place : ℕ) (h : is_first_line table place ≡ true) (names others : List ℕ) (first : AreFirst (without place names)) (first_others : AreFirst others) where
      -- the list without a name decides each call as with it, or as a list that lacks the name
      pub as_either : list_any (λ one. one == place) others ≡ false → (name : List ℕ)
          → (is_let_through (without place names) name ≡ is_let_through names name) ⊎
          (is_let_through (without place names) name ≡ is_let_through others name)
      as_either none name = by (bytes_eq (name_at table place) name) refl
        where
          by : (b : Bool) → bytes_eq (name_at table place) name ≡ b
              → (is_let_through (without place names) name ≡ is_let_through names name) ⊎
              (is_let_through (without place names) name ≡ is_let_through others name)
          by true e = inr (ap (λ t. covers table default_word name || t)
              (lacks place (without place names) name h first (none_left place names) e
              ∙ sym (lacks place others name h first_others none e)))
          by false e = inl (ap (λ t. covers table default_word name || t) (stays place names name e))

      -- and as with it, where `@default` has the name
      pub as_with_it : covers table default_word (name_at table place) ≡ true → (name : List ℕ)
          → is_let_through (without place names) name ≡ is_let_through names name
      as_with_it has name = by (bytes_eq (name_at table place) name) refl
        where
          by : (b : Bool) → bytes_eq (name_at table place) name ≡ b → is_let_through (without place names) name ≡ is_let_through names name
          by true e =
              let same : name_at table place ≡ name = (bytes_eq-Decides (name_at table place) name).0 e in
              let covered : covers table default_word name ≡ true = ap (covers table default_word) (sym same) ∙ has in
              ap (λ t. t || is_among (without place names) name) covered ∙ sym (ap (λ t. t || is_among names name) covered)
          by false e = ap (λ t. covers table default_word name || t) (stays place names name e)
