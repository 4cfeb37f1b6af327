-- Marks at the calls of a table, word after word.
use Rattle.std.proofs.Common.{◌≡◌, ◌∙◌, ℕ, zero, suc, ◌+◌, ◌<◌, ◌≤◌, Bool, true, false, cond, List, [], ◌∷◌, ◌++◌, length, get_or, take, replicate, find, map}
use Rattle.std.proofs.Common.{Option, Some, None, refl, sym, ap, subst, arith, length-append}
use Rattle.std.specs.Prelude.{◌==◌, ◌||◌, is_some, unwrap_or, option_and_then}
use Rattle.std.specs.Option.{option_map, option_map_or}
use Rattle.std.specs.List.{list_any}
use Rattle.std.specs.Str.{bytes_eq}
use Rattle.std.proofs.lemmas.Bool.Decides.{nat_tests}
use Rattle.std.proofs.lemmas.List.{reverse-append, take_more, take_all, map-append}
use Rattle.std.proofs.lemmas.List.Folds.{list_any_more, list_any-append}
use Rattle.std.proofs.lemmas.List.Quantifiers.{position-Some}
use Rattle.std.proofs.lemmas.Option.{get_or_from_slice_get, slice_get-get_or, slice_get_within}
use Rattle.std.proofs.lemmas.Slice.Eq.{bytes_eq-Decides}
use Rattle.call_rules.specs.declared.actions.Action.{Action}
use Rattle.call_table.specs.Table.{Table, every_call, calls_in, second_calls}
use Rattle.call_table.specs.Names.{behind_at}
use Rattle.call_table.specs.Lookups.{has_name, place_named, group_named}
use Rattle.call_table.specs.Members.{has_member, is_first}
use Rattle.call_table.specs.declared.call_names.kernel.Kernel.TheVariants.{Base}
use Rattle.call_table.specs.declared.listed.CallLine.{CallLine}
use Rattle.call_table.specs.declared.listed.GroupLine.{GroupLine}
use Rattle.call_table.proofs.AllCalls.{second_are}
use Rattle.filter_settings.specs.declared.filter_rules.mentions.Mention.{Mention}
use Rattle.filter_settings.specs.declared.filter_rules.mentions.CallList.{CallList}
use Rattle.filter_settings.specs.filter_rules.Covers.{covers, covers_by, has_member_named}
use Rattle.filter_settings.specs.filter_rules.Calls.{last_mention, if_adds, listed_action}
use Rattle.filter_settings.specs.filter_rules.Marks.{said, action_of, with_said, IsFirst, AreMarks, AreMarksOf, SaidBy}

abbrev pub Mark : Type 0
Mark = Option (Option Action)

twice : (one two : Bool) (what : Option Action) (mark : Mark) → with_said two what (with_said one what mark) ≡ with_said (one || two) what mark
twice true true what mark = refl
twice true false what mark = refl
twice false two what mark = refl

-- one more position
pub one_more : (places : List ℕ) (i : ℕ) (what : Option Action) (at : ℕ) (old now new : Mark) → i < length places
    → now ≡ with_said (list_any (λ place. place == at) (take i places)) what old
    → new ≡ with_said (get_or places i 0 == at) what now
    → new ≡ with_said (list_any (λ place. place == at) (take (i + 1) places)) what old
one_more places i what at old now new lt before here =
    here ∙ ap (with_said (get_or places i 0 == at) what) before
    ∙ twice (list_any (λ place. place == at) (take i places)) (get_or places i 0 == at) what old
    ∙ ap (λ b. with_said b what old) (sym (list_any_more (λ place. place == at) places i 0 lt))

-- the members of a group, or none
module _ (at : ℕ) (what : Option Action) (now : Mark) where
  pub members_marked : (members : List ℕ) (group : Option GroupLine) (new : Mark)
      → Some members ≡ option_map (λ (one : GroupLine). one.members) group
      → new ≡ with_said (list_any (λ place. place == at) members) what now
      → new ≡ with_said (option_map_or (has_member at) group false) what now
  members_marked members None new is marked = cc
  members_marked members (Some group) new is marked =
      let same : members ≡ group.members = cc in
      marked ∙ ap (λ own. with_said (list_any (λ place. place == at) own) what now) same

  pub none_marked_by : (group : Option GroupLine) → None ≡ option_map (λ (one : GroupLine). one.members) group
      → now ≡ with_said (option_map_or (has_member at) group false) what now
  none_marked_by None is = refl
  none_marked_by (Some group) is = cc

-- a word, by the positions of the calls that it covers
module _ (table : Table) (word : List ℕ) (at : ℕ) (call : CallLine) (first : IsFirst (every_call table) at call) where
  -- the word names a group
  pub covers_members : (name : List ℕ) → Some name ≡ behind_at word
      → covers table word call.name ≡ option_map_or (has_member at) (group_named name table.groups) false
  unfolding covers
  covers_members name behind = ap (covers_by table word call.name) (sym behind) ∙ by (group_named name table.groups)
    where
      by : (group : Option GroupLine) → option_map_or (has_member_named (every_call table) call.name) group false
          ≡ option_map_or (has_member at) group false
      by None = refl
      by (Some group) = ap (λ (o : Option ℕ). option_map_or (λ place. has_member place group) o false) first.first

  -- the word names a call
  pub covers_first : None ≡ behind_at word → covers table word call.name ≡ is_first (every_call table) word at
  unfolding covers
  covers_first behind = ap (covers_by table word call.name) (sym behind) ∙ by (bytes_eq word call.name) refl
    where
      lt : at < length (every_call table)
      lt = slice_get_within (every_call table) at call first.stands

      itself : get_or (every_call table) at call ≡ call
      itself = get_or_from_slice_get (every_call table) at call call first.stands

      other : bytes_eq word call.name ≡ false → (o : Option ℕ) → place_named word (every_call table) ≡ o
          → false ≡ option_map_or (λ place. place == at) o false
      other e None h = refl
      other e (Some place) h = apart (place == at) refl
        where
          apart : (b : Bool) → (place == at) ≡ b → false ≡ b
          apart false same = refl
          apart true same =
              let spot : place ≡ at = grind (arith, nat_tests) in
              let here = (position-Some (has_name word) (every_call table) place call h).1 in
              let yes : bytes_eq word call.name ≡ true =
              ap (has_name word) (sym itself ∙ ap (λ n. get_or (every_call table) n call) (sym spot)) ∙ here in
              cc

      by : (b : Bool) → bytes_eq word call.name ≡ b → b ≡ is_first (every_call table) word at
      by true e =
          let same : word ≡ call.name = (bytes_eq-Decides word call.name).0 e in
          let itself_at : (at == at) ≡ true = grind (arith, nat_tests) in
          sym (ap (λ name. is_first (every_call table) name at) same
          ∙ ap (λ (o : Option ℕ). option_map_or (λ place. place == at) o false) first.first ∙ itself_at)
      by false e = other e (place_named word (every_call table)) refl

-- one word after the others
module _ (table : Table) (says : Mention → Option Action) where
  found_last : (p : Mention → Bool) (mention : Mention) (found : Option Mention)
      → with_said (p mention) (says mention) (option_map says found) ≡ option_map says (cond (p mention) (Some mention) found)
  found_last p mention found = by (p mention)
    where
      by : (b : Bool) → with_said b (says mention) (option_map says found) ≡ option_map says (cond b (Some mention) found)
      by true = refl
      by false = refl

  pub one_word : (mentions : List Mention) (i : ℕ) (mention : Mention) (old new : List Mark) → i < length mentions
      → mention ≡ get_or mentions i mention → length new ≡ length old → AreMarks table says (take i mentions) old
      → SaidBy table mention.name (says mention) old new → AreMarks table says (take (i + 1) mentions) new
  one_word mentions i mention old new lt is long before here = record {
    as_many = long ∙ before.as_many;
    each = λ at call first.
        let p = λ (m : Mention). covers table m.name call.name in
        here at call first
        ∙ ap (with_said (covers table mention.name call.name) (says mention)) (before.each at call first)
        ∙ found_last p mention (last_mention table (take i mentions) call.name)
        ∙ ap (option_map says) (ap (find p) (sym (reverse-append (take i mentions) (mention ∷ []))))
        ∙ ap (λ list. option_map says (last_mention table list call.name)) (sym whole);
  }
    where
      whole : take (i + 1) mentions ≡ take i mentions ++ mention ∷ []
      whole = take_more mentions i mention lt ∙ ap (λ m. take i mentions ++ m ∷ []) (sym is)

  pub all_words : (mentions : List Mention) (i : ℕ) (marks : List Mark) → length mentions ≤ i
      → AreMarks table says (take i mentions) marks → AreMarks table says mentions marks
  all_words mentions i marks le are = subst (λ list. AreMarks table says list marks) (take_all i mentions le) are

-- the same for equal words
pub same_said : (table : Table) (word name : List ℕ) (what one : Option Action) (old new : List Mark) → word ≡ name → what ≡ one
    → SaidBy table word what old new → SaidBy table name one old new
same_said table word name what one old new named said is =
    subst (λ text. SaidBy table text one old new) named (subst (λ thing. SaidBy table word thing old new) said is)

pub count_all : (table : Table) → length table.calls + length (calls_in table 1) ≡ length (every_call table)
count_all table = ap (λ lines. length table.calls + length lines) (sym (second_are table.second))
    ∙ sym (length-append table.calls (second_calls table.second))

pub none_marked : (n at : ℕ) → ◌≡◌ {A = Mark} (get_or (replicate n None) at None) None
none_marked zero at = refl
none_marked (suc n) zero = refl
none_marked (suc n) (suc at) = none_marked n at

pub map_all : (table : Table) (f : CallLine → Bool) → map f (every_call table) ≡ map f table.calls ++ map f (calls_in table 1)
map_all table f = map-append f table.calls (second_calls table.second)
    ∙ ap (λ lines. map f table.calls ++ map f lines) (second_are table.second)

pub any_all : (table : Table) (p : CallLine → Bool)
    → (list_any p table.calls || list_any p (calls_in table 1)) ≡ list_any p (every_call table)
any_all table p = sym (list_any-append p table.calls (second_calls table.second)
    ∙ ap (λ lines. list_any p table.calls || list_any p lines) (second_are table.second))

pub some_mapped : {X Y : Type 0} (f : X → Y) (o : Option X) → is_some (option_map f o) ≡ is_some o
some_mapped f None = refl
some_mapped f (Some x) = refl

-- the mark at a name's first call has the action by which the name is listed
module _ (table : Table) (default : Action) (list : CallList) (marks : List Mark) (are : AreMarksOf table default list marks)
    (name : List ℕ) (place : ℕ) (found : Some place ≡ place_named name (every_call table)) where
  unmarked : (o : Option Mention) → unwrap_or (option_map (said list.mode default) o) None
      ≡ option_map (listed_action list.mode default) (option_and_then if_adds o)
  unmarked None = refl
  unmarked (Some mention) = by mention.adds
    where
      by : (b : Bool) → cond b (Some (listed_action list.mode default mention)) None
          ≡ option_map (listed_action list.mode default) (cond b (Some mention) None)
      by true = refl
      by false = refl

  stands_within : (d : CallLine) → place < length (every_call table)
  stands_within d = (position-Some (has_name name) (every_call table) place d (sym found)).0

  some_line : CallLine
  some_line = record { name = []; number = 0; cap = None; abi = 0; kernel = Base }

  pub has_mark : place < length marks
  has_mark = let lt = stands_within some_line in omega (arith, lt, are.as_many)

  pub action_at : unwrap_or (get_or marks place None) None ≡ action_of table default name list
  action_at =
      let lt = stands_within some_line in
      let call : CallLine = get_or (every_call table) place some_line in
      let here = (position-Some (has_name name) (every_call table) place some_line (sym found)).1 in
      let same : name ≡ call.name = (bytes_eq-Decides name call.name).0 here in
      let first : IsFirst (every_call table) place call = record {
        stands = slice_get-get_or (every_call table) place some_line lt;
        first = ap (λ n. place_named n (every_call table)) (sym same) ∙ sym found;
      } in
      ap (λ m. unwrap_or m None) (are.each place call first
      ∙ ap (λ n. option_map (said list.mode default) (last_mention table list.mentions n)) (sym same))
      ∙ unmarked (last_mention table list.mentions name)

-- the result of the action that was found
module _ {X Y : Type 0} (f : X → Y) (o : Option X) where
  pub chosen : {Z : Type 0} (g : Y → Z) (y : Y) → Some y ≡ option_map f o → Some (g y) ≡ option_map (λ x. g (f x)) o
  chosen g y is = by o is
    where
      by : (own : Option X) → Some y ≡ option_map f own → Some (g y) ≡ option_map (λ x. g (f x)) own
      by None e = cc
      by (Some x) e = let same : y ≡ f x = cc in ap (λ z. Some (g z)) same

  pub not_chosen : {Z : Type 0} (g : Y → Z) → None ≡ option_map f o → None ≡ option_map (λ x. g (f x)) o
  not_chosen g is = by o is
    where
      by : (own : Option X) → None ≡ option_map f own → None ≡ option_map (λ x. g (f x)) own
      by None e = refl
      by (Some x) e = cc

  pub done : (y d : Y) → Some y ≡ option_map f o → y ≡ option_map_or f o d
  done y d is = by o is
    where
      by : (own : Option X) → Some y ≡ option_map f own → y ≡ option_map_or f own d
      by None e = cc
      by (Some x) e = cc

  pub not_done : (d : Y) → None ≡ option_map f o → d ≡ option_map_or f o d
  not_done d is = by o is
    where
      by : (own : Option X) → None ≡ option_map f own → d ≡ option_map_or f own d
      by None e = refl
      by (Some x) e = cc
