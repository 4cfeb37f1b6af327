-- Marks on the lines of a table, one after the other.
use Rattle.std.proofs.Common.{◌≡◌, ◌∙◌, ℕ, ◌+◌, ◌<◌, Bool, true, false, List, length, get_or, take, Option, Some, None}
use Rattle.std.proofs.Common.{refl, sym, ap, arith}
use Rattle.std.specs.Prelude.{◌==◌, ◌&&◌, ◌||◌, not, slice_set}
use Rattle.std.specs.List.{list_any}
use Rattle.std.specs.Option.{option_map, option_map_or}
use Rattle.std.proofs.Math.Bool.{or_assoc}
use Rattle.std.proofs.lemmas.Grind.{common_steps}
use Rattle.std.proofs.lemmas.List.Folds.{list_any_more}
use Rattle.asked_service.specs.call_table.Lookups.{place_named}
use Rattle.asked_service.specs.call_table.Members.{has_member, is_first}
use Rattle.asked_service.specs.call_table.Table.{Table, every_call}
use Rattle.asked_service.specs.call_table.declared.listed.CallLine.{CallLine}
use Rattle.asked_service.specs.call_table.declared.listed.GroupLine.{GroupLine}
use Rattle.asked_service.specs.kernel_model.declared.kernel_calls.call.Call.{Call}
use Rattle.derive_command.specs.trace_profile.Used.{is_line_of, name_of}

or_none : (b : Bool) → b ≡ (b || false)
or_none true = refl
or_none false = refl

and_all : (b : Bool) → b ≡ (b && not false)
and_all true = refl
and_all false = refl

-- the first line of a name is marked
pub name_marked : (calls : List CallLine) (name : List ℕ) (place : ℕ) (old : List Bool) → Some place ≡ place_named name calls
    → (at : ℕ) → at < length old → get_or (slice_set old place true) at false ≡ (get_or old at false || is_first calls name at)
name_marked calls name place old found at low =
    written ∙ ap (λ (o : Option ℕ). get_or old at false || option_map_or (λ p. p == at) o false) found
  where
    written : get_or (slice_set old place true) at false ≡ (get_or old at false || (place == at))
    written = grind (arith, common_steps)

-- or there is none
pub no_name : (calls : List CallLine) (name : List ℕ) (old : List Bool) → None ≡ place_named name calls
    → (at : ℕ) → get_or old at false ≡ (get_or old at false || is_first calls name at)
no_name calls name old none at = or_none (get_or old at false)
    ∙ ap (λ (o : Option ℕ). get_or old at false || option_map_or (λ p. p == at) o false) none

module _ (table : Table) (call : Call) (at : ℕ) (now : Bool) where
  -- that of the name of a call
  pub call_marked : (name : List ℕ) (new : Bool) → Some name ≡ name_of table call
      → new ≡ (now || is_first (every_call table) name at) → new ≡ (now || is_line_of table at call)
  call_marked name new is marked = marked
      ∙ ap (λ (o : Option (List ℕ)). now || option_map_or (λ own. is_first (every_call table) own at) o false) is

  pub no_call : None ≡ name_of table call → now ≡ (now || is_line_of table at call)
  no_call is = or_none now ∙ ap (λ (o : Option (List ℕ)). now || option_map_or (λ own. is_first (every_call table) own at) o false) is

-- one call more
pub one_more : (p : Call → Bool) (script : List Call) (i : ℕ) (call : Call) → i < length script → call ≡ get_or script i call
    → (old now new : Bool) → now ≡ (old || list_any p (take i script)) → new ≡ (now || p call)
    → new ≡ (old || list_any p (take (i + 1) script))
one_more p script i call lt is old now new before here =
    here ∙ ap (λ b. b || p call) before ∙ or_assoc old (list_any p (take i script)) (p call)
    ∙ ap (λ b. old || b) (ap (λ one. list_any p (take i script) || p one) is ∙ sym (list_any_more p script i call lt))

-- one mark less
and_not_or : (a b c : Bool) → ((a && not b) && not c) ≡ (a && not (b || c))
and_not_or true true c = refl
and_not_or true false c = refl
and_not_or false b c = refl

pub one_less : (p : ℕ → Bool) (places : List ℕ) (i : ℕ) → i < length places
    → (old now new : Bool) → now ≡ (old && not (list_any p (take i places))) → new ≡ (now && not (p (get_or places i 0)))
    → new ≡ (old && not (list_any p (take (i + 1) places)))
one_less p places i lt old now new before here =
    here ∙ ap (λ b. b && not (p (get_or places i 0))) before ∙ and_not_or old (list_any p (take i places)) (p (get_or places i 0))
    ∙ ap (λ b. old && not b) (sym (list_any_more p places i 0 lt))

-- the members of a group, or none
module _ (at : ℕ) (now : Bool) where
  pub members_cleared : (members : List ℕ) (group : Option GroupLine) (new : Bool)
      → Some members ≡ option_map (λ (one : GroupLine). one.members) group
      → new ≡ (now && not (list_any (λ place. place == at) members))
      → new ≡ (now && not (option_map_or (has_member at) group false))
  members_cleared members None new is cleared = cc
  members_cleared members (Some group) new is cleared =
      let same : members ≡ group.members = cc in
      cleared ∙ ap (λ own. now && not (list_any (λ place. place == at) own)) same

  pub none_cleared : (group : Option GroupLine) → None ≡ option_map (λ (one : GroupLine). one.members) group
      → now ≡ (now && not (option_map_or (has_member at) group false))
  none_cleared None is = and_all now
  none_cleared (Some group) is = cc
