-- The checks of a line give these answers.
use Rattle.std.proofs.Common.{◌≡◌, ℕ, ◌<◌, ◌≤◌, false, List, [], ◌∷◌, ◌++◌, length, Option, Some, None, Ok, Err, is_none, refl, sym, ap}
use Rattle.std.proofs.Common.{◌∙◌, subst, arith, length-append}
use Rattle.std.specs.Option.{option_map}
use Rattle.std.specs.List.{list_any}
use Rattle.call_table.specs.declared.listed.CallLine.{CallLine}
use Rattle.call_table.specs.declared.listed.GroupLine.{GroupLine}
use Rattle.call_table.specs.declared.causes.CallsCause.TheVariants.{Cap}
use Rattle.call_table.specs.Numbers.{cap_of}
use Rattle.call_table.specs.Members.{has_group, members_of}
use Rattle.std.proofs.lemmas.List.Elements.{All-push}
use Rattle.call_table.specs.Lookups.{has_name, has_number, IsInRange}
use Rattle.call_table.specs.Facts.{AreLines, AreGroups}
use Rattle.call_table.specs.Progress.{ReadsCap}
use Rattle.call_table.proofs.Grouping.{groups_push, has_members}
use Rattle.call_table.proofs.Onces.{once_push}
use denote.Ref.{Bor}

pub cap_read : (written : Option (Bor (List ℕ))) (word : Bor (List ℕ)) (number : ℕ) → written ≡ Some word → Some number ≡ cap_of word.now
    → number ≤ 40 → ReadsCap (option_map (λ w. w.now) written) (Ok (Some number))
cap_read written word number is read le = subst (λ (w : Option (Bor (List ℕ))). ReadsCap (option_map (λ x. x.now) w) (Ok (Some number)))
    (sym is) (ap is_none (sym read), read, refl, le)

pub cap_unread : (written : Option (Bor (List ℕ))) (word : Bor (List ℕ)) → written ≡ Some word → None ≡ cap_of word.now
    → ReadsCap (option_map (λ w. w.now) written) (Err Cap)
cap_unread written word is read = subst (λ (w : Option (Bor (List ℕ))). ReadsCap (option_map (λ x. x.now) w) (Err Cap)) (sym is)
    (ap is_none (sym read), refl)

-- the groups with one more group line
pub groups_more : (calls : List CallLine) (groups : List GroupLine) (name : List ℕ) (words : List (List ℕ)) (members : List ℕ)
    (new : List GroupLine) → AreGroups (length calls) groups → list_any (has_group name) groups ≡ false
    → members ≡ members_of calls groups words
    → new ≡ groups ++ record { name = name; members = members } ∷ [] → AreGroups (length calls) new
groups_more calls groups name words members new h new_name found longer =
    subst (AreGroups (length calls)) (sym (longer ∙ ap (λ ms. groups ++ record { name = name; members = ms } ∷ []) found))
    (groups_push (length calls) groups (record { name = name; members = members_of calls groups words }) h new_name
    (has_members calls groups words name))

pub lines_more : (most : ℕ) (lines : List CallLine) (line : CallLine) → AreLines most lines → list_any (has_name line.name) lines ≡ false
    → list_any (has_number line.number) lines ≡ false → IsInRange line → length lines < most → AreLines most (lines ++ line ∷ [])
lines_more most lines line h new_name new_number range room = record {
  once = once_push lines line h.once new_name new_number;
  in_range = All-push IsInRange lines line h.in_range range;
  few = let long = length-append lines (line ∷ []) in omega arith;
}
