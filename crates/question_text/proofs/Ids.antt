-- The ids that a site knows are in range.
use Rattle.std.proofs.Common.{◌≡◌, inl, inr, ℕ, ◌≤◌, List, [], ◌∷◌, Option, Some, sym, subst, arith}
use Rattle.std.specs.Prelude.{Contains, IfSome}
use Rattle.std.specs.List.{AllByRecursion}
use Rattle.report_text.specs.questions.Listed.{IsUidOf, of_root, of_dynamic_user, of_user, of_owner, IsGidOf, of_root_group}
use Rattle.report_text.specs.questions.Listed.{of_dynamic_group, of_group, of_group_of_user, of_further_group, of_group_of_row}
use Rattle.report_text.proofs.OfQuestions.Among.{Some_one, some_any, has_contained, all_had}
use Rattle.report_text.specs.site_table.Ids.{greatest_id}
use Rattle.report_text.specs.site_table.Table.{Site, IsSite, IsRowOf, IsUser, IsGroup}
use Rattle.report_text.specs.site_table.declared.row.Row.{Row}
use Rattle.report_text.specs.site_table.declared.accounts.User.{User}
use Rattle.report_text.specs.site_table.declared.accounts.Group.{Group}

-- what follows for one that is such, of a list of which something holds
one_of : {X : Type 0} (P Q : X → Type 0) (C : Type 0) (xs : List X) → AllByRecursion P xs → Some_one Q xs → ((x : X) → P x → Q x → C) → C
one_of P Q C [] all one then = absurd one
one_of P Q C (x ∷ xs) all one then = elim one [ inl q ↦ then x all.0 q | inr more ↦ one_of P Q C xs all.1 more then ]

abbrev IsId : ℕ → Type 0
IsId id = id ≤ greatest_id

no_more : (id other : ℕ) → other ≡ id → IsId other → IsId id
no_more id other e h = subst IsId e h

some_id : (id : ℕ) (found : Option ℕ) → found ≡ Some id → IfSome found IsId → IsId id
some_id id found e h = subst (λ (o : Option ℕ). IfSome o IsId) e h

zero_id : IsId 0
zero_id = omega arith

pub known_uid : (site : Site) (id : ℕ) → IsSite site → IsUidOf site id → id ≤ greatest_id
known_uid site id holds (of_root e) = no_more id 0 (sym e) zero_id
known_uid site id holds (of_dynamic_user e) = no_more id site.dynamic_uid (sym e) holds.dynamic_uid
known_uid site id holds (of_user some) =
    one_of IsUser (λ user. user.uid ≡ id) (IsId id) site.users holds.each_user (some_any (λ user. user.uid ≡ id) site.users some)
    (λ user h e. no_more id user.uid e h.uid)
known_uid site id holds (of_owner some) =
    one_of (IsRowOf site.rows) (λ row. row.setuid ≡ Some id) (IsId id) site.rows holds.each_row
    (some_any (λ (row : Row). row.setuid ≡ Some id) site.rows some) (λ row h e. some_id id row.setuid e h.setuid)

pub known_gid : (site : Site) (id : ℕ) → IsSite site → IsGidOf site id → id ≤ greatest_id
known_gid site id holds (of_root_group e) = no_more id 0 (sym e) zero_id
known_gid site id holds (of_dynamic_group e) = no_more id site.dynamic_uid (sym e) holds.dynamic_uid
known_gid site id holds (of_group some) =
    one_of IsGroup (λ group. group.gid ≡ id) (IsId id) site.groups holds.each_group
    (some_any (λ (group : Group). group.gid ≡ id) site.groups some) (λ group h e. no_more id group.gid e h.gid)
known_gid site id holds (of_group_of_user some) =
    one_of IsUser (λ user. user.gid ≡ id) (IsId id) site.users holds.each_user (some_any (λ (user : User). user.gid ≡ id) site.users some)
    (λ user h e. no_more id user.gid e h.gid)
known_gid site id holds (of_further_group some) =
    one_of IsUser (λ user. Contains user.groups id) (IsId id) site.users holds.each_user
    (some_any (λ (user : User). Contains user.groups id) site.users some)
    (λ user h has. all_had IsId user.groups id h.groups (has_contained user.groups id has))
known_gid site id holds (of_group_of_row some) =
    one_of (IsRowOf site.rows) (λ row. row.setgid ≡ Some id) (IsId id) site.rows holds.each_row
    (some_any (λ (row : Row). row.setgid ≡ Some id) site.rows some) (λ row h e. some_id id row.setgid e h.setgid)
