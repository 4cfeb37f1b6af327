-- The ids of a unit of a site are in range.
use Rattle.std.proofs.Common.{◌≡◌, ℕ, ◌≤◌, Bool, true, false, cond, List, [], ◌∷◌, ◌++◌, Option, Some, None, Ok, refl, subst, arith}
use Rattle.std.specs.Prelude.{◌==◌, ◌&&◌, not, nat_le, find, option_map, option_and_then, unwrap_or}
use Rattle.std.specs.Option.{option_map_or, option_or}
use Rattle.std.specs.List.{AllByRecursion, filter_map, cons_option}
use Rattle.std.proofs.lemmas.Bool.Decides.{nat_tests}
use Rattle.dropin_merge.specs.text_forms.Numbers.{decimal_value}
use Rattle.dropin_merge.specs.declared.resolved.Resolved.{Resolved}
use Rattle.dropin_merge.specs.unit_names.Versions.{is_known}
use Rattle.dropin_merge.specs.unit_names.declared.version.Version.{Version}
use Rattle.site_table.specs.declared.accounts.User.{User}
use Rattle.site_table.specs.declared.accounts.Group.{Group}
use Rattle.site_table.specs.Ids.{greatest_id}
use Rattle.site_table.specs.Table.{Site, IsSite, IsUser, IsGroup, user_named, user_with, group_named}
use Rattle.cred_settings.specs.declared.accounts.Identity.{Identity}
use Rattle.cred_settings.specs.declared.accounts.Account.{Account}
use Rattle.cred_settings.specs.declared.accounts.Account.TheVariants.{Dynamic, Fixed}
use Rattle.cred_settings.specs.Ids.{id_in_range, id_number}
use Rattle.cred_settings.specs.Users.{superuser, identity_of_user, identity_of_id, numbered, user_numbered, user_meant, account_meant}
use Rattle.cred_settings.specs.Users.{account_of, has_user}
use Rattle.cred_settings.specs.Users.{user_word}
use Rattle.cred_settings.specs.Groups.{group_with, gid_numbered, gid_meant, chosen_gid, gid_of, group_word}
use Rattle.cred_settings.specs.FurtherGroups.{groups_of_account, account_groups, groups_of, further_words}
use Rattle.cred_settings.specs.Identities.{uid_of, identity_at, identity_with, bad_group, unless_bad, identity_by, identity_of}
use Rattle.cred_settings.specs.Ranges.{AreIds, HasIds}

some_same : {X : Type 0} (a b : X) → Some a ≡ Some b → a ≡ b
some_same a b e = cc

none_some : {X : Type 0} (P : Type 0) (b : X) → None ≡ Some b → P
none_some P b e = cc

small : (number : ℕ) → nat_le number greatest_id ≡ true → number ≤ greatest_id
small number e = grind (arith, nat_tests)

id_small : (n id : ℕ) → id_in_range n ≡ Some id → id ≤ greatest_id
id_small n id = by (nat_le n greatest_id) refl
  where
    by : (b : Bool) → nat_le n greatest_id ≡ b → cond b (Some n) None ≡ Some id → id ≤ greatest_id
    by true t e = subst (λ k. k ≤ greatest_id) (some_same n id e) (small n t)
    by false t e = none_some (id ≤ greatest_id) id e

number_small : (o : Option ℕ) (id : ℕ) → option_and_then id_in_range o ≡ Some id → id ≤ greatest_id
number_small None id e = none_some (id ≤ greatest_id) id e
number_small (Some n) id e = id_small n id e

-- if each element has a property, so has the one that is found
found_holds : {X : Type 0} (P : X → Type 0) (p : X → Bool) (xs : List X) (x : X) → AllByRecursion P xs → find p xs ≡ Some x → P x
found_holds P p [] x all e = none_some (P x) x e
found_holds P p (y ∷ xs) x all e =
    let by : cond (p y) (Some y) (find p xs) ≡ Some x → P x =
    elim (p y) as (λ b. cond b (Some y) (find p xs) ≡ Some x → P x) [ true ↦ λ s. subst P (some_same y x s) all.0 | false ↦ λ s. found_holds P p xs x all.1 s ] in
    by e

all_behind : {X : Type 0} (P : X → Type 0) (xs ys : List X) → AllByRecursion P xs → AllByRecursion P ys → AllByRecursion P (xs ++ ys)
all_behind P [] ys first second = second
all_behind P (x ∷ xs) ys first second = (first.0, all_behind P xs ys first.1 second)

all_more : {Y : Type 0} (P : Y → Type 0) (o : Option Y) (ys : List Y) → ((y : Y) → o ≡ Some y → P y) → AllByRecursion P ys
    → AllByRecursion P (cons_option o ys)
all_more P None ys h all = all
all_more P (Some y) ys h all = (h y refl, all)

all_given : {X Y : Type 0} (P : Y → Type 0) (f : X → Option Y) (xs : List X) → ((x : X) (y : Y) → f x ≡ Some y → P y)
    → AllByRecursion P (filter_map f xs)
all_given P f [] h = tt
all_given P f (x ∷ xs) h = all_more P (f x) (filter_map f xs) (λ y e. h x y e) (all_given P f xs h)

-- ---- users
user_ids : (user : User) → IsUser user → HasIds (identity_of_user user)
user_ids user is = record { uid = is.uid; gid = is.gid; groups = is.groups }

id_ids : (id : ℕ) → id ≤ greatest_id → HasIds (identity_of_id id)
id_ids id h = record { uid = h; gid = h; groups = tt }

numbered_ids : (site : Site) (id : ℕ) → IsSite site → id ≤ greatest_id → HasIds (numbered site id)
numbered_ids site id is h = by (user_with site.users id) (λ user e. found_holds IsUser _ site.users user is.each_user e)
  where
    by : (o : Option User) → ((user : User) → o ≡ Some user → IsUser user) → HasIds (option_map_or identity_of_user o (identity_of_id id))
    by None g = id_ids id h
    by (Some user) g = user_ids user (g user refl)

asked_ids : (site : Site) (number : Option ℕ) (identity : Identity) → IsSite site
    → option_map identity_of_user (option_and_then (user_with site.users) number) ≡ Some identity → HasIds identity
asked_ids site None identity is e = none_some (HasIds identity) identity e
asked_ids site (Some id) identity is e = by (user_with site.users id) (λ user f. found_holds IsUser _ site.users user is.each_user f) e
  where
    by : (o : Option User) → ((user : User) → o ≡ Some user → IsUser user) → option_map identity_of_user o ≡ Some identity
        → HasIds identity
    by None g f = none_some (HasIds identity) identity f
    by (Some user) g f = subst HasIds (some_same (identity_of_user user) identity f) (user_ids user (g user refl))

any_ids : (site : Site) (number : Option ℕ) (identity : Identity) → IsSite site → ((id : ℕ) → number ≡ Some id → id ≤ greatest_id)
    → option_map (numbered site) number ≡ Some identity → HasIds identity
any_ids site None identity is h e = none_some (HasIds identity) identity e
any_ids site (Some id) identity is h e = subst HasIds (some_same (numbered site id) identity e) (numbered_ids site id is (h id refl))

number_ids : (systemd : Option Version) (site : Site) (is_dynamic : Bool) (number : Option ℕ) (identity : Identity) → IsSite site
    → ((id : ℕ) → number ≡ Some id → id ≤ greatest_id) → user_numbered systemd site is_dynamic number ≡ Some identity → HasIds identity
number_ids systemd site is_dynamic number identity is h = by (is_known systemd && not is_dynamic)
  where
    by : (b : Bool) → cond b (option_map identity_of_user (option_and_then (user_with site.users) number))
        (option_map (numbered site) number) ≡ Some identity → HasIds identity
    by true e = asked_ids site number identity is e
    by false e = any_ids site number identity is h e

meant_ids : (systemd : Option Version) (site : Site) (is_dynamic : Bool) (word : List ℕ) (identity : Identity) → IsSite site
    → user_meant systemd site is_dynamic word ≡ Some identity → HasIds identity
meant_ids systemd site is_dynamic word identity is =
    by (user_named site.users word) (λ user e. found_holds IsUser _ site.users user is.each_user e)
  where
    by : (o : Option User) → ((user : User) → o ≡ Some user → IsUser user)
        → option_or (option_map identity_of_user o) (user_numbered systemd site is_dynamic (id_number word)) ≡ Some identity
        → HasIds identity
    by (Some user) g e = subst HasIds (some_same (identity_of_user user) identity e) (user_ids user (g user refl))
    by None g e = number_ids systemd site is_dynamic (id_number word) identity is (λ id f. number_small (decimal_value word) id f) e

abbrev HoldsIds : Account → Type 0
HoldsIds Dynamic = Unit {0}
HoldsIds (Fixed identity) = HasIds identity

account_ids : (systemd : Option Version) (site : Site) (is_dynamic : Bool) (word : List ℕ) (account : Account) → IsSite site
    → account_of systemd site is_dynamic word ≡ Some account → HoldsIds account
account_ids systemd site is_dynamic [] account is e = subst HoldsIds (some_same (cond is_dynamic Dynamic (Fixed superuser)) account e)
    (by is_dynamic)
  where
    by : (b : Bool) → HoldsIds (cond b Dynamic (Fixed superuser))
    by true = tt
    by false = record { uid = omega arith; gid = omega arith; groups = tt }
account_ids systemd site is_dynamic (byte ∷ word) account is said =
    by (user_meant systemd site is_dynamic (byte ∷ word))
    (λ identity e. meant_ids systemd site is_dynamic (byte ∷ word) identity is e) said
  where
    dynamic : (b : Bool) → cond b (Some Dynamic) None ≡ Some account → HoldsIds account
    dynamic true e = subst HoldsIds (some_same Dynamic account e) tt
    dynamic false e = none_some (HoldsIds account) account e

    by : (o : Option Identity) → ((identity : Identity) → o ≡ Some identity → HasIds identity) → account_meant is_dynamic o ≡ Some account
        → HoldsIds account
    by (Some identity) g e = subst HoldsIds (some_same (Fixed identity) account e) (g identity refl)
    by None g e = dynamic is_dynamic e

-- ---- groups
some_group : (o : Option Group) (gid : ℕ) → ((group : Group) → o ≡ Some group → IsGroup group)
    → option_map (λ (group : Group). group.gid) o ≡ Some gid → gid ≤ greatest_id
some_group None gid g e = none_some (gid ≤ greatest_id) gid e
some_group (Some group) gid g e =
    let small_one = (g group refl).gid in subst (λ k. k ≤ greatest_id) (some_same group.gid gid e) small_one

asked_gid : (site : Site) (number : Option ℕ) (gid : ℕ) → IsSite site
    → option_map (λ (group : Group). group.gid) (option_and_then (group_with site.groups) number) ≡ Some gid → gid ≤ greatest_id
asked_gid site None gid is e = none_some (gid ≤ greatest_id) gid e
asked_gid site (Some id) gid is e =
    some_group (group_with site.groups id) gid (λ group f. found_holds IsGroup _ site.groups group is.each_group f) e

number_gid : (systemd : Option Version) (site : Site) (number : Option ℕ) (gid : ℕ) → IsSite site
    → ((id : ℕ) → number ≡ Some id → id ≤ greatest_id) → gid_numbered systemd site number ≡ Some gid → gid ≤ greatest_id
number_gid systemd site number gid is h = by (is_known systemd)
  where
    by : (b : Bool) → cond b (option_map (λ (group : Group). group.gid) (option_and_then (group_with site.groups) number)) number ≡ Some gid
        → gid ≤ greatest_id
    by true e = asked_gid site number gid is e
    by false e = h gid e

gid_small : (systemd : Option Version) (site : Site) (word : List ℕ) (gid : ℕ) → IsSite site → gid_meant systemd site word ≡ Some gid
    → gid ≤ greatest_id
gid_small systemd site word gid is =
    by (group_named site.groups word) (λ group e. found_holds IsGroup _ site.groups group is.each_group e)
  where
    by : (o : Option Group) → ((group : Group) → o ≡ Some group → IsGroup group)
        → option_or (option_map (λ group. group.gid) o) (gid_numbered systemd site (id_number word)) ≡ Some gid → gid ≤ greatest_id
    by (Some group) g e = some_group (Some group) gid g e
    by None g e = number_gid systemd site (id_number word) gid is (λ id f. number_small (decimal_value word) id f) e

chosen_small : (systemd : Option Version) (site : Site) (word : List ℕ) (gid : ℕ) → IsSite site → chosen_gid systemd site word ≡ Some gid
    → gid ≤ greatest_id
chosen_small systemd site [] gid is e = none_some (gid ≤ greatest_id) gid e
chosen_small systemd site (byte ∷ word) gid is e = gid_small systemd site (byte ∷ word) gid is e

one_small : (chosen : Option ℕ) (gid : ℕ) → ((other : ℕ) → chosen ≡ Some other → other ≤ greatest_id) → gid ≤ greatest_id
    → unwrap_or chosen gid ≤ greatest_id
one_small None gid h own = own
one_small (Some other) gid h own = h other refl

gid_in_range : (site : Site) (chosen : Option ℕ) (account : Account) → IsSite site
    → ((other : ℕ) → chosen ≡ Some other → other ≤ greatest_id) → HoldsIds account → gid_of site chosen account ≤ greatest_id
gid_in_range site chosen Dynamic is h holds = is.dynamic_uid
gid_in_range site chosen (Fixed identity) is h holds = one_small chosen identity.gid h holds.gid

uid_in_range : (site : Site) (account : Account) → IsSite site → HoldsIds account → uid_of site account ≤ greatest_id
uid_in_range site Dynamic is holds = is.dynamic_uid
uid_in_range site (Fixed identity) is holds = holds.uid

own_groups : (account : Account) → HoldsIds account → AreIds (groups_of_account account)
own_groups Dynamic holds = tt
own_groups (Fixed identity) holds = holds.groups

module _ (systemd : Option Version) (site : Site) (is : IsSite site) where
  -- the groups of an account, with its gid or without it
  account_ids_of : (with_user : Bool) (gid : ℕ) (account : Account) → gid ≤ greatest_id → HoldsIds account
      → AreIds (account_groups systemd with_user gid account)
  account_ids_of with_user gid account low holds = by (is_known systemd) (with_user && not (gid == 0))
    where
      by : (known some : Bool) → AreIds (cond known (cond some (groups_of_account account ++ gid ∷ []) []) (groups_of_account account))
      by true true = all_behind (λ id. id ≤ greatest_id) (groups_of_account account) (gid ∷ []) (own_groups account holds) (low, tt)
      by true false = tt
      by false some = own_groups account holds

  all_groups : (with_user : Bool) (gid : ℕ) (account : Account) (further : List (List ℕ)) → gid ≤ greatest_id → HoldsIds account
      → AreIds (groups_of systemd site with_user gid account further)
  all_groups with_user gid account further low holds =
      all_behind (λ id. id ≤ greatest_id) (account_groups systemd with_user gid account) (filter_map (gid_meant systemd site) further)
      (account_ids_of with_user gid account low holds)
      (all_given (λ id. id ≤ greatest_id) (gid_meant systemd site) further (λ word other e. gid_small systemd site word other is e))

  at_ids : (with_user leaves_ids : Bool) (gid : ℕ) (account : Account) (further : List (List ℕ)) → gid ≤ greatest_id → HoldsIds account
      → HasIds (identity_at systemd site with_user leaves_ids gid account further)
  at_ids with_user true gid account further low holds =
      record { uid = omega arith; gid = omega arith; groups = account_ids_of with_user gid account low holds }
  at_ids with_user false gid account further low holds =
      record { uid = uid_in_range site account is holds; gid = low; groups = all_groups with_user gid account further low holds }

  with_ids : (with_user leaves_ids : Bool) (account : Account) (group : List ℕ) (further : List (List ℕ)) → HoldsIds account
      → HasIds (identity_with systemd site with_user leaves_ids account group further)
  with_ids with_user leaves_ids account group further holds =
      at_ids with_user leaves_ids (gid_of site (chosen_gid systemd site group) account) account further
      (gid_in_range site (chosen_gid systemd site group) account is (λ gid e. chosen_small systemd site group gid is e) holds) holds

answer_ids : (bad : Option (List ℕ)) (made identity : Identity) → HasIds made → unless_bad bad made ≡ Ok identity → HasIds identity
answer_ids None made identity has e = let same : made ≡ identity = cc in subst HasIds same has
answer_ids (Some word) made identity has e = absurd (cc)

by_ids : (systemd : Option Version) (site : Site) (is_dynamic leaves_ids : Bool) (user group : List ℕ) (further : List (List ℕ))
    (o : Option Account) (identity : Identity) → IsSite site → ((account : Account) → o ≡ Some account → HoldsIds account)
    → identity_by systemd site is_dynamic leaves_ids user group further o ≡ Ok identity → HasIds identity
by_ids systemd site is_dynamic leaves_ids user group further None identity is h e = absurd (cc)
by_ids systemd site is_dynamic leaves_ids user group further (Some account) identity is h e =
    answer_ids (bad_group systemd site group further)
    (identity_with systemd site (has_user is_dynamic user) leaves_ids account group further) identity
    (with_ids systemd site is (has_user is_dynamic user) leaves_ids account group further (h account refl)) e

pub ids_in_range : (unit : Resolved) (site : Site) (is_dynamic leaves_ids : Bool) (identity : Identity) → IsSite site
    → identity_of unit site is_dynamic leaves_ids ≡ Ok identity → HasIds identity
unfolding identity_of
ids_in_range unit site is_dynamic leaves_ids identity is e =
    by_ids unit.systemd site is_dynamic leaves_ids (user_word unit) (group_word unit) (further_words unit)
    (account_of unit.systemd site is_dynamic (user_word unit)) identity is
    (λ account said. account_ids unit.systemd site is_dynamic (user_word unit) account is said) e
