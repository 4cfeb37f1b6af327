-- If no kept mention lies between a place and a path below it, both have the same view.
use Rattle.std.proofs.Common.{◌≡◌, ℕ, true, List, ◌++◌, Option, Some, None, refl, sym, ap, ◌∙◌, append_assoc}
use Rattle.abs_path.specs.Paths.{Path}
use Rattle.abs_path.specs.Prefix.{is_prefix, rest_of}
use Rattle.abs_path.proofs.Prefixes.{prefix_trans, rest_through, prefix_and_rest}
use Rattle.path_settings.specs.declared.mentions.Kind.{Kind}
use Rattle.path_settings.specs.declared.mentions.Kind.TheVariants.{Ro, Rw, Exec, NoExec, Hide, Tmp, Bind}
use Rattle.path_settings.specs.declared.mentions.Mention.{Mention}
use Rattle.path_settings.specs.Mentions.{is_origin}
use Rattle.path_settings.specs.view_map.View.{leading_to, longest, prevails, origin_of, is_read_only, is_no_exec, says_read_only}
use Rattle.path_settings.specs.view_map.View.{says_read_write, says_no_exec, says_exec}
use Rattle.path_settings.specs.view_map.Object.{on_host, object_by, object_from, object_at, object_behind}
use Rattle.path_settings.specs.view_map.OnTheWay.{HasNoneBetween}
use Rattle.path_settings.proofs.ViewMapLists.{same_test, filter_agree_on, all_enumerated, all_weaker, all_trivial}
use Rattle.path_settings.proofs.Deciding.{origin_is}

-- the same mentions lead to both
pub same_leading : (kept : List Mention) (place path : Path) → HasNoneBetween kept place path → leading_to place kept ≡ leading_to path kept
same_leading kept place path h =
    filter_agree_on _ _ _ (all_enumerated (λ mention. is_prefix mention.path place ≡ is_prefix mention.path path) 0 kept
    (all_weaker (λ mention. is_prefix mention.path path ≡ true → is_prefix mention.path place ≡ true) _ kept
    (λ mention back. same_test _ _ (λ leads. prefix_trans mention.path place path leads h.leads) back) h.none_between))

-- a mention gives at a path the object that it gives at a place on the way, followed by the rest
carries_by : (kind : Kind) (front place path : Path) → is_prefix front place ≡ true → is_prefix place path ≡ true →
    object_behind (object_by kind front place) (rest_of place path) ≡ object_by kind front path
carries_by Hide front place path h leads = refl
carries_by (Tmp read_only no_exec no_suid) front place path h leads = refl
carries_by (Bind source read_only recursive) front place path h leads =
    ap on_host (append_assoc source (rest_of front place) (rest_of place path)
    ∙ ap (λ rest. source ++ rest) (sym (rest_through front place path h leads)))
carries_by Ro front place path h leads = ap on_host (prefix_and_rest place path leads)
carries_by Rw front place path h leads = ap on_host (prefix_and_rest place path leads)
carries_by Exec front place path h leads = ap on_host (prefix_and_rest place path leads)
carries_by NoExec front place path h leads = ap on_host (prefix_and_rest place path leads)

pub object_carries : (o : Option (ℕ × Mention)) (place path : Path)
    → ((one : ℕ × Mention) → o ≡ Some one → is_prefix one.1.path place ≡ true) → is_prefix place path ≡ true →
    object_behind (object_from o place) (rest_of place path) ≡ object_from o path
object_carries None place path h leads = ap on_host (prefix_and_rest place path leads)
object_carries (Some one) place path h leads = carries_by one.1.kind one.1.path place path (h one refl) leads

-- the object of the path is the object of the place, followed by the rest
pub same_object : (kept : List Mention) (place path : Path) → HasNoneBetween kept place path
    → object_at kept path ≡ object_behind (object_at kept place) (rest_of place path)
same_object kept place path h =
    sym (object_carries (origin_of kept place) place path (λ one e. (origin_is (λ _. Unit {0}) kept place one (all_trivial kept) e).1)
    h.leads
    ∙ ap (λ found. object_from (longest is_origin found) path) (same_leading kept place path h))

pub same_read_only : (kept : List Mention) (place path : Path) → HasNoneBetween kept place path
    → is_read_only kept path ≡ is_read_only kept place
same_read_only kept place path h = sym (ap (prevails says_read_only says_read_write) (same_leading kept place path h))

pub same_no_exec : (kept : List Mention) (place path : Path) → HasNoneBetween kept place path → is_no_exec kept path ≡ is_no_exec kept place
same_no_exec kept place path h = sym (ap (prevails says_no_exec says_exec) (same_leading kept place path h))
