-- On a table with one entry for each kept path, in byte order, each path belongs to an entry with the view of that path.
use Rattle.std.proofs.Common.{◌≡◌, Bool, true, List, [], ◌∷◌, Some, map, refl, sym, ap, ◌∙◌, subst}
use Rattle.std.specs.List.{AllByRecursion, Contains}
use Rattle.std.proofs.lemmas.List.Elements.{All-contains, All-from_recursion}
use Rattle.path_settings.specs.abs_path.Paths.{Path}
use Rattle.path_settings.specs.abs_path.Prefix.{is_prefix, rest_of}
use Rattle.path_settings.specs.abs_path.ByteOrder.{AreAscending}
use Rattle.path_settings.specs.declared.mentions.Mention.{Mention}
use Rattle.path_settings.specs.view_map.View.{is_read_only, is_no_exec}
use Rattle.path_settings.specs.view_map.Object.{Object, on_host, empty, hidden, object_at, object_behind}
use Rattle.path_settings.specs.view_map.OnTheWay.{HasNoneBetween}
use Rattle.path_settings.proofs.Carries.{same_object, same_read_only, same_no_exec}
use Rattle.path_settings.proofs.ViewMapLists.{all_weaker, mapped_all}
use Rattle.kern_mounts.specs.declared.step.MountStep.{MountStep}
use Rattle.kern_mounts.specs.Table.{StartsAtRoot}
use Rattle.kern_mounts.specs.Entry.{leads_to, entry_of}
use Rattle.kern_mounts.proofs.Entries.{entry_is, entry_leads, has_entry, last_is_longest}
use Rattle.mount_plan.specs.Plan.{what_of, flags_of, step_at}
use Rattle.mount_plan.specs.AsView.{shown_by, Agrees}
use Rattle.mount_plan.specs.Planned.{base_view}

-- a mount shows below its place the object of the place, followed by the rest
pub shown_behind : (object : Object) (is_dir : Bool) (place path : Path)
    → shown_by (what_of object is_dir) place path ≡ object_behind object (rest_of place path)
shown_behind (on_host source) is_dir place path = refl
shown_behind empty is_dir place path = refl
shown_behind hidden is_dir place path = refl

flags_behind : (object : Object) (rest : Path) (read_only no_exec : Bool)
    → flags_of (object_behind object rest) read_only no_exec ≡ flags_of object read_only no_exec
flags_behind (on_host source) rest read_only no_exec = refl
flags_behind empty rest read_only no_exec = refl
flags_behind hidden rest read_only no_exec = refl

-- an entry with the view of its own place has the view of a path at which the same mentions decide
agrees_below : (kept : List Mention) (is_dir : Path → Bool) (place path : Path) → HasNoneBetween kept place path
    → Agrees (base_view kept path) path (step_at kept is_dir place)
agrees_below kept is_dir place path h = record {
  origin = shown_behind (object_at kept place) (is_dir place) place path ∙ sym (same_object kept place path h);
  flags = sym (ap (λ object. flags_of object (is_read_only kept path) (is_no_exec kept path)) (same_object kept place path h)
      ∙ flags_behind (object_at kept place) (rest_of place path) (is_read_only kept path) (is_no_exec kept path)
      ∙ ap (λ b. flags_of (object_at kept place) b (is_no_exec kept path)) (same_read_only kept place path h)
      ∙ ap (flags_of (object_at kept place) (is_read_only kept place)) (same_no_exec kept place path h));
}

-- each kept path is a place, so no kept mention lies between the longest place and the path
none_between : (kept : List Mention) (places : List Path) (place path : Path)
    → AllByRecursion (λ mention. Contains places mention.path) kept →
    AllByRecursion (λ other. is_prefix other path ≡ true → is_prefix other place ≡ true) places → is_prefix place path ≡ true
    → HasNoneBetween kept place path
none_between kept places place path has longest leads = record {
  leads = leads;
  none_between = all_weaker (λ mention. Contains places mention.path)
      (λ mention. is_prefix mention.path path ≡ true → is_prefix mention.path place ≡ true) kept
      (λ mention among. All-contains (λ other. is_prefix other path ≡ true → is_prefix other place ≡ true) places mention.path
      (All-from_recursion (λ other. is_prefix other path ≡ true → is_prefix other place ≡ true) places longest) among) has;
}

pub places_again : (kept : List Mention) (is_dir : Path → Bool) (places : List Path)
    → map (λ step. step.place) (map (step_at kept is_dir) places) ≡ places
places_again kept is_dir [] = refl
places_again kept is_dir (place ∷ places) = ap (λ more. place ∷ more) (places_again kept is_dir places)

each_own : (kept : List Mention) (is_dir : Path → Bool) (places : List Path)
    → AllByRecursion (λ step. step_at kept is_dir step.place ≡ step) (map (step_at kept is_dir) places)
each_own kept is_dir [] = tt
each_own kept is_dir (place ∷ places) = (refl, each_own kept is_dir places)

-- the entry of a path has the view of the path, and is the entry of its own place
pub record EntryOf (kept : List Mention) (is_dir : Path → Bool) (table : List MountStep) (path : Path) : Type 0 where
  pub step : MountStep
  pub belongs : entry_of table path ≡ Some step
  pub agrees : Agrees (base_view kept path) path step
  pub own : step_at kept is_dir step.place ≡ step
  pub leads : is_prefix step.place path ≡ true

pub finds_entry : (kept : List Mention) (is_dir : Path → Bool) (places : List Path) → StartsAtRoot (map (step_at kept is_dir) places)
    → AreAscending places →
    AllByRecursion (λ mention. Contains places mention.path) kept → (path : Path)
    → EntryOf kept is_dir (map (step_at kept is_dir) places) path
finds_entry kept is_dir places root up has path =
    let table : List MountStep = map (step_at kept is_dir) places in
    let found = has_entry table path root in
    let step : MountStep = found.0 in
    let leads = entry_leads table path step found.1 in
    let own = entry_is (λ s. step_at kept is_dir s.place ≡ s) table path step (each_own kept is_dir places) found.1 in
    let longest = last_is_longest table path step (subst AreAscending (sym (places_again kept is_dir places)) up) found.1 in
    let over = mapped_all (step_at kept is_dir) (λ other. leads_to path other ≡ true → leads_to step.place other ≡ true) places longest in
    record {
      step = step;
      belongs = found.1;
      agrees = subst (Agrees (base_view kept path) path) own
          (agrees_below kept is_dir step.place path (none_between kept places step.place path has over leads));
      own = own;
      leads = leads;
    }
