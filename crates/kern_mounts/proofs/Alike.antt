-- A recursive bind shows below its target what the table showed below its source.
use Rattle.std.proofs.Common.{◌≡◌, ℕ, Bool, true, false, cond, [], ◌∷◌, ◌++◌, Option, Some, None, option_map, refl, sym, ap, ◌∙◌}
use Rattle.std.proofs.Common.{append_assoc, append-nil}
use Rattle.std.specs.Option.{option_and_then}
use Rattle.abs_path.specs.Paths.{Path}
use Rattle.abs_path.specs.Prefix.{is_prefix, is_same, rest_of}
use Rattle.abs_path.proofs.Prefixes.{prefix-append, rest_through, same_path, rest-append}
use Rattle.linux_numbers.specs.Errnos.{enoent}
use Rattle.kern_mounts.specs.declared.step.What.{What}
use Rattle.kern_mounts.specs.declared.step.What.TheVariants.{Host, Empty, Hidden}
use Rattle.kern_mounts.specs.declared.step.MountStep.{MountStep}
use Rattle.kern_mounts.specs.Entry.{leads_to, entry_of}
use Rattle.kern_mounts.specs.Finds.{empty_directory, nothing, row_or_nothing, host_place_by, host_place, found_by, found_at, finds}
use Rattle.kern_mounts.specs.Split.{Table, is_below}
use Rattle.kern_mounts.specs.Bind.{moved, object_at, bound_entry}
use Rattle.kern_mounts.proofs.Entries.{entry_is, entry_leads}
use Rattle.kern_mounts.proofs.Paths.{behind, front_same, stands_below, below_leads, leads_on}
use Rattle.kern_mounts.proofs.Splits.{None_have, of_split}
use Rattle.kern_mounts.proofs.Showing.{or_else, entry_behind, copied_entries, IsBound, copied_entry}

-- the entries of a path below the source and of the path at the same place below the target: the source's entry and the new
-- one, or an entry below the source and its copy
pub data Carries (table next : Table) (source target rest : Path) : Type 0 where
  own : (entry : MountStep) → entry_of table source ≡ Some entry → leads_to source entry ≡ true
      → entry_of table (source ++ rest) ≡ Some entry → entry_of next (target ++ rest) ≡ Some (bound_entry source target entry)
      → Carries table next source target rest
  copied : (entry : MountStep) → is_below source entry ≡ true → entry_of table (source ++ rest) ≡ Some entry
      → entry_of next (target ++ rest) ≡ Some (moved source target entry) → Carries table next source target rest

-- what does not lead to the source and leads below it stands below it
below_source : (source rest : Path) (later : Table) (entry : MountStep) → None_have (leads_to source) later
    → entry_of later (source ++ rest) ≡ Some entry → is_below source entry ≡ true
below_source source rest later entry none e =
    stands_below source rest entry.place (entry_leads later (source ++ rest) entry e)
    (entry_is (λ (s : MountStep). leads_to source s ≡ false) later (source ++ rest) entry none e)

pub carries : (table next : Table) (source target rest : Path) → IsBound table next source target true
    → Carries table next source target rest
carries table next source target rest b = by (entry_of b.split.later (source ++ rest)) refl
  where
    before : entry_of table (source ++ rest) ≡ or_else (entry_of b.split.later (source ++ rest)) (Some b.split.entry)
    before = ap (λ t. entry_of t (source ++ rest)) b.is.whole
        ∙ entry_behind b.split.earlier b.split.entry b.split.later (source ++ rest) (leads_on b.split.entry.place source rest b.is.has)

    after : entry_of next (target ++ rest) ≡ or_else (option_map (moved source target) (entry_of b.split.later (source ++ rest)))
        (Some (bound_entry source target b.split.entry))
    after =
        ap (λ t. entry_of t (target ++ rest)) b.made
        ∙ entry_behind table (bound_entry source target b.split.entry) (copied_entries true source target b.split.later) (target ++ rest)
        (prefix-append target rest)
        ∙ ap (λ o. or_else o (Some (bound_entry source target b.split.entry))) (copied_entry source target rest b.split.later b.is.last)

    by : (o : Option MountStep) → entry_of b.split.later (source ++ rest) ≡ o → Carries table next source target rest
    by (Some entry) f = copied entry (below_source source rest b.split.later entry b.is.last f)
        (before ∙ ap (λ o. or_else o (Some b.split.entry)) f)
        (after ∙ ap (λ o. or_else (option_map (moved source target) o) (Some (bound_entry source target b.split.entry))) f)
    by None f = own b.split.entry (of_split source table b.split b.found) b.is.has
        (before ∙ ap (λ o. or_else o (Some b.split.entry)) f)
        (after ∙ ap (λ o. or_else (option_map (moved source target) o) (Some (bound_entry source target b.split.entry))) f)

-- ---- where the host has it
-- what a place has behind it at a path below the source
rest_below : (place source rest : Path) → is_prefix place source ≡ true → rest_of place (source ++ rest) ≡ rest_of place source ++ rest
rest_below place source rest leads =
    rest_through place source (source ++ rest) leads (prefix-append source rest)
    ∙ ap (λ more. rest_of place source ++ more) (rest-append source rest)

own_host : (host place source target rest : Path) → is_prefix place source ≡ true
    → (host ++ rest_of place source) ++ rest_of target (target ++ rest) ≡ host ++ rest_of place (source ++ rest)
own_host host place source target rest leads =
    ap (λ more. (host ++ rest_of place source) ++ more) (rest-append target rest)
    ∙ append_assoc host (rest_of place source) rest
    ∙ ap (λ more. host ++ more) (sym (rest_below place source rest leads))

-- behind a common front there is the same
front_rest : (front one other : Path) → rest_of (front ++ one) (front ++ other) ≡ rest_of one other
front_rest [] one other = refl
front_rest (part ∷ front) one other = front_rest front one other

copied_rest : (place source target rest : Path) → is_prefix source place ≡ true
    → rest_of (target ++ rest_of source place) (target ++ rest) ≡ rest_of place (source ++ rest)
copied_rest place source target rest leads =
    front_rest target (rest_of source place) rest
    ∙ sym (front_rest source (rest_of source place) rest)
    ∙ ap (λ (p : Path). rest_of p (source ++ rest)) (sym (behind source place leads))

own_place : (what : What) (entry : MountStep) (source target rest : Path) → is_prefix entry.place source ≡ true
    → host_place_by (object_at source entry what) target (target ++ rest) ≡ host_place_by what entry.place (source ++ rest)
own_place (Host host) entry source target rest leads = ap Some (own_host host entry.place source target rest leads)
own_place Empty entry source target rest leads = refl
own_place (Hidden directory) entry source target rest leads = refl

copied_place : (what : What) (place source target rest : Path) → is_prefix source place ≡ true
    → host_place_by what (target ++ rest_of source place) (target ++ rest) ≡ host_place_by what place (source ++ rest)
copied_place (Host host) place source target rest leads = ap (λ more. Some (host ++ more)) (copied_rest place source target rest leads)
copied_place Empty place source target rest leads = refl
copied_place (Hidden directory) place source target rest leads = refl

abbrev place_by : Path → Option MountStep → Option Path
place_by path o = option_and_then (λ step. host_place_by step.what step.place path) o

pub same_host_place : (table next : Table) (source target rest : Path) → IsBound table next source target true
    → host_place next (target ++ rest) ≡ host_place table (source ++ rest)
same_host_place table next source target rest e = by (carries table next source target rest e)
  where
    by : Carries table next source target rest → host_place next (target ++ rest) ≡ host_place table (source ++ rest)
    by (own entry at leads before after) =
        ap (place_by (target ++ rest)) after ∙ own_place entry.what entry source target rest leads
        ∙ sym (ap (place_by (source ++ rest)) before)
    by (copied entry below before after) =
        ap (place_by (target ++ rest)) after ∙ copied_place entry.what entry.place source target rest (below_leads source entry below)
        ∙ sym (ap (place_by (source ++ rest)) before)

pub same_flags : (table next : Table) (source target rest : Path) → IsBound table next source target true
    → option_map (λ step. step.flags) (entry_of next (target ++ rest)) ≡ option_map (λ step. step.flags) (entry_of table (source ++ rest))
same_flags table next source target rest e = by (carries table next source target rest e)
  where
    by : Carries table next source target rest → option_map (λ step. step.flags) (entry_of next (target ++ rest))
        ≡ option_map (λ step. step.flags) (entry_of table (source ++ rest))
    by (own entry at leads before after) = ap (option_map (λ step. step.flags)) after ∙ sym (ap (option_map (λ step. step.flags)) before)
    by (copied entry below before after) = ap (option_map (λ step. step.flags)) after ∙ sym (ap (option_map (λ step. step.flags)) before)

-- ---- what is found
-- the path finds something
abbrev IsFound : {Row : Type 0} → (Path → Option Row) → Table → Path → Type 0
IsFound rows table path = (errno : ℕ) → finds rows table path ≡ nothing errno → ⊥

-- an empty file system that has the source stands at the source
empty_at : {Row : Type 0} (rows : Path → Option Row) (table : Table) (source : Path) (entry : MountStep)
    → entry_of table source ≡ Some entry → entry.what ≡ Empty → IsFound rows table source → is_same entry.place source ≡ true
empty_at rows table source entry at empty found = by (is_same entry.place source)
    (ap (found_at rows source) at ∙ ap (λ what. found_by rows what entry.place source) empty)
  where
    by : (b : Bool) → finds rows table source ≡ cond b empty_directory (nothing enoent) → b ≡ true
    by true e = refl
    by false e = absurd (found enoent e)

same_front : (one other rest : Path) → is_same one (one ++ rest) ≡ is_same other (other ++ rest)
same_front one other rest =
    ap (λ (p : Path). is_same p (one ++ rest)) (sym (append-nil one)) ∙ front_same one [] rest
    ∙ sym (ap (λ (p : Path). is_same p (other ++ rest)) (sym (append-nil other)) ∙ front_same other [] rest)

own_found : {Row : Type 0} (rows : Path → Option Row) (what : What) (entry : MountStep) (source target rest : Path)
    → is_prefix entry.place source ≡ true → (what ≡ Empty → is_same entry.place source ≡ true)
    → found_by rows (object_at source entry what) target (target ++ rest) ≡ found_by rows what entry.place (source ++ rest)
own_found rows (Host host) entry source target rest leads at =
    ap (λ (p : Path). row_or_nothing (rows p)) (own_host host entry.place source target rest leads)
own_found rows Empty entry source target rest leads at =
    ap (λ b. cond b empty_directory (nothing enoent)) (same_front target source rest
    ∙ ap (λ (p : Path). is_same p (source ++ rest)) (sym (same_path entry.place source (at refl))))
own_found rows (Hidden directory) entry source target rest leads at = refl

copied_found : {Row : Type 0} (rows : Path → Option Row) (what : What) (place source target rest : Path) → is_prefix source place ≡ true
    → found_by rows what (target ++ rest_of source place) (target ++ rest) ≡ found_by rows what place (source ++ rest)
copied_found rows (Host host) place source target rest leads =
    ap (λ (more : Path). row_or_nothing (rows (host ++ more))) (copied_rest place source target rest leads)
copied_found rows Empty place source target rest leads =
    ap (λ b. cond b empty_directory (nothing enoent)) (front_same target (rest_of source place) rest
    ∙ sym (front_same source (rest_of source place) rest)
    ∙ ap (λ (p : Path). is_same p (source ++ rest)) (sym (behind source place leads)))
copied_found rows (Hidden directory) place source target rest leads = refl

pub same_finds : {Row : Type 0} (rows : Path → Option Row) (table next : Table) (source target rest : Path)
    → IsBound table next source target true → IsFound rows table source
    → finds rows next (target ++ rest) ≡ finds rows table (source ++ rest)
same_finds rows table next source target rest e found = by (carries table next source target rest e)
  where
    by : Carries table next source target rest → finds rows next (target ++ rest) ≡ finds rows table (source ++ rest)
    by (own entry at leads before after) =
        ap (found_at rows (target ++ rest)) after
        ∙ own_found rows entry.what entry source target rest leads (λ empty. empty_at rows table source entry at empty found)
        ∙ sym (ap (found_at rows (source ++ rest)) before)
    by (copied entry below before after) =
        ap (found_at rows (target ++ rest)) after
        ∙ copied_found rows entry.what entry.place source target rest (below_leads source entry below)
        ∙ sym (ap (found_at rows (source ++ rest)) before)
