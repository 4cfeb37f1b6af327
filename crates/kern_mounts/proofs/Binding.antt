-- What a bind makes of mounts, by the number of the source's mount.
use Rattle.std.proofs.Common.{◌≡◌, ◌<◌, ◌≤◌, ◌+◌, ℕ, zero, suc, ◌++◌, ◌∷◌, [], Bool, true, false, cond, filter, map, get_or, take, drop}
use Rattle.std.proofs.Common.{length, length-append, Ok, Err, Result, refl, sym, ap, ◌∙◌, arith}
use Rattle.std.specs.Prelude.{◌&&◌, ◌||◌, nat_lt, not, count_by}
use Rattle.std.specs.List.{list_any}
use Rattle.std.proofs.lemmas.List.{length-map, length-take, take_all, drop_all}
use Rattle.std.proofs.lemmas.List.Sums.{length-filter}
use Rattle.abs_path.specs.Paths.{Path}
use Rattle.abs_path.specs.Prefix.{is_prefix, rest_of}
use Rattle.linux_numbers.specs.Errnos.{einval, enametoolong, enospc}
use Rattle.linux_numbers.specs.Limits.{mount_max}
use Rattle.kern_mounts.specs.declared.step.Mount.{Mount}
use Rattle.kern_mounts.specs.Entry.{Belongs}
use Rattle.kern_mounts.specs.Bind.{is_long, goes_too_far, can_show, can_show_at, can_bind}
use Rattle.kern_mounts.specs.Mounts.{Mounts, steps_of, leads, stands_below}
use Rattle.kern_mounts.specs.Push.{grown}
use Rattle.kern_mounts.specs.Bind.{moved_mount, copies, bound_mount, is_locked_below, is_too_long, bound}
use Rattle.kern_mounts.specs.Bind.{after_bind}
use Rattle.kern_mounts.specs.Pushed.{HasBound}
use Rattle.kern_mounts.proofs.Splits.{about, split_some}
use Rattle.kern_mounts.proofs.Mounts.{in_range, mount_by_number, mount_entry}

-- the source's mount, and the mounts that copies are looked for among
pub record Binds (mounts later : Mounts) (source : Path) (recursive : Bool) (at : ℕ) (mount : Mount) : Type 0 where
  pub belongs : Belongs (steps_of mounts) source at
  pub entry_is : mount ≡ get_or mounts at mount
  pub later_is : later ≡ cond recursive (drop (at + 1) mounts) []

-- a mount of this number stands there
pub stands : (mounts : Mounts) (at : ℕ) → at < length mounts → (mount : Mount) × (mount ≡ get_or mounts at mount)
stands [] at lt = absurd (omega arith)
stands (mount ∷ mounts) zero lt = (mount, refl)
stands (mount ∷ mounts) (suc at) lt = stands mounts at (omega arith)

-- up to the end are those that copies are looked for among
up_to_the_end : (mounts : Mounts) (recursive : Bool) (at end : ℕ) → end ≡ cond recursive (length mounts) (at + 1)
    → drop (at + 1) (take end mounts) ≡ cond recursive (drop (at + 1) mounts) []
up_to_the_end mounts true at end e = ap (drop (at + 1)) (take_all end mounts (omega (arith, e)))
up_to_the_end mounts false at end e = drop_all (at + 1) (take end mounts) (let long = length-take end mounts in omega (arith, e, long))

pub shown : (mounts later : Mounts) (source : Path) (recursive : Bool) (at : ℕ) (mount : Mount)
    → Binds mounts later source recursive at mount → can_bind (steps_of mounts) source ≡ true
    → can_show mount.step.what mount.step.place source ≡ true
shown mounts later source recursive at mount h can =
    ap (can_show_at source) (sym
    (mount_entry source mounts (about mounts at mount) (mount_by_number mounts source at mount h.belongs h.entry_is))) ∙ can

copied_among : (source target : Path) (recursive : Bool) (behind later : Mounts) → later ≡ cond recursive behind []
    → copies recursive source target behind ≡ copies true source target later
copied_among source target true behind later e = ap (copies true source target) (sym e)
copied_among source target false behind later e = ap (copies true source target) (sym e)

any_moved : (source target : Path) (later : Mounts) → list_any (λ mount. goes_too_far source target mount.step) later
    ≡ list_any is_too_long (copies true source target later)
any_moved source target [] = refl
any_moved source target (mount ∷ later) = by (stands_below source mount) (any_moved source target later)
  where
    by : (b : Bool) → list_any (λ mount. goes_too_far source target mount.step) later
        ≡ list_any is_too_long (copies true source target later)
        → ((b && is_long (target ++ rest_of source mount.step.place)) || list_any (λ mount. goes_too_far source target mount.step) later)
        ≡ list_any is_too_long
        (map (moved_mount source target) (cond b (mount ∷ filter (stands_below source) later) (filter (stands_below source) later)))
    by true e = ap (λ b. is_long (target ++ rest_of source mount.step.place) || b) e
    by false e = e

count_copies : (source target : Path) (later : Mounts) → length (copies true source target later)
    ≡ count_by (stands_below source) later
count_copies source target later = length-map (filter (stands_below source) later) (moved_mount source target)
    ∙ length-filter (stands_below source) later

-- the rule, with the copies in hand
abbrev pub bound_with : Mounts → Mount → Mounts → Bool → Result Mounts ℕ
bound_with mounts first more uncovers = cond uncovers (Err einval)
    (cond (list_any is_too_long more) (Err enametoolong) (grown mounts (first ∷ more)))

bind_by : (mounts later : Mounts) (source target : Path) (recursive : Bool) (at : ℕ) (mount : Mount)
    → Binds mounts later source recursive at mount →
    after_bind mounts source target recursive ≡ bound_with mounts (bound_mount source target mount)
    (copies true source target later) (not recursive && list_any (is_locked_below source) (drop (at + 1) mounts))
bind_by mounts later source target recursive at mount h =
    ap (bound mounts source target recursive) (mount_by_number mounts source at mount h.belongs h.entry_is)
    ∙ ap (λ more. bound_with mounts (bound_mount source target mount) more
    (not recursive && list_any (is_locked_below source) (drop (at + 1) mounts)))
    (copied_among source target recursive (drop (at + 1) mounts) later h.later_is)

-- whether the bind would uncover what a locked mount covers
abbrev pub uncovers : Mounts → Path → Bool → ℕ → Bool
uncovers mounts source recursive at = not recursive && list_any (is_locked_below source) (drop (at + 1) mounts)

pub bind_uncovers : (mounts later : Mounts) (source target : Path) (recursive : Bool) (at : ℕ) (mount : Mount)
    → Binds mounts later source recursive at mount →
    uncovers mounts source recursive at ≡ true → after_bind mounts source target recursive ≡ Err einval
bind_uncovers mounts later source target recursive at mount h some =
    bind_by mounts later source target recursive at mount h ∙ ap
    (bound_with mounts (bound_mount source target mount) (copies true source target later)) some

pub bind_long : (mounts later : Mounts) (source target : Path) (recursive : Bool) (at : ℕ) (mount : Mount)
    → Binds mounts later source recursive at mount →
    uncovers mounts source recursive at ≡ false → list_any (λ mount. goes_too_far source target mount.step) later ≡ true
    → after_bind mounts source target recursive ≡ Err enametoolong
bind_long mounts later source target recursive at mount h none long =
    bind_by mounts later source target recursive at mount h ∙ ap
    (bound_with mounts (bound_mount source target mount) (copies true source target later)) none
    ∙ ap (λ b. cond b (Err enametoolong) (grown mounts (bound_mount source target mount ∷ copies true source target later)))
    (sym (any_moved source target later) ∙ long)

bind_short : (mounts later : Mounts) (source target : Path) (recursive : Bool) (at : ℕ) (mount : Mount)
    → Binds mounts later source recursive at mount →
    uncovers mounts source recursive at ≡ false → list_any (λ mount. goes_too_far source target mount.step) later ≡ false
    → after_bind mounts source target recursive ≡ grown mounts
    (bound_mount source target mount ∷ copies true source target later)
bind_short mounts later source target recursive at mount h none short =
    bind_by mounts later source target recursive at mount h ∙ ap
    (bound_with mounts (bound_mount source target mount) (copies true source target later)) none
    ∙ ap (λ b. cond b (Err enametoolong) (grown mounts (bound_mount source target mount ∷ copies true source target later)))
    (sym (any_moved source target later) ∙ short)

less : (a b : ℕ) → a < b → nat_lt a b ≡ true
less a b h = grind arith

not_less : (a b : ℕ) → b ≤ a → nat_lt a b ≡ false
not_less a b h = grind arith

pub bind_full : (mounts later : Mounts) (source target : Path) (recursive : Bool) (at : ℕ) (mount : Mount) (count : ℕ)
    → Binds mounts later source recursive at mount →
    uncovers mounts source recursive at ≡ false → list_any (λ mount. goes_too_far source target mount.step) later ≡ false
    → count ≡ count_by (stands_below source) later → mount_max < length mounts + (1 + count)
    → after_bind mounts source target recursive ≡ Err enospc
bind_full mounts later source target recursive at mount count h none short e many =
    let all : length mounts + length (bound_mount source target mount ∷ copies true source target later) ≡ length mounts + (1 + count) = let n = count_copies source target later in omega (arith, n, e) in
    bind_short mounts later source target recursive at mount h none short
    ∙ ap (λ b. cond b (Err enospc) (Ok (mounts ++ bound_mount source target mount ∷ copies true source target later)))
    (ap (nat_lt mount_max) all ∙ less mount_max (length mounts + (1 + count)) many)

pub bind_done : (mounts later : Mounts) (source target : Path) (recursive : Bool) (at : ℕ) (mount : Mount) (count : ℕ)
    → Binds mounts later source recursive at mount →
    uncovers mounts source recursive at ≡ false → list_any (λ mount. goes_too_far source target mount.step) later ≡ false
    → count ≡ count_by (stands_below source) later → length mounts + (1 + count) ≤ mount_max →
    after_bind mounts source target recursive
    ≡ Ok (mounts ++ bound_mount source target mount ∷ copies true source target later)
bind_done mounts later source target recursive at mount count h none short e few =
    let all : length mounts + length (bound_mount source target mount ∷ copies true source target later) ≡ length mounts + (1 + count) = let n = count_copies source target later in omega (arith, n, e) in
    bind_short mounts later source target recursive at mount h none short
    ∙ ap (λ b. cond b (Err enospc) (Ok (mounts ++ bound_mount source target mount ∷ copies true source target later)))
    (ap (nat_lt mount_max) all ∙ not_less mount_max (length mounts + (1 + count)) few)

-- the source belongs to the mount
pub source_leads : (mounts later : Mounts) (source : Path) (recursive : Bool) (at : ℕ) (mount : Mount)
    → Binds mounts later source recursive at mount → is_prefix mount.step.place source ≡ true
source_leads mounts later source recursive at mount h =
    (split_some (leads source) mounts (about mounts at mount) (mount_by_number mounts source at mount h.belongs h.entry_is)).has

-- once the mount at the target and all copies are behind the others, and there is room for them, the bind is made
pub bind_made : (mounts new : Mounts) (source target : Path) (recursive : Bool) (at end : ℕ) → Belongs (steps_of mounts) source at
    → uncovers mounts source recursive at ≡ false → end ≡ cond recursive (length mounts) (at + 1) →
    HasBound mounts new at (drop (at + 1) (take end mounts)) source target → length new ≤ mount_max
    → after_bind mounts source target recursive ≡ Ok new
bind_made mounts new source target recursive at end belongs none is h few =
    let here = stands mounts at (in_range mounts source at belongs) in
    let later = drop (at + 1) (take end mounts) in
    let more = bound_mount source target here.0 ∷ copies true source target later in
    let binds : Binds mounts later source recursive at here.0 = record { belongs = belongs; entry_is = here.1; later_is = up_to_the_end mounts recursive at end is } in
    let made : new ≡ mounts ++ more = h.behind here.0 here.1 in
    let room : length mounts + length more ≤ mount_max = let sum = length-append mounts more in let size = ap length made in omega (arith, sum, size, few) in
    bind_short mounts later source target recursive at here.0 binds none h.none_long
    ∙ ap (λ b. cond b (Err enospc) (Ok (mounts ++ more))) (not_less mount_max (length mounts + length more) room) ∙ ap Ok (sym made)
