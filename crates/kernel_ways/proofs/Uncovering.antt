-- What covers a path is unmounted entry by entry, the last first, and then the path belongs to the entry behind which they stood.
use Rattle.std.proofs.Common.{◌≡◌, ℕ, zero, suc, Bool, true, false, List, map, [], ◌∷◌, ◌++◌, Option, Some, None, Result, Ok, refl, ap, ◌∙◌, sym}
use Rattle.std.proofs.Common.{subst, cond, arith, ◌≤◌, ◌<◌, length, length-append, append_assoc, append-nil}
use Rattle.std.specs.Prelude.{not, filter}
use Rattle.launcher.specs.abs_path.Paths.{Path, is_root}
use Rattle.launcher.specs.abs_path.Prefix.{is_prefix, rest_of}
use Rattle.launcher.specs.kern_mounts.Entry.{leads_to}
use Rattle.launcher.specs.kern_mounts.Mounts.{Mounts, plain}
use Rattle.launcher.specs.kern_mounts.Split.{Table, Split, split_last, split_at, is_below}
use Rattle.launcher.specs.kern_mounts.Umount.{after_umount}
use Rattle.launcher.specs.kern_mounts.Unmounts.{IsPart, nothing, keeps, leaves}
use Rattle.launcher.specs.kern_mounts.declared.step.MountStep.{MountStep}
use Rattle.launcher.proofs.OfKernMounts.Paths.{behind}
use Rattle.launcher.proofs.OfKernMounts.Plain.{umounts_own}
use Rattle.launcher.proofs.OfKernMounts.Splits.{None_have, IsSplit, split_some, split_none, split_is}
use Rattle.launcher.proofs.OfKernMounts.Unmounting.{Apart, append_all, part_append, part_filter}
use Rattle.launcher.proofs.OfKernelLaws.Blind.{none_not}
use Rattle.launcher.specs.kernel_laws.Questions.{if_so}
use Rattle.reach_paths.proofs.Parts.{part_all}
use Rattle.kernel_ways.specs.Uncovering.{covering, Detaches, still, then_one}

-- ---- what covers a path
covering_none : (path : Path) (table : Table) → None_have (leads_to path) table → covering path table ≡ []
covering_none path [] h = refl
covering_none path (entry ∷ table) h = ap (λ (places : List Path). places ++ if_so (leads_to path entry) entry.place)
    (covering_none path table h.1) ∙ ap (λ b. if_so b entry.place) h.0

covering_append : (path : Path) (one other : Table) → covering path (one ++ other) ≡ covering path other ++ covering path one
covering_append path [] other = sym (append-nil (covering path other))
covering_append path (entry ∷ one) other =
    ap (λ (places : List Path). places ++ if_so (leads_to path entry) entry.place) (covering_append path one other)
    ∙ append_assoc (covering path other) (covering path one) (if_so (leads_to path entry) entry.place)

-- the last that covers it comes first
covering_last : (path : Path) (earlier : Table) (entry : MountStep) (later : Table) → leads_to path entry ≡ true
    → None_have (leads_to path) later → covering path (earlier ++ entry ∷ later) ≡ entry.place ∷ covering path earlier
covering_last path earlier entry later own none =
    covering_append path earlier (entry ∷ later)
    ∙ ap (λ (places : List Path). (places ++ if_so (leads_to path entry) entry.place) ++ covering path earlier)
    (covering_none path later none)
    ∙ ap (λ b. if_so b entry.place ++ covering path earlier) own

filtered_none : (p q : MountStep → Bool) (table : Table) → None_have p table → None_have p (filter q table)
filtered_none p q [] h = tt
filtered_none p q (entry ∷ table) h = by (q entry) (filtered_none p q table h.1)
  where
    by : (b : Bool) → None_have p (filter q table) → None_have p (cond b (entry ∷ filter q table) (filter q table))
    by true more = (h.0, more)
    by false more = more

covering_left : (path : Path) (earlier later : Table) → None_have (leads_to path) later
    → covering path (earlier ++ later) ≡ covering path earlier
covering_left path earlier later none = covering_append path earlier later
    ∙ ap (λ (places : List Path). places ++ covering path earlier) (covering_none path later none)

-- ---- umount2 of the last
not_root : (a b : Path) → is_prefix a b ≡ false → is_root a ≡ false
not_root [] b e = cc
not_root (part ∷ a) b e = refl

pub part_length : {part table : Table} → IsPart part table → length part ≤ length table
part_length nothing = omega arith
part_length (keeps entry p) = omega (arith, part_length p)
part_length (leaves entry p) = omega (arith, part_length p)

abbrev answer : Table → Result Mounts ℕ
answer table = Ok (map plain table)

module _ (earlier : Table) (entry : MountStep) (rest : Path) where
  abbrev path : Path
  path = entry.place ++ rest

  -- all that covers the path is gone
  pub record Uncovered (later : Table) : Type 0 where
    pub left : Table
    pub run : Detaches path (earlier ++ entry ∷ later) (covering path later) (earlier ++ entry ∷ left)
    pub clear : None_have (leads_to path) left

  one_turn : (later : Table) → Apart entry.place later
      → ((left : Table) → length left < length later → Apart entry.place left → Uncovered left) → (o : Option Split)
      → split_last (leads_to path) later ≡ o → Uncovered later
  one_turn later apart more None e =
      let none = split_none (leads_to path) later e in
      let P : List Path → Type 0 = λ places. Detaches path (earlier ++ entry ∷ later) places (earlier ++ entry ∷ later) in
      record { left = later; run = subst P (sym (covering_none path later none)) still; clear = none }
  one_turn later apart more (Some split) e =
      let is : IsSplit (leads_to path) later split = split_some (leads_to path) later split e in
      let c = split.entry in
      let kept : Table = filter (λ other. not (is_below c.place other)) split.later in
      let off : is_prefix c.place entry.place ≡ false = append_all (λ other. is_prefix other.place entry.place ≡ false) split.earlier c split.later (subst (Apart entry.place) is.whole apart) in
      let tail : path ≡ c.place ++ rest_of c.place path = behind c.place path is.has in
      let last : None_have (leads_to c.place) split.later = none_not c.place (rest_of c.place path) split.later (subst (λ (p : Path). None_have (leads_to p) split.later) tail is.last) in
      let part : IsPart (split.earlier ++ kept) later = (let P : Table → Type 0 = λ t. IsPart (split.earlier ++ kept) t in subst P (sym is.whole) (part_append split.earlier kept (c ∷ split.later) (leaves c (part_filter (λ other. not (is_below c.place other)) split.later)))) in
      let shorter : length (split.earlier ++ kept) < length later =
      (let w : length later ≡ length (split.earlier ++ c ∷ split.later) = ap length is.whole in omega (arith, w, length-append split.earlier kept, length-append split.earlier (c ∷ split.later), part_length (part_filter (λ other. not (is_below c.place other)) split.later))) in
      let then = more (split.earlier ++ kept) shorter (part_all (λ other. is_prefix other.place entry.place ≡ false) part apart) in
      let whole : earlier ++ entry ∷ later ≡ (earlier ++ entry ∷ split.earlier) ++ c ∷ split.later =
      ap (λ (t : Table). earlier ++ entry ∷ t) is.whole ∙ sym (append_assoc earlier (entry ∷ split.earlier) (c ∷ split.later)) in
      let here : Split = record { earlier = earlier ++ entry ∷ split.earlier; entry = c; later = split.later } in
      let belongs : split_at path (earlier ++ entry ∷ later) ≡ Some here = ap (split_at path) whole ∙ split_is (leads_to path) (earlier ++ entry ∷ split.earlier) c split.later is.has is.last in
      let detached : after_umount (map plain (earlier ++ entry ∷ later)) c.place true ≡ Ok (map plain (earlier ++ entry ∷ (split.earlier ++ kept))) =
      ap (λ (t : Table). after_umount (map plain t) c.place true) whole ∙ umounts_own (earlier ++ entry ∷ split.earlier) split.later c
      (not_root c.place entry.place off) last
      ∙ ap answer (append_assoc earlier (entry ∷ split.earlier) kept) in
      let places : covering path later ≡ c.place ∷ covering path (split.earlier ++ kept) =
      ap (covering path) is.whole ∙ covering_last path split.earlier c split.later is.has is.last
      ∙ ap (λ (ps : List Path). c.place ∷ ps) (sym (covering_left path split.earlier kept (filtered_none (leads_to path) (λ other. not (is_below c.place other)) split.later is.last))) in
      let P : List Path → Type 0 = λ ps. Detaches path (earlier ++ entry ∷ later) ps (earlier ++ entry ∷ then.left) in
      record { left = then.left; run = subst P (sym places) (then_one here belongs detached then.run); clear = then.clear }

  turns : (fuel : ℕ) (later : Table) → length later ≤ fuel → Apart entry.place later → Uncovered later
  turns zero later few apart = one_turn later apart (λ left lt apart. absurd (omega arith)) _ refl
  turns (suc fuel) later few apart = one_turn later apart (λ left lt apart. turns fuel left (omega arith) apart) _ refl

  pub uncovered : (later : Table) → Apart entry.place later → Uncovered later
  uncovered later apart = turns (length later) later (omega arith) apart
