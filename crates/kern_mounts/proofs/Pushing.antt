-- Mounts pushed behind others, one first and then copies.
use Rattle.std.proofs.Common.{◌≡◌, ◌∙◌, ◌≤◌, ◌+◌, ℕ, Bool, true, ◌∷◌, [], ◌++◌, append_assoc, take, drop, get_or, length, length-append}
use Rattle.std.proofs.Common.{Result, Ok, Err, IfOk, sym, ap, arith}
use Rattle.std.specs.List.{list_any}
use Rattle.std.specs.Prelude.{List}
use Rattle.std.proofs.Math.Seq.{take-append_seam}
use Rattle.std.proofs.lemmas.List.{get_or_default, take-append-le}
use Rattle.abs_path.specs.Paths.{Path}
use Rattle.kern_mounts.specs.declared.step.Mount.{Mount}
use Rattle.kern_mounts.specs.Entry.{Belongs}
use Rattle.kern_mounts.specs.Mounts.{Mounts, steps_of}
use Rattle.kern_mounts.specs.Bind.{bound_mount, copies, goes_too_far}
use Rattle.kern_mounts.specs.Pushed.{HasBound, HasCopies}
use Rattle.kern_mounts.proofs.Known.{take_twice}
use Rattle.kern_mounts.proofs.Mounts.{in_range}

-- what stays before the one pushed first stays before all
pub front_of_all : {X : Type 0} (old pushed new : List X) (first : X) → pushed ≡ old ++ first ∷ [] → take (length pushed) new ≡ pushed
    → take (length old) new ≡ old
front_of_all old pushed new first is stays =
    let long = length-append old (first ∷ []) in
    let size = ap length is in
    sym (take_twice new (length old) (length pushed) (omega (arith, long, size))) ∙ ap (take (length old)) (stays ∙ is)
    ∙ take-append_seam old (first ∷ [])

-- copies behind the mount at the target
pub bound_and_copies : (old pushed new : Mounts) (at end : ℕ) (source target : Path) (mount first : Mount)
    → Belongs (steps_of old) source at → end ≤ length old →
    mount ≡ get_or old at mount → first ≡ bound_mount source target mount → pushed ≡ old ++ first ∷ [] →
    HasCopies pushed new (drop (at + 1) (take end pushed)) source target → HasBound old new at (drop (at + 1) (take end old)) source target
bound_and_copies old pushed new at end source target mount first belongs le stands bound is h =
    let same : drop (at + 1) (take end pushed) ≡ drop (at + 1) (take end old) = ap (λ (items : Mounts). drop (at + 1) (take end items)) is ∙ ap (drop (at + 1)) (take-append-le end old (first ∷ []) le) in record {
      none_long = ap (list_any (λ mount. goes_too_far source target mount.step)) (sym same) ∙ h.none_long;
      behind = λ own is_own.
          let one : mount ≡ own = stands ∙ get_or_default old at mount own (in_range old source at belongs) ∙ sym is_own in
          h.behind ∙ ap (λ (items : Mounts). items ++ copies true source target (drop (at + 1) (take end pushed))) is
          ∙ append_assoc old (first ∷ []) (copies true source target (drop (at + 1) (take end pushed)))
          ∙ ap (λ (m : Mount). old ++ m ∷ copies true source target (drop (at + 1) (take end pushed)))
          (bound ∙ ap (bound_mount source target) one)
          ∙ ap (λ (later : Mounts). old ++ bound_mount source target own ∷ copies true source target later) same;
    }

-- and where all were pushed
pub all_pushed : {E : Type 0} (P Q : Type 0) (result : Result Bool E) → (P → Q) → IfOk result (λ all. all ≡ true → P)
    → IfOk result (λ all. all ≡ true → Q)
all_pushed P Q (Ok all) on h = λ e. on (h e)
all_pushed P Q (Err error) on h = h
