-- The entry that a path belongs to, found from the first on.
use Rattle.std.proofs.Common.{◌≡◌, ◌∙◌, ℕ, cond, List, [], ◌∷◌, ◌++◌, Option, Some, sym, ap, length, take, get_or, ◌<◌}
use Rattle.std.specs.Prelude.{◌+◌}
use Rattle.std.proofs.lemmas.List.{take_more}
use Rattle.exec_settings.specs.abs_path.Paths.{Path}
use Rattle.kernel_laws.specs.kern_mounts.declared.step.MountStep.{MountStep}
use Rattle.kernel_laws.specs.kern_mounts.Entry.{entry_of, leads_to}
use Rattle.kernel_laws.proofs.OfKernMounts.Entries.{entry_push}

pub found_more : (plan : List MountStep) (path : Path) (i : ℕ) (entry : MountStep) (before after : Option MountStep) → i < length plan
    → entry ≡ get_or plan i entry
    → before ≡ entry_of (take i plan) path → after ≡ cond (leads_to path entry) (Some entry) before
    → after ≡ entry_of (take (i + 1) plan) path
found_more plan path i entry before after lt is found nearer =
    nearer
    ∙ ap (cond (leads_to path entry) (Some entry)) found
    ∙ sym (entry_push (take i plan) entry path)
    ∙ ap (λ (table : List MountStep). entry_of table path) (ap (λ (e : MountStep). take i plan ++ e ∷ []) is
    ∙ sym (take_more plan i entry lt))
