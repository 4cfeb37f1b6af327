-- Protections that agree key by key, and notes added one after another.
use Rattle.std.proofs.Common.{◌≡◌, List, ◌++◌, ap, ◌∙◌}
use Rattle.mount_settings.specs.declared.protections.Protections.{Protections}

pub same_protections : (one other : Protections) → one.protect_system ≡ other.protect_system → one.protect_home ≡ other.protect_home
    → one.private_tmp ≡ other.private_tmp → one.protect_kernel_tunables ≡ other.protect_kernel_tunables
    → one.protect_control_groups ≡ other.protect_control_groups → one ≡ other
same_protections one other system home tmp tunables groups =
    ap (λ v. record one { protect_system = v }) system
    ∙ ap (λ v. record one { protect_system = other.protect_system; protect_home = v }) home
    ∙ ap (λ v. record one { protect_system = other.protect_system; protect_home = other.protect_home; private_tmp = v }) tmp
    ∙ ap (λ v. record other { protect_kernel_tunables = v; protect_control_groups = one.protect_control_groups }) tunables
    ∙ ap (λ v. record other { protect_control_groups = v }) groups

pub behind : {X : Type 0} (now first next more others : List X) → next ≡ now ++ more → now ≡ first → more ≡ others → next ≡ first ++ others
behind now first next more others step before these = step ∙ ap (λ xs. xs ++ more) before ∙ ap (λ xs. first ++ xs) these
