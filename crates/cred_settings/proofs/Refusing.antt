-- Words that name no group, and the refusal of the first such word.
use Rattle.std.proofs.Common.{◌≡◌, ℕ, suc, ◌+◌, ◌<◌, Bool, true, false, cond, Option, Some, None, List, [], ◌∷◌, ◌++◌, length, take, drop, get_or}
use Rattle.std.proofs.Common.{sym, ap, ◌∙◌}
use Rattle.std.specs.Prelude.{find, not, is_some}
use Rattle.std.specs.Option.{option_or}
use Rattle.std.proofs.lemmas.List.{take_more, take-append-drop}
use Rattle.std.proofs.lemmas.List.Folds.{find-append}
use Rattle.std.proofs.Math.Seq.{drop-cons}
use Rattle.dropin_merge.specs.unit_names.declared.version.Version.{Version}
use Rattle.site_table.specs.Table.{Site}
use Rattle.cred_settings.specs.Groups.{gid_meant}
use Rattle.cred_settings.specs.Identities.{names_no_group}

pub none_more : {X : Type 0} (p : X → Bool) (xs : List X) (i : ℕ) (x : X) → i < length xs → x ≡ get_or xs i x → find p (take i xs) ≡ None
    → p x ≡ false → find p (take (i + 1) xs) ≡ None
none_more p xs i x lt is before here =
    ap (find p) (take_more xs i x lt ∙ ap (λ y. take i xs ++ y ∷ []) (sym is))
    ∙ find-append p (take i xs) (x ∷ [])
    ∙ ap (λ o. option_or o (cond (p x) (Some x) None)) before
    ∙ ap (λ b. cond b (Some x) None) here

pub first_found : {X : Type 0} (p : X → Bool) (xs : List X) (i : ℕ) (x : X) → i < length xs → x ≡ get_or xs i x
    → find p (take i xs) ≡ None → p x ≡ true → find p xs ≡ Some x
first_found p xs i x lt is before here =
    ap (find p) (sym (take-append-drop i xs))
    ∙ find-append p (take i xs) (drop i xs)
    ∙ ap (λ o. option_or o (find p (drop i xs))) before
    ∙ ap (find p) (drop-cons xs i x lt ∙ ap (λ y. y ∷ drop (suc i) xs) (sym is))
    ∙ ap (λ b. cond b (Some x) (find p (drop (suc i) xs))) here

pub names_one : (systemd : Option Version) (site : Site) (word : List ℕ) (gid : ℕ) → Some gid ≡ gid_meant systemd site word
    → names_no_group systemd site word ≡ false
names_one systemd site word gid e = ap (λ o. not (is_some o)) (sym e)

pub names_none : (systemd : Option Version) (site : Site) (word : List ℕ) → None ≡ gid_meant systemd site word
    → names_no_group systemd site word ≡ true
names_none systemd site word e = ap (λ o. not (is_some o)) (sym e)
