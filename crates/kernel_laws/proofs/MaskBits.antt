-- A flag is on where some bit of its mask is.
use Rattle.std.proofs.Common.{◌≡◌, ℕ, Bool, true, false, refl, ap, ◌∙◌, sym}
use Rattle.std.specs.Prelude.{◌&&◌, ◌==◌, not}
use Rattle.std.specs.Int.RustNames.{bit_and}
use Rattle.std.proofs.lemmas.Bool.{eqb-true, eq-eqb}
use Rattle.kernel_model.specs.cap_sets.Sets.{has, cut, none, single}
use Rattle.kernel_model.proofs.OfCapSets.Members.{has_cut, has_none, has_single, same_sets}
use Rattle.kernel_model.specs.kern_files.Bits.{has_some, has_all}
use Rattle.kernel_model.specs.Effects.{newuser}

is_single : newuser ≡ single 28
unfolding single
is_single = refl

pub user_flag : (flags : ℕ) → has_some newuser flags ≡ true → has_all newuser flags ≡ true
unfolding cut none
user_flag flags h = by (has flags 28) refl
  where
    common : (b : Bool) → has flags 28 ≡ b → (number : ℕ) → has (cut flags (single 28)) number ≡ (b && (number == 28))
    common b e number = has_cut flags (single 28) number ∙ ap (λ x. has flags number && x) (has_single 28 number)
        ∙ by_number (number == 28) refl
      where
        by_number : (c : Bool) → (number == 28) ≡ c → (has flags number && c) ≡ (b && c)
        by_number true is = ap (λ n. has flags n && true) (eqb-true number 28 is) ∙ ap (λ x. x && true) e
        by_number false is = ends (has flags number) ∙ sym (ends b)
          where
            ends : (x : Bool) → (x && false) ≡ false
            ends true = refl
            ends false = refl

    by : (b : Bool) → has flags 28 ≡ b → has_all newuser flags ≡ true
    by true e =
        let same : cut flags (single 28) ≡ single 28 = same_sets (cut flags (single 28)) (single 28) (λ number. common true e number ∙ sym (has_single 28 number)) in
        let own : cut flags newuser ≡ newuser = ap (cut flags) is_single ∙ same ∙ sym is_single in
        eq-eqb (bit_and flags newuser) newuser own
    by false e =
        let empty : cut flags (single 28) ≡ none = same_sets (cut flags (single 28)) none (λ number. common false e number ∙ sym (has_none number)) in
        let own : cut flags newuser ≡ none = ap (cut flags) is_single ∙ empty in
        let off : has_some newuser flags ≡ false = ap not (eq-eqb (bit_and flags newuser) 0 own) in
        cc
