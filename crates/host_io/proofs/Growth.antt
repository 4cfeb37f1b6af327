-- The bytes that a sink has taken grow piece by piece.
use Rattle.std.proofs.Common.{◌≡◌, ℕ, ◌+◌, List, [], ◌++◌, take, drop, Option, Some, None, refl, sym, ap, ◌∙◌, append_assoc, append-nil}
use Rattle.std.proofs.Math.Seq.{take-add}
use Rattle.std.specs.Io.KnownBytes.{append_known}
use Rattle.host_io.specs.Writing.{Grew}

pub append_known-append : (a : Option (List ℕ)) (x y : List ℕ) → append_known (append_known a x) y ≡ append_known a (x ++ y)
append_known-append None x y = refl
append_known-append (Some a) x y = ap Some (append_assoc a x y)

pub append_known-nil : (a : Option (List ℕ)) → append_known a [] ≡ a
append_known-nil None = refl
append_known-nil (Some a) = ap Some (append-nil a)

-- the next part of a piece
pub grew_more : (a b c : Option (List ℕ)) (piece : List ℕ) (n m : ℕ) → Grew a b (take n piece) → Grew b c (take m (drop n piece))
    → Grew a c (take (n + m) piece)
grew_more a b c piece n m f g =
    g ∙ ap (λ o. append_known o (take m (drop n piece))) f
    ∙ append_known-append a (take n piece) (take m (drop n piece))
    ∙ ap (append_known a) (sym (take-add n m piece))
