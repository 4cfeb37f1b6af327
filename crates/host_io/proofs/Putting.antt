-- A piece is handed to a sink put by put.
use Rattle.std.proofs.Common.{◌≡◌, ◌<◌, ◌≤◌, ◌+◌, ℕ, List, [], ◌∷◌, ◌++◌, length, drop, Result, Ok, Err, refl, ap, sym, subst}
use Rattle.std.proofs.Common.{arith, drop-drop, length-drop}
use Rattle.std.proofs.Math.ListN.{drop_of_length-le}
use Rattle.std.specs.Result.{IsErrAnd}
use Rattle.host_io.specs.Puts.{Hands, HandsWhole, Leaves, Put, Puts, handed, put_of}
use Rattle.host_io.specs.declared.writing.SinkError.{SinkError}

-- one more put took so many bytes of the rest
leaves_more : (piece counts left : List ℕ) (count : ℕ) → Leaves piece counts left → 0 < count → count ≤ length left
    → Leaves piece (counts ++ count ∷ []) (drop count left)
leaves_more piece [] left count is some fits = (some, subst (λ l. count ≤ length l) is fits, ap (drop count) is)
leaves_more piece (first ∷ counts) left count (one, within, behind) some fits =
    (one, within, leaves_more (drop first piece) counts left count behind some fits)

handed_more : (piece counts left : List ℕ) (count : ℕ) → Leaves piece counts left
    → handed piece (counts ++ count ∷ []) ≡ handed piece counts ++ put_of left (Ok count) ∷ []
handed_more piece [] left count is = ap (λ l. put_of l (Ok count) ∷ []) (sym is)
handed_more piece (first ∷ counts) left count (one, within, behind) =
    ap (λ made. put_of piece (Ok first) ∷ made) (handed_more (drop first piece) counts left count behind)

module _ {S : Type 0} (puts : S → Put → S → Type 0) where
  puts_behind : (a b c : S) (x y : List Put) → Puts puts a b x → Puts puts b c y → Puts puts a c (x ++ y)
  puts_behind a b c [] y same behind = subst (λ s. Puts puts s c y) same behind
  puts_behind a b c (put ∷ x) y (next, made, rest) behind = (next, made, puts_behind next b c x y rest behind)

  -- puts took so many bytes of the piece, and each put got the whole rest
  pub record Going (before now : S) (piece : List ℕ) (at : ℕ) : Type 0 where
    pub counts : List ℕ
    pub leaves : Leaves piece counts (drop at piece)
    pub made : Puts puts before now (handed piece counts)

  pub not_going : (a : S) (piece : List ℕ) → Going a a piece 0
  not_going a piece = record { counts = []; leaves = refl; made = refl }

  pub going_more : (a b c : S) (piece : List ℕ) (at count : ℕ) → Going a b piece at → puts b (put_of (drop at piece) (Ok count)) c
      → 0 < count → count ≤ length (drop at piece) → Going a c piece (at + count)
  going_more a b c piece at count going put some fits = record {
    counts = going.counts ++ count ∷ [];
    leaves =
        subst (Leaves piece (going.counts ++ count ∷ [])) (drop-drop count at piece)
        (leaves_more piece going.counts (drop at piece) count going.leaves some fits);
    made =
        subst (Puts puts a c) (sym (handed_more piece going.counts (drop at piece) count going.leaves))
        (puts_behind a b c (handed piece going.counts) (put_of (drop at piece) (Ok count) ∷ []) going.made (c, put, refl));
  }

  -- the puts took the whole piece
  pub handed_all : (a b : S) (piece : List ℕ) (at : ℕ) → Going a b piece at → length piece ≤ at → HandsWhole puts a b piece
  handed_all a b piece at going past = record {
    counts = going.counts;
    takes_all = subst (Leaves piece going.counts) (drop_of_length-le piece past) going.leaves;
    made = going.made;
  }

  -- the puts took the piece up to a put that failed
  pub handed_part : (a b c : S) (piece : List ℕ) (at : ℕ) (error : SinkError) (result : Result (Unit {0}) SinkError) → Going a b piece at
      → at < length piece → puts b (put_of (drop at piece) (Err error)) c → IsErrAnd result (λ own. own ≡ error)
      → Hands puts a c piece result
  handed_part a b c piece at error (Ok u) going lt put is = absurd is
  handed_part a b c piece at error (Err own) going lt put is = record {
    counts = going.counts;
    left = drop at piece;
    takes_part = going.leaves;
    some_left = omega (arith, length-drop at piece);
    made =
        puts_behind a b c (handed piece going.counts) (put_of (drop at piece) (Err own) ∷ []) going.made
        (c, subst (λ e. puts b (put_of (drop at piece) (Err e)) c) (sym is) put, refl);
  }
