-- Notes added one after another, key by key.
use Rattle.std.proofs.Common.{◌≡◌, List, ◌++◌, ap, ◌∙◌, append_assoc}

four_apart : {X : Type 0} (o a b c d : List X) → (((o ++ a) ++ b) ++ c) ++ d ≡ o ++ (((a ++ b) ++ c) ++ d)
four_apart o a b c d = ap (λ l. (l ++ c) ++ d) (append_assoc o a b) ∙ ap (λ l. l ++ d) (append_assoc o (a ++ b) c)
    ∙ append_assoc o ((a ++ b) ++ c) d

pub four_behind : {X : Type 0} (o a b c d : List X) {k m n p : List X} → k ≡ o ++ a → m ≡ k ++ b → n ≡ m ++ c → p ≡ n ++ d
    → p ≡ o ++ (((a ++ b) ++ c) ++ d)
four_behind o a b c d {k} {m} {n} {p} first second third fourth = all ∙ four_apart o a b c d
  where
    all : p ≡ (((o ++ a) ++ b) ++ c) ++ d
    all = cc

pub five_behind : {X : Type 0} (o a b c d e : List X) {k m n p q : List X} → k ≡ o ++ a → m ≡ k ++ b → n ≡ m ++ c → p ≡ n ++ d
    → q ≡ p ++ e → q ≡ o ++ ((((a ++ b) ++ c) ++ d) ++ e)
five_behind o a b c d e first second third fourth fifth = fifth ∙ ap (λ l. l ++ e) (four_behind o a b c d first second third fourth)
    ∙ append_assoc o (((a ++ b) ++ c) ++ d) e

-- the same for notes that accompany values
pub four_said : {X : Type 0} (o a b c d : List X) {w x y z k m n p : List X} → w ≡ a → k ≡ o ++ w → x ≡ b → m ≡ k ++ x → y ≡ c
    → n ≡ m ++ y → z ≡ d → p ≡ n ++ z → p ≡ o ++ (((a ++ b) ++ c) ++ d)
four_said o a b c d {w} {x} {y} {z} {k} {m} {n} {p} first to_first second to_second third to_third fourth to_fourth = all
    ∙ four_apart o a b c d
  where
    all : p ≡ (((o ++ a) ++ b) ++ c) ++ d
    all = cc

pub five_said : {X : Type 0} (o a b c d e : List X) {w x y z v k m n p q : List X} → w ≡ a → k ≡ o ++ w → x ≡ b → m ≡ k ++ x → y ≡ c
    → n ≡ m ++ y → z ≡ d → p ≡ n ++ z → v ≡ e → q ≡ p ++ v → q ≡ o ++ ((((a ++ b) ++ c) ++ d) ++ e)
five_said o a b c d e {p = p} first to_first second to_second third to_third fourth to_fourth fifth to_fifth =
    to_fifth ∙ ap (λ l. p ++ l) fifth
    ∙ ap (λ l. l ++ e) (four_said o a b c d first to_first second to_second third to_third fourth to_fourth)
    ∙ append_assoc o (((a ++ b) ++ c) ++ d) e
