-- What is the same under a constructor.
use Rattle.std.proofs.Common.{◌≡◌, Some, None, Result, Ok, Err, true, false}

pub same_some : {X : Type 0} (one other : X) → Some one ≡ Some other → one ≡ other
same_some one other is = cc

pub same_ok : {X E : Type 0} (one other : X) → ◌≡◌ {A = Result X E} (Ok one) (Ok other) → one ≡ other
same_ok one other is = cc

pub same_err : {X E : Type 0} (one other : E) → ◌≡◌ {A = Result X E} (Err one) (Err other) → one ≡ other
same_err one other is = cc

pub not_both : {X E : Type 0} (value : X) (error : E) → ◌≡◌ {A = Result X E} (Ok value) (Err error) → ⊥
not_both value error is = cc

pub none_some : {X : Type 0} (one : X) → None ≡ Some one → ⊥
none_some one is = cc

pub true_false : true ≡ false → ⊥
true_false is = cc
