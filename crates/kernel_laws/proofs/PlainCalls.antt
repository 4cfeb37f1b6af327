-- What is shown is not denied.
use Rattle.std.proofs.Common.{inl, inr}
use Rattle.kernel_laws.specs.Denied.{Reaches}
use Rattle.kernel_laws.specs.PlainCalls.{ShownIsNotDenied}
use Rattle.kernel_laws.proofs.Moments.{last_any}

pub shown_is_not_denied : ShownIsNotDenied
shown_is_not_denied world question list s d = elim s.last [
  | inl moment ↦ d.no_moment list s.fit (last_any (Reaches question) _ moment)
  | inr state ↦ d.no_world list s.fit state
]
