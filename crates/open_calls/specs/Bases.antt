-- The facts of a launch on which the ways to a capability depend.
use Rattle.std.specs.Prelude.{◌≡◌}
use Rattle.ceilings.specs.kernel_laws.Bound.{power_of}
use Rattle.ceilings.specs.kernel_laws.declared.question_types.kind.CallKind.TheVariants.{SetsCaps, TakesUid, TakesGid}
use Rattle.ceilings.specs.kernel_laws.Launched.{Launch, lets}
use Rattle.open_calls.specs.declared.basis.Basis.{Basis}

-- its power over mount tables; capset(2); setuid(2) and similar calls; setgid(2) and similar calls
pub record IsBasis (launch : Launch) (basis : Basis) : Type 0 where
  pub power : basis.power ≡ power_of launch
  pub sets_caps : basis.sets_caps ≡ lets launch SetsCaps
  pub takes_uid : basis.takes_uid ≡ lets launch TakesUid
  pub takes_gid : basis.takes_gid ≡ lets launch TakesGid
