-- Flags that others have too.
use Rattle.std.proofs.Common.{◌≡◌, Bool, true, false, refl}
use Rattle.std.specs.Prelude.{◌&&◌, ◌||◌, not}
use Rattle.std.proofs.lemmas.Bool.{or_parts, false≢true}
use Rattle.kern_mounts.specs.declared.step.Flags.{Flags}
use Rattle.kern_mounts.specs.Keeping.{AreAmong}

own : (a : Bool) → (a && not a) ≡ false
own true = refl
own false = refl

on : (a b c : Bool) → (a && not b) ≡ false → (b && not c) ≡ false → (a && not c) ≡ false
on false b c h g = refl
on true false c h g = absurd (false≢true (sym' h))
  where
    sym' : true ≡ false → false ≡ true
    sym' e = cc
on true true c h g = g

neither : (a b c : Bool) → a ≡ false → b ≡ false → c ≡ false → (a || (b || c)) ≡ false
neither false false false h g k = refl
neither true b c h g k = h
neither false true c h g k = g
neither false false true h g k = k

pub among_itself : (flags : Flags) → AreAmong flags flags
among_itself flags = neither _ _ _ (own flags.read_only) (own flags.no_exec) (own flags.no_suid)

pub among_trans : (few some more : Flags) → AreAmong few some → AreAmong some more → AreAmong few more
among_trans few some more h g =
    let a = or_parts (few.read_only && not some.read_only) ((few.no_exec && not some.no_exec) || (few.no_suid && not some.no_suid)) h in
    let b = or_parts (few.no_exec && not some.no_exec) (few.no_suid && not some.no_suid) a.1 in
    let c = or_parts (some.read_only && not more.read_only) ((some.no_exec && not more.no_exec) || (some.no_suid && not more.no_suid)) g in
    let d = or_parts (some.no_exec && not more.no_exec) (some.no_suid && not more.no_suid) c.1 in
    neither _ _ _
    (on few.read_only some.read_only more.read_only a.0 c.0)
    (on few.no_exec some.no_exec more.no_exec b.0 d.0)
    (on few.no_suid some.no_suid more.no_suid b.1 d.1)
