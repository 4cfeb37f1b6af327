-- Process 1 of a launched world.
use Rattle.std.proofs.Common.{◌≡◌, List, Some, None, cond, ap, ◌∙◌}
use Rattle.kernel_model.specs.declared.process.Process.{Process}
use Rattle.kernel_model.specs.World.{World, if_alive, living_of, of_number, process_of}
use Rattle.kernel_laws.specs.Launched.{first_of, IsLaunchedWorld}

first_made : (world : World) → IsLaunchedWorld world → process_of world 1 ≡ Some (first_of world)
first_made world s = ap (λ (ps : List Process). of_number ps 1) s.alone

pub first_lives : (world : World) → IsLaunchedWorld world → living_of world 1 ≡ Some (first_of world)
first_lives world s = ap if_alive (first_made world s) ∙ ap (λ b. cond b (Some (first_of world)) None) s.lives
