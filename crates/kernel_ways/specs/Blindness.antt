-- A folder is blind by the launched mount table exactly if no list of calls exposes it.
use Rattle.std.specs.Prelude.{◌≡◌, true, false, List}
use Rattle.launcher.specs.abs_path.Paths.{Path}
use Rattle.launcher.specs.kernel_model.kernel_calls.Calls.{AreCalls}
use Rattle.launcher.specs.kernel_model.declared.kernel_calls.call.Call.{Call}
use Rattle.launcher.specs.kernel_model.Runs.{moments, run, AllDone}
use Rattle.launcher.specs.kernel_model.World.{World}
use Rattle.launcher.specs.kernel_laws.Blind.{IsFolder, is_blind}
use Rattle.launcher.specs.kernel_laws.Denied.{Exposes, IsBlind}
use Rattle.launcher.specs.kernel_laws.Launched.{launch_of}
use Rattle.kernel_ways.specs.Laws.{IsServedWorld}

-- every call of the list is done, and then a path of a living process has its host place strictly below the folder
pub record ExposesAfter (world : World) (calls : List Call) (folder : Path) : Type 0 where
  pub fit : AreCalls calls
  pub done : AllDone (moments world calls)
  pub exposes : Exposes folder (run world calls)

-- some list of calls exposes the folder
abbrev pub IsExposed : World → Path → Type 0
IsExposed world folder = (calls : List Call) × ExposesAfter world calls folder

-- the folder is blind by the table exactly if no list of calls exposes it, and not blind exactly if some list does
pub record IsBlindExactly (world : World) (folder : Path) : Type 0 where
  pub hides : is_blind (launch_of world) folder ≡ true → IsBlind world folder
  pub stays_hidden : IsBlind world folder → is_blind (launch_of world) folder ≡ true
  pub exposes : is_blind (launch_of world) folder ≡ false → IsExposed world folder
  pub stays_exposed : IsExposed world folder → is_blind (launch_of world) folder ≡ false

abbrev pub BlindIsExact : Type 0
BlindIsExact = (world : World) (folder : Path) → IsServedWorld world → IsFolder folder → IsBlindExactly world folder
