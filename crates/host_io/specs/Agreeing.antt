-- Files agree with a shelf if they give all answers that the shelf has given so far.
use Rattle.host_io.specs.Files.{Files}

-- this holds of all files that agree
abbrev pub ForFiles : (Files → Type 0) → (Files → Type 0) → Type 0
ForFiles agrees holds = (files : Files) → agrees files → holds files
