-- The lookup results of the code, as the definitions of mount tables have them.
use Rattle.site_table.specs.declared.row.Row.{Row}
use Rattle.kern_mounts.specs.Finds.{Found, row, empty_directory, nothing}
use Rattle.kernel_model.specs.declared.kern_files.find.Found.{Found as Seen}
use Rattle.kernel_model.specs.declared.kern_files.find.Found.TheVariants as seen

-- the borrowed row, an empty directory, or nothing and an errno
abbrev pub shown : Seen → Found Row
shown (seen.Row found) = row found.now
shown seen.EmptyDirectory = empty_directory
shown (seen.Nothing errno) = nothing errno
