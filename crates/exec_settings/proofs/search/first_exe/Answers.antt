use Rattle.std.proofs.Common.{rules, ◌≡◌, [], Ok, Some, get_or, find}
use Rattle.std.specs.List.{cons_option}
use Rattle.exec_settings.specs.Search.{has_exe, path_in}
use Rattle.exec_settings.proofs.Searching.{found_in, given}
use Rattle.exec_settings.proofs.search.first_exe.Goals as goal

-- src/search.rt:103:13
pub returns-in-Some : goal.returns-in-Some
returns-in-Some c =
    let is : c.exe_in.result ≡ Ok (Some c.in-Some.path) = cc in
    found_in (has_exe c.args.site.now) (path_in c.args.name.now) c.args.folders.now c.loop-folder.folder-index (record { ref_ptr = (0, 0); now = [] })
    c.in-Some.path (search rules)
    (given (λ path. path ≡ find (has_exe c.args.site.now) (cons_option (path_in c.args.name.now (get_or c.args.folders.now c.loop-folder.folder-index (record { ref_ptr = (0, 0); now = [] })).now) []))
    c.exe_in.result (Some c.in-Some.path) is c.exe_in.ensures)
    c.loop-folder.invariant
