-- A site is read part by part.
use Rattle.std.proofs.Common.{◌≡◌, ◌≢◌, ℕ, Bool, true, false, cond, List, [], ◌∷◌, ◌++◌, map, Option, Some, None, Result, Ok, Err, refl, sym, ap}
use Rattle.std.proofs.Common.{◌∙◌, subst, append-nil}
use Rattle.std.specs.Prelude.{codes, unwrap_or, IfOk, IfErr}
use Rattle.std.specs.Str.{IsUtf8, is_utf8}
use Rattle.std.proofs.lemmas.Str.{IsUtf8-from_is_utf8, is_utf8-from_IsUtf8}
use Rattle.toml.specs.Data.{Data, Members, table}
use Rattle.toml.specs.Parse.{parse_document}
use Rattle.site_table.specs.declared.row.Row.{Row}
use Rattle.site_table.specs.declared.accounts.User.{User}
use Rattle.site_table.specs.declared.accounts.Group.{Group}
use Rattle.site_table.specs.declared.error.SiteError.{SiteError}
use Rattle.site_table.specs.declared.error.SiteError.TheVariants.{NotToml, Top, TooMany, Row as BadRow, User as BadUser, Group as BadGroup}
use Rattle.site_table.specs.declared.error.SiteError.TheVariants.{Memory}
use Rattle.site_table.specs.Ids.{id_at, spaces_at}
use Rattle.site_table.specs.Order.{rows_in_order, with_fixed}
use Rattle.site_table.specs.Owners.{user_of, group_of}
use Rattle.site_table.specs.Reading.{rows_in, users_in, groups_in, row_faults, user_faults, group_faults, is_too_large, size_faults}
use Rattle.site_table.specs.Reading.{top_faults, faults_of, site_in, unless_fault, site_of, site_of_tree, IsUnlessMemory}
use Rattle.site_table.specs.Rows.{row_of}
use Rattle.site_table.specs.Table.{Site, IsSite}
use Rattle.site_table.specs.Versions.{systemd_at}
use Rattle.site_table.specs.Rings.{rings_at}
use Rattle.unit_names.specs.declared.version.Version.{Version}
use Rattle.site_table.proofs.Answering.{accepted, stops_first}
use Rattle.site_table.proofs.SiteHolds.{site_holds}

-- the top has no fault, and the site is not too large
pub record IsBegun (site : Data) (uid spaces : ℕ) (systemd : Option Version) (io_uring : Bool) : Type 0 where
  pub top : (top_faults site ≡ []) × (id_at (codes "dynamic_uid") site ≡ Some uid) × (spaces_at site ≡ Some spaces)
      × (systemd_at site ≡ Some systemd)
  pub rings : rings_at site ≡ io_uring
  pub size : is_too_large site ≡ false

begun_faults : (site : Data) (uid spaces : ℕ) (systemd : Option Version) (io_uring : Bool) → IsBegun site uid spaces systemd io_uring → top_faults site ++ size_faults site ≡ []
begun_faults site uid spaces systemd io_uring begun = ap (λ faults. faults ++ size_faults site) begun.top.0 ∙ ap (λ b. cond b (TooMany ∷ []) []) begun.size

module _ (site : Data) (uid spaces : ℕ) (systemd : Option Version) (io_uring : Bool) (rows : List Row) (begun : IsBegun site uid spaces systemd io_uring) (rows_read : unless_fault (row_faults (rows_in site)) (rows_in_order (with_fixed (map row_of (rows_in site)))) ≡ Ok rows) where
  no_row : row_faults (rows_in site) ≡ []
  no_row = (accepted (row_faults (rows_in site)) (rows_in_order (with_fixed (map row_of (rows_in site)))) rows rows_read).0

  after_rows : faults_of site ≡ user_faults (users_in site) ++ group_faults (groups_in site)
  after_rows =
      ap (λ faults. ((faults ++ row_faults (rows_in site)) ++ user_faults (users_in site)) ++ group_faults (groups_in site))
      (begun_faults site uid spaces systemd io_uring begun)
      ∙ ap (λ faults. (faults ++ user_faults (users_in site)) ++ group_faults (groups_in site)) no_row

  -- a user has a fault, or memory ran out
  pub users_stop : (error : SiteError) → IsUnlessMemory (λ (read : List User). read) (Err error)
      (unless_fault (user_faults (users_in site)) (map user_of (users_in site)))
      → IsUnlessMemory (λ (table : Site). table) (Err error) (unless_fault (faults_of site) (site_in site))
  users_stop error h =
      subst (λ (faults : List SiteError). IsUnlessMemory (λ (table : Site). table) (Err error) (unless_fault faults (site_in site)))
      (sym after_rows)
      (stops_first (λ (read : List User). read) (λ (table : Site). table) (user_faults (users_in site)) (group_faults (groups_in site))
      (map user_of (users_in site)) (site_in site) error h)

  module _ (users : List User) (users_read : unless_fault (user_faults (users_in site)) (map user_of (users_in site)) ≡ Ok users) where
    after_users : faults_of site ≡ group_faults (groups_in site)
    after_users =
        after_rows ∙ ap (λ faults. faults ++ group_faults (groups_in site))
        (accepted (user_faults (users_in site)) (map user_of (users_in site)) users users_read).0

    -- a group has a fault, or memory ran out
    pub groups_stop : (error : SiteError) → IsUnlessMemory (λ (read : List Group). read) (Err error)
        (unless_fault (group_faults (groups_in site)) (map group_of (groups_in site)))
        → IsUnlessMemory (λ (table : Site). table) (Err error) (unless_fault (faults_of site) (site_in site))
    groups_stop error h =
        subst (λ (faults : List SiteError). IsUnlessMemory (λ (table : Site). table) (Err error) (unless_fault faults (site_in site)))
        (sym (after_users ∙ sym (append-nil (group_faults (groups_in site)))))
        (stops_first (λ (read : List Group). read) (λ (table : Site). table) (group_faults (groups_in site)) []
        (map group_of (groups_in site)) (site_in site) error h)

    -- the whole site has no fault
    pub record IsRead (groups : List Group) : Type 0 where
      pub faultless : faults_of site ≡ []
      pub says : site_in site ≡ record { dynamic_uid = uid; user_namespaces = spaces; systemd = systemd; io_uring = io_uring; rows = rows; users = users; groups = groups }

    pub whole : (groups : List Group) → unless_fault (group_faults (groups_in site)) (map group_of (groups_in site)) ≡ Ok groups
        → IsRead groups
    whole groups groups_read =
        let rows_said : rows_in_order (with_fixed (map row_of (rows_in site))) ≡ rows = (accepted (row_faults (rows_in site)) (rows_in_order (with_fixed (map row_of (rows_in site)))) rows rows_read).1 in
        let users_said : map user_of (users_in site) ≡ users = (accepted (user_faults (users_in site)) (map user_of (users_in site)) users users_read).1 in
        let groups_said = accepted (group_faults (groups_in site)) (map group_of (groups_in site)) groups groups_read in
        let uid_said : unwrap_or (id_at (codes "dynamic_uid") site) 0 ≡ uid = ap (λ id. unwrap_or id 0) begun.top.1 in
        let spaces_said : unwrap_or (spaces_at site) 0 ≡ spaces = ap (λ id. unwrap_or id 0) begun.top.2 in
        let systemd_said : unwrap_or (systemd_at site) None ≡ systemd = ap (λ version. unwrap_or version None) begun.top.3 in
        let rings_said : rings_at site ≡ io_uring = begun.rings in
        let groups_are : map group_of (groups_in site) ≡ groups = groups_said.1 in
        record { faultless = after_users ∙ groups_said.0; says = cc }

    pub holds : (groups : List Group) → IsRead groups → IsSite
        (record { dynamic_uid = uid; user_namespaces = spaces; systemd = systemd; io_uring = io_uring; rows = rows; users = users; groups = groups })
    holds groups read = subst IsSite read.says (site_holds site read.faultless)

    pub answered : (groups : List Group) → IsRead groups → unless_fault (faults_of site) (site_in site)
        ≡ Ok (record { dynamic_uid = uid; user_namespaces = spaces; systemd = systemd; io_uring = io_uring; rows = rows; users = users; groups = groups })
    answered groups read = ap (λ faults. unless_fault faults (site_in site)) read.faultless ∙ ap Ok read.says

-- ---- from the bytes

is_false : (b : Bool) → (b ≡ true → ⊥) → b ≡ false
is_false true h = absurd (h refl)
is_false false h = refl

-- the bytes are a tree
pub of_tree : (bytes : List ℕ) (tree : Members) → IsUtf8 bytes → parse_document bytes ≡ Some tree
    → site_of bytes ≡ unless_fault (faults_of (table tree)) (site_in (table tree))
of_tree bytes tree text read =
    ap (λ b. site_of_tree (cond b (parse_document bytes) None)) (is_utf8-from_IsUtf8 bytes text) ∙ ap site_of_tree read

-- the bytes are no tree
pub no_tree : (bytes : List ℕ) → (IsUtf8 bytes → parse_document bytes ≡ None) → site_of bytes ≡ Err NotToml
no_tree bytes h = by (is_utf8 bytes) refl
  where
    by : (b : Bool) → is_utf8 bytes ≡ b → site_of_tree (cond b (parse_document bytes) None) ≡ Err NotToml
    by true e = ap site_of_tree (h (IsUtf8-from_is_utf8 bytes e))
    by false e = refl

-- the answer about the bytes
pub said_if_ok : (wanted : Result Site SiteError) (result : Result Site SiteError)
    → IsUnlessMemory (λ (table : Site). table) result wanted → IfOk result (λ site. wanted ≡ Ok site)
said_if_ok wanted (Ok site) h = h
said_if_ok wanted (Err error) h = tt

pub told_if_err : (wanted : Result Site SiteError) (result : Result Site SiteError)
    → IsUnlessMemory (λ (table : Site). table) result wanted → IfErr result (λ error. error ≢ Memory → wanted ≡ Err error)
told_if_err wanted (Ok site) h = tt
told_if_err wanted (Err Memory) h = λ other. absurd (other refl)
told_if_err wanted (Err NotToml) h = λ other. h
told_if_err wanted (Err Top) h = λ other. h
told_if_err wanted (Err TooMany) h = λ other. h
told_if_err wanted (Err (BadRow number cause)) h = λ other. h
told_if_err wanted (Err (BadUser number)) h = λ other. h
told_if_err wanted (Err (BadGroup number)) h = λ other. h
