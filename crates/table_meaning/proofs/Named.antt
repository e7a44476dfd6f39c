-- What the statements show that look for rows by name.
use Rattle.std.proofs.Common.{◌≡◌, ℕ, ◌&&◌, List, [], ◌∷◌, codes, refl, ap}
use Rattle.std.specs.List.{list_all}
use Rattle.sqlite_value.specs.declared.value.Value.TheVariants.{Text}
use Rattle.sqlite_value.specs.declared.keys.Collation.TheVariants.{Binary}
use Rattle.sqlite_value.specs.Order.{Row, column}
use Rattle.sqlite_sql.specs.Term.{holds}
use Rattle.sqlite_schema.specs.Rules.{equal}
use Rattle.sqlite_typed.proofs.TestLemmas.{then_term, last_term}
use Rattle.sqlite_tied.specs.Compute.{everything}
use Rattle.sqlite.specs.Listing.{understood}
use Rattle.table_meaning.specs.declared.tables.TableName.TheVariants.{Account, Version, Unit, Host}
use Rattle.table_meaning.specs.Rows.{places_of, shown, whole}
use Rattle.table_meaning.specs.Formats.{columns_in}
use Rattle.table_meaning.specs.ByKey.{key_tests}
use Rattle.table_meaning.specs.Listings.{account_text, unit_named_text, host_known_text, hosts_text, versions_text, version_text, has_text, is_first, is_of_user, is_host_known, is_version_for, is_version_known}
use Rattle.table_meaning.proofs.ByComputing.{names_of}
use Rattle.table_meaning.proofs.Listings.{IsListed, Lists, ListsFirst, listed_by, first_listed_by}

-- ---- the first row of a name

account_is_listed : IsListed Account (is_first 2 ∷ []) (places_of Account) (names_of Account) account_text
unfolding understood everything
account_is_listed = (refl, (refl, refl), refl)

pub account_shown : (auth : List ℕ) → ListsFirst account_text (Text auth ∷ []) (λ r. columns_in r 3) Account (has_text 1 auth) (λ r. r)
account_shown auth = first_listed_by Account (is_first 2 ∷ []) (places_of Account) (Text auth ∷ []) (has_text 1 auth) (λ r. last_term refl) (λ r. columns_in r 3) (λ r. r) (λ r. refl) _ _ account_is_listed

unit_is_listed : IsListed Unit (is_first 2 ∷ []) (0 ∷ []) (codes "id" ∷ []) unit_named_text
unfolding understood everything
unit_is_listed = (refl, (refl, refl), refl)

pub unit_shown : (name : List ℕ) → ListsFirst unit_named_text (Text name ∷ []) (λ r. column r 0) Unit (has_text 1 name) (λ r. column r 0)
unit_shown name = first_listed_by Unit (is_first 2 ∷ []) (0 ∷ []) (Text name ∷ []) (has_text 1 name) (λ r. last_term refl) (λ r. column r 0) (λ r. column r 0) (λ r. refl) _ _ unit_is_listed

host_is_listed : IsListed Host (key_tests 0 (2 ∷ 3 ∷ [])) (0 ∷ []) (codes "id" ∷ []) host_known_text
unfolding understood everything
host_is_listed = (refl, (refl, refl), refl)

pub host_shown : (account : ℕ) (cpid : List ℕ) → ListsFirst host_known_text (whole account ∷ Text cpid ∷ []) (λ r. column r 0) Host (is_host_known account cpid) (λ r. column r 0)
host_shown account cpid =
    first_listed_by Host (key_tests 0 (2 ∷ 3 ∷ [])) (0 ∷ []) (whole account ∷ Text cpid ∷ []) (is_host_known account cpid) (λ r. then_term refl (last_term refl)) (λ r. column r 0) (λ r. column r 0) (λ r. refl) _ _ host_is_listed

version_is_listed : IsListed Version (key_tests 0 (2 ∷ 3 ∷ 4 ∷ [])) (0 ∷ []) (codes "id" ∷ []) version_text
unfolding understood everything
version_is_listed = (refl, (refl, refl), refl)

version_tested : (app : ℕ) (platform : List ℕ) (num : ℕ) (r : Row) → list_all (holds ((whole app ∷ Text platform ∷ whole num ∷ []) ∷ r ∷ [])) (key_tests 0 (2 ∷ 3 ∷ 4 ∷ [])) ≡ is_version_known app platform num (shown Version r)
version_tested app platform num r = ap (λ b. equal Binary (column r 2) (whole app) && (equal Binary (column r 3) (Text platform) && b)) (last_term refl)

pub version_shown : (app : ℕ) (platform : List ℕ) (num : ℕ) → ListsFirst version_text (whole app ∷ Text platform ∷ whole num ∷ []) (λ r. column r 0) Version (is_version_known app platform num) (λ r. column r 0)
version_shown app platform num =
    first_listed_by Version (key_tests 0 (2 ∷ 3 ∷ 4 ∷ [])) (0 ∷ []) (whole app ∷ Text platform ∷ whole num ∷ []) (is_version_known app platform num) (version_tested app platform num) (λ r. column r 0) (λ r. column r 0) (λ r. refl) _ _
    version_is_listed

-- ---- a column of each row

hosts_are_listed : IsListed Host (is_first 2 ∷ []) (0 ∷ []) (codes "id" ∷ []) hosts_text
unfolding understood everything
hosts_are_listed = (refl, (refl, refl), refl)

pub hosts_shown : (account : ℕ) → Lists hosts_text (whole account ∷ []) (λ r. column r 0) Host (is_of_user account) (λ r. column r 0)
hosts_shown account = listed_by Host (is_first 2 ∷ []) (0 ∷ []) (whole account ∷ []) (is_of_user account) (λ r. last_term refl) (λ r. column r 0) (λ r. column r 0) (λ r. refl) _ _ hosts_are_listed

versions_are_listed : IsListed Version (key_tests 0 (2 ∷ 3 ∷ [])) (4 ∷ []) (codes "num" ∷ []) versions_text
unfolding understood everything
versions_are_listed = (refl, (refl, refl), refl)

pub versions_shown : (app : ℕ) (platform : List ℕ) → Lists versions_text (whole app ∷ Text platform ∷ []) (λ r. column r 0) Version (is_version_for app platform) (λ r. column r 3)
versions_shown app platform =
    listed_by Version (key_tests 0 (2 ∷ 3 ∷ [])) (4 ∷ []) (whole app ∷ Text platform ∷ []) (is_version_for app platform) (λ r. then_term refl (last_term refl)) (λ r. column r 0) (λ r. column r 3) (λ r. refl) _ _ versions_are_listed
