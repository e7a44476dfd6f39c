-- Words. Two rows may be in one world if and only if their keys differ.
use Rattle.std.specs.Prelude.{◌≡◌, ◌≢◌, ◌↔◌, ℕ, ◌&&◌, ◌==◌, IsTrue, List, []}
use Rattle.std.specs.Bool.{Decides}
use Rattle.std.specs.Str.{bytes_eq}
use Rattle.std.proofs.Common.{ap}
use Rattle.std.proofs.lemmas.Bool.Decides.{Decides-and, Decides-eqb}
use Rattle.std.proofs.lemmas.Slice.Eq.{bytes_eq-Decides}
use Rattle.sched_book.specs.Imports.{same_version}
use Rattle.sched_book.specs.Sound.{HaveOtherKeys}
use Rattle.sched_book.specs.declared.rows.HostRow.{HostRow}
use Rattle.sched_book.specs.declared.rows.Version.{Version}
use Rattle.sched_book.specs.Keys.{Key, named, version_key, host_key}

pub names_apart : (s t : List ℕ) → (s ≢ t) ↔ (named s ≢ named t)
names_apart s t = (λ apart e. apart (ap (λ (k : Key). k.2) e), λ apart e. apart (ap named e))

AreAlike : Version → Version → Type 0
AreAlike v u = ((v.app ≡ u.app) × (v.platform ≡ u.platform)) × (v.version_num ≡ u.version_num)

same_version-Decides : (v u : Version) → Decides (same_version v u) (AreAlike v u)
unfolding AreAlike
same_version-Decides v u =
    Decides-and (bytes_eq v.app u.app && bytes_eq v.platform u.platform) (v.version_num == u.version_num)
    (Decides-and (bytes_eq v.app u.app) (bytes_eq v.platform u.platform) (bytes_eq-Decides v.app u.app) (bytes_eq-Decides v.platform u.platform))
    (Decides-eqb v.version_num u.version_num)

pub versions_apart : (v u : Version) → (IsTrue (same_version v u) → ⊥) ↔ (version_key v ≢ version_key u)
unfolding AreAlike
versions_apart v u = (
  λ apart e. apart ((same_version-Decides v u).1 ((ap (λ (k : Key). k.2) e, ap (λ (k : Key). k.1) e), ap (λ (k : Key). k.0) e)),
  λ apart is. let same = (same_version-Decides v u).0 is in apart (λ i. (same.1 i, same.0.1 i, same.0.0 i)),
)

pub hosts_apart : (h k : HostRow) → HaveOtherKeys h k ↔ (host_key h ≢ host_key k)
hosts_apart h k = (
  λ apart e. apart (ap (λ (key : Key). key.0) e) (ap (λ (key : Key). key.2) e),
  λ apart account cpid. apart (λ i. (account i, [], cpid i)),
)
