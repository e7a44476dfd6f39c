-- Results that are passed on, and results that are not possible.
use Rattle.std.proofs.Common.{◌≡◌, Ok, Err, ◌∙◌}
use Rattle.std.specs.declared.result.Result.{Result}
use Rattle.std.specs.Result.{IsErrAnd}
use Rattle.table_meaning.specs.declared.rows.StoredAccount.{StoredAccount}
use Rattle.table_meaning.specs.declared.rows.StoredHost.{StoredHost}
use Rattle.table_meaning.specs.declared.rows.StoredRow.TheVariants as stored
use Rattle.table_meaning.specs.declared.rows.StoredVersionClass.{StoredVersionClass}
use Rattle.table_decoding.specs.declared.fault.RowFault.{RowFault}
use Rattle.table_decoding.specs.declared.fault.RowFault.TheVariants.{Unavailable}
use Rattle.table_decoding.specs.Decoding.{Gives}

-- if a call returns `Unavailable` and that is passed on, there is no other result
pub passed_on : {A : Type 0} (r : Result A RowFault) (x : A) (e : RowFault) → IsErrAnd r (λ why. why ≡ e) → e ≡ Unavailable → Gives r x
passed_on (Ok y) x e is unavailable = absurd is
passed_on (Err why) x e is unavailable = is ∙ unavailable

pub not_refused : {A : Type 0} (e : RowFault) (x : A) → ◌≡◌ {A = Result A RowFault} (Err e) (Ok x) → ⊥
not_refused e x is = cc

pub same_given : {A : Type 0} (x y : A) → ◌≡◌ {A = Result A RowFault} (Ok x) (Ok y) → x ≡ y
same_given x y is = cc

pub same_account_row : (x y : StoredAccount) → stored.Account x ≡ stored.Account y → x ≡ y
same_account_row x y is = cc

pub same_class_row : (x y : StoredVersionClass) → stored.VersionClass x ≡ stored.VersionClass y → x ≡ y
same_class_row x y is = cc

pub same_host_row : (x y : StoredHost) → stored.Host x ≡ stored.Host y → x ≡ y
same_host_row x y is = cc
