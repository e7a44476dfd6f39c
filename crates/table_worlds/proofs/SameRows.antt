-- What `==` means for two rows of a table: they are equal.
use Rattle.std.proofs.Common.{◌≡◌, Bool, true≢false, Option, Some, None, rules, refl, sym, ap, subst}
use Rattle.std.specs.Bool.{Decides}
use Rattle.std.specs.Cmp.{booleans_Decides}
use Rattle.std.specs.Cmp.Rules.{hashing}
use Rattle.std.specs.Option.{option_eq}
use Rattle.std.proofs.lemmas.Bool.Decides.{Decides-at, Decides-and, Decides-like, Decides-eqb, Decides-int_eq}
use Rattle.std.proofs.lemmas.Option.{none-some, same_Some}
use Rattle.std.proofs.lemmas.Slice.Eq.{bytes_eq-Decides}
use Rattle.table_meaning.specs.declared.rows.StoredSetting.{StoredSetting}
use Rattle.table_meaning.specs.declared.rows.StoredAccount.{StoredAccount}
use Rattle.table_meaning.specs.declared.rows.StoredApp.{StoredApp}
use Rattle.table_meaning.specs.declared.rows.StoredVersion.{StoredVersion}
use Rattle.table_meaning.specs.declared.rows.StoredUnit.{StoredUnit}
use Rattle.table_meaning.specs.declared.rows.StoredHost.{StoredHost}
use Rattle.table_meaning.specs.declared.rows.StoredInstance.{StoredInstance}
use Rattle.table_meaning.specs.declared.rows.StoredCall.{StoredCall}
use Rattle.table_meaning.specs.declared.rows.StoredBatch.{StoredBatch}
use Rattle.table_meaning.specs.declared.rows.StoredVersionClass.{StoredVersionClass}
use Rattle.table_meaning.specs.declared.rows.StoredUnitMark.{StoredUnitMark}
use Rattle.table_meaning.specs.contracts.rows.StoredSettingPartialEq.TheImpl as setting
use Rattle.table_meaning.specs.contracts.rows.StoredAccountPartialEq.TheImpl as account
use Rattle.table_meaning.specs.contracts.rows.StoredAppPartialEq.TheImpl as app
use Rattle.table_meaning.specs.contracts.rows.StoredVersionPartialEq.TheImpl as version
use Rattle.table_meaning.specs.contracts.rows.StoredUnitPartialEq.TheImpl as unit
use Rattle.table_meaning.specs.contracts.rows.StoredHostPartialEq.TheImpl as host
use Rattle.table_meaning.specs.contracts.rows.StoredInstancePartialEq.TheImpl as instance
use Rattle.table_meaning.specs.contracts.rows.StoredCallPartialEq.TheImpl as call
use Rattle.table_meaning.specs.contracts.rows.StoredBatchPartialEq.TheImpl as batch
use Rattle.table_meaning.specs.contracts.rows.StoredVersionClassPartialEq.TheImpl as class
use Rattle.table_meaning.specs.contracts.rows.StoredUnitMarkPartialEq.TheImpl as mark

option_same : {X : Type 0} {E : X → X → Bool} → ((x y : X) → Decides (E x y) (x ≡ y)) → (o p : Option X) → Decides (option_eq E o p) (o ≡ p)
option_same is None None = (λ _. refl, λ _. refl)
option_same is None (Some y) = (λ same. absurd (true≢false (sym same)), λ same. absurd (none-some y same))
option_same is (Some x) None = (λ same. absurd (true≢false (sym same)), λ same. absurd (none-some x (sym same)))
option_same is (Some x) (Some y) = (λ same. ap Some ((is x y).0 same), λ same. (is x y).1 (same_Some x y same))

pub setting_same : (x y : StoredSetting) → Decides ((setting.ghosts).eq x y) (x ≡ y)
setting_same x y = search (hashing, rules)

pub account_same : (x y : StoredAccount) → Decides ((account.ghosts).eq x y) (x ≡ y)
account_same x y = search (hashing, rules)

pub app_same : (x y : StoredApp) → Decides ((app.ghosts).eq x y) (x ≡ y)
app_same x y = search (hashing, rules)

pub version_same : (x y : StoredVersion) → Decides ((version.ghosts).eq x y) (x ≡ y)
version_same x y = search (hashing, rules)

pub unit_same : (x y : StoredUnit) → Decides ((unit.ghosts).eq x y) (x ≡ y)
unit_same x y = search (hashing, rules)

pub host_same : (x y : StoredHost) → Decides ((host.ghosts).eq x y) (x ≡ y)
host_same x y = search (hashing, rules)

pub call_same : (x y : StoredCall) → Decides ((call.ghosts).eq x y) (x ≡ y)
call_same x y = search (hashing, rules)

pub batch_same : (x y : StoredBatch) → Decides ((batch.ghosts).eq x y) (x ≡ y)
batch_same x y = search (hashing, rules)

pub class_same : (x y : StoredVersionClass) → Decides ((class.ghosts).eq x y) (x ≡ y)
class_same x y = search (hashing, rules)

pub mark_same : (x y : StoredUnitMark) → Decides ((mark.ghosts).eq x y) (x ≡ y)
mark_same x y = search (hashing, rules)

-- two rows of instances have the same columns
abbrev AreSame : StoredInstance → StoredInstance → Type 0
AreSame x y = (x.unit_id ≡ y.unit_id) × ((x.num ≡ y.num) × ((x.host_id ≡ y.host_id) × ((x.sent ≡ y.sent) × ((x.deadline ≡ y.deadline) × ((x.lapse ≡ y.lapse)
    × ((x.outcome ≡ y.outcome) × ((x.output ≡ y.output) × ((x.place ≡ y.place) × (x.queued ≡ y.queued)))))))))

-- (these rows have too many options for a search)
pub instance_same : (x y : StoredInstance) → Decides ((instance.ghosts).eq x y) (x ≡ y)
instance_same x y =
    let host = option_same Decides-eqb x.host_id y.host_id in
    let sent = option_same Decides-int_eq x.sent y.sent in
    let deadline = option_same Decides-int_eq x.deadline y.deadline in
    let outcome = option_same Decides-eqb x.outcome y.outcome in
    let output = option_same bytes_eq-Decides x.output y.output in
    let place = option_same Decides-eqb x.place y.place in
    let report = Decides-and _ _ outcome (Decides-and _ _ output (Decides-and _ _ place (booleans_Decides x.queued y.queued))) in
    let owner = Decides-and _ _ host (Decides-and _ _ sent (Decides-and _ _ deadline (Decides-and _ _ (Decides-eqb x.lapse y.lapse) report))) in
    let all = Decides-and _ _ (Decides-eqb x.unit_id y.unit_id) (Decides-and _ _ (Decides-eqb x.num y.num) owner) in
    Decides-like _
    (λ (p : AreSame x y) i. record {
      unit_id = p.0 i;
      num = p.1.0 i;
      host_id = p.1.1.0 i;
      sent = p.1.1.1.0 i;
      deadline = p.1.1.1.1.0 i;
      lapse = p.1.1.1.1.1.0 i;
      outcome = p.1.1.1.1.1.1.0 i;
      output = p.1.1.1.1.1.1.1.0 i;
      place = p.1.1.1.1.1.1.1.1.0 i;
      queued = p.1.1.1.1.1.1.1.1.1 i;
    })
    (λ is. subst (AreSame x) is (refl, (refl, (refl, (refl, (refl, (refl, (refl, (refl, (refl, refl)))))))))) all

pub ruleset same_rows = (Decides-at, setting_same, account_same, app_same, version_same, unit_same, host_same, instance_same, call_same, batch_same, class_same, mark_same)
