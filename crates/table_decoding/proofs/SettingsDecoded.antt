-- The values that rows give for a setting.
use Rattle.std.proofs.Common.{◌≡◌, ℕ, cond, List, Option, Some, None, refl, sym, ap, ◌∙◌, inl, inr}
use Rattle.std.specs.Prelude.{option_map}
use Rattle.std.specs.Str.{bytes_eq}
use Rattle.std.proofs.lemmas.Option.{none-some, same_Some, cond_some}
use Rattle.std.proofs.lemmas.Slice.Eq.{bytes_eq-Decides}
use Rattle.sqlite_rules.specs.Lists.{Has}
use Rattle.sched_book.specs.declared.settings.Settings.{Settings}
use Rattle.table_meaning.specs.declared.rows.SettingValue.{SettingValue}
use Rattle.table_meaning.specs.declared.rows.StoredRow.{StoredRow}
use Rattle.table_meaning.specs.Worlds.{setting_in}
use Rattle.table_worlds.specs.RowsOf.{setting_names, setting_rows, HaveSame}
use Rattle.table_worlds.proofs.RowsHold.{given_by}
use Rattle.table_decoding.specs.Decoding.{GivesSetting, GiveSettings, told_of, of_setting}

-- a row of the settings gives one of them
listed : (s : Settings) (r : StoredRow) → Has (setting_rows s) r → (name : List ℕ) × (value : SettingValue) × (setting_in s name ≡ Some value) × (r ≡ of_setting name value)
listed s r has = let from = given_by (λ name. option_map (of_setting name) (setting_in s name)) setting_names r has in go from.0 (setting_in s from.0) refl from.2
  where
    go : (name : List ℕ) (o : Option SettingValue) → setting_in s name ≡ o → option_map (of_setting name) o ≡ Some r
        → (name : List ℕ) × (value : SettingValue) × (setting_in s name ≡ Some value) × (r ≡ of_setting name value)
    go name None is none = absurd (none-some r none)
    go name (Some value) is some = (name, value, is, sym (same_Some (of_setting name value) r some))

-- the value that such a row gives for a name is the setting of that name
told_is : (s : Settings) (r : StoredRow) (name : List ℕ) (value : SettingValue) → Has (setting_rows s) r → told_of name r ≡ Some value → setting_in s name ≡ Some value
told_is s r name value has tells =
    let of_row = listed s r has in
    let same = cond_some (bytes_eq of_row.0 name) of_row.1 value (sym (ap (told_of name) of_row.3) ∙ tells) in
    ap (setting_in s) (sym ((bytes_eq-Decides of_row.0 name).0 same.0)) ∙ of_row.2 ∙ ap Some same.1

tells_itself : (name : List ℕ) (value : SettingValue) → told_of name (of_setting name value) ≡ Some value
tells_itself name value = ap (λ b. cond b (Some value) None) ((bytes_eq-Decides name name).1 refl)

module _ (s : Settings) (rows : List StoredRow) (same : HaveSame rows (setting_rows s)) where
  tells : (name : List ℕ) (value : SettingValue) → Has (setting_rows s) (of_setting name value) → GivesSetting rows name value
  tells name value has = record {
    this = same.1 (of_setting name value) has;
    alone = λ r other here says.
        same_Some other value (sym (told_is s r name other (same.0 r here) says) ∙ told_is s (of_setting name value) name value has (tells_itself name value));
  }

  -- the rows of the settings give these settings
  pub all_told : GiveSettings rows s
  all_told = record {
    daily_result_quota = tells _ _ (inr (inl refl));
    max_hosts = tells _ _ (inr (inr (inl refl)));
    max_wus_in_progress = tells _ _ (inr (inr (inr (inl refl))));
    max_wus_to_send = tells _ _ (inr (inr (inr (inr (inl refl)))));
    operator_key = tells _ _ (inr (inr (inr (inr (inr (inl refl))))));
    request_delay = tells _ _ (inr (inr (inr (inr (inr (inr (inl refl)))))));
    resend_lost_results = tells _ _ (inr (inr (inr (inr (inr (inr (inr (inl refl))))))));
  }

-- ---- what the first row of a name gives

module _ (rows : List StoredRow) (name : List ℕ) (value : SettingValue) (these : GivesSetting rows name value) where
  pub found_told : (r : StoredRow) (other : SettingValue) → Has rows r → Some other ≡ told_of name r → Some other ≡ Some value
  found_told r other here says = ap Some (these.alone r other here (sym says))

  pub not_none : ((r : StoredRow) → Has rows r → told_of name r ≡ None) → ⊥
  not_none none = none-some value (sym (none (of_setting name value) these.this) ∙ tells_itself name value)
