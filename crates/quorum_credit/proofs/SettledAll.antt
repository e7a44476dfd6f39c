-- The steps of settlement lead to the settled world.
use Rattle.std.proofs.Common.{◌≡◌, ℕ, ◌≤◌, Bool, true, false, cond, eqb, List, [], ◌∷◌, ◌++◌, length, Option, Some, None, drop, sym, refl, ap, ◌∙◌, subst, append_assoc, arith}
use Rattle.std.specs.Prelude.{IsTrue, is_some, map, option_map, sum_by}
use Rattle.std.specs.List.{enumerate_from, list_any}
use Rattle.std.proofs.lemmas.Bool.Decides.{nat_tests}
use Rattle.std.proofs.lemmas.Bool.{or_parts}
use Rattle.std.proofs.Math.Seq.{drop-append_seam}
use Rattle.std.proofs.lemmas.List.Sums.{fold-append}
use Rattle.sched_book.specs.Places.{nth, unit_at}
use Rattle.sched_book.specs.Reports.{modify_nth}
use Rattle.sched_book.specs.Delta.{with_instance, edited_one, edited, EditFits, EditsFit}
use Rattle.sched_book.specs.Classes.{imported, with_class}
use Rattle.sched_book.specs.Limits.{IsHostInLimits, IsUnitInLimits}
use Rattle.sched_book.specs.Settle.{grown, with_grown, charges, merits, next_quota, with_quota, settled}
use Rattle.sched_book.specs.Sound.{IsSoundUnit, IsSoundHost, Sound}
use Rattle.sched_book.specs.declared.delta.Edit.{Edit}
use Rattle.sched_book.specs.declared.delta.Edit.TheVariants as edit
use Rattle.sched_book.specs.declared.instance.UnitBook.{UnitBook}
use Rattle.sched_book.specs.declared.rows.HostRow.{HostRow}
use Rattle.sched_book.specs.declared.rows.Workunit.{Workunit}
use Rattle.sched_book.specs.declared.settings.Settings.{Settings}
use Rattle.sched_book.specs.declared.world.World.{World}
use Rattle.sched_book.proofs.Classes.{first_stays, imported_in_limits}
use Rattle.sched_book.proofs.PlacesOf.{nth-modify_nth, nth-within}
use Rattle.sched_book.proofs.Settling.{settlement_is_pointwise}
use Rattle.quorum_credit.specs.Scores.{charges_in, merits_in, unit_charges, unit_merits}
use Rattle.quorum_credit.specs.Settling.{TouchJust, with_grown_among, quota_by, with_quotas_by, AreHostsInLimits, AreUnitsInLimits, AreQuotasBy, IsSettlement}
use Rattle.call_working_set.specs.WorkingSets.{IsUnitStateAt, AreAllOf, AreRising, is_among}
use Rattle.call_working_set.specs.UnitState.{UnitState}
use Rattle.quorum_credit.specs.Growing.{all_growth}
use Rattle.quorum_credit.specs.Scoring.{scores_of_units}
use Rattle.quorum_credit.specs.Taken.{touches, AreTouched}
use Rattle.quorum_credit.specs.declared.scores.Score.{Score}
use Rattle.sched_book.proofs.ByPlace.{all_nth}
use Rattle.sched_book.proofs.Fitting.{all_settings_stay, all_apps_stay}
use Rattle.quorum_credit.proofs.Grown.{grown_sound, others_need_nothing, all_grown_among}
use Rattle.quorum_credit.specs.Tallies.{number_got}
use Rattle.quorum_credit.proofs.Numbered.{number_within}
use Rattle.call_working_set.proofs.SetRows.{nth-set_nth}
use Rattle.quorum_credit.proofs.GrownFits.{fits_then, all_fit}
use Rattle.quorum_credit.proofs.Scored.{charges_in-scores, merits_in-scores}
use Rattle.quorum_credit.proofs.NewlyCounted.{charges_touched, merits_touched}

-- what edits leave
unit_stays : (w : World) (c : Edit) (unit : ℕ) → touches unit c ≡ false → unit_at (edited_one w c) unit ≡ unit_at w unit
unit_stays w (edit.Host number h) unit other = refl
unit_stays w (edit.Instance p x) unit other =
    nth-modify_nth (with_instance p.number x) w.units p.unit unit
    ∙ ap (λ b. cond b (option_map (with_instance p.number x) (nth w.units unit)) (nth w.units unit)) other
unit_stays w (edit.Class place class) unit other =
    nth-modify_nth (with_class class) w.units place unit
    ∙ ap (λ b. cond b (option_map (with_class class) (nth w.units unit)) (nth w.units unit)) other

pub others_stay : (w : World) (cs : List Edit) (unit : ℕ) → list_any (touches unit) cs ≡ false
    → unit_at (edited w cs) unit ≡ unit_at w unit
others_stay w [] unit other = refl
others_stay w (c ∷ cs) unit other =
    let apart = or_parts (touches unit c) (list_any (touches unit) cs) other in
    others_stay (edited_one w c) cs unit apart.1 ∙ unit_stays w c unit apart.0

touch_just : (w : World) (cs : List Edit) (units : List ℕ) → AreTouched cs units → TouchJust units w (edited w cs)
touch_just w cs units touched = record {
  rising = touched.rising;
  settings = all_settings_stay w cs;
  apps = all_apps_stay w cs;
  others = λ unit other. others_stay w cs unit (sym (touched.just unit) ∙ other);
}

-- an untouched workunit is as in the sound world, and needs nothing
untouched_stays : (units : List ℕ) (old changed : World) → Sound old → TouchJust units old changed → (unit : ℕ) → is_among units unit ≡ false
    → unit_at (with_grown changed) unit ≡ unit_at old unit
untouched_stays units old changed sound touch unit other =
    (settlement_is_pointwise changed changed).unit unit
    ∙ ap (option_map (grown changed.apps)) (touch.others unit other)
    ∙ ap (λ apps. option_map (grown apps) (unit_at old unit)) touch.apps
    ∙ cases (unit_at old unit) refl
  where
    cases : (o : Option UnitBook) → unit_at old unit ≡ o → option_map (grown old.apps) o ≡ o
    cases None is = refl
    cases (Some b) is = ap Some (grown_sound old unit b sound is)

grown_touch_just : (units : List ℕ) (old changed : World) → Sound old → TouchJust units old changed → TouchJust units old (with_grown changed)
grown_touch_just units old changed sound touch = record {
  rising = touch.rising;
  settings = touch.settings;
  apps = touch.apps;
  others = untouched_stays units old changed sound touch;
}

-- the settled world, in which the hosts also have new quotas
pub settled_touch_just : (units : List ℕ) (old changed : World) → Sound old → TouchJust units old changed → TouchJust units old (settled old changed)
settled_touch_just units old changed sound touch = record {
  rising = touch.rising;
  settings = touch.settings;
  apps = touch.apps;
  others = untouched_stays units old changed sound touch;
}

-- the hosts with their quotas, by the scores of the touched workunits
quotas_settle : (units : List ℕ) (old changed : World) (scores : List Score) → Sound old → TouchJust units old changed
    → ((host : ℕ) → charges_in scores host ≡ sum_by (unit_charges old (with_grown changed) host) units)
    → ((host : ℕ) → merits_in scores host ≡ sum_by (unit_merits old (with_grown changed) host) units)
    → with_quotas_by scores (with_grown changed) ≡ settled old changed
quotas_settle units old changed scores sound touch charged merited =
    let new = with_grown changed in
    let just = grown_touch_just units old changed sound touch in
    let limit = changed.settings.daily_result_quota in
    let each : (e : ℕ × HostRow) → quota_by scores limit e ≡ with_quota old new e = λ e.
    ap (λ n. record e.1 { quota = next_quota e.1.quota n (merits_in scores e.0) limit }) (charged e.0 ∙ charges_touched units old new just e.0)
    ∙ ap (λ n. record e.1 { quota = next_quota e.1.quota (charges old new e.0) n limit }) (merited e.0 ∙ merits_touched units old new just e.0)
    ∙ ap (λ s. record e.1 { quota = next_quota e.1.quota (charges old new e.0) (merits old new e.0) s.daily_result_quota }) touch.settings in
    let same : quota_by scores limit ≡ with_quota old new = λ i e. each e i in
    ap (λ f. record new { hosts = map f (enumerate_from 1 changed.hosts) }) same

-- the hosts stay within limits
pub sound_hosts_in_limits : (w : World) → Sound w → AreHostsInLimits w
sound_hosts_in_limits w sound host h stands =
    let each = all_nth (IsSoundHost (length w.accounts) w.settings.daily_result_quota) w.hosts host h sound.rows.hosts stands in
    let within = number_within w.hosts host h stands in
    (nth-within w.accounts h.account each.account.0 each.account.1, each.limits, (let few : length w.hosts ≤ w.settings.max_hosts = sound.rows.host_count in let here : host ≤ length w.hosts = within.1 in omega arith))

hosts_one : (w : World) (c : Edit) → AreHostsInLimits w → EditFits w c → AreHostsInLimits (edited_one w c)
hosts_one w (edit.Instance p x) limits fits = limits
hosts_one w (edit.Class unit class) limits fits = limits
hosts_one w (edit.Host number h) limits fits = λ host k stands. cases host k (eqb number 0) (eqb (number_got (length w.hosts) number) host) refl (sym (nth-set_nth w.hosts number h host) ∙ stands)
  where
    cases : (host : ℕ) (k : HostRow) (a b : Bool) → eqb (number_got (length w.hosts) number) host ≡ b → cond a (nth w.hosts host) (cond b (Some h) (nth w.hosts host)) ≡ Some k
        → IsTrue (is_some (nth w.accounts k.account)) × IsHostInLimits w.settings.daily_result_quota k × (host ≤ w.settings.max_hosts)
    cases host k true b at is = limits host k is
    cases host k false true at is =
        let same : h ≡ k = cc in
        let got : number_got (length w.hosts) number ≡ host = grind (arith, nat_tests) in
        let low : number ≤ w.settings.max_hosts = fits.2 in
        subst (λ z. IsTrue (is_some (nth w.accounts z.account)) × IsHostInLimits w.settings.daily_result_quota z × (host ≤ w.settings.max_hosts)) same
        (fits.3, fits.4, omega arith)
    cases host k false false at is = limits host k is

pub hosts_in_limits : (w : World) (cs : List Edit) → AreHostsInLimits w → EditsFit w cs → AreHostsInLimits (edited w cs)
hosts_in_limits w [] limits fits = limits
hosts_in_limits w (c ∷ cs) limits fits = hosts_in_limits (edited_one w c) cs (hosts_one w c limits fits.0) fits.1

-- the row of a workunit, without its class
abbrev plain : Option UnitBook → Option Workunit
plain o = option_map (λ (b : UnitBook). imported b.unit) o

-- it stays if one workunit is changed and the change keeps it
plain_stays : (f : UnitBook → UnitBook) → ((b : UnitBook) → imported (f b).unit ≡ imported b.unit) → (xs : List UnitBook) (place unit : ℕ)
    → plain (nth (modify_nth f xs place) unit) ≡ plain (nth xs unit)
plain_stays f keeps xs place unit = ap plain (nth-modify_nth f xs place unit) ∙ cases (eqb place unit) (nth xs unit)
  where
    cases : (e : Bool) (o : Option UnitBook) → plain (cond e (option_map f o) o) ≡ plain o
    cases true None = refl
    cases true (Some b) = ap Some (keeps b)
    cases false o = refl

-- so the rows stay, except for their classes
row_stays : (w : World) (c : Edit) (unit : ℕ) → plain (unit_at (edited_one w c) unit) ≡ plain (unit_at w unit)
row_stays w (edit.Host number h) unit = refl
row_stays w (edit.Instance p x) unit = plain_stays (with_instance p.number x) (λ b. refl) w.units p.unit unit
row_stays w (edit.Class place class) unit =
    plain_stays (with_class class) (λ b. ap (λ rule. record b.unit { class_rule = rule }) (first_stays b.unit.class_rule class)) w.units place unit

rows_stay : (w : World) (cs : List Edit) (unit : ℕ) → plain (unit_at (edited w cs) unit) ≡ plain (unit_at w unit)
rows_stay w [] unit = refl
rows_stay w (c ∷ cs) unit = rows_stay (edited_one w c) cs unit ∙ row_stays w c unit

pub units_in_limits : (w : World) (cs : List Edit) → Sound w → AreUnitsInLimits (edited w cs)
units_in_limits w cs sound unit b stands = cases (unit_at w unit) refl (sym (rows_stay w cs unit) ∙ ap plain stands)
  where
    cases : (o : Option UnitBook) → unit_at w unit ≡ o → plain o ≡ Some (imported b.unit) → IsUnitInLimits (imported b.unit)
    cases None is none = absurd cc
    cases (Some c) is row =
        let same : imported c.unit ≡ imported b.unit = cc in
        subst IsUnitInLimits same (imported_in_limits c.unit (all_nth (IsSoundUnit w.hosts w.apps) w.units unit c sound.units is).well.limits)

-- The three steps of settlement in a call that found the world e: from w to v by new instances, then the scores, and from
-- v to u by quotas. `before` and `after` are the changes before and after them.
pub record AreSteps (e w v u : World) (before after quotas : List Edit) (units : List ℕ) (scores : List Score) : Type 0 where
  pub here : w ≡ edited e before
  pub grew : AreRising units → v ≡ with_grown_among units w
  pub scored : scores ≡ scores_of_units e v units
  pub quoted : AreQuotasBy scores v quotas
  pub put : u ≡ edited v quotas
  pub changes : after ≡ (before ++ all_growth w units) ++ quotas

module _ (e w v u : World) (before after quotas : List Edit) (units : List ℕ) (scores : List Score)
    (steps : AreSteps e w v u before after quotas units scores) where
  -- the scores cover everything new at the end, because only quotas come after them
  pub scores_hold : scores ≡ scores_of_units e u units
  scores_hold = steps.scored ∙ ap (λ z. scores_of_units e z units) (sym (steps.put ∙ steps.quoted.alone))

  module _ (sound : Sound e) (fits : EditsFit e before) (just : TouchJust units e w) where
    -- the first step leaves each open workunit satisfied
    all_grown : v ≡ with_grown w
    all_grown = steps.grew just.rising ∙ others_need_nothing units e w sound just

    limits : AreHostsInLimits v
    limits =
        subst AreHostsInLimits (sym (all_grown ∙ ap with_grown steps.here))
        (hosts_in_limits e before (sound_hosts_in_limits e sound) fits)

    charged : (host : ℕ) → charges_in scores host ≡ sum_by (unit_charges e v host) units
    charged host = ap (λ ms. charges_in ms host) steps.scored ∙ charges_in-scores e v units host

    merited : (host : ℕ) → merits_in scores host ≡ sum_by (unit_merits e v host) units
    merited host = ap (λ ms. merits_in ms host) steps.scored ∙ merits_in-scores e v units host

    -- what the three steps leave is the settled world
    pub settles : u ≡ settled e w
    settles =
        steps.put
        ∙ steps.quoted.quoted limits
        ∙ ap (with_quotas_by scores) all_grown
        ∙ quotas_settle units e w scores sound just
        (subst (λ z. (host : ℕ) → charges_in scores host ≡ sum_by (unit_charges e z host) units) all_grown charged)
        (subst (λ z. (host : ℕ) → merits_in scores host ≡ sum_by (unit_merits e z host) units) all_grown merited)

    -- the new instances fit after the earlier changes, and lead to v
    grown_here : edited e (before ++ all_growth w units) ≡ v
    grown_here =
        fold-append edited_one e before (all_growth w units)
        ∙ ap (λ z. edited z (all_growth w units)) (sym steps.here)
        ∙ all_grown_among w units just.rising
        ∙ sym (steps.grew just.rising)

    some_quota : 1 ≤ v.settings.daily_result_quota
    some_quota =
        subst (λ (s : Settings). 1 ≤ s.daily_result_quota) (sym (ap (λ (z : World). z.settings) all_grown ∙ just.settings)) sound.rows.settings.quota.0

    -- and each change fits
    pub settling_fits : EditsFit e after
    settling_fits =
        subst (EditsFit e) (sym steps.changes)
        (fits_then e (before ++ all_growth w units) quotas
        (fits_then e before (all_growth w units) fits
        (subst (λ z. EditsFit z (all_growth w units)) steps.here
        (all_fit w units just.rising (subst AreUnitsInLimits (sym steps.here) (units_in_limits e before sound)))))
        (subst (λ z. EditsFit z quotas) (sym grown_here) (steps.quoted.fit limits some_quota)))

-- changes with others after them are the front of the list
pub goes_on : {X : Type 0} (before new more after : List X) → after ≡ (before ++ new) ++ more → before ++ drop (length before) after ≡ after
goes_on before new more after is =
    let all : after ≡ before ++ (new ++ more) = is ∙ append_assoc before new more in
    ap (λ cs. before ++ drop (length before) cs) all ∙ ap (λ cs. before ++ cs) (drop-append_seam before (new ++ more)) ∙ sym all

-- what a settlement returns is what follows the changes
module _ (w : World) (cs more all : List Edit) (units : List ℕ) (settlement : IsSettlement w cs all units)
    (count : ℕ) (long : count ≡ length cs) (behind : more ≡ drop count all) where
  joined : cs ++ more ≡ all
  joined = ap (λ ds. cs ++ ds) (behind ∙ ap (λ n. drop n all) long) ∙ settlement.goes_on

  just_touched : AreTouched cs units → TouchJust units w (edited w cs)
  just_touched = touch_just w cs units

  pub joined_settle : Sound w → EditsFit w cs → AreTouched cs units → edited w (cs ++ more) ≡ settled w (edited w cs)
  joined_settle sound fits touched = ap (edited w) joined ∙ settlement.settles sound fits (just_touched touched)

  pub joined_fit : Sound w → EditsFit w cs → AreTouched cs units → EditsFit w (cs ++ more)
  joined_fit sound fits touched = subst (EditsFit w) (sym joined) (settlement.fits sound fits (just_touched touched))

-- A call touches only workunits that it has read.
pub read_touch : (entry present : World) (kept : ℕ → Option UnitState) (units : List ℕ)
    → present ≡ record entry { units = present.units; hosts = present.hosts }
    → ((unit : ℕ) → IsUnitStateAt entry present unit (kept unit)) → AreAllOf kept units → TouchJust units entry present
read_touch entry present kept units rest unit_states all = record {
  rising = all.rising;
  settings = ap (λ (w : World). w.settings) rest;
  apps = ap (λ (w : World). w.apps) rest;
  others = λ unit other. cases unit (kept unit) (unit_states unit) (all.all unit ∙ other);
}
  where
    cases : (unit : ℕ) (o : Option UnitState) → IsUnitStateAt entry present unit o → is_some o ≡ false → unit_at present unit ≡ unit_at entry unit
    cases unit None unit_state none = unit_state
    cases unit (Some k) unit_state none = absurd cc
