-- The owner of an instance after a step owned it before, or got it with a version of the class that the workunit keeps to.
use Rattle.std.proofs.Common.{◌≡◌, ◌⊎◌, inl, inr, ℕ, ◌+◌, Bool, true, false, cond, eqb, eqb-true, eq-eqb, List, [], ◌∷◌, Option, Some, None, sym, refl, ap, ◌∙◌, subst}
use Rattle.std.specs.Prelude.{Contains, option_map, option_and_then, unwrap_or}
use Rattle.std.proofs.lemmas.List.Elements.{All-contains}
use Rattle.std.proofs.lemmas.Slice.Eq.{bytes_eq-Decides}
use Rattle.rpc_records.specs.declared.request.Request.{Request}
use Rattle.rpc_records.specs.declared.reply.Reply.{Reply}
use Rattle.sched_book.specs.Classes.{suits, rule_after, is_of_first}
use Rattle.sched_book.specs.Fits.{is_eligible, version_for, version_at_unit}
use Rattle.sched_book.specs.Imports.{with_rows}
use Rattle.sched_book.specs.Lost.{delay_at}
use Rattle.sched_book.specs.PlaceLaws.{HasGranted}
use Rattle.sched_book.specs.Places.{unit_at, instance_at}
use Rattle.sched_book.specs.Settle.{settled}
use Rattle.sched_book.specs.Sound.{Sound}
use Rattle.sched_book.specs.Step.{RpcStep, after_grant, after_settlement, asking_of, class_granted, class_one, classed, granted, host_at_entry, host_number, with_owner, lapsed}
use Rattle.sched_book.specs.declared.instance.Instance.{Instance}
use Rattle.sched_book.specs.declared.instance.Owner.{Owner}
use Rattle.sched_book.specs.declared.instance.Place.{Place}
use Rattle.sched_book.specs.declared.instance.UnitBook.{UnitBook}
use Rattle.sched_book.specs.declared.machine.Call.{Call}
use Rattle.sched_book.specs.declared.machine.Call.TheVariants as call
use Rattle.sched_book.specs.declared.machine.Caller.{Caller}
use Rattle.sched_book.specs.declared.rows.ClassRule.{ClassRule}
use Rattle.sched_book.specs.declared.rows.ClassRule.TheVariants.{Any, OfFirst, Only}
use Rattle.sched_book.specs.declared.rows.HostRow.{HostRow}
use Rattle.sched_book.specs.declared.rows.Rows.{Rows}
use Rattle.sched_book.specs.declared.rows.Version.{Version}
use Rattle.sched_book.specs.declared.rows.Workunit.{Workunit}
use Rattle.sched_book.specs.declared.world.World.{World}
use Rattle.sched_book.proofs.Newest.{in_front, none_in_nothing}
use Rattle.sched_book.proofs.PlaceChanges.{grants_are_by_place}
use Rattle.sched_machine.specs.Classes.{rule_at, Follows, IsGiven, IsGivenBy, HadOwner, OwnersAreOfClasses}
use Rattle.sched_machine.specs.Runs.{owner_at}
use Rattle.sched_machine.proofs.Alike.Settled.{the_settled_world_is_like_the_first}
use Rattle.sched_machine.proofs.Classes.Left.{classed_like, instance_same}
use Rattle.sched_machine.proofs.Classes.Kept.{same_rule, rule_granted, classed_stay}
use Rattle.sched_machine.proofs.Held.Said.{Runs, eligible_runs, row_stays}
use Rattle.sched_machine.proofs.OptionParts.{mapped_by}
use Rattle.sched_machine.proofs.Moves.Cases.{by_call}
use Rattle.sched_machine.proofs.Moves.Moves.{among, Lasts, settled_lasts, rows_last, lapses_last, settlement_lasts}

-- the host and the moment of an owner
abbrev pub key : Owner → ℕ × ℕ
key o = (o.host, o.sent)

abbrev pub key_in : Option Instance → Option (ℕ × ℕ)
key_in o = option_map key (option_and_then (λ (x : Instance). x.owner) o)

abbrev HasSameKey : Option Instance → Option Instance → Type 0
HasSameKey i j = key_in j ≡ key_in i

key_lasts : (w : World) (c : Call) (p : Place) → Lasts w c p HasSameKey
key_lasts w c p = record {
  same = λ i. refl;
  chain = λ i j k first second. second ∙ first;
  reported = λ r place x none own later. refl;
  lapses = λ lapse x none own. refl;
  moved = λ f o x is own again. sym (ap (option_map key) is);
}

-- a call up to its settlement
pub settlement_key : (w : World) (c : Caller) (r : Request) (now : ℕ) (p : Place)
    → key_in (instance_at (after_settlement w c r now) p) ≡ key_in (instance_at w p)
settlement_key w c r now p = settlement_lasts HasSameKey w c r p (key_lasts w (call.Rpc c r) p) now refl

-- a tick
pub tick_key : (w : World) (now : ℕ) (p : Place) → key_in (instance_at (settled w (lapsed w now)) p) ≡ key_in (instance_at w p)
tick_key w now p =
    settled_lasts HasSameKey (λ i. refl) refl w (lapsed w now) p ∙ lapses_last HasSameKey w now p (key_lasts w call.Tick p)

-- an import: no instance of a new workunit was given out
pub rows_key : (w : World) (new : Rows) (p : Place) → key_in (instance_at (with_rows w new) p) ≡ key_in (instance_at w p)
rows_key w new p = rows_last HasSameKey (λ i. refl) refl w new p

-- ---- a rule after classes are granted

-- a version that may do a workunit may still do it after its class was taken, and the workunit then waits for no class
suits_after : (rule : ClassRule) (v : Version) → suits rule v ≡ true → suits (rule_after rule v.class) v ≡ true
suits_after Any v is = refl
suits_after OfFirst v is = (bytes_eq-Decides v.class v.class).1 refl
suits_after (Only class) v is = is

taken : (rule : ClassRule) (class : List ℕ) → is_of_first (rule_after rule class) ≡ false
taken Any class = refl
taken OfFirst class = refl
taken (Only own) class = refl

-- a workunit that waits for no class, and that the version may do, keeps to the version's class or to none
follows : (rule : ClassRule) (v : Version) → suits rule v ≡ true → is_of_first rule ≡ false → Follows rule v
follows Any v suited known = tt
follows OfFirst v suited known = absurd cc
follows (Only class) v suited known = (bytes_eq-Decides class v.class).0 suited

pub waits_not : (rule : ClassRule) (v : Version) → Follows rule v → is_of_first rule ≡ false
waits_not Any v follows = refl
waits_not OfFirst v follows = absurd follows
waits_not (Only class) v follows = refl

-- the version may do the workunit at a place
record Suited (w : World) (n : ℕ) (version : Version) : Type 0 where
  rule : ClassRule
  stands : rule_at w n ≡ Some rule
  suited : suits rule version ≡ true

-- the version may do the workunit, which waits for no class
abbrev Taken : World → ℕ → Version → Type 0
Taken w n version = (at : Suited w n version) × (is_of_first at.rule ≡ false)

module _ (entry : World) (h : HostRow) (n : ℕ) (version : Version) (runs : version_at_unit entry h n ≡ Some version) where
  -- a job of the workunit
  one_takes : (w : World) (q : Place) → q.unit ≡ n → Suited w n version → Taken (class_one entry h w q) n version
  one_takes w q same at =
      subst (λ v. Taken v n version) (sym class_is) (
        record {
          rule = rule_after at.rule version.class;
          stands =
              rule_granted w q.unit version.class n
              ∙ ap (λ m. cond (eqb m n) (option_map (λ rule. rule_after rule version.class) (rule_at w n)) (rule_at w n)) same
              ∙ ap (λ t. cond t (option_map (λ rule. rule_after rule version.class) (rule_at w n)) (rule_at w n)) (eq-eqb n n refl)
              ∙ ap (option_map (λ rule. rule_after rule version.class)) at.stands;
          suited = suits_after at.rule version at.suited;
        },
        taken at.rule version.class,
      )
    where
      class_is : class_one entry h w q ≡ class_granted w q.unit version.class
      class_is =
          ap (λ (o : Option Version). unwrap_or (option_map (λ (v : Version). class_granted w q.unit v.class) o) w) (ap (version_at_unit entry h) same ∙ runs)

  -- a job of any workunit
  one_suited : (w : World) (q : Place) → Suited w n version → Suited (class_one entry h w q) n version
  one_suited w q at = cases (eqb q.unit n) refl
    where
      elsewhere : eqb q.unit n ≡ false → (o : Option Version)
          → rule_at (unwrap_or (option_map (λ (v : Version). class_granted w q.unit v.class) o) w) n ≡ rule_at w n
      elsewhere other None = refl
      elsewhere other (Some v) =
          rule_granted w q.unit v.class n ∙ ap (λ t. cond t (option_map (λ rule. rule_after rule v.class) (rule_at w n)) (rule_at w n)) other

      cases : (t : Bool) → eqb q.unit n ≡ t → Suited (class_one entry h w q) n version
      cases true same = (one_takes w q (eqb-true q.unit n same) at).0
      cases false other = record { rule = at.rule; stands = elsewhere other (version_at_unit entry h q.unit) ∙ at.stands; suited = at.suited }

  -- all jobs, one of which is of the workunit
  all_take : (jobs : List Place) (w : World) (p : Place) → Contains jobs p → p.unit ≡ n → Suited w n version → Taken (classed entry h w jobs) n version
  all_take [] w p there same at = absurd (none_in_nothing p there)
  all_take (q ∷ jobs) w p there same at = elim (in_front q jobs p there) [
    | inl first ↦ (
        let one = one_takes w q (ap (λ (z : Place). z.unit) first ∙ same) at in (
          record {
            rule = one.0.rule;
            stands = classed_stay entry h jobs (class_one entry h w q) n one.0.rule one.1 one.0.stands;
            suited = one.0.suited;
          },
          one.1,
        ))
    | inr further ↦ all_take jobs (class_one entry h w q) p further same (one_suited w q at)
  ]

-- ---- a step

-- the workunit that has the rule
pub book_of : (w : World) (n : ℕ) (rule : ClassRule) → rule_at w n ≡ Some rule → (b : UnitBook) × (unit_at w n ≡ Some b) × (b.unit.class_rule ≡ rule)
book_of w n rule is = mapped_by (λ (b : UnitBook). b.unit.class_rule) (unit_at w n) rule is

-- an owner that owned the instance before the step
pub had : (w : World) (p : Place) (o : Owner) → option_map key (owner_at w p) ≡ Some (key o) → HadOwner w p o
had w p o is =
    let at = mapped_by key (owner_at w p) (key o) is in (at.0, at.1, ap (λ (k : ℕ × ℕ). k.0) at.2, ap (λ (k : ℕ × ℕ). k.1) at.2)

-- a call
module _ (w : World) (c : Caller) (r : Request) (now : ℕ) (sound : Sound w) (after : World) (reply : Reply) (step : RpcStep w c r now after reply)
    (p : Place) (o : Owner) (is : owner_at after p ≡ Some o) where
  abbrev settlement : World
  settlement = after_settlement w c r now

  abbrev caller : HostRow
  caller = host_at_entry w c r

  abbrev given : World
  given = granted settlement (host_number w c) now step.jobs

  by_place : HasGranted settlement (host_number w c) now step.jobs given
  by_place = grants_are_by_place settlement (host_number w c) now step.jobs

  owned : owner_at given p ≡ Some o
  owned =
      ap (option_and_then (λ (x : Instance). x.owner))
      (sym (ap (λ v. instance_at v p) step.left ∙ instance_same given (after_grant w c r now step.jobs) (classed_like w caller step.jobs given) p))
      ∙ is

  -- an instance that is no job of the call
  elsewhere : (Contains step.jobs p → ⊥) → HadOwner w p o
  elsewhere nowhere = had w p o (sym (settlement_key w c r now p) ∙ sym (ap key_in (by_place.other p nowhere)) ∙ ap (option_map key) owned)

  module _ (there : Contains step.jobs p) where
    -- the owner that a job has
    abbrev gets : Owner
    gets = record { host = host_number w c; sent = now; deadline = now + delay_at settlement p }

    own : gets ≡ o
    own = cases (instance_at settlement p) (sym (ap (option_and_then (λ (x : Instance). x.owner)) (by_place.job p there)) ∙ owned)
      where
        cases : (q : Option Instance) → option_and_then (λ (x : Instance). x.owner) (option_map (with_owner gets) q) ≡ Some o → gets ≡ o
        cases None none = absurd cc
        cases (Some x) some = cc

    -- the version of it that the host runs
    runs : Runs w c r now step.jobs caller p
    runs =
        eligible_runs w c r now step.jobs step.caller p
        (sym ((the_settled_world_is_like_the_first w c r now sound step.caller step.room).eligible p)
        ∙ All-contains (λ q. is_eligible settlement (asking_of w c r now).host q ≡ true) step.jobs p step.grant.eligible there)

    row : (b : UnitBook) × (unit_at w p.unit ≡ Some b) × (b.unit ≡ runs.unit)
    row = mapped_by (λ (b : UnitBook). b.unit) (unit_at w p.unit) runs.unit runs.stands

    version_runs : version_at_unit w caller p.unit ≡ Some runs.version
    version_runs =
        ap (option_and_then (λ (b : UnitBook). version_for w caller b.unit.app)) row.1 ∙ ap (λ (u : Workunit). version_for w caller u.app) row.2 ∙ runs.found

    suited : Suited given p.unit runs.version
    suited = record {
      rule = runs.unit.class_rule;
      stands =
          same_rule w given p.unit (row_stays w c r now step.jobs p.unit)
          ∙ ap (option_map (λ (b : UnitBook). b.unit.class_rule)) row.1
          ∙ ap (λ (u : Workunit). Some u.class_rule) row.2;
      suited = runs.suited;
    }

    job : IsGivenBy w after c r now p o
    job =
        let at = all_take w caller p.unit runs.version version_runs step.jobs given p there refl suited in
        let book = book_of after p.unit at.0.rule (ap (λ v. rule_at v p.unit) step.left ∙ at.0.stands) in
        record {
          host = ap (λ (z : Owner). z.host) (sym own);
          sent = ap (λ (z : Owner). z.sent) (sym own);
          version = runs.version;
          runs = version_runs;
          book = book.0;
          stands = book.1;
          follows = subst (λ rule. Follows rule runs.version) (sym book.2) (follows at.0.rule runs.version at.0.suited at.1);
        }

  call_gives : HadOwner w p o ⊎ IsGivenBy w after c r now p o
  call_gives = elim (among p step.jobs) [
    | inl there ↦ inr (job there)
    | inr nowhere ↦ inl (elsewhere nowhere)
  ]

pub owners_are_of_classes : OwnersAreOfClasses
owners_are_of_classes w after c now answer sound step p o is =
    by_call w after now (λ c answer. HadOwner w p o ⊎ IsGiven w after c now p o)
    (λ c r reply step. call_gives w c r now sound after reply step p o is)
    (λ new count step. inl (had w p o (sym (rows_key w new p) ∙ ap (λ v. option_map key (owner_at v p)) (sym step.left) ∙ ap (option_map key) is)))
    (λ count step. inl (had w p o (sym (tick_key w now p) ∙ ap (λ v. option_map key (owner_at v p)) (sym step.left) ∙ ap (option_map key) is)))
    c answer step
