-- What a reply says of the jobs that a call sends again and grants: each has the name of its instance.
use Rattle.std.proofs.Common.{◌≡◌, ◌⊎◌, inl, inr, ℕ, Bool, true, cond, List, [], ◌∷◌, Option, Some, None, sym, refl, ap, ◌∙◌, subst}
use Rattle.std.proofs.lemmas.Bool.{and_parts}
use Rattle.std.specs.Prelude.{◌&&◌, Contains, filter_map, is_none, nat_le, not, option_map, unwrap_or}
use Rattle.std.specs.List.{cons_option, list_any}
use Rattle.std.specs.Str.{bytes_eq}
use Rattle.rpc_records.specs.declared.reply.Job.{Job}
use Rattle.rpc_records.specs.declared.request.Request.{Request}
use Rattle.sched_book.specs.Classes.{suits}
use Rattle.sched_book.specs.Count.{is_open}
use Rattle.sched_book.specs.Desk.{workunit_at}
use Rattle.sched_book.specs.Fits.{estimate, is_eligible, is_for, unit_fits, version_among, version_for}
use Rattle.sched_book.specs.Lost.{is_resent}
use Rattle.sched_book.specs.Names.{instance_name}
use Rattle.sched_book.specs.Places.{name_at, option_any, status_at, status_of, unit_at, user_had}
use Rattle.sched_book.specs.PlaceLaws.{ChangesInstancesAlone}
use Rattle.sched_book.specs.Step.{after_lost, after_settlement, asking_of, at_entry, deadline_at, granted, host_number, host_at_entry, job_at, job_of, IsCaller}
use Rattle.sched_book.specs.declared.instance.Place.{Place}
use Rattle.sched_book.specs.declared.instance.UnitBook.{UnitBook}
use Rattle.sched_book.specs.declared.machine.Caller.{Caller}
use Rattle.sched_book.specs.declared.rows.App.{App}
use Rattle.sched_book.specs.declared.rows.HostRow.{HostRow}
use Rattle.sched_book.specs.declared.rows.Version.{Version}
use Rattle.sched_book.specs.declared.rows.Workunit.{Workunit}
use Rattle.sched_book.specs.declared.world.World.{World}
use Rattle.sched_book.proofs.Newest.{behind, front_of, in_front, none_in_nothing}
use Rattle.sched_book.proofs.PlaceChanges.{grants_are_by_place}
use Rattle.job_choice.proofs.Candidates.{Stood, stood}
use Rattle.lost_jobs.proofs.Standing.{name_some}
use Rattle.sched_machine.proofs.Alike.Hosts.{host_settled}
use Rattle.sched_machine.proofs.Alike.Units.{row_at, rows_grown}
use Rattle.sched_machine.proofs.Calls.Said.{job_at_some, name_by}
use Rattle.sched_machine.proofs.OptionParts.{any_by, mapped_by, then_by}
use Rattle.sched_machine.proofs.Moves.Moves.{left_alone}

-- the values of a list whose elements may have one
pub given_by : {X Y : Type 0} (f : X → Option Y) (xs : List X) (x : X) (y : Y) → Contains xs x → f x ≡ Some y → Contains (filter_map f xs) y
given_by f [] x y there is = absurd (none_in_nothing x there)
given_by f (z ∷ xs) x y there is = cases (f z) refl (in_front z xs x there) (given_by f xs x y)
  where
    cases : (o : Option _) → f z ≡ o → (z ≡ x) ⊎ Contains xs x → (Contains xs x → f x ≡ Some y → Contains (filter_map f xs) y)
        → Contains (cons_option o (filter_map f xs)) y
    cases None gives (inl same) more = let never : None ≡ Some y = sym gives ∙ ap f same ∙ is in absurd cc
    cases None gives (inr further) more = more further is
    cases (Some u) gives (inl same) more =
        let value : u ≡ y = (let both : Some u ≡ Some y = sym gives ∙ ap f same ∙ is in cc) in
        subst (Contains (u ∷ filter_map f xs)) value (front_of u (filter_map f xs))
    cases (Some u) gives (inr further) more = behind u (filter_map f xs) y (more further is)

-- the element that such a value comes from
pub gave : {X Y : Type 0} (f : X → Option Y) (xs : List X) (y : Y) → Contains (filter_map f xs) y → (x : X) × Contains xs x × (f x ≡ Some y)
gave f [] y there = absurd (none_in_nothing y there)
gave {X} {Y} f (z ∷ xs) y there = cases (f z) refl there (gave f xs y)
  where
    later : (x : X) × Contains xs x × (f x ≡ Some y) → (x : X) × Contains (z ∷ xs) x × (f x ≡ Some y)
    later found = (found.0, behind z xs found.0 found.1, found.2)

    cases : (o : Option Y) → f z ≡ o → Contains (cons_option o (filter_map f xs)) y
        → (Contains (filter_map f xs) y → (x : X) × Contains xs x × (f x ≡ Some y)) → (x : X) × Contains (z ∷ xs) x × (f x ≡ Some y)
    cases None gives there more = later (more there)
    cases (Some u) gives there more = elim (in_front u (filter_map f xs) y there) [
      | inl same ↦ (z, front_of z xs, gives ∙ ap Some same)
      | inr further ↦ later (more further)
    ]

module _ (w : World) (c : Caller) (r : Request) (now : ℕ) (jobs : List Place) where
  -- the world that the call leaves
  abbrev after : World
  after = granted (after_settlement w c r now) (host_number w c) now jobs

  -- a grant keeps the rows of workunits, the applications and the versions
  rest : ChangesInstancesAlone (after_settlement w c r now) after
  rest = (grants_are_by_place (after_settlement w c r now) (host_number w c) now jobs).rest

  -- so does a whole call
  pub row_stays : (n : ℕ) → workunit_at after n ≡ workunit_at w n
  row_stays n =
      let left : World = after_lost w c r now in
      row_at w after (rest.units ∙ rows_grown left.apps left.units ∙ (left_alone w c r now).units) n

  -- the host runs the same versions
  version_stays : (h : HostRow) (app : List ℕ) → version_for after h app ≡ version_for w h app
  version_stays h app =
      ap (λ apps. cond (list_any (λ (a : App). bytes_eq a.name app) apps) (version_among after.versions app h.platforms) None)
      (rest.apps ∙ (left_alone w c r now).apps)
      ∙ ap (λ versions. cond (list_any (λ (a : App). bytes_eq a.name app) w.apps) (version_among versions app h.platforms) None)
      (rest.versions ∙ (left_alone w c r now).versions)

  -- the names are the same
  name_stays : (p : Place) → name_at after p ≡ name_at w p
  name_stays p = name_by w after p (row_stays p.unit)

  -- the workunit at a place exists, and the host runs a version of its application that may do it
  pub record Runs (h : HostRow) (p : Place) : Type 0 where
    pub unit : Workunit
    pub version : Version
    pub stands : workunit_at w p.unit ≡ Some unit
    pub found : version_for w h unit.app ≡ Some version
    pub suited : suits unit.class_rule version ≡ true

  -- so a reply has a job for it, with its name
  pub said_of : (h : HostRow) (resent : Bool) (p : Place) → Runs h p
      → (j : Job) × (job_at after h resent p ≡ Some j) × (j.name ≡ name_at w p)
  said_of h resent p runs = (
    job_of (instance_name runs.unit.name p.number) (deadline_at after p) h resent runs.unit runs.version,
    job_at_some after h resent p runs.unit runs.version (row_stays p.unit ∙ runs.stands) (version_stays h runs.unit.app ∙ runs.found),
    sym (name_some w p runs.unit runs.stands),
  )

  -- a reply's job for a place has the name of the instance there
  pub said_name : (h : HostRow) (resent : Bool) (p : Place) (j : Job) → job_at after h resent p ≡ Some j → j.name ≡ name_at w p
  said_name h resent p j is =
      let b = then_by (λ (b : UnitBook). option_map (job_of (name_at after p) (deadline_at after p) h resent b.unit) (version_for after h b.unit.app))
      (unit_at after p.unit) j is in
      let v = mapped_by (job_of (name_at after p) (deadline_at after p) h resent b.0.unit) (version_for after h b.0.unit.app) j b.2 in
      sym (ap (λ (z : Job). z.name) v.2) ∙ name_stays p

  -- the deadline of the instance there, and whether it is sent again
  pub said_rest : (h : HostRow) (resent : Bool) (p : Place) (j : Job) → job_at after h resent p ≡ Some j
      → (j.report_deadline ≡ deadline_at after p) × (j.resent ≡ resent)
  said_rest h resent p j is =
      let b = then_by (λ (b : UnitBook). option_map (job_of (name_at after p) (deadline_at after p) h resent b.unit) (version_for after h b.unit.app))
      (unit_at after p.unit) j is in
      let v = mapped_by (job_of (name_at after p) (deadline_at after p) h resent b.0.unit) (version_for after h b.0.unit.app) j b.2 in (
        sym (ap (λ (z : Job). z.report_deadline) v.2),
        sym (ap (λ (z : Job). z.resent) v.2),
      )

  -- the host runs a version for what fits it
  fits_runs : (h : HostRow) (p : Place) (b : UnitBook) → unit_at w p.unit ≡ Some b → unit_fits w h b ≡ true → Runs h p
  fits_runs h p b stands fits =
      let found = any_by (suits b.unit.class_rule) (version_for w h b.unit.app)
      (and_parts (nat_le b.unit.rsc_memory_bound h.m_nbytes && nat_le b.unit.rsc_disk_bound h.d_free
      && nat_le (estimate b.unit.rsc_fpops_est h.p_fpops) b.unit.delay_bound)
      (option_any (suits b.unit.class_rule) (version_for w h b.unit.app)) fits).1 in
      record { unit = b.unit; version = found.0; stands = ap (option_map (λ (b : UnitBook). b.unit)) stands; found = found.1; suited = found.2 }

  -- and for what is sent to it again
  pub resent_runs : (p : Place) → is_resent (at_entry w c r) (host_at_entry w c r) p ≡ true → Runs (host_at_entry w c r) p
  resent_runs p is =
      let fits : UnitBook → Bool = unit_fits (at_entry w c r) (host_at_entry w c r) in
      let b = any_by (λ (b : UnitBook). is_open (status_at (at_entry w c r) p.unit) && fits b) (unit_at w p.unit) is in
      fits_runs (host_at_entry w c r) p b.0 b.1 (and_parts (is_open (status_at (at_entry w c r) p.unit)) (fits b.0) b.2).1

  -- the host that asks for jobs has the platforms that its call names
  pub platforms_stay : IsCaller w c r → (asking_of w c r now).host.platforms ≡ (host_at_entry w c r).platforms
  platforms_stay caller = ap (λ o. (unwrap_or o (host_at_entry w c r)).platforms) (host_settled w c r caller now)

  -- and for what is eligible
  pub eligible_runs : IsCaller w c r → (p : Place) → is_eligible w (asking_of w c r now).host p ≡ true → Runs (host_at_entry w c r) p
  eligible_runs caller p eligible = record {
    unit = runs.unit;
    version = runs.version;
    stands = runs.stands;
    found =
        ap (λ platforms. cond (list_any (λ (a : App). bytes_eq a.name runs.unit.app) w.apps) (version_among w.versions runs.unit.app platforms) None)
        (sym (platforms_stay caller))
        ∙ runs.found;
    suited = runs.suited;
  }
    where
      asks : HostRow
      asks = (asking_of w c r now).host

      at : Stood w (λ b x. is_none x.owner && is_for w asks b) p
      at = stood w (λ b x. is_none x.owner && is_for w asks b) p eligible

      runs : Runs asks p
      runs =
          fits_runs asks p at.book at.at
          (and_parts (is_open (status_of w at.book)) (unit_fits w asks at.book)
          (and_parts (is_open (status_of w at.book) && unit_fits w asks at.book) (not (user_had w asks.account at.book))
          (and_parts (is_none at.x.owner) (is_for w asks at.book) at.passed).1).0).1
