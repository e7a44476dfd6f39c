-- What is unsent is, place by place, what waits in the tables. What waits from a place on is a page of it and what comes after the page.
use Rattle.std.proofs.Common.{◌≡◌, ℕ, zero, suc, ◌+◌, Bool, true, false, ◌&&◌, cond, not, List, [], ◌∷◌, ◌++◌, filter, take, drop, slice_get, Option, Some, None, option_map, refl, sym, ap, ap₂, subst, ◌∙◌, arith, nat_le, nat_lt, is_none}
use Rattle.std.specs.Prelude.{◌==◌, ◌||◌, option_and_then, unwrap_or}
use Rattle.std.specs.List.{AllByRecursion, cons_option}
use Rattle.std.proofs.lemmas.Bool.Decides.{nat_tests}
use Rattle.std.proofs.lemmas.List.{take-append-drop}
use Rattle.std.proofs.lemmas.List.Elements.{filter-append, filter_map-append}
use Rattle.std.proofs.lemmas.Option.{none-some, same_Some}
use Rattle.sqlite.specs.Effect.{Database}
use Rattle.sqlite.specs.Held.{Held, state}
use Rattle.sqlite.specs.State.{HasCleanDisk}
use Rattle.sqlite.proofs.MarkLemmas.{slice_get-take}
use Rattle.sqlite_trees.specs.Tree.{IsAscending}
use Rattle.sqlite_trees.specs.declared.store.Store.{Ghosts}
use Rattle.sched_book.specs.Count.{is_open}
use Rattle.sched_book.specs.Offers.{unsent, unsent_in, unsent_among}
use Rattle.sched_book.specs.Places.{nth, is_before, places_in, places_among, places, passes, status_of, unit_at}
use Rattle.sched_book.specs.declared.desk.Candidate.{Candidate}
use Rattle.sched_book.specs.declared.instance.Instance.{Instance as Job}
use Rattle.sched_book.specs.declared.instance.Place.{Place}
use Rattle.sched_book.specs.declared.instance.Status.{Status}
use Rattle.sched_book.specs.declared.instance.Status.TheVariants.{Open}
use Rattle.sched_book.specs.declared.instance.UnitBook.{UnitBook}
use Rattle.sched_book.specs.declared.world.World.{World}
use Rattle.sched_book.proofs.PlacesOf.{nth-suc}
use Rattle.sqlite_sql.specs.declared.ops.CompareOp.TheVariants.{Eq}
use Rattle.table_meaning.specs.declared.tables.QueuePage.TheVariants.{Further}
use Rattle.table_meaning.specs.declared.rows.StoredRow.TheVariants as stored
use Rattle.table_meaning.specs.Codes.{status_code}
use Rattle.table_meaning.specs.Holding.{Contents, Hold}
use Rattle.table_meaning.specs.Places as table
use Rattle.table_meaning.specs.Places.{IsBefore, AreAllPlaces, instance_row_at, shows_passing, compares, waits_from}
use Rattle.table_meaning.specs.Rows.{columns_of, whole}
use Rattle.table_meaning.specs.Worlds.{contents_of, instance_row, is_queued}
use Rattle.table_meaning.proofs.PlacesTests.{equal_numbers, above_number, not_below_number}
use Rattle.table_desk.specs.Asked.{LooksUp, Tell}
use Rattle.table_desk.specs.Pages.{candidate_at, candidates_at, behind, next_page, unsent_on}
use Rattle.table_desk.proofs.AllPlaces.{all_places}

-- the places that wait to be given out, from one place on
abbrev pub waits : World → Place → Place → Bool
waits w from p = passes w (is_queued w) p && not (is_before p from)

abbrev pub waiting : World → Place → List Place
waiting w from = filter (waits w from) (places w)

-- ---- what the tables list

queued_one : (b : Bool) → compares Eq (whole (cond b 1 0)) (whole 1) ≡ b
queued_one true = equal_numbers 1 1
queued_one false = equal_numbers 0 1

pub open_code : (s : Status) → (status_code s == 0) ≡ is_open s
open_code Open = refl
open_code _ = refl

not_before : (p from : Place) → (nat_le from.unit p.unit && (nat_lt from.unit p.unit || nat_le from.number p.number)) ≡ not (is_before p from)
not_before p from = grind (arith, nat_tests)

module _ (db : Database) (w : World) (tell : Tell db w) (from : Place) where
  abbrev contents : Contents
  contents = contents_of w tell.calls tell.batches

  waits_at : (b : UnitBook) (p : Place) (x : Job) → waits_from from (columns_of (stored.Instance (instance_row w b p.unit p.number x))) ≡ (is_queued w b x && not (is_before p from))
  waits_at b p x =
      ap₂ (λ a c. a && c) (queued_one (is_queued w b x))
      (ap₂ (λ a c. a && c) (not_below_number p.unit from.unit) (ap₂ (λ a c. a || c) (above_number p.unit from.unit) (not_below_number p.number from.number)) ∙ not_before p from)

  waits_is : (p : Place) → shows_passing (waits_from from) (instance_row_at contents p) ≡ waits w from p
  waits_is p = unit (unit_at w p.unit)
    where
      job : (b : UnitBook) (o : Option Job) → shows_passing (waits_from from) (option_map (λ x. stored.Instance (instance_row w b p.unit p.number x)) o) ≡ (unwrap_or (option_map (is_queued w b) o) false && not (is_before p from))
      job b None = refl
      job b (Some x) = waits_at b p x

      unit : (o : Option UnitBook) → shows_passing (waits_from from) (option_and_then (λ b. option_map (λ x. stored.Instance (instance_row w b p.unit p.number x)) (slice_get b.instances p.number)) o)
          ≡ (unwrap_or (option_and_then (λ b. option_map (is_queued w b) (slice_get b.instances p.number)) o) false && not (is_before p from))
      unit None = refl
      unit (Some b) = job b (slice_get b.instances p.number)

  pub waiting_told : table.places_with_row contents (waits_from from) (places w) ≡ waiting w from
  waiting_told = λ i. filter (λ p. waits_is p i) (places w)

-- ---- what is unsent

module _ (w : World) (from : Place) where
  -- an instance of an open workunit that was given to nobody, from the place on
  abbrev is_offered : UnitBook → Place → Job → Bool
  is_offered b p x = is_open (status_of w b) && (is_none x.owner && not (is_before p from))

  offered_in : (b : UnitBook) (u : ℕ) → nth w.units u ≡ Some b → (number : ℕ) (xs : List Job)
      → ((i n : ℕ) (x : Job) → n ≡ i + number → slice_get xs i ≡ Some x → waits w from (record { unit = u; number = n }) ≡ is_offered b (record { unit = u; number = n }) x)
      → candidates_at w (filter (waits w from) (places_in u number (λ x. true) xs)) ≡ cond (is_open (status_of w b)) (unsent_in from u b.unit number xs) []
  offered_in b u stands number [] tells = none (is_open (status_of w b))
    where
      nothing : List Candidate
      nothing = []

      none : (o : Bool) → nothing ≡ cond o nothing []
      none true = refl
      none false = refl
  offered_in b u stands number (x ∷ xs) tells =
      ap (λ k. candidates_at w (cond k (here ∷ rest) rest)) (tells 0 number x (omega arith) refl)
      ∙ turn (is_open (status_of w b)) (is_none x.owner && not (is_before here from)) (offered_in b u stands (number + 1) xs (λ i n y is at. tells (suc i) n y (omega (arith, is)) at))
    where
      here : Place
      here = record { unit = u; number = number }

      rest : List Place
      rest = filter (waits w from) (places_in u (number + 1) (λ x. true) xs)

      later : List Candidate
      later = unsent_in from u b.unit (number + 1) xs

      one : Candidate
      one = record { place = here; unit = b.unit }

      turn : (o t : Bool) → candidates_at w rest ≡ cond o later [] → candidates_at w (cond (o && t) (here ∷ rest) rest) ≡ cond o (cond t (one ∷ later) later) []
      turn true true rests = ap₂ cons_option (ap (λ o. option_map (λ u. record { place = here; unit = u }) (option_map (λ (b : UnitBook). b.unit) o)) stands) rests
      turn true false rests = rests
      turn false t rests = rests

  offered_among : (u : ℕ) (bs : List UnitBook) → ((i v : ℕ) (b : UnitBook) → v ≡ i + u → slice_get bs i ≡ Some b → nth w.units v ≡ Some b)
      → candidates_at w (filter (waits w from) (places_among u (λ b x. true) bs)) ≡ unsent_among w from u bs
  offered_among u [] stand = refl
  offered_among u (b ∷ bs) stand =
      let first = filter (waits w from) (places_in u 0 (λ x. true) b.instances) in
      let others = filter (waits w from) (places_among (u + 1) (λ b x. true) bs) in
      let stands = stand 0 u b (omega arith) refl in
      ap (candidates_at w) (filter-append (waits w from) (places_in u 0 (λ x. true) b.instances) (places_among (u + 1) (λ b x. true) bs))
      ∙ filter_map-append (candidate_at w) first others
      ∙ ap₂ (λ (xs ys : List Candidate). xs ++ ys)
      (offered_in b u stands 0 b.instances (λ i n x is at. tells stands n x (ap (slice_get b.instances) (let same : n ≡ i = omega (arith, is) in same) ∙ at)))
      (offered_among (u + 1) bs (λ i v c is at. stand (suc i) v c (omega (arith, is)) at))
      ∙ turn (is_open (status_of w b))
    where
      turned : (o n t : Bool) → ((n && o) && t) ≡ (o && (n && t))
      turned true true t = refl
      turned true false t = refl
      turned false true t = refl
      turned false false t = refl

      tells : nth w.units u ≡ Some b → (n : ℕ) (x : Job) → slice_get b.instances n ≡ Some x → waits w from (record { unit = u; number = n }) ≡ is_offered b (record { unit = u; number = n }) x
      tells stands n x at =
          let p : Place = record { unit = u; number = n } in
          ap (λ o. unwrap_or (option_and_then (λ (b : UnitBook). option_map (is_queued w b) (slice_get b.instances n)) o) false && not (is_before p from)) stands
          ∙ ap (λ o. unwrap_or (option_map (is_queued w b) o) false && not (is_before p from)) at
          ∙ ap (λ c. (is_none x.owner && c) && not (is_before p from)) (open_code (status_of w b))
          ∙ turned (is_open (status_of w b)) (is_none x.owner) (not (is_before p from))

      turn : (o : Bool) → cond o (unsent_in from u b.unit 0 b.instances) [] ++ unsent_among w from (u + 1) bs ≡ cond o (unsent_in from u b.unit 0 b.instances ++ unsent_among w from (u + 1) bs) (unsent_among w from (u + 1) bs)
      turn true = refl
      turn false = refl

  unsent_waiting : candidates_at w (waiting w from) ≡ unsent w from
  unsent_waiting = offered_among 1 w.units (λ i v b is at. ap (nth w.units) (let next : v ≡ suc i = omega (arith, is) in next) ∙ nth-suc w.units i ∙ at)

-- ---- what waits after a place

module _ (q : Place → Bool) (from : Place) where
  abbrev keeps : Place → Place → Bool
  keeps from p = q p && not (is_before p from)

  -- what holds of all places holds of one that passes a test
  holds_of : (P : Place → Type 0) (ps : List Place) (n : ℕ) (p : Place) → AllByRecursion P ps → slice_get (filter (keeps from) ps) n ≡ Some p → P p
  holds_of P [] n p all is = absurd (none-some _ is)
  holds_of P (r ∷ rs) n p all is = turn (keeps from r) n (λ m. holds_of P rs m p all.1) is
    where
      turn : (b : Bool) (n : ℕ) → ((m : ℕ) → slice_get (filter (keeps from) rs) m ≡ Some p → P p) → slice_get (cond b (r ∷ filter (keeps from) rs) (filter (keeps from) rs)) n ≡ Some p → P p
      turn true zero later is = subst P (same_Some _ _ is) all.0
      turn true (suc m) later is = later m is
      turn false n later is = later n is

  -- Take the places that pass from one place on, and one of them. Those after it are the ones that pass from a later place on. This needs that it
  -- and no place before it passes from there on, and that each place after it passes from both places on or from neither.
  module _ (it late : Place) (before : (p : Place) → IsBefore p it → keeps late p ≡ false) (itself : keeps late it ≡ false)
      (above : (r : Place) → keeps from it ≡ true → IsBefore it r → is_before r from ≡ is_before r late) where
    all_above : keeps from it ≡ true → (ps : List Place) → AllByRecursion (IsBefore it) ps → filter (keeps late) ps ≡ filter (keeps from) ps
    all_above kept [] rise = refl
    all_above kept (r ∷ rs) rise = ap₂ (λ b (l : List Place). cond (q r && not b) (r ∷ l) l) (sym (above r kept rise.0)) (all_above kept rs rise.1)

    left_at : (n : ℕ) (ps : List Place) → IsAscending IsBefore ps → slice_get (filter (keeps from) ps) n ≡ Some it → filter (keeps late) ps ≡ drop (suc n) (filter (keeps from) ps)
    left_at n [] rise is = absurd (none-some _ is)
    left_at n (p ∷ ps) rise is = turn (keeps from p) refl n (λ m. left_at m ps rise.1) is
      where
        more : List Place
        more = filter (keeps from) ps

        left : List Place
        left = filter (keeps late) ps

        skipped : (m : ℕ) → slice_get more m ≡ Some it → cond (keeps late p) (p ∷ left) left ≡ left
        skipped m is = ap (λ b. cond b (p ∷ left) left) (before p (holds_of (IsBefore p) ps m it rise.0 is))

        turn : (b : Bool) → keeps from p ≡ b → (n : ℕ) → ((m : ℕ) → slice_get more m ≡ Some it → left ≡ drop (suc m) more) → slice_get (cond b (p ∷ more) more) n ≡ Some it
            → cond (keeps late p) (p ∷ left) left ≡ drop (suc n) (cond b (p ∷ more) more)
        turn true kept zero later is =
            let same : p ≡ it = same_Some _ _ is in
            let here : keeps from it ≡ true = ap (keeps from) (sym same) ∙ kept in
            ap₂ (λ b (l : List Place). cond b (p ∷ l) l) (ap (keeps late) same ∙ itself) (all_above here ps (subst (λ r. AllByRecursion (IsBefore r) ps) same rise.0))
        turn true kept (suc m) later is = skipped m is ∙ later m is
        turn false fails n later is = skipped n is ∙ later n is

  passed : (p last : Place) → is_before p (behind last) ≡ true → keeps (behind last) p ≡ false
  passed p last before = grind arith

  rest_behind : (last : Place) (n : ℕ) (ps : List Place) → IsAscending IsBefore ps → slice_get (filter (keeps from) ps) n ≡ Some last → filter (keeps (behind last)) ps ≡ drop (suc n) (filter (keeps from) ps)
  rest_behind last = left_at last (behind last) (λ p before. passed p last (ahead p before)) (passed last last itself) above
    where
      ahead : (p : Place) → IsBefore p last → is_before p (behind last) ≡ true
      ahead p before = grind (arith, nat_tests)

      itself : is_before last (behind last) ≡ true
      itself = grind (arith, nat_tests)

      above : (r : Place) → keeps from last ≡ true → IsBefore last r → is_before r from ≡ is_before r (behind last)
      above r kept before = grind (arith, nat_tests)

none_left : {X : Type 0} (n : ℕ) (xs : List X) → slice_get xs n ≡ None → drop (suc n) xs ≡ []
none_left n [] is = refl
none_left zero (x ∷ xs) is = absurd (none-some _ (sym is))
none_left (suc n) (x ∷ xs) is = none_left n xs is

-- ---- a page of places

-- what waits from a place on; nothing if there is none
abbrev pub waiting_on : World → Option Place → List Place
waiting_on w None = []
waiting_on w (Some from) = waiting w from

module _ (w : World) where
  rise : IsAscending IsBefore (places w)
  rise = (all_places w (λ _ _. None) (λ _ _. None)).rise

  left_behind : (n : ℕ) (from : Place) (o : Option Place) → slice_get (waiting w from) n ≡ o → drop (suc n) (waiting w from) ≡ waiting_on w (option_map behind o)
  left_behind n from None is = none_left n (waiting w from) is
  left_behind n from (Some last) is = sym (rest_behind (passes w (is_queued w)) from last n (places w) rise is)

  pub offered_on : (o : Option Place) → candidates_at w (waiting_on w o) ≡ unsent_on w o
  offered_on None = refl
  offered_on (Some from) = unsent_waiting w from

  -- the page, and what waits after its last place
  module _ (n : ℕ) (from : Place) (page : List Place) (is : page ≡ take (suc n) (waiting w from)) where
    pub parted : (o : Option Place) → slice_get page n ≡ o → waiting w from ≡ page ++ waiting_on w (option_map behind o)
    parted o at =
        sym (take-append-drop (suc n) (waiting w from))
        ∙ ap₂ (λ (xs ys : List Place). xs ++ ys) (sym is) (left_behind n from o (sym (slice_get-take (suc n) (waiting w from) n (omega arith)) ∙ ap (λ l. slice_get l n) (sym is) ∙ at))

  -- the candidates of what waits, in two parts
  pub unsent_parted : (from : Place) (page : List Place) (end : Option Place) → waiting w from ≡ page ++ waiting_on w end → unsent w from ≡ candidates_at w page ++ unsent_on w end
  unsent_parted from page end parts =
      sym (unsent_waiting w from) ∙ ap (candidates_at w) parts ∙ filter_map-append (candidate_at w) page (waiting_on w end) ∙ ap (λ (cs : List Candidate). candidates_at w page ++ cs) (offered_on end)

-- ---- pages that a read shows

module _ {S : Type 0} (store : Ghosts S) (first mid : Held S) (from : Place) (queued : List Place) where
  abbrev Shows : ℕ → Type 0
  Shows n = HasCleanDisk (state store mid) → (contents : Contents) (places : List Place) → Hold (state store first).now contents → AreAllPlaces contents places → queued ≡ take n (table.places_with_row contents (waits_from from) places)

  pub waiting_read : (n : ℕ) → Shows n → LooksUp store first mid (λ w. queued ≡ take n (waiting w from))
  waiting_read n shown = λ clean is_open rests w tell.
      shown clean (contents_of w tell.calls tell.batches) (places w) tell.holds (all_places w tell.calls tell.batches) ∙ ap (take n) (waiting_told (state store first).now w tell from)

  pub further_page_read : Shows 64 → (page : List Place) → page ≡ queued → LooksUp store first mid (λ w. unsent w from ≡ candidates_at w page ++ unsent_on w (next_page Further page))
  further_page_read shown page same = λ clean is_open rests w tell.
      unsent_parted w from page (next_page Further page) (parted w 63 from page (same ∙ waiting_read 64 shown clean is_open rests w tell) (slice_get page 63) refl)
