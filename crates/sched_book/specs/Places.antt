-- Rule. Workunits, hosts and instances of a world by their places, and what is counted over all of them.
-- Places of rows and numbers of hosts count from 1. The numbers of a workunit's instances count from 0.
use Rattle.std.specs.Prelude.{true, ℕ, ◌+◌, ◌-◌, ◌*◌, ◌/◌, Bool, false, ◌&&◌, ◌||◌, ◌==◌, nat_lt, if◌then◌else◌, List, [], ◌∷◌, ◌++◌, find, position, count_by, sum_by, Option, Some, None, option_and_then, option_map, unwrap_or, slice_get}
use Rattle.std.specs.List.{enumerate_from, list_any}
use Rattle.std.specs.Str.{bytes_eq}
use Rattle.sched_book.specs.Names.{instance_name, name_parts}
use Rattle.sched_book.specs.Count.{is_held, status, verdict, is_valid}
use Rattle.sched_book.specs.declared.rows.Account.{Account}
use Rattle.sched_book.specs.declared.rows.Agreement.{Agreement}
use Rattle.sched_book.specs.declared.rows.Agreement.TheVariants.{Exact}
use Rattle.sched_book.specs.declared.rows.App.{App}
use Rattle.sched_book.specs.declared.rows.HostRow.{HostRow}
use Rattle.sched_book.specs.declared.instance.Instance.{Instance}
use Rattle.sched_book.specs.declared.instance.Owner.{Owner}
use Rattle.sched_book.specs.declared.instance.Place.{Place}
use Rattle.sched_book.specs.declared.instance.Status.{Status}
use Rattle.sched_book.specs.declared.instance.Status.TheVariants.{FailedTotal}
use Rattle.sched_book.specs.declared.instance.UnitBook.{UnitBook}
use Rattle.sched_book.specs.declared.instance.Verdict.{Verdict}
use Rattle.sched_book.specs.declared.world.World.{World}

-- there is a value, and it passes
abbrev pub option_any : {X : Type 0} → (X → Bool) → Option X → Bool
option_any p o = unwrap_or (option_map p o) false

-- the element at a place that counts from 1
abbrev pub nth : {X : Type 0} → List X → ℕ → Option X
nth xs n = if n == 0 then None else slice_get xs (n - 1)

-- the place of the first that passes
abbrev pub place_where : {X : Type 0} → (X → Bool) → List X → Option ℕ
place_where p xs = option_map (λ i. i + 1) (position p xs)

abbrev pub unit_at : World → ℕ → Option UnitBook
unit_at w unit = nth w.units unit

abbrev pub instance_at : World → Place → Option Instance
instance_at w p = option_and_then (λ b. slice_get b.instances p.number) (unit_at w p.unit)

abbrev pub host_at : World → ℕ → Option HostRow
host_at w host = nth w.hosts host

-- how the outputs of the application of this name are compared; if there is none, exactly
abbrev pub agreement_by : List App → List ℕ → Agreement
agreement_by apps name = unwrap_or (option_map (λ a. a.agreement) (find (λ a. bytes_eq a.name name) apps)) Exact

-- the status of a workunit, and the verdict on one of its instances, if these are the applications
abbrev pub book_status : List App → UnitBook → Status
book_status apps b = status (agreement_by apps b.unit.app) b.unit b.instances

abbrev pub book_verdict : List App → UnitBook → Instance → Option Verdict
book_verdict apps b x = verdict (agreement_by apps b.unit.app) b.unit b.instances x

abbrev pub agreement_of : World → UnitBook → Agreement
agreement_of w b = agreement_by w.apps b.unit.app

abbrev pub status_of : World → UnitBook → Status
status_of w b = book_status w.apps b

abbrev pub verdict_of : World → UnitBook → Instance → Option Verdict
verdict_of w b x = book_verdict w.apps b x

-- the status of the workunit at a place; if there is no workunit, it counts as failed
abbrev pub status_at : World → ℕ → Status
status_at w unit = unwrap_or (option_map (status_of w) (unit_at w unit)) FailedTotal

-- the places of a workunit's instances that pass; the first instance has the number `number`
abbrev pub places_in : ℕ → ℕ → (Instance → Bool) → List Instance → List Place
places_in unit number p [] = []
places_in unit number p (x ∷ xs) =
    if p x
    then record { unit = unit; number = number } ∷ places_in unit (number + 1) p xs
    else places_in unit (number + 1) p xs

-- the places of the instances that pass; the first workunit has the place `unit`
abbrev pub places_among : ℕ → (UnitBook → Instance → Bool) → List UnitBook → List Place
places_among unit p [] = []
places_among unit p (b ∷ bs) = places_in unit 0 (p b) b.instances ++ places_among (unit + 1) p bs

-- the places of a world's instances that pass, in order
abbrev pub places_where : World → (UnitBook → Instance → Bool) → List Place
places_where w p = places_among 1 p w.units

abbrev pub places : World → List Place
places w = places_where w (λ b x. true)

-- whether the instance at a place passes a test; false if there is no instance
abbrev pub passes : World → (UnitBook → Instance → Bool) → Place → Bool
passes w p at = unwrap_or (option_and_then (λ b. option_map (p b) (slice_get b.instances at.number)) (unit_at w at.unit)) false

-- the number of the host that it was given to
abbrev pub host_of : Instance → Option ℕ
host_of x = option_map (λ (o : Owner). o.host) x.owner

abbrev pub is_owned_by : ℕ → Instance → Bool
is_owned_by host x = option_any (λ n. n == host) (host_of x)

abbrev pub is_held_by : ℕ → Instance → Bool
is_held_by host x = is_owned_by host x && is_held x

-- the host's instances, and those that it holds, by place
abbrev pub owned_by : World → ℕ → List Place
owned_by w host = places_where w (λ b x. is_owned_by host x)

abbrev pub held_by : World → ℕ → List Place
held_by w host = places_where w (λ b x. is_held_by host x)

-- it was given to the host on a day of 86,400 seconds
abbrev pub was_sent : ℕ → ℕ → Instance → Bool
was_sent host day x = option_any (λ (o : Owner). (o.host == host) && (o.sent / 86400 == day)) x.owner

-- how many of the host's instances were sent on a day, held or not
abbrev pub sent_on_day : World → ℕ → ℕ → ℕ
sent_on_day w host day = sum_by (λ b. count_by (was_sent host day) b.instances) w.units

-- it is held, and its deadline is past
abbrev pub is_overdue : ℕ → Instance → Bool
is_overdue now x = is_held x && option_any (λ (o : Owner). nat_lt o.deadline now) x.owner

abbrev pub overdue : World → ℕ → List Place
overdue w now = places_where w (λ b x. is_overdue now x)

-- the account of the host of a number
abbrev pub account_at : List HostRow → ℕ → Option ℕ
account_at hosts host = option_map (λ (h : HostRow). h.account) (nth hosts host)

-- the account of the host that it was given to
abbrev pub user_of : List HostRow → Instance → Option ℕ
user_of hosts x = option_and_then (account_at hosts) (host_of x)

-- it was given to a host of the user
abbrev pub is_of_user : List HostRow → ℕ → Instance → Bool
is_of_user hosts account x = option_any (λ n. n == account) (user_of hosts x)

-- some instance of the workunit was given to a host of the user
abbrev pub user_had : World → ℕ → UnitBook → Bool
user_had w account b = list_any (is_of_user w.hosts account) b.instances

-- the deadline of what was given to a host, else 0
abbrev pub deadline_of : Option Owner → ℕ
deadline_of None = 0
deadline_of (Some o) = o.deadline

-- the credit that a host has from one workunit: the workunit's credit for each valid instance of the host
abbrev pub credit_in : List App → ℕ → UnitBook → ℕ
credit_in apps host b = b.unit.credit * count_by (λ x. is_owned_by host x && is_valid (book_verdict apps b x)) b.instances

abbrev pub host_credit : World → ℕ → ℕ
host_credit w host = sum_by (credit_in w.apps host) w.units

-- the credit of a user is that of the user's hosts
abbrev pub user_credit : World → ℕ → ℕ
user_credit w account = sum_by (λ e. if e.1.account == account then host_credit w e.0 else 0) (enumerate_from 1 w.hosts)

-- the name of the instance at a place
abbrev pub name_at : World → Place → List ℕ
name_at w p = unwrap_or (option_map (λ b. instance_name b.unit.name p.number) (unit_at w p.unit)) []

-- the place of the workunit of a name
abbrev pub unit_named : World → List ℕ → Option ℕ
unit_named w name = place_where (λ b. bytes_eq b.unit.name name) w.units

-- a place, if there is an instance
abbrev pub existing_place : World → Place → Option Place
existing_place w p = option_map (λ x. p) (instance_at w p)

-- the place of the instance that a name denotes
abbrev pub place_of_parts : World → List ℕ × ℕ → Option Place
place_of_parts w parts = option_and_then (λ unit. existing_place w (record { unit = unit; number = parts.1 })) (unit_named w parts.0)

abbrev pub place_named : World → List ℕ → Option Place
place_named w name = option_and_then (place_of_parts w) (name_parts name)

-- the place of the account with this authenticator
abbrev pub account_place : World → List ℕ → Option ℕ
account_place w authenticator = place_where (λ (a : Account). bytes_eq a.authenticator authenticator) w.accounts

-- the number of the host of a key: an account and the host's own name for itself
abbrev pub is_host_of : ℕ → List ℕ → HostRow → Bool
is_host_of account cpid h = (h.account == account) && bytes_eq h.cpid cpid

abbrev pub known_host : World → ℕ → List ℕ → Option ℕ
known_host w account cpid = place_where (is_host_of account cpid) w.hosts

-- the order of places
abbrev pub is_before : Place → Place → Bool
is_before p q = nat_lt p.unit q.unit || ((p.unit == q.unit) && nat_lt p.number q.number)

abbrev pub is_same : Place → Place → Bool
is_same p q = (p.unit == q.unit) && (p.number == q.number)
