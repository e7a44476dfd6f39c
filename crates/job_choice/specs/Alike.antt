-- Rule. When a grant of one world is a grant of another.
use Rattle.std.specs.Prelude.{◌≡◌, List}
use Rattle.sched_book.specs.Fits.{is_eligible, estimate_at}
use Rattle.sched_book.specs.Grant.{Asking, IsGrant, sent_today, end_word}
use Rattle.sched_book.specs.declared.instance.Place.{Place}
use Rattle.sched_book.specs.declared.world.World.{World}

-- For the host that asks, the same places are eligible and take the same seconds, as many jobs were sent on the day, and
-- the limits are the same.
pub record IsLike (w v : World) (q : Asking) : Type 0 where
  pub eligible : (p : Place) → is_eligible v q.host p ≡ is_eligible w q.host p
  pub seconds : (p : Place) → estimate_at v q.host p ≡ estimate_at w q.host p
  pub sent : sent_today v q ≡ sent_today w q
  pub to_send : v.settings.max_wus_to_send ≡ w.settings.max_wus_to_send
  pub in_progress : v.settings.max_wus_in_progress ≡ w.settings.max_wus_in_progress

-- a grant of one of two worlds that are alike is a grant of the other, and ends for the same reason
abbrev pub GrantsCarryOver : Type 0
GrantsCarryOver = (w v : World) (q : Asking) (jobs : List Place) → IsLike w v q → IsGrant w q jobs
    → IsGrant v q jobs × (end_word v q jobs ≡ end_word w q jobs)
