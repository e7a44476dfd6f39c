-- Words. The credit that the scores of settlement bring to the hosts of a user.
use Rattle.std.specs.Prelude.{ℕ, ◌==◌, Bool, if◌then◌else◌, List, sum_by}
use Rattle.sched_book.specs.Places.{option_any, nth}
use Rattle.sched_book.specs.declared.rows.HostRow.{HostRow}
use Rattle.quorum_credit.specs.declared.scores.Score.{Score}

-- the host of this number exists, and belongs to the account
abbrev pub belongs : List HostRow → ℕ → ℕ → Bool
belongs hosts account host = option_any (λ (h : HostRow). h.account == account) (nth hosts host)

-- the millicredits that the scores bring to the hosts of the account
abbrev pub user_credits_in : List HostRow → ℕ → List Score → ℕ
user_credits_in hosts account scores = sum_by (λ (m : Score). if belongs hosts account m.host then m.credit else 0) scores
