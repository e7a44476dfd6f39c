use Rattle.std.proofs.Common.{◌≡◌, Some, refl, sym, ap, subst, ◌∙◌}
use Rattle.std.specs.Cmp.Lexicographic.{slice_cmp}
use Rattle.std.specs.Ordering.{nat_cmp}
use Rattle.sched_book.specs.Desk.{account_by_key}
use Rattle.table_cache.specs.Remembering.{IsAccountOf}
use Rattle.table_cache.proofs.RowsKept.{one_text, holds_with}
use Rattle.table_cache.proofs.Remembered.{found_too}
use Rattle.table_cache.proofs.cache.Cache.remember_account.Goals as goal

pub returns-in-Ok-account_read : goal.returns-in-Ok-account_read
returns-in-Ok-account_read c = λ w calls read found.
    let is : account_by_key w c.args.authenticator.now ≡ Some (record { place = c.in-Ok-account_read.read.place; row = c.in-Ok-account_read.read.row }) =
    sym found ∙ c.in-Some.is ∙ ap Some c.in-Ok-account_read.ensures in
    let here : IsAccountOf w c.in-Ok.key c.in-Ok-account_read.read = subst (λ k. IsAccountOf w k c.in-Ok-account_read.read) (sym c.in-Ok.ensures) is in
    let accounts = holds_with (slice_cmp nat_cmp) one_text (IsAccountOf w) c.args.self.now.accounts c.put.new.self c.in-Ok.key c.in-Ok-account_read.read c.put.ensures read.accounts here in
    found_too w calls _ _ refl read read.units read.names accounts read.keys read.skips
