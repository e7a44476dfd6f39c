use Rattle.std.proofs.Common.{refl, sym, subst, ◌∙◌}
use Rattle.std.specs.Cmp.Lexicographic.{slice_cmp}
use Rattle.std.specs.Ordering.{nat_cmp}
use Rattle.table_cache.specs.Remembering.{IsKeyOf}
use Rattle.table_cache.specs.declared.keys.HostKeyRead.{HostKeyRead}
use Rattle.table_cache.proofs.RowsKept.{one_text, holds_with}
use Rattle.table_cache.proofs.Remembered.{found_too}
use Rattle.table_cache.proofs.cache.Cache.remember_host_key.Goals as goal

pub returns-in-Ok : goal.returns-in-Ok
returns-in-Ok c = λ w calls read found.
    let k : HostKeyRead = record { account = c.args.account; host = c.in-Some.host } in
    let here : IsKeyOf w c.in-Ok.key k = subst (λ cpid. IsKeyOf w cpid k) (sym c.in-Ok.ensures) (sym found ∙ c.in-Some.is) in
    let keys = holds_with (slice_cmp nat_cmp) one_text (IsKeyOf w) c.args.self.now.keys c.put.new.self c.in-Ok.key k c.put.ensures read.keys here in
    found_too w calls _ _ refl read read.units read.names read.accounts keys read.skips
