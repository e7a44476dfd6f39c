use Rattle.std.proofs.Common.{ap, refl, ◌∙◌}
use Rattle.table_meaning.specs.declared.tables.QueuePage.TheVariants.{First}
use Rattle.table_desk.specs.Pages.{next_page}
use Rattle.table_desk.proofs.WindowsKept.{window_read}
use Rattle.table_desk.proofs.Waiting.{waiting_read}
use Rattle.table_desk.proofs.window.QueueWindow.read.Goals as goal

pub returns-clause-window : goal.returns-clause-window
returns-clause-window g c = λ clean is_open rests w tell. (
  window_read w c.args.from c.in_ok-places.places (waiting_read g.S.Store c.args.conn.now c.queued_from.new.conn c.args.from c.in_ok-places.places 8 c.in_ok-places.ensures.queued clean is_open rests w tell)
      c.in_ok-end.end (c.in_ok-end.ensures ∙ ap (next_page First) c.as_slice.ensures),
  refl,
)
