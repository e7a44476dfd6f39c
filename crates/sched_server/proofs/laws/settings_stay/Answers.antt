use Rattle.past_laws.proofs.Holds as past
use Rattle.past_laws.specs.Laws.{SettingsStay}
use Rattle.sched_server.proofs.Lasting.{lasts}
use Rattle.sched_server.proofs.laws.settings_stay.Goals as goal

pub returns : goal.returns
returns c = lasts SettingsStay past.settings_stay
