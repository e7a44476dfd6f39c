use Rattle.std.proofs.Common.{◌≡◌, rules, codes}
use Rattle.clap.specs.Words.{app_of, new_app}
use Rattle.command_line.specs.Program.{the_program}
use Rattle.command_line.proofs.program.program.Goals as goal

pub returns : goal.returns
unfolding the_program
returns c =
    let start : app_of c.about-bsched.result ≡ new_app (codes "bsched") = search rules in
    let create = c.in_ok-bsched.ensures _ _ start c.create_command.ensures in
    let serve = c.in_ok-bsched-2.ensures _ _ create c.serve_command.ensures in
    let import = c.in_ok-bsched-3.ensures _ _ serve c.import_command.ensures in
    let tick = c.in_ok-bsched-4.ensures _ _ import c.tick_command.ensures in
    let statement = c.in_ok-bsched-5.ensures _ _ tick c.statement_command.ensures in
    let upgrade = c.in_ok-bsched-6.ensures _ _ statement c.upgrade_command.ensures in
    c.with-7.ensures _ _ upgrade c.replay_command.ensures
