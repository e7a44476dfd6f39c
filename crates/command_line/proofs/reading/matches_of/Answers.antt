use Rattle.std.proofs.Common.{◌≡◌, ◌∙◌, ap, subst, map}
use Rattle.std.proofs.lemmas.Result.{IfOk-weaker}
use Rattle.std.specs.String.{string_bytes}
use Rattle.clap.specs.Words.{App, FailsBy, app_of, fault_of, is_simple, is_simple_and_free, subcommand_of}
use Rattle.command_line.specs.Program.{the_program}
use Rattle.command_line.proofs.PlainProgram.{is_simple_program, is_free_program}
use Rattle.command_line.proofs.reading.matches_of.Goals as goal

pub returns : goal.returns
returns c =
    let is : app_of c.in_ok-program.field-0 ≡ the_program = c.in_ok-program.ensures in
    let parse = c.try_get_matches_from in
    let words = map string_bytes c.args.words.now in
    record {
      found = IfOk-weaker parse.result _ _ (λ m h. (h (ap is_simple is ∙ is_simple_program)).1 ∙ ap (λ (a : App). subcommand_of a words) is) parse.ensures.matches;
      faults = subst (λ (a : App). FailsBy (fault_of a words) parse.result) is (parse.ensures.kinds (ap is_simple_and_free is ∙ is_free_program));
    }
