-- Words. A writer of comma-separated values between two rows.
use Rattle.std.specs.Prelude.{◌≡◌, ℕ, false, List, Option, Some}
use Rattle.csv.specs.Writing.{default_writer, fields_written, has_written, text_written, writer_setup}
use Rattle.csv.specs.declared.writer.Writer.{Writer}

-- it has written this text so far, with the defaults of `csv`: commas, quotes if needed, and a line feed after each row
pub record HasWritten {W : Type 0} (contents : W → Option (List ℕ)) (w : Writer W) (text : List ℕ) : Type 0 where
  pub setup : writer_setup w ≡ default_writer
  pub fields : fields_written w ≡ 0
  pub blank : has_written w ≡ false
  pub bytes : text_written contents w ≡ Some text
