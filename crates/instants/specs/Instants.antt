-- Rule. Instants of ISO 8601, and their moments. (This profile.)
use Rattle.std.specs.Prelude.{ℕ, ℤ, pos, negsuc, ◌/◌, ◌%◌, ◌==◌, ◌&&◌, nat_le, if◌then◌else◌, List, Option, Some, None, option_and_then}
use Rattle.std.specs.Result.{result_ok}
use Rattle.std.specs.Str.{is_utf8}
use Rattle.jiff.specs.Words.{parse_timestamp}
use Rattle.sched_book.specs.Limits.{last_moment}

-- the moment of an instant, in nanoseconds from 1970-01-01T00:00:00Z: it must be on a whole second and in the range of moments
abbrev pub moment_of_nanoseconds : ℤ → Option ℕ
moment_of_nanoseconds (pos n) =
    if (n % 1_000_000_000 == 0) && nat_le (n / 1_000_000_000) last_moment then Some (n / 1_000_000_000) else None
moment_of_nanoseconds (negsuc n) = None

-- the moment of a text, which is an instant of ISO 8601 as `jiff` reads it
abbrev pub moment_in : List ℕ → Option ℕ
moment_in text = option_and_then moment_of_nanoseconds (result_ok (parse_timestamp text))

-- the same for bytes, which must be UTF-8
abbrev pub moment_of : List ℕ → Option ℕ
moment_of bytes = if is_utf8 bytes then moment_in bytes else None
