-- Rule. Whether a request names its host.
use Rattle.std.specs.Prelude.{ℕ, Bool, false, ◌||◌, ◌==◌, Option, Some, None}

-- the number of the host is known, and is this one
abbrev pub is_number : ℕ → Option ℕ → Bool
is_number hostid None = false
is_number hostid (Some number) = hostid == number

-- a request names no number, or that of its host
abbrev pub names_host : ℕ → Option ℕ → Bool
names_host hostid number = (hostid == 0) || is_number hostid number
