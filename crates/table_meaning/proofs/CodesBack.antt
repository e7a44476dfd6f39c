-- A status and a lapse are read back from their numbers.
use Rattle.std.proofs.Common.{◌≡◌, Option, Some, None, refl}
use Rattle.sched_book.specs.declared.instance.Lapse.{Lapse}
use Rattle.sched_book.specs.declared.instance.Lapse.TheVariants.{Late}
use Rattle.sched_book.specs.declared.instance.Status.{Status}
use Rattle.sched_book.specs.declared.instance.Status.TheVariants.{Open}
use Rattle.table_meaning.specs.Codes.{status_code, status_of_code, lapse_code, lapse_in}

pub status_back : (s : Status) → status_of_code (status_code s) ≡ Some s
status_back Open = refl
status_back _ = refl

pub lapse_back : (l : Option Lapse) → lapse_in (lapse_code l) ≡ l
lapse_back None = refl
lapse_back (Some Late) = refl
lapse_back _ = refl
