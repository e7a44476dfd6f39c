-- Rule. What a desk's answer says only if the desk can be trusted.
use Rattle.sched_book.specs.declared.desk.Units as units

-- what an answer of a desk means, if the desk is honest after it and was well kept before
abbrev pub Trusted : {D : Type 0} → units.Ghosts D → D → D → Type 0 → Type 0
Trusted g old new p = g.honest new → g.well_kept old → p
