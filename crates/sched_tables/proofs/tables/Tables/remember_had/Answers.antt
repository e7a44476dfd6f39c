use Rattle.sched_tables.proofs.tables.Tables.remember_had.Goals as goal

pub returns-clause-reads : goal.returns-clause-reads
returns-clause-reads g c = λ begun read had_before. (
  read.0,
  read.1,
  read.2,
  λ honest kept. c.remember_had.ensures _ _ (read.3 honest kept) (had_before honest kept),
  read.4,
)
