-- The three tests read one world.
use Rattle.std.proofs.Common.{◌≡◌, ◌∙◌, Bool, None}
use Rattle.sched_book.specs.Imports.{fault_of_rows, first_fault, shelf_of}
use Rattle.office_files.proofs.FirstFaults.{by_room, unknown_reference}
use Rattle.office_files.proofs.checks.check_rows.Goals as goal
use Rattle.office_files.proofs.checks.check_rows.Goals.{In_ok-has_room}

after_all : (g : _) (c : In_ok-has_room g) (b : Bool) → c.in_ok-has_room.field-0 ≡ b → g.D.Units.honest c.has_room.new.desk → g.D.Units.well_kept c.args.desk.now
    → fault_of_rows (shelf_of (g.D.Units.world c.args.desk.now)) c.args.rows.now ≡ first_fault None None b
after_all g c b is = λ honest kept.
    let u = g.met.D.Units in
    let honest_2 = u.stays_honest _ _ c.has_room.ensures.reads honest in
    let honest_1 = u.stays_honest _ _ c.unknown_in.ensures.reads honest_2 in
    let kept_1 = u.stays_kept _ _ c.duplicate_in.ensures.reads honest_1 kept in
    let kept_2 = u.stays_kept _ _ c.unknown_in.ensures.reads honest_2 kept_1 in
    let same_1 = u.stays_same _ _ c.duplicate_in.ensures.reads honest_1 kept in
    let same_2 = u.stays_same _ _ c.unknown_in.ensures.reads honest_2 kept_1 ∙ same_1 in
    by_room _ _ _ _ _ _ _ b same_1 same_2 (c.in_ok-row.ensures.answer honest_1 kept) (c.in_ok-row-2.ensures.answer honest_2 kept_1)
    (c.in_ok-has_room.ensures.answer honest kept_2) c.in_default.is c.in_default-2.is is

pub returns-then-branch-clause-ok : goal.returns-then-branch-clause-ok
returns-then-branch-clause-ok g c = after_all g c.before _ c.if-branch.true

pub returns-else-branch-clause-err : goal.returns-else-branch-clause-err
returns-else-branch-clause-err g c = λ honest kept other. after_all g c.before _ c.if-branch.false honest kept

pub returns-in-Some-2-clause-err : goal.returns-in-Some-2-clause-err
returns-in-Some-2-clause-err g c = λ honest kept other.
    let u = g.met.D.Units in
    let honest_1 = u.stays_honest _ _ c.unknown_in.ensures.reads honest in
    let kept_1 = u.stays_kept _ _ c.duplicate_in.ensures.reads honest_1 kept in
    unknown_reference _ _ _ _ _ _ (u.stays_same _ _ c.duplicate_in.ensures.reads honest_1 kept) (c.in_ok-row.ensures.answer honest_1 kept)
    (c.in_ok-row-2.ensures.answer honest kept_1) c.in_default.is c.in-Some-2.is
