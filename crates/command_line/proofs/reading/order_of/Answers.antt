use Rattle.command_line.proofs.Sayings.{says_fault, says_order}
use Rattle.command_line.proofs.reading.order_of.Goals as goal

pub returns-in-Ok : goal.returns-in-Ok
returns-in-Ok c = says_order _ _ c.order_in.result c.in-Ok.ensures.found c.in-Ok.ensures.faults c.order_in.ensures

pub returns-in-Err : goal.returns-in-Err
returns-in-Err c = says_fault _ _ c.fault_by.result c.in-Err.ensures.faults c.fault_by.ensures
