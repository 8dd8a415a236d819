use Rattle.frame.proofs.Decided.{decided_none, decided_unread, decided_work}
use Rattle.frame.proofs.program.decide.Goals as goal

pub returns-in_default-clause-decides : goal.returns-in_default-clause-decides
returns-in_default-clause-decides g c = decided_none _ _ _ _ _ _ _ _ _ _ c.in_default.not-Some

pub returns-in-Err-clause-decides : goal.returns-in-Err-clause-decides
returns-in-Err-clause-decides g c =
    let read = c.read_input.ensures in
    decided_unread _ _ _ _ _ _ _ _ _ _ _ _ _ _ _ _ c.in-Some.is c.in-Err.is c.input_status.ensures read.count read.last read.fault read.too_long read.taken

pub returns-clause-decides : goal.returns-clause-decides
returns-clause-decides g c =
    let read = c.read_input.ensures in
    let work = c.work.ensures in
    decided_work _ _ _ _ _ _ _ _ _ _ _ _ _ _ _ _ _ _ _ _ _ c.in-Some.is c.in-Ok.is read.count read.last c.in-Ok.ensures.whole
    work.made work.refused work.exact work.at_most work.count work.failed_draw read.taken
