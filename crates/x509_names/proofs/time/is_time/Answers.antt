use Rattle.x509_names.proofs.Times.{no_time, time_of_date, time_of_no_date}
use Rattle.x509_names.proofs.time.is_time.Goals as goal

pub returns-then-is_date : goal.returns-then-is_date
returns-then-is_date c = time_of_date _ _ _ c.in-Some.ensures (c.is_date.ensures.0 c.if-is_date.true) c.is_clock.ensures

pub returns-else-is_date : goal.returns-else-is_date
returns-else-is_date c = time_of_no_date _ _ _ c.in-Some.ensures c.is_date.ensures c.if-is_date.false

pub returns-in-None : goal.returns-in-None
returns-in-None c = no_time _ c.in-None.ensures
