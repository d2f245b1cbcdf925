use Rattle.std.proofs.Common.{refl}
use Rattle.assuan_server.specs.Inquiries.{Ended, TooLong, Spent, ReadFault, ended, too_long, spent, read_fault}
use Rattle.assuan_server.proofs.inquiry.end.end_of.Goals as goal

pub returns-in-TooLong-clause-failure : goal.returns-in-TooLong-clause-failure
returns-in-TooLong-clause-failure c = rw c.in-TooLong.is (record { outcome = TooLong; named = refl; comes_to = λ limit bytes. too_long })

pub returns-in-End-clause-failure : goal.returns-in-End-clause-failure
returns-in-End-clause-failure c = rw c.in-End.is (record { outcome = Ended; named = refl; comes_to = λ limit bytes. ended })

pub returns-in-Spent-clause-failure : goal.returns-in-Spent-clause-failure
returns-in-Spent-clause-failure c = rw c.in-Spent.is (record { outcome = Spent; named = refl; comes_to = λ limit bytes. spent })

pub returns-in-ReadFault-clause-failure : goal.returns-in-ReadFault-clause-failure
returns-in-ReadFault-clause-failure c = rw c.in-ReadFault.is (record { outcome = ReadFault; named = refl; comes_to = λ limit bytes. read_fault })
