use Rattle.std.proofs.Common.{refl}
use Rattle.assuan_server.{specs.Inquiries.{Data, Cancelled, TooMuch, Unexpected}, proofs.StillOpen.ended_is_closed}
use Rattle.line_tests.proofs.server.inquire.Goals as goal

pub with_next-requires : goal.with_next-requires
with_next-requires c = ended_is_closed (Data c.in-Data.bytes.items) refl refl (c.in-Data.ensures.asks.inquiry (λ e. cc e))

pub with_next-requires-in-Cancelled : goal.with_next-requires-in-Cancelled
with_next-requires-in-Cancelled c = ended_is_closed Cancelled refl refl (c.in-Cancelled.ensures.asks.inquiry (λ e. cc e))

pub with_next-requires-in-TooMuch : goal.with_next-requires-in-TooMuch
with_next-requires-in-TooMuch c = ended_is_closed TooMuch refl refl (c.in-TooMuch.ensures.asks.inquiry (λ e. cc e))

pub with_next-requires-in-Unexpected : goal.with_next-requires-in-Unexpected
with_next-requires-in-Unexpected c = ended_is_closed Unexpected refl refl (c.in-Unexpected.ensures.asks.inquiry (λ e. cc e))

pub with_next-requires-in-NoMemory : goal.with_next-requires-in-NoMemory
with_next-requires-in-NoMemory c = ended_is_closed TooMuch tt refl (c.in-NoMemory.ensures.asks.inquiry (λ e. cc e))
