use Rattle.std.proofs.Common.{refl}
use Rattle.assuan_server.{specs.Inquiries.Data, proofs.StillOpen.ended_is_closed}
use Rattle.line_tests.proofs.server.ask_and_give.Goals as goal

pub give-requires : goal.give-requires
give-requires c = ended_is_closed (Data c.in-Secret.secret) refl refl (c.in-Secret.ensures.inquiry (λ e. cc e))
