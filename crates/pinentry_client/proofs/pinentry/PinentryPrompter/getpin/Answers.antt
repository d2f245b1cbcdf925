use Rattle.std.proofs.Common.{refl, sym}
use Rattle.pinentry_client.proofs.Calling.{pinentry_call, asks_pin, ready_of}
use Rattle.pinentry_client.proofs.pinentry.PinentryPrompter.getpin.Goals as goal

pub returns : goal.returns
returns g c =
    rw (sym c.self.view_is)
    (pinentry_call g.La.Launcher.launches
    (asks_pin (ready_of c.self.view_is c.requires) c.in-Some.is refl c.stays_ready-self-inside.ensures c.pin_talk-outcome.ensures.talk) refl refl)
