use Rattle.std.proofs.Common.{refl, sym}
use Rattle.pinentry_client.proofs.Calling.{pinentry_call, asks_consent, ready_of}
use Rattle.pinentry_client.proofs.pinentry.PinentryPrompter.confirm.Goals as goal

pub returns : goal.returns
returns g c =
    rw (sym c.self.view_is)
    (pinentry_call g.La.Launcher.launches
    (asks_consent (ready_of c.self.view_is c.requires) c.in-Some.is refl c.stays_open-self-inside.ensures c.consent_talk-consent.ensures.talk) refl refl)
