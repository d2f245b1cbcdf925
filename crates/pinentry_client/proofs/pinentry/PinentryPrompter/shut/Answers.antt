use Rattle.std.proofs.Common.{refl, sym, ◌∙◌}
use Rattle.pinentry_client.proofs.Calling.{pinentry_call, shuts_alone, shuts}
use Rattle.pinentry_client.proofs.pinentry.PinentryPrompter.shut.Goals as goal

pub returns-in_default : goal.returns-in_default
returns-in_default g c =
    rw (sym c.self.view_is) (pinentry_call g.La.Launcher.launches (shuts_alone (sym c.take.ensures.value ∙ c.in_default.is) c.take.ensures.after) refl refl)

pub returns : goal.returns
returns g c =
    rw (sym c.self.view_is)
    (pinentry_call g.La.Launcher.launches
    (shuts {conn = c.in-Some.peer} (sym c.take.ensures.value ∙ c.in-Some.is) c.take.ensures.after c.into_link-link.ensures.output
    (c.say_bye.ensures.input ∙ c.into_link-link.ensures.input) c.say_bye.ensures.said
    (record { finished = c.finish.ensures.finished; coming = c.finish.ensures.coming; launched = c.finish.ensures.launched; rose = c.finish.ensures.rose; faults = c.finish.ensures.faults })) refl refl)
