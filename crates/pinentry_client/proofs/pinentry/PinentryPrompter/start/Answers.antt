use Rattle.std.proofs.Common.{refl, sym}
use Rattle.pinentry_client.proofs.Calling.{pinentry_call, starts_none, starts, idle_of, childless_of}
use Rattle.pinentry_client.proofs.pinentry.PinentryPrompter.start.Goals as goal

pub returns-in_default : goal.returns-in_default
returns-in_default g c =
    let none = childless_of c.self.view_is c.requires.childless in
    let has = c.in_default.ensures in
    rw (sym c.self.view_is)
    (pinentry_call g.La.Launcher.launches
    (starts_none (idle_of c.self.view_is c.requires.idle) none none
    (record { coming = has.coming; launched = has.launched; finished = has.finished; rose = has.failed refl; faults = has.faults })) refl refl)

pub returns : goal.returns
returns g c =
    let has = c.in-Some.ensures in
    let fresh = c.new-peer.ensures in
    rw (sym c.self.view_is)
    (pinentry_call g.La.Launcher.launches
    (starts {fresh = c.new-peer.result} {conn = c.start_talk-end.new.peer} {end = c.start_talk-end.result} (idle_of c.self.view_is c.requires.idle)
    (childless_of c.self.view_is c.requires.childless) c.replace.ensures.after c.is_ok-self-inside.ensures.value c.opened_of.ensures
    (rw fresh (record { fresh = has.fresh; reader = refl; tally = refl; state = refl; coming = has.coming; launched = rw c.deref.ensures.0 at has.launched; finished = has.finished; faults = has.faults }))
    c.start_talk-end.ensures.talk) refl refl)
