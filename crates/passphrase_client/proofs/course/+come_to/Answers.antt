use Rattle.std.proofs.{Common.{ap, sym, ◌≡◌, ◌∙◌, ◌∷◌, []}, lemmas.List.nil_from_length}
use Rattle.passphrase_client.{specs.Runs.{behind_all, stops, gives, ends, goes_on, notes, holds}, proofs.Unprompted.{first_waits, others_wait}}
use Rattle.passphrase_talk.specs.Contacts.{Contacts}
use Rattle.passphrase_client.proofs.course.+come_to.Goals as goal

pub returns-in_default-clause-comes : goal.returns-in_default-clause-comes
returns-in_default-clause-comes g t c =
    let none : c.args.steps.now ≡ [] = nil_from_length c.args.steps.now c.in_default.ensures.cases in
    rw (none, c.end_of.ensures) ([], behind_all)

pub returns-in-Some-stops_at-clause-comes : goal.returns-in-Some-stops_at-clause-comes
returns-in-Some-stops_at-clause-comes g t c = rw c.in-Some.ensures.cases.0 ([], stops (sym c.stops_at.ensures ∙ c.in-Some-stops_at.is))

pub returns-in-GoesOn-clause-comes : goal.returns-in-GoesOn-clause-comes
returns-in-GoesOn-clause-comes g t c =
    let does = c.in-GoesOn.ensures.does in
    let more = rw c.take_step.ensures.terminal at c.come_to.ensures.comes in
    rw c.in-Some.ensures.cases.0 (record { to = c.in-Some.step.now; told = does.0 } ∷ more.0, goes_on (sym c.stops_at.ensures ∙ c.in_default-stops_at.is) does.1 more.1)

pub returns-in-Notes-clause-comes : goal.returns-in-Notes-clause-comes
returns-in-Notes-clause-comes g t c =
    let does = c.in-Notes.ensures.does in
    let more = rw (c.keep_reason.ensures.terminal, c.keep_reason.ensures.contacts, c.take_step.ensures.terminal, c.first_of.ensures) at c.come_to-in-Notes.ensures.comes in
    rw c.in-Some.ensures.cases.0 (record { to = c.in-Some.step.now; told = does.0 } ∷ more.0, notes (sym c.stops_at.ensures ∙ c.in_default-stops_at.is) does.1 more.1)

pub returns-in-Holds-clause-comes : goal.returns-in-Holds-clause-comes
returns-in-Holds-clause-comes g t c =
    let does = c.in-Holds.ensures.does in
    let more = rw c.take_step.ensures.terminal at c.come_to-course.ensures.comes in
    rw c.in-Some.ensures.cases.0 (record { to = c.in-Some.step.now; told = does.0 } ∷ more.0, holds (sym c.stops_at.ensures ∙ c.in_default-stops_at.is) does.1 more.1)

pub returns-in-Gives-clause-comes : goal.returns-in-Gives-clause-comes
returns-in-Gives-clause-comes g t c =
    let does = c.in-Gives.ensures.does in
    rw c.in-Some.ensures.cases.0 (record { to = c.in-Some.step.now; told = does.0 } ∷ [], gives (sym c.stops_at.ensures ∙ c.in_default-stops_at.is) does.1)

pub returns-in-Ends-clause-comes : goal.returns-in-Ends-clause-comes
returns-in-Ends-clause-comes g t c =
    let does = c.in-Ends.ensures.does in
    rw c.in-Some.ensures.cases.0 (record { to = c.in-Some.step.now; told = does.0 } ∷ [], ends (sym c.stops_at.ensures ∙ c.in_default-stops_at.is) does.1)

pub returns-in-GoesOn-clause-unprompted : goal.returns-in-GoesOn-clause-unprompted
returns-in-GoesOn-clause-unprompted g t c = λ all.
    c.come_to.ensures.unprompted (others_wait c.in-Some.step.now c.in-Some.rest.now (rw c.in-Some.ensures.cases.0 at all))
    ∙ c.in-GoesOn.ensures.unprompted (first_waits c.in-Some.step.now c.in-Some.rest.now (rw c.in-Some.ensures.cases.0 at all))

pub returns-in-Notes-clause-unprompted : goal.returns-in-Notes-clause-unprompted
returns-in-Notes-clause-unprompted g t c = λ all.
    c.come_to-in-Notes.ensures.unprompted (others_wait c.in-Some.step.now c.in-Some.rest.now (rw c.in-Some.ensures.cases.0 at all))
    ∙ ap (λ (k : Contacts). k.launches) c.keep_reason.ensures.contacts ∙ c.in-Notes.ensures.unprompted (first_waits c.in-Some.step.now c.in-Some.rest.now (rw c.in-Some.ensures.cases.0 at all))

pub returns-in-Ends-clause-unprompted : goal.returns-in-Ends-clause-unprompted
returns-in-Ends-clause-unprompted g t c = λ all. c.in-Ends.ensures.unprompted (first_waits c.in-Some.step.now c.in-Some.rest.now (rw c.in-Some.ensures.cases.0 at all))
