-- What had no memory where a run ends so.
use Rattle.std.proofs.Common.{◌≡◌, ◌≤◌, inl, inr, ℕ, List, Bool, true, false, Option, Some, None, Err, Result, refl, arith, rules, sym, ap, ◌∙◌}
use Rattle.{agent_ports.specs.{Counts.Rose, declared.link.WriteFault.WriteFault}, passphrase_talk.{proofs.Connected.never_short, specs.{Contacts.Contacts, Visits.{Visits, no_memory, unmet, met}}}}
use Rattle.{passphrase_talk.specs.declared.{connector.{Place.Place, Unmet.Unmet, Waits.Waits}, told.Told.Told}, passphrase_words.specs.{Requests.line_of_request, Tasks.TaskValue, declared.task.Act.Act}}
use Rattle.session_options.specs.OptionValues.{EnvWords}
use Rattle.passphrase_client.proofs.{Answering.emptied_notes, Given.{first_noted, stop_is_noted}}
use Rattle.passphrase_client.specs.Runs.{GoesTo, refused_input, not_found, ended, given, ending_of, ending_of_unmet, World, ComesTo, Reply, Settles, behind_all, stops, ends, goes_on, notes, holds, DoesStep}
use Rattle.passphrase_client.specs.{Steps.{place_of, waits_of, request_of}, Verdicts.{verdict, end_of, failure, emptied_verdict}, declared.{course.Course.TheVariants.Ends, ending.{Ending.Ending, Lifetime.Lifetime}}}
use Rattle.passphrase_client.specs.declared.{input.InputFault.InputFault, steps.Step.{Step, TheVariants.Forget}, verdict.Verdict.Verdict}
use Rattle.passphrase_client.specs.declared.ending.Ending.TheVariants as ending
use Rattle.passphrase_client.specs.declared.verdict.Verdict.TheVariants as verdict_is
use Rattle.passphrase_talk.specs.declared.connector.Unmet.TheVariants as why
use Rattle.passphrase_talk.specs.declared.told.Loss.TheVariants as loss
use Rattle.passphrase_talk.specs.declared.told.Told.TheVariants as told

-- a call had no memory
abbrev IsShort : Contacts → Contacts → Type 0
IsShort before after = Rose before.shortages after.shortages

visit_rises : {place : Place} {waits : Waits} {line : List ℕ} {terminal : EnvWords} {reply : Told} {before after : Contacts} → Visits place waits line terminal reply before after
    → before.shortages ≤ after.shortages
visit_rises (no_memory un) = un.shortages
visit_rises (unmet un) = un.shortages
visit_rises (met contact) = contact.shortages

unmet_has_memory : told.Lost loss.Unmet ≡ told.NoMemory → ⊥
unmet_has_memory is = grind (arith, rules)

short_by : {place : Place} {waits : Waits} {line : List ℕ} {terminal : EnvWords} {reply : Told} {before after : Contacts} → reply ≡ told.NoMemory
    → Visits place waits line terminal reply before after → IsShort before after
short_by is (no_memory un) = un.no_memory_rose refl
short_by is (unmet un) = absurd (unmet_has_memory is)
short_by is (met contact) = absurd (never_short contact.turns (sym contact.told_is ∙ is))

settling_rises : (empty : Bool) (task : TaskValue) (terminal : EnvWords) (at : Step) (held : List ℕ) (reply : Told) (what : Verdict) (before after : Contacts)
    → Settles empty task terminal at held reply what before after → before.shortages ≤ after.shortages
settling_rises true task terminal at held reply what before after settles = visit_rises settles.1
settling_rises false task terminal at held reply what before after settles = rw settles.1 (omega arith)

step_rises : {task : TaskValue} {terminal : EnvWords} {at : Step} {held : List ℕ} {reply : Told} {what : Verdict} {before after : Contacts}
    → DoesStep task terminal at held reply what before after → before.shortages ≤ after.shortages
step_rises does = omega (arith, visit_rises does.visits, settling_rises _ _ _ _ _ _ _ _ _ does.settles)

rises_later : (before between after : Contacts) → IsShort before between → between.shortages ≤ after.shortages → IsShort before after
rises_later before between after one rises = omega (arith, one, rises)

rises_before : (before between after : Contacts) → before.shortages ≤ between.shortages → IsShort between after → IsShort before after
rises_before before between after rises one = omega (arith, one, rises)

failure_short : (act : Act) (at : Step) (reply : Told) → failure act at reply ≡ Some ending.NoMemory → reply ≡ told.NoMemory
failure_short act at reply is = grind (arith, rules)

verdict_short : (act : Act) (held : List ℕ) (at : Step) (reply : Told) → verdict_is.Ends ending.NoMemory ≡ verdict act held at reply → reply ≡ told.NoMemory
verdict_short act held at reply is = grind (arith, rules)

noted_short : (act : Act) (held : List ℕ) (at : Step) (reply : Told) → verdict_is.Notes ending.NoMemory ≡ verdict act held at reply → reply ≡ told.NoMemory
noted_short act held at reply is = grind (arith, rules)

emptied_short : (at : Step) (failed : Option Ending) → verdict_is.Ends ending.NoMemory ≡ emptied_verdict at failed → failed ≡ Some ending.NoMemory
emptied_short at failed is = grind (arith, rules)

end_short : (empty : Bool) (task : TaskValue) (terminal : EnvWords) (at : Step) (held : List ℕ) (reply : Told) (before between after : Contacts)
    → Visits (place_of at) (waits_of at) (line_of_request task (request_of at task.act held)) terminal reply before between
    → Settles empty task terminal at held reply (verdict_is.Ends ending.NoMemory) between after → IsShort before after
end_short false task terminal at held reply before between after visit settles =
    rises_later before between after (short_by (verdict_short task.act held at reply settles.0) visit) (settling_rises false task terminal at held reply (verdict_is.Ends ending.NoMemory) between after settles)
end_short true task terminal at held reply before between after visit settles =
    rises_before before between after (visit_rises visit) (short_by (failure_short task.act (Forget (place_of at)) settles.0 (emptied_short at _ settles.2)) settles.1)

note_short : (empty : Bool) (task : TaskValue) (terminal : EnvWords) (at : Step) (held : List ℕ) (reply : Told) (before between after : Contacts)
    → Visits (place_of at) (waits_of at) (line_of_request task (request_of at task.act held)) terminal reply before between
    → Settles empty task terminal at held reply (verdict_is.Notes ending.NoMemory) between after → IsShort before after
note_short false task terminal at held reply before between after visit settles =
    rises_later before between after (short_by (noted_short task.act held at reply settles.0) visit) (settling_rises false task terminal at held reply (verdict_is.Notes ending.NoMemory) between after settles)
note_short true task terminal at held reply before between after visit settles = absurd (emptied_notes at _ ending.NoMemory settles.2)

end_is_noted : (act : Act) (noted : Option Ending) → end_of act noted ≡ ending.NoMemory → noted ≡ Some ending.NoMemory
end_is_noted act noted is = grind (arith, rules)

steps_short : {task : TaskValue} {terminal : EnvWords} {steps : List Step} {held : List ℕ} {noted : Option Ending} {before after : Contacts} {replies : List Reply} {end : Ending}
    (start : Contacts) → start.shortages ≤ before.shortages → (noted ≡ Some ending.NoMemory → IsShort start before) → end ≡ ending.NoMemory
    → ComesTo task terminal steps held noted before replies (Ends end) after → IsShort start after
steps_short {task = task} start from counted is (behind_all {noted = noted}) = counted (end_is_noted task.act noted is)
steps_short start from counted is (stops {step = at} {noted = noted} {ending = end} stop) = counted (stop_is_noted at noted end stop ∙ ap (λ (e : Ending). Some e) is)
steps_short start from counted is (ends {before = before} {after = after} going does) =
    rises_before start before after from (end_short _ _ _ _ _ _ _ _ _ does.visits (rw is at does.settles))
steps_short start from counted is (goes_on {before = before} {between = between} going does more) =
    steps_short start (omega (arith, from, step_rises does)) (λ noted. rises_later start before between (counted noted) (step_rises does)) is more
steps_short start from counted is (notes {noted = noted} {ending = later} {before = before} {between = between} going does more) =
    steps_short start (omega (arith, from, step_rises does))
    (λ first. elim (first_noted noted later ending.NoMemory first) [
      | inl earlier ↦ rises_later start before between (counted earlier) (step_rises does)
      | inr same ↦ rises_before start before between from (note_short _ _ _ _ _ _ _ _ _ does.visits (rw same at does.settles))
    ]) is more
steps_short start from counted is (holds {before = before} {between = between} going does more) =
    steps_short start (omega (arith, from, step_rises does)) (λ noted. rises_later start before between (counted noted) (step_rises does)) is more

nothing_noted : None ≡ Some ending.NoMemory → ⊥
nothing_noted is = grind (arith, rules)

input_has_memory : (fault : InputFault) → ending.Input fault ≡ ending.NoMemory → ⊥
input_has_memory fault is = grind (arith, rules)

write_has_memory : (lasts : Lifetime) (written : Result (Unit {0}) WriteFault) → ending_of lasts written ≡ ending.NoMemory → ⊥
write_has_memory lasts written is = grind (arith, rules)

unmet_by : (of : Unmet) → ending_of_unmet of ≡ ending.NoMemory → of ≡ why.NoMemory
unmet_by of is = grind (arith, rules)

pub run_short : {task : TaskValue} {terminal : EnvWords} {before after : World} {end : Ending} → end ≡ ending.NoMemory → GoesTo task terminal before after end
    → Rose before.contacts.shortages after.contacts.shortages
run_short is (refused_input {fault = fault} takes contacts output) = absurd (input_has_memory fault is)
run_short is (not_found held {why = of} takes finds output) = finds.no_memory (ap (λ (x : Unmet). Err x) (unmet_by of is))
run_short {before = before} is (ended steps output) = steps_short before.contacts steps.finds.shortages (λ noted. absurd (nothing_noted noted)) is steps.comes
run_short is (given {lasts = lasts} {written = written} steps writes) = absurd (write_has_memory lasts written is)
