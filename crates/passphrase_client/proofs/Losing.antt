-- What failed where a run ends without an agent, or with one that was lost.
use Rattle.std.proofs.Common.{◌≡◌, ◌≤◌, ◌⊎◌, inl, inr, ℕ, List, Bool, true, false, Option, Some, None, Ok, Err, Result, refl, arith, rules, sym, ap, ◌∙◌}
use Rattle.{agent_ports.specs.{Counts.Rose, Sides.Side, Writing.Writes, declared.link.WriteFault.WriteFault}, passphrase_talk.{proofs.Connected.never_unmet, specs.{Contacts.Contacts, Visits.{Visits, no_memory, unmet, met}}}}
use Rattle.{passphrase_talk.specs.declared.{connector.{Place.Place, Unmet.Unmet, Waits.Waits}, told.{Loss.Loss, Told.Told}}, passphrase_words.specs.{Requests.line_of_request, Tasks.TaskValue, declared.task.Act.Act}}
use Rattle.session_options.specs.OptionValues.{EnvWords}
use Rattle.passphrase_client.proofs.Given.{steps_end, none_noted}
use Rattle.passphrase_client.specs.Runs.{GoesTo, refused_input, not_found, ended, given, ending_of, ending_of_unmet, World, ComesTo, Reply, Settles, behind_all, stops, ends, goes_on, notes, holds, DoesStep}
use Rattle.passphrase_client.specs.{Steps.{place_of, waits_of, request_of}, Verdicts.{verdict, end_of, failure, emptied_verdict, stops_at, first_of}, declared.{course.Course.TheVariants.Ends, ending.{Ending.Ending, Lifetime.Lifetime}}}
use Rattle.passphrase_client.specs.declared.{input.InputFault.InputFault, steps.Step.{Step, TheVariants.Forget}, verdict.Verdict.Verdict}
use Rattle.passphrase_client.specs.declared.ending.Ending.TheVariants as ending
use Rattle.passphrase_client.specs.declared.verdict.Verdict.TheVariants as verdict_is
use Rattle.passphrase_talk.specs.declared.connector.Unmet.TheVariants as why
use Rattle.passphrase_talk.specs.declared.told.Loss.TheVariants as loss
use Rattle.passphrase_talk.specs.declared.told.Told.TheVariants as told

-- the agent broke the protocol or ended, or a count rose
pub data IsCounted (it : Loss) (before after : Contacts) : Type 0 where
  broken : it ≡ loss.Broken → IsCounted it before after
  gone : it ≡ loss.Ended → IsCounted it before after
  rose : Rose before.faults after.faults → IsCounted it before after

visit_rises : {place : Place} {waits : Waits} {line : List ℕ} {terminal : EnvWords} {reply : Told} {before after : Contacts} → Visits place waits line terminal reply before after
    → before.faults ≤ after.faults
visit_rises (no_memory un) = un.faults
visit_rises (unmet un) = un.faults
visit_rises (met contact) = contact.faults

lost_by : {place : Place} {waits : Waits} {line : List ℕ} {terminal : EnvWords} {reply : Told} {before after : Contacts} (it : Loss) → reply ≡ told.Lost it
    → Visits place waits line terminal reply before after → IsCounted it before after
lost_by loss.Broken is visit = broken refl
lost_by loss.Ended is visit = gone refl
lost_by loss.Read is (met contact) = rose (contact.read_rose is)
lost_by loss.Write is (met contact) = rose (contact.write_rose is)
lost_by loss.Unmet is (met contact) = absurd (never_unmet contact.turns (sym contact.told_is ∙ is))
lost_by loss.Unmet is (unmet un) = rose (un.rose refl)
lost_by loss.Read is (unmet un) = grind (arith, rules)
lost_by loss.Write is (unmet un) = grind (arith, rules)
lost_by loss.Read is (no_memory un) = grind (arith, rules)
lost_by loss.Write is (no_memory un) = grind (arith, rules)
lost_by loss.Unmet is (no_memory un) = grind (arith, rules)

settling_rises : (empty : Bool) (task : TaskValue) (terminal : EnvWords) (at : Step) (held : List ℕ) (reply : Told) (what : Verdict) (before after : Contacts)
    → Settles empty task terminal at held reply what before after → before.faults ≤ after.faults
settling_rises true task terminal at held reply what before after settles = visit_rises settles.1
settling_rises false task terminal at held reply what before after settles = rw settles.1 (omega arith)

step_rises : {task : TaskValue} {terminal : EnvWords} {at : Step} {held : List ℕ} {reply : Told} {what : Verdict} {before after : Contacts}
    → DoesStep task terminal at held reply what before after → before.faults ≤ after.faults
step_rises does = omega (arith, visit_rises does.visits, settling_rises _ _ _ _ _ _ _ _ _ does.settles)

rises_later : {before between after : Contacts} {it : Loss} → IsCounted it before between → between.faults ≤ after.faults → IsCounted it before after
rises_later (broken is) rises = broken is
rises_later (gone is) rises = gone is
rises_later (rose one) rises = rose (omega (arith, one, rises))

rises_before : {before between after : Contacts} {it : Loss} → before.faults ≤ between.faults → IsCounted it between after → IsCounted it before after
rises_before rises (broken is) = broken is
rises_before rises (gone is) = gone is
rises_before rises (rose one) = rose (omega (arith, one, rises))

failure_lost : (act : Act) (at : Step) (reply : Told) (it : Loss) → failure act at reply ≡ Some (ending.Lost it) → (it ≡ loss.Broken) ⊎ (reply ≡ told.Lost it)
failure_lost act at reply it is = grind (arith, rules)

verdict_lost : (act : Act) (held : List ℕ) (at : Step) (reply : Told) (it : Loss) → verdict_is.Ends (ending.Lost it) ≡ verdict act held at reply → (it ≡ loss.Broken) ⊎ (reply ≡ told.Lost it)
verdict_lost act held at reply it is = grind (arith, rules)

noted_lost : (act : Act) (held : List ℕ) (at : Step) (reply : Told) (it : Loss) → verdict_is.Notes (ending.Lost it) ≡ verdict act held at reply → (it ≡ loss.Broken) ⊎ (reply ≡ told.Lost it)
noted_lost act held at reply it is = grind (arith, rules)

emptied_lost : (at : Step) (failed : Option Ending) (it : Loss) → verdict_is.Ends (ending.Lost it) ≡ emptied_verdict at failed → failed ≡ Some (ending.Lost it)
emptied_lost at failed it is = grind (arith, rules)

emptied_not_noted : (at : Step) (failed : Option Ending) (it : Ending) → verdict_is.Notes it ≡ emptied_verdict at failed → ⊥
emptied_not_noted at failed it is = grind (arith, rules)

visit_lost : {place : Place} {waits : Waits} {line : List ℕ} {terminal : EnvWords} {reply : Told} {before after : Contacts} (it : Loss) → (it ≡ loss.Broken) ⊎ (reply ≡ told.Lost it)
    → Visits place waits line terminal reply before after → IsCounted it before after
visit_lost it (inl is) visit = broken is
visit_lost it (inr is) visit = lost_by it is visit

end_lost : (empty : Bool) (task : TaskValue) (terminal : EnvWords) (at : Step) (held : List ℕ) (reply : Told) (it : Loss) (before between after : Contacts)
    → Visits (place_of at) (waits_of at) (line_of_request task (request_of at task.act held)) terminal reply before between
    → Settles empty task terminal at held reply (verdict_is.Ends (ending.Lost it)) between after → IsCounted it before after
end_lost false task terminal at held reply it before between after visit settles =
    rises_later (visit_lost it (verdict_lost task.act held at reply it settles.0) visit) (settling_rises false task terminal at held reply (verdict_is.Ends (ending.Lost it)) between after settles)
end_lost true task terminal at held reply it before between after visit settles =
    rises_before (visit_rises visit) (visit_lost it (failure_lost task.act (Forget (place_of at)) settles.0 it (emptied_lost at _ it settles.2)) settles.1)

note_lost : (empty : Bool) (task : TaskValue) (terminal : EnvWords) (at : Step) (held : List ℕ) (reply : Told) (it : Loss) (before between after : Contacts)
    → Visits (place_of at) (waits_of at) (line_of_request task (request_of at task.act held)) terminal reply before between
    → Settles empty task terminal at held reply (verdict_is.Notes (ending.Lost it)) between after → IsCounted it before after
note_lost false task terminal at held reply it before between after visit settles =
    rises_later (visit_lost it (noted_lost task.act held at reply it settles.0) visit) (settling_rises false task terminal at held reply (verdict_is.Notes (ending.Lost it)) between after settles)
note_lost true task terminal at held reply it before between after visit settles = absurd (emptied_not_noted at _ (ending.Lost it) settles.2)

end_is_noted : (act : Act) (noted : Option Ending) (it : Loss) → end_of act noted ≡ ending.Lost it → noted ≡ Some (ending.Lost it)
end_is_noted act noted it is = grind (arith, rules)

stop_lost : (at : Step) (noted : Option Ending) (end : Ending) (it : Loss) → stops_at at noted ≡ Some end → end ≡ ending.Lost it → noted ≡ Some (ending.Lost it)
stop_lost at noted end it stop is = grind (arith, rules)

first_lost : (noted : Option Ending) (later : Ending) (it : Loss) → first_of noted later ≡ Some (ending.Lost it) → (noted ≡ Some (ending.Lost it)) ⊎ (later ≡ ending.Lost it)
first_lost noted later it is = grind (arith, rules)

steps_lost : {task : TaskValue} {terminal : EnvWords} {steps : List Step} {held : List ℕ} {noted : Option Ending} {before after : Contacts} {replies : List Reply} {end : Ending}
    (start : Contacts) (it : Loss) → start.faults ≤ before.faults → (noted ≡ Some (ending.Lost it) → IsCounted it start before) → end ≡ ending.Lost it
    → ComesTo task terminal steps held noted before replies (Ends end) after → IsCounted it start after
steps_lost {task = task} start it from counted is (behind_all {noted = noted}) = counted (end_is_noted task.act noted it is)
steps_lost start it from counted is (stops {step = at} {noted = noted} {ending = end} stop) = counted (stop_lost at noted end it stop is)
steps_lost start it from counted is (ends going does) =
    rises_before from (end_lost _ _ _ _ _ _ it _ _ _ does.visits (rw is at does.settles))
steps_lost start it from counted is (goes_on going does more) =
    steps_lost start it (omega (arith, from, step_rises does)) (λ noted. rises_later (counted noted) (step_rises does)) is more
steps_lost start it from counted is (notes {noted = noted} {ending = later} going does more) =
    steps_lost start it (omega (arith, from, step_rises does))
    (λ first. elim (first_lost noted later it first) [
      | inl before ↦ rises_later (counted before) (step_rises does)
      | inr same ↦ rises_before from (note_lost _ _ _ _ _ _ it _ _ _ does.visits (rw same at does.settles))
    ]) is more
steps_lost start it from counted is (holds going does more) =
    steps_lost start it (omega (arith, from, step_rises does)) (λ noted. rises_later (counted noted) (step_rises does)) is more

nothing_noted : (it : Ending) → None ≡ Some it → ⊥
nothing_noted it is = grind (arith, rules)

unmet_not_lost : (of : Unmet) (it : Loss) → ending_of_unmet of ≡ ending.Lost it → ⊥
unmet_not_lost of it is = grind (arith, rules)

input_not_lost : (fault : InputFault) (it : Loss) → ending.Input fault ≡ ending.Lost it → ⊥
input_not_lost fault it is = grind (arith, rules)

write_not_lost : (lasts : Lifetime) (written : Result (Unit {0}) WriteFault) (it : Loss) → ending_of lasts written ≡ ending.Lost it → ⊥
write_not_lost lasts written it is = grind (arith, rules)

pub run_lost : {task : TaskValue} {terminal : EnvWords} {before after : World} {end : Ending} (it : Loss) → end ≡ ending.Lost it → GoesTo task terminal before after end
    → IsCounted it before.contacts after.contacts
run_lost it is (refused_input {fault = fault} takes contacts output) = absurd (input_not_lost fault it is)
run_lost it is (not_found held {why = of} takes finds output) = absurd (unmet_not_lost of it is)
run_lost {before = before} it is (ended steps output) =
    steps_lost before.contacts it steps.finds.faults (λ noted. absurd (nothing_noted (ending.Lost it) noted)) is steps.comes
run_lost it is (given {lasts = lasts} {written = written} steps writes) = absurd (write_not_lost lasts written it is)

input_has_agent : (fault : InputFault) → ending.Input fault ≡ ending.NoAgent → ⊥
input_has_agent fault is = grind (arith, rules)

write_has_agent : (lasts : Lifetime) (written : Result (Unit {0}) WriteFault) → ending_of lasts written ≡ ending.NoAgent → ⊥
write_has_agent lasts written is = grind (arith, rules)

no_agent_by : (of : Unmet) → ending_of_unmet of ≡ ending.NoAgent → of ≡ why.Fault
no_agent_by of is = grind (arith, rules)

pub run_without_agent : {task : TaskValue} {terminal : EnvWords} {before after : World} {end : Ending} → end ≡ ending.NoAgent → GoesTo task terminal before after end
    → Rose before.contacts.faults after.contacts.faults
run_without_agent is (refused_input {fault = fault} takes contacts output) = absurd (input_has_agent fault is)
run_without_agent is (not_found held {why = of} takes finds output) = finds.failed (ap (λ (x : Unmet). Err x) (no_agent_by of is))
run_without_agent is (ended steps output) = absurd ((steps_end none_noted steps.comes).has_agent is)
run_without_agent is (given {lasts = lasts} {written = written} steps writes) = absurd (write_has_agent lasts written is)

given_not_cut : (lasts : Lifetime) → ending.Given lasts ≡ ending.Unwritten → ⊥
given_not_cut lasts is = grind (arith, rules)

input_is_read : (fault : InputFault) → ending.Input fault ≡ ending.Unwritten → ⊥
input_is_read fault is = grind (arith, rules)

unmet_unwritten : (of : Unmet) → ending_of_unmet of ≡ ending.Unwritten → ⊥
unmet_unwritten of is = grind (arith, rules)

unwritten_by : (lasts : Lifetime) (written : Result (Unit {0}) WriteFault) {text : List ℕ} {before after : Side} → Writes text before written after → ending_of lasts written ≡ ending.Unwritten → Rose before.faults after.faults
unwritten_by lasts (Ok done) writes is = absurd (given_not_cut lasts is)
unwritten_by lasts (Err fault) writes is = writes.went.rose

pub run_unwritten : {task : TaskValue} {terminal : EnvWords} {before after : World} {end : Ending} → end ≡ ending.Unwritten → GoesTo task terminal before after end
    → Rose before.output.faults after.output.faults
run_unwritten is (refused_input {fault = fault} takes contacts output) = absurd (input_is_read fault is)
run_unwritten is (not_found held {why = of} takes finds output) = absurd (unmet_unwritten of is)
run_unwritten is (ended steps output) = absurd ((steps_end none_noted steps.comes).not_cut is)
run_unwritten is (given {lasts = lasts} {written = written} steps writes) = unwritten_by lasts written writes is

pub counted : {it : Loss} {before after : Contacts} → IsCounted it before after → (it ≡ loss.Broken) ⊎ ((it ≡ loss.Ended) ⊎ Rose before.faults after.faults)
counted (broken is) = inl is
counted (gone is) = inr (inl is)
counted (rose one) = inr (inr one)
