-- What a run needs to end with status 1.
use Rattle.std.{proofs.{Common.{◌≡◌, ◌⊎◌, inl, inr, ℕ, List, [], ◌∷◌, Bool, true, false, Option, Some, None, Result, refl, ap, sym, ◌∙◌, arith, rules}, lemmas.Bool.false≢true}, specs.Prelude.{◌||◌, ◌&&◌, not}}
use Rattle.std.specs.{List.{list_all, list_any}, Option.is_some}
use Rattle.{agent_ports.specs.declared.link.WriteFault.WriteFault, passphrase_talk.specs.{Contacts.Contacts, declared.{connector.{Agents.{Agents, TheVariants.{One, Both}}, Place.Place, Unmet.Unmet}, told.Told.Told}}}
use Rattle.{passphrase_words.specs.{Requests.act_ttl, Tasks.TaskValue, declared.task.Act.Act}, session_options.specs.OptionValues.EnvWords}
use Rattle.passphrase_client.{proofs.{Answering.{emptied_notes, emptied_holds}, Given.{first_noted, stop_is_noted}}, specs.{Endings.status_of, Laws.{refuses, misses, is_refusal, is_missed, WasRefused, unfound, refused_step, nothing_kept}}}
use Rattle.passphrase_client.specs.Runs.{GoesTo, refused_input, not_found, ended, given, ending_of, ending_of_unmet, World, ComesTo, Reply, Settles, TakesSteps, behind_all, stops, ends, goes_on, notes, holds}
use Rattle.passphrase_client.specs.{Steps.{steps_of, steps_to_give, looks}, Verdicts.{verdict, end_of, emptied_verdict, first_of, empties, looks_alone}, declared.{course.Course.TheVariants.Ends, ending.{Ending.Ending, Lifetime.Lifetime}}}
use Rattle.passphrase_client.specs.declared.{input.InputFault.InputFault, steps.Step.Step}
use Rattle.passphrase_client.specs.declared.ending.Ending.TheVariants as ending
use Rattle.passphrase_client.specs.declared.steps.Step.TheVariants as step
use Rattle.passphrase_client.specs.declared.verdict.Verdict.TheVariants as verdict_is
use Rattle.passphrase_talk.specs.declared.connector.Unmet.TheVariants as unmet
use Rattle.passphrase_words.specs.declared.task.Act.TheVariants as act

verdict_refuses : (act : Act) (held : List ℕ) (at : Step) (reply : Told) (it : Ending) → verdict_is.Ends it ≡ verdict act held at reply → status_of it ≡ 1 → refuses at reply ≡ true
verdict_refuses act held at reply it is one = grind (arith, rules)

notes_refuses : (act : Act) (held : List ℕ) (at : Step) (reply : Told) (it : Ending) → verdict_is.Notes it ≡ verdict act held at reply → status_of it ≡ 1 → refuses at reply ≡ true
notes_refuses act held at reply it is one = grind (arith, rules)

look_misses : (act : Act) (held : List ℕ) (place : Place) (reply : Told) → looks_alone act ≡ true → verdict_is.GoesOn ≡ verdict act held (step.Look place) reply
    → misses (step.Look place) reply ≡ true
look_misses act held place reply alone is = grind (arith, rules)

look_holds : (act : Act) (held : List ℕ) (place : Place) (reply : Told) (secret : List ℕ) → verdict_is.Holds secret ≡ verdict act held (step.Look place) reply → ⊥
look_holds act held place reply secret is = grind (arith, rules)

empty_refuses : (act : Act) (at : Step) (reply : Told) → empties act at reply ≡ true → refuses at reply ≡ true
empty_refuses act at reply is = grind (arith, rules)

empty_misses : (act : Act) (place : Place) (reply : Told) → empties act (step.Look place) reply ≡ true → misses (step.Look place) reply ≡ true
empty_misses act place reply is = grind (arith, rules)

end_refuses : (empty : Bool) (task : TaskValue) (terminal : EnvWords) (at : Step) (held : List ℕ) (reply : Told) (it : Ending) (before after : Contacts) → empties task.act at reply ≡ empty
    → status_of it ≡ 1 → Settles empty task terminal at held reply (verdict_is.Ends it) before after → refuses at reply ≡ true
end_refuses false task terminal at held reply it before after is one settles = verdict_refuses task.act held at reply it settles.0 one
end_refuses true task terminal at held reply it before after is one settles = empty_refuses task.act at reply is

note_refuses : (empty : Bool) (task : TaskValue) (terminal : EnvWords) (at : Step) (held : List ℕ) (reply : Told) (it : Ending) (before after : Contacts)
    → status_of it ≡ 1 → Settles empty task terminal at held reply (verdict_is.Notes it) before after → refuses at reply ≡ true
note_refuses false task terminal at held reply it before after one settles = notes_refuses task.act held at reply it settles.0 one
note_refuses true task terminal at held reply it before after one settles = absurd (emptied_notes at _ it settles.2)

go_misses : (empty : Bool) (task : TaskValue) (terminal : EnvWords) (place : Place) (held : List ℕ) (reply : Told) (before after : Contacts) → empties task.act (step.Look place) reply ≡ empty
    → looks_alone task.act ≡ true → Settles empty task terminal (step.Look place) held reply verdict_is.GoesOn before after → misses (step.Look place) reply ≡ true
go_misses false task terminal place held reply before after is alone settles = look_misses task.act held place reply alone settles.0
go_misses true task terminal place held reply before after is alone settles = empty_misses task.act place reply is

hold_no_look : (empty : Bool) (task : TaskValue) (terminal : EnvWords) (place : Place) (held : List ℕ) (reply : Told) (secret : List ℕ) (before after : Contacts)
    → Settles empty task terminal (step.Look place) held reply (verdict_is.Holds secret) before after → ⊥
hold_no_look false task terminal place held reply secret before after settles = look_holds task.act held place reply secret settles.0
hold_no_look true task terminal place held reply secret before after settles = emptied_holds (step.Look place) _ secret settles.2

any_first : (reply : Reply) (replies : List Reply) → is_refusal reply ≡ true → list_any is_refusal (reply ∷ replies) ≡ true
any_first reply replies is = ap (λ b. b || list_any is_refusal replies) is

any_later : (reply : Reply) (replies : List Reply) → list_any is_refusal replies ≡ true → list_any is_refusal (reply ∷ replies) ≡ true
any_later reply replies is = grind (arith, rules)

-- a step behind which no other comes: a question, where what is typed isn't held, or the one that keeps what was
abbrev pub closes : Act → Step → Bool
closes act step.Ask = not (is_some (act_ttl act))
closes act step.Keep = true
closes act _ = false

-- the last of these is one
abbrev pub last_closes : Act → Step → List Step → Bool
last_closes act at [] = closes act at
last_closes act at (next ∷ steps) = last_closes act next steps

abbrev pub closed : Act → List Step → Bool
closed act [] = false
closed act (at ∷ steps) = last_closes act at steps

no_further : (act : Act) (held : List ℕ) (at : Step) (reply : Told) → closes act at ≡ true → verdict_is.GoesOn ≡ verdict act held at reply → ⊥
no_further act held at reply last is = grind (arith, rules)

no_note : (act : Act) (held : List ℕ) (at : Step) (reply : Told) (it : Ending) → closes act at ≡ true → verdict_is.Notes it ≡ verdict act held at reply → ⊥
no_note act held at reply it last is = grind (arith, rules)

no_hold : (act : Act) (held : List ℕ) (at : Step) (reply : Told) (secret : List ℕ) → closes act at ≡ true → verdict_is.Holds secret ≡ verdict act held at reply → ⊥
no_hold act held at reply secret last is = grind (arith, rules)

no_emptied : (act : Act) (at : Step) (reply : Told) (failed : Option Ending) → closes act at ≡ true → empties act at reply ≡ true → verdict_is.GoesOn ≡ emptied_verdict at failed → ⊥
no_emptied act at reply failed last empty is = grind (arith, rules)

closed_goes : (empty : Bool) (task : TaskValue) (terminal : EnvWords) (at : Step) (held : List ℕ) (reply : Told) (before after : Contacts) → empties task.act at reply ≡ empty
    → closes task.act at ≡ true → Settles empty task terminal at held reply verdict_is.GoesOn before after → ⊥
closed_goes false task terminal at held reply before after is last settles = no_further task.act held at reply last settles.0
closed_goes true task terminal at held reply before after is last settles = no_emptied task.act at reply _ last is settles.2

closed_notes : (empty : Bool) (task : TaskValue) (terminal : EnvWords) (at : Step) (held : List ℕ) (reply : Told) (it : Ending) (before after : Contacts)
    → closes task.act at ≡ true → Settles empty task terminal at held reply (verdict_is.Notes it) before after → ⊥
closed_notes false task terminal at held reply it before after last settles = no_note task.act held at reply it last settles.0
closed_notes true task terminal at held reply it before after last settles = emptied_notes at _ it settles.2

closed_holds : (empty : Bool) (task : TaskValue) (terminal : EnvWords) (at : Step) (held : List ℕ) (reply : Told) (secret : List ℕ) (before after : Contacts)
    → closes task.act at ≡ true → Settles empty task terminal at held reply (verdict_is.Holds secret) before after → ⊥
closed_holds false task terminal at held reply secret before after last settles = no_hold task.act held at reply secret last settles.0
closed_holds true task terminal at held reply secret before after last settles = emptied_holds at _ secret settles.2

-- a run with these replies had one that refuses, or had noted a failure of status 1
pub data Came (noted : Option Ending) (replies : List Reply) : Type 0 where
  by_reply : list_any is_refusal replies ≡ true → Came noted replies
  by_note : (it : Ending) → noted ≡ Some it → status_of it ≡ 1 → Came noted replies

-- a reply more in front
behind : {noted : Option Ending} (reply : Reply) {replies : List Reply} → Came noted replies → Came noted (reply ∷ replies)
behind reply {replies = replies} (by_reply any) = by_reply (any_later reply replies any)
behind reply (by_note it is one) = by_note it is one

-- and a failure that it notes
behind_note : {noted : Option Ending} (later : Ending) (reply : Reply) {replies : List Reply} → (status_of later ≡ 1 → is_refusal reply ≡ true) → Came (first_of noted later) replies
    → Came noted (reply ∷ replies)
behind_note later reply {replies = replies} refused (by_reply any) = by_reply (any_later reply replies any)
behind_note {noted = noted} later reply {replies = replies} refused (by_note it is one) =
    elim (first_noted noted later it is) [ inl before ↦ by_note it before one | inr same ↦ by_reply (any_first reply replies (refused (ap status_of same ∙ one))) ]

-- nothing is left to be done behind such a step, or the run through all steps ends well
abbrev pub EndsWell : Act → List Step → Type 0
EndsWell act steps = (closed act steps ≡ true) ⊎ (status_of (end_of act None) ≡ 1 → ⊥)

through : (act : Act) (noted : Option Ending) → EndsWell act [] → status_of (end_of act noted) ≡ 1 → Came noted []
through act noted (inl last) one = absurd (false≢true last)
through act None (inr well) one = absurd (well one)
through act (Some it) (inr well) one = by_note it refl one

further : (act : Act) (at : Step) (steps : List Step) → (closes act at ≡ true → ⊥) → EndsWell act (at ∷ steps) → EndsWell act steps
further act at steps opens_more (inr well) = inr well
further act at [] opens_more (inl last) = absurd (opens_more last)
further act at (next ∷ steps) opens_more (inl last) = inl last

came : {task : TaskValue} {terminal : EnvWords} {steps : List Step} {held : List ℕ} {noted : Option Ending} {before after : Contacts} {replies : List Reply} {it : Ending}
    → EndsWell task.act steps → status_of it ≡ 1 → ComesTo task terminal steps held noted before replies (Ends it) after → Came noted replies
came {task = task} ends_well one (behind_all {noted = noted}) = through task.act noted ends_well one
came ends_well one (stops {step = at} {noted = noted} {ending = it} is) = by_note it (stop_is_noted at noted it is) one
came ends_well one (ends {step = at} {told = reply} going does) =
    by_reply (any_first (record { to = at; told = reply }) [] (end_refuses _ _ _ at _ reply _ _ _ refl one does.settles))
came {task = task} ends_well one (goes_on {step = at} {steps = steps} {told = reply} going does more) =
    behind (record { to = at; told = reply }) (came (further task.act at steps (λ last. closed_goes _ task _ at _ reply _ _ refl last does.settles) ends_well) one more)
came {task = task} ends_well one (notes {step = at} {steps = steps} {ending = later} {told = reply} going does more) =
    behind_note later (record { to = at; told = reply }) (λ same. note_refuses _ task _ at _ reply later _ _ same does.settles)
    (came (further task.act at steps (λ last. closed_notes _ task _ at _ reply later _ _ last does.settles) ends_well) one more)
came {task = task} ends_well one (holds {step = at} {steps = steps} {held = held} {secret = secret} {told = reply} going does more) =
    behind (record { to = at; told = reply }) (came (further task.act at steps (λ last. closed_holds _ task _ at held reply secret _ _ last does.settles) ends_well) one more)

abbrev pub is_look : Step → Bool
is_look (step.Look place) = true
is_look _ = false

first_is_some : (noted : Option Ending) (later : Ending) → first_of noted later ≡ None → ⊥
first_is_some noted later none = grind (arith, rules)

-- where nobody is asked: so, or each look misses
pub data LookedFor (noted : Option Ending) (replies : List Reply) : Type 0 where
  came_so : Came noted replies → LookedFor noted replies
  all_missed : noted ≡ None → list_all is_missed replies ≡ true → LookedFor noted replies

missed_first : (reply : Reply) (replies : List Reply) → is_missed reply ≡ true → list_all is_missed replies ≡ true → list_all is_missed (reply ∷ replies) ≡ true
missed_first reply replies is all = ap (λ b. b && list_all is_missed replies) is ∙ all

behind_miss : {noted : Option Ending} (reply : Reply) {replies : List Reply} → is_missed reply ≡ true → LookedFor noted replies → LookedFor noted (reply ∷ replies)
behind_miss reply is (came_so so) = came_so (behind reply so)
behind_miss reply {replies = replies} is (all_missed none all) = all_missed none (missed_first reply replies is all)

looked_through : (act : Act) (noted : Option Ending) → status_of (end_of act noted) ≡ 1 → LookedFor noted []
looked_through act None one = all_missed refl refl
looked_through act (Some it) one = came_so (by_note it refl one)

looked : {task : TaskValue} {terminal : EnvWords} {steps : List Step} {held : List ℕ} {noted : Option Ending} {before after : Contacts} {replies : List Reply} {it : Ending}
    → looks_alone task.act ≡ true → list_all is_look steps ≡ true → status_of it ≡ 1 → ComesTo task terminal steps held noted before replies (Ends it) after → LookedFor noted replies
looked {task = task} alone all one (behind_all {noted = noted}) = looked_through task.act noted one
looked alone all one (stops {step = at} {noted = noted} {ending = it} is) = came_so (by_note it (stop_is_noted at noted it is) one)
looked alone all one (ends {step = at} {told = reply} going does) =
    came_so (by_reply (any_first (record { to = at; told = reply }) [] (end_refuses _ _ _ at _ reply _ _ _ refl one does.settles)))
looked alone all one (goes_on {step = step.Look place} {told = reply} going does more) =
    behind_miss (record { to = step.Look place; told = reply }) (go_misses _ _ _ place _ reply _ _ refl alone does.settles) (looked alone all one more)
looked {task = task} alone all one (notes {step = step.Look place} {ending = later} {told = reply} going does more) =
    noted_look later (record { to = step.Look place; told = reply }) (λ same. note_refuses _ task _ (step.Look place) _ reply later _ _ same does.settles) (looked alone all one more)
  where
    noted_look : {noted : Option Ending} (later : Ending) (reply : Reply) {replies : List Reply} → (status_of later ≡ 1 → is_refusal reply ≡ true) → LookedFor (first_of noted later) replies
        → LookedFor noted (reply ∷ replies)
    noted_look later reply refused (came_so so) = came_so (behind_note later reply refused so)
    noted_look {noted = noted} later reply refused (all_missed none all) = absurd (first_is_some noted later none)
looked alone all one (holds {step = step.Look place} {secret = secret} {told = reply} going does more) = absurd (hold_no_look _ _ _ place _ reply secret _ _ does.settles)
looked alone all one _ = absurd (false≢true all)

looks_are : (agents : Agents) → list_all is_look (looks agents) ≡ true
looks_are One = refl
looks_are Both = refl

-- what may ask the user ends with a step that closes
gives_close : (repeats feeds : Bool) (ttl : Option ℕ) (agents : Agents) → closed (act.Give repeats false ttl feeds) (steps_to_give repeats (is_some ttl) agents) ≡ true
gives_close false feeds None One = refl
gives_close false feeds None Both = refl
gives_close false feeds (Some seconds) One = refl
gives_close false feeds (Some seconds) Both = refl
gives_close true feeds None One = refl
gives_close true feeds None Both = refl
gives_close true feeds (Some seconds) One = refl
gives_close true feeds (Some seconds) Both = refl

-- where nothing was noted before it began, a run had a reply that refuses
pub any_of : {replies : List Reply} → Came None replies → list_any is_refusal replies ≡ true
any_of (by_reply any) = any
any_of (by_note it none one) = absurd (nothing it none)
  where
    nothing : (it : Ending) → None ≡ Some it → ⊥
    nothing it is = grind (arith, rules)

-- or looked alone, and found nothing
pub data Found (act : Act) (replies : List Reply) : Type 0 where
  a_refusal : list_any is_refusal replies ≡ true → Found act replies
  no_more : looks_alone act ≡ true → list_all is_missed replies ≡ true → Found act replies

looked_alone : {act : Act} {replies : List Reply} → looks_alone act ≡ true → LookedFor None replies → Found act replies
looked_alone alone (came_so so) = a_refusal (any_of so)
looked_alone alone (all_missed none all) = no_more alone all

found_of : (act : Act) {task : TaskValue} {terminal : EnvWords} (agents : Agents) {held : List ℕ} {before after : Contacts} {replies : List Reply} {it : Ending} → act ≡ task.act
    → status_of it ≡ 1 → ComesTo task terminal (steps_of act agents) held None before replies (Ends it) after → Found act replies
found_of (act.Give repeats true ttl feeds) agents same one comes = looked_alone refl (looked (ap looks_alone (sym same)) (looks_are agents) one comes)
found_of (act.Give repeats false ttl feeds) agents same one comes =
    a_refusal (any_of (came (inl (ap (λ a. closed a (steps_to_give repeats (is_some ttl) agents)) (sym same) ∙ gives_close repeats feeds ttl agents)) one comes))
found_of act.Cached agents same one comes = looked_alone refl (looked (ap looks_alone (sym same)) (looks_are agents) one comes)
found_of act.Forget agents same one comes = a_refusal (any_of (came (inr (λ is. done_is_well (ap (λ a. status_of (end_of a None)) same ∙ is))) one comes))
  where
    done_is_well : status_of ending.Done ≡ 1 → ⊥
    done_is_well is = omega (arith, is)
found_of act.ForgetAll agents same one comes = a_refusal (any_of (came (inr (λ is. done_is_well (ap (λ a. status_of (end_of a None)) same ∙ is))) one comes))
  where
    done_is_well : status_of ending.Done ≡ 1 → ⊥
    done_is_well is = omega (arith, is)
found_of act.Store agents same one comes = a_refusal (any_of (came (inr (λ is. done_is_well (ap (λ a. status_of (end_of a None)) same ∙ is))) one comes))
  where
    done_is_well : status_of ending.Done ≡ 1 → ⊥
    done_is_well is = omega (arith, is)

ended_refused : {task : TaskValue} {terminal : EnvWords} {before after : World} {it : Ending} (steps : TakesSteps task terminal before (Ends it) after.input after.contacts) → Found task.act steps.replies
    → WasRefused task terminal before after
ended_refused steps (a_refusal any) = refused_step steps any
ended_refused steps (no_more alone all) = nothing_kept steps alone all

input_is_two : (fault : InputFault) → status_of (ending.Input fault) ≡ 1 → ⊥
input_is_two fault is = grind (arith, rules)

write_is_other : (lasts : Lifetime) (written : Result (Unit {0}) WriteFault) → status_of (ending_of lasts written) ≡ 1 → ⊥
write_is_other lasts written is = grind (arith, rules)

unmet_by_memory : (why : Unmet) → status_of (ending_of_unmet why) ≡ 1 → why ≡ unmet.NoMemory
unmet_by_memory why is = grind (arith, rules)

pub was_refused : {task : TaskValue} {terminal : EnvWords} {before after : World} {it : Ending} → status_of it ≡ 1 → GoesTo task terminal before after it → WasRefused task terminal before after
was_refused one (refused_input {fault = fault} takes contacts output) = absurd (input_is_two fault one)
was_refused one (not_found held {why = why} takes finds output) = unfound (rw (unmet_by_memory why one) at finds)
was_refused {task = task} one (ended steps output) = ended_refused steps (found_of task.act steps.agents refl one steps.comes)
was_refused one (given {lasts = lasts} {written = written} steps writes) = absurd (write_is_other lasts written one)
