-- What was done where a run ends well.
use Rattle.std.{proofs.{Common.{◌≡◌, inl, inr, ◌∷◌, ◌++◌, [], ℕ, List, Bool, true, false, Option, Some, None, Result, Contains, refl, ap, sym, subst, ◌∙◌, arith, rules}, lemmas.{Bool.false≢true, List.Elements.Contains-append_right}}, specs.{Prelude.◌||◌, List.{list_all, list_any}}}
use Rattle.{agent_ports.specs.{Sides.Side, declared.link.WriteFault.WriteFault}, passphrase_talk.specs.{Contacts.Contacts, declared.{connector.{Agents.{Agents, TheVariants.{One, Both}}, Place.Place, Unmet.Unmet}, told.Told.Told}}}
use Rattle.{passphrase_words.specs.{Tasks.TaskValue, declared.task.Act.Act}, session_options.specs.OptionValues.EnvWords}
use Rattle.passphrase_client.proofs.{Answering.emptied_notes, Given.{first_noted, stop_is_noted, steps_end, none_noted}}
use Rattle.passphrase_client.specs.Laws.{Visited, visited, visits_of, AreDone, is_done, HasDone, HasKept, HasForgotten, before_new, asks_user, NobodyAsked}
use Rattle.passphrase_client.specs.Runs.{GoesTo, refused_input, not_found, ended, given, ending_of, ending_of_unmet, World, ComesTo, TakesSteps, DoesStep, Reply, Settles, behind_all, stops, gives, ends, goes_on, notes, holds}
use Rattle.passphrase_client.specs.{Steps.{steps_of, looks, place_of}, Verdicts.{verdict, found_verdict, look_verdict, end_of, emptied_verdict, empties, is_one_line, looks_alone, failure, stops_at}}
use Rattle.passphrase_client.specs.declared.{course.Course.{Course, TheVariants.{Gives, Ends}}, ending.{Ending.Ending, Lifetime.Lifetime}, input.InputFault.InputFault, steps.Step.Step, verdict.Verdict.Verdict}
use Rattle.passphrase_client.specs.declared.ending.Ending.TheVariants as ending
use Rattle.passphrase_client.specs.declared.steps.Step.TheVariants as step
use Rattle.passphrase_client.specs.declared.verdict.Verdict.TheVariants as verdict_is
use Rattle.passphrase_talk.specs.declared.told.Told.TheVariants as told
use Rattle.passphrase_words.specs.declared.task.Act.TheVariants as act

-- ---- steps that change what is kept, or try whether that can be

abbrev changes : Step → Bool
changes (step.Forget place) = true
changes step.Store = true
changes step.Probe = true
changes other = false

not_emptied : (act : Act) (at : Step) (reply : Told) → changes at ≡ true → empties act at reply ≡ true → ⊥
not_emptied act at reply change is = grind (arith, rules)

goes_by : (act : Act) (held : List ℕ) (at : Step) (reply : Told) → changes at ≡ true → verdict_is.GoesOn ≡ verdict act held at reply → is_done at reply ≡ true
goes_by act held at reply change is = grind (arith, rules)

never_notes : (act : Act) (held : List ℕ) (at : Step) (reply : Told) (it : Ending) → changes at ≡ true → verdict_is.Notes it ≡ verdict act held at reply → ⊥
never_notes act held at reply it change is = grind (arith, rules)

never_holds : (act : Act) (held : List ℕ) (at : Step) (reply : Told) (secret : List ℕ) → changes at ≡ true → verdict_is.Holds secret ≡ verdict act held at reply → ⊥
never_holds act held at reply secret change is = grind (arith, rules)

never_gives : (act : Act) (held : List ℕ) (at : Step) (reply : Told) (secret : List ℕ) (lasts : Lifetime) → changes at ≡ true → verdict_is.Gives secret lasts ≡ verdict act held at reply → ⊥
never_gives act held at reply secret lasts change is = grind (arith, rules)

never_done : (act : Act) (held : List ℕ) (at : Step) (reply : Told) → changes at ≡ true → verdict_is.Ends ending.Done ≡ verdict act held at reply → ⊥
never_done act held at reply change is = grind (arith, rules)

-- such a step's verdict is the one on its reply
changed : (empty : Bool) (task : TaskValue) (terminal : EnvWords) (at : Step) (held : List ℕ) (reply : Told) (what : Verdict) (before after : Contacts)
    → empties task.act at reply ≡ empty → changes at ≡ true → Settles empty task terminal at held reply what before after → what ≡ verdict task.act held at reply
changed false task terminal at held reply what before after is change settles = settles.0
changed true task terminal at held reply what before after is change settles = absurd (not_emptied task.act at reply change is)

by_step : {task : TaskValue} {terminal : EnvWords} {at : Step} {held : List ℕ} {reply : Told} {what : Verdict} {before after : Contacts}
    → DoesStep task terminal at held reply what before after → changes at ≡ true → what ≡ verdict task.act held at reply
by_step does change = changed _ _ _ _ _ _ _ _ _ refl change does.settles

first_of_all : (at : Step) (steps : List Step) → list_all changes (at ∷ steps) ≡ true → changes at ≡ true
first_of_all at steps all = grind (arith, rules)

others_of_all : (at : Step) (steps : List Step) → list_all changes (at ∷ steps) ≡ true → list_all changes steps ≡ true
others_of_all at steps all = grind (arith, rules)

stop_none : (at : Step) (it : Ending) → stops_at at None ≡ Some it → ⊥
stop_none at it is = grind (arith, rules)

-- where only such steps were to be taken, and all ended well, each was done
all_done : {task : TaskValue} {terminal : EnvWords} {steps : List Step} {held : List ℕ} {noted : Option Ending} {before after : Contacts} {replies : List Reply} {it : Ending}
    → list_all changes steps ≡ true → noted ≡ None → it ≡ ending.Done → ComesTo task terminal steps held noted before replies (Ends it) after → AreDone steps replies
all_done all none done behind_all = tt
all_done all none done (stops {step = at} {ending = it} is) = absurd (stop_none at it (rw none at is))
all_done {task = task} all none done (ends {step = at} {steps = steps} {held = held} {told = reply} going does) =
    absurd (never_done task.act held at reply (first_of_all at steps all) (ap (λ (e : Ending). verdict_is.Ends e) (sym done) ∙ by_step does (first_of_all at steps all)))
all_done {task = task} all none done (goes_on {step = at} {steps = steps} {held = held} {told = reply} going does more) =
    let change = first_of_all at steps all in
    (refl, goes_by task.act held at reply change (by_step does change), all_done (others_of_all at steps all) none done more)
all_done {task = task} all none done (notes {step = at} {steps = steps} {held = held} {ending = it} {told = reply} going does more) =
    let change = first_of_all at steps all in absurd (never_notes task.act held at reply it change (by_step does change))
all_done {task = task} all none done (holds {step = at} {steps = steps} {held = held} {secret = secret} {told = reply} going does more) =
    let change = first_of_all at steps all in absurd (never_holds task.act held at reply secret change (by_step does change))

unmet_not_done : (why : Unmet) → ending_of_unmet why ≡ ending.Done → ⊥
unmet_not_done why is = grind (arith, rules)

input_not_done : (fault : InputFault) → ending.Input fault ≡ ending.Done → ⊥
input_not_done fault is = grind (arith, rules)

write_not_done : (lasts : Lifetime) (written : Result (Unit {0}) WriteFault) → ending_of lasts written ≡ ending.Done → ⊥
write_not_done lasts written is = grind (arith, rules)

pub has_done : {task : TaskValue} {terminal : EnvWords} {before after : World} {it : Ending} → ((agents : Agents) → list_all changes (steps_of task.act agents) ≡ true) → it ≡ ending.Done
    → GoesTo task terminal before after it → HasDone task terminal before after
has_done all is (refused_input {fault = fault} takes contacts output) = absurd (input_not_done fault is)
has_done all is (not_found held {why = why} takes finds output) = absurd (unmet_not_done why is)
has_done {task = task} {terminal = terminal} {before = before} {after = after} all is (ended {ending = it} steps output) =
    let well = rw is at steps in
    record { steps = well; done = all_done (all well.agents) refl refl well.comes }
has_done all is (given {lasts = lasts} {written = written} steps writes) = absurd (write_not_done lasts written is)

pub forgets_change : (it : Act) → it ≡ act.Forget → (agents : Agents) → list_all changes (steps_of it agents) ≡ true
forgets_change it is One = ap (λ (a : Act). list_all changes (steps_of a One)) is
forgets_change it is Both = ap (λ (a : Act). list_all changes (steps_of a Both)) is

pub forgets_all_change : (it : Act) → it ≡ act.ForgetAll → (agents : Agents) → list_all changes (steps_of it agents) ≡ true
forgets_all_change it is One = ap (λ (a : Act). list_all changes (steps_of a One)) is
forgets_all_change it is Both = ap (λ (a : Act). list_all changes (steps_of a Both)) is

pub stores_change : (it : Act) → it ≡ act.Store → (agents : Agents) → list_all changes (steps_of it agents) ≡ true
stores_change it is One = ap (λ (a : Act). list_all changes (steps_of a One)) is
stores_change it is Both = ap (λ (a : Act). list_all changes (steps_of a Both)) is

-- ---- a passphrase that is kept

-- one of these contacts was a look, whose reply was a passphrase of one line
record IsLooked (task : TaskValue) (terminal : EnvWords) (visits : List (Visited task terminal)) : Type 0 where
  contact : Visited task terminal
  made : Contains visits contact
  place : Place
  to_is : contact.to ≡ step.Look place
  secret : List ℕ
  told_is : contact.told ≡ told.Passphrase secret
  one_line : is_one_line secret ≡ true

record IsLook (at : Step) (reply : Told) : Type 0 where
  place : Place
  to_is : at ≡ step.Look place
  secret : List ℕ
  told_is : reply ≡ told.Passphrase secret
  one_line : is_one_line secret ≡ true

failed_not_kept : (act : Act) (at : Step) (reply : Told) → failure act at reply ≡ Some ending.Kept → ⊥
failed_not_kept act at reply is = grind (arith, rules)

found_kept : (act : Act) (secret : List ℕ) → verdict_is.Ends ending.Kept ≡ found_verdict act secret → is_one_line secret ≡ true
found_kept act secret is = grind (arith, rules)

emptied_not_kept : (at : Step) (failed : Option Ending) → verdict_is.Ends ending.Kept ≡ emptied_verdict at failed → failed ≡ Some ending.Kept
emptied_not_kept at failed is = grind (arith, rules)

other_not_kept : (act : Act) (held : List ℕ) (at : Step) (reply : Told) → ((place : Place) → at ≡ step.Look place → ⊥) → verdict_is.Ends ending.Kept ≡ verdict act held at reply → ⊥
other_not_kept act held (step.Look place) reply not is = not place refl
other_not_kept act held step.Ask reply not is = grind (arith, rules)
other_not_kept act held (step.Forget place) reply not is = grind (arith, rules)
other_not_kept act held step.Store reply not is = grind (arith, rules)
other_not_kept act held step.Probe reply not is = grind (arith, rules)
other_not_kept act held step.Keep reply not is = grind (arith, rules)

missed_not_kept : (act : Act) (place : Place) (reply : Told) → ((secret : List ℕ) → reply ≡ told.Passphrase secret → ⊥) → verdict_is.Ends ending.Kept ≡ look_verdict act place reply → ⊥
missed_not_kept act place (told.Passphrase secret) not is = not secret refl
missed_not_kept act place told.Done not is = grind (arith, rules)
missed_not_kept act place (told.Refused number launched) not is = grind (arith, rules)
missed_not_kept act place (told.Cancelled number) not is = grind (arith, rules)
missed_not_kept act place told.NoMemory not is = grind (arith, rules)
missed_not_kept act place (told.Lost loss) not is = grind (arith, rules)

kept_by : (act : Act) (held : List ℕ) (at : Step) (reply : Told) → verdict_is.Ends ending.Kept ≡ verdict act held at reply → IsLook at reply
kept_by act held (step.Look place) (told.Passphrase secret) is = record { place = place; to_is = refl; secret = secret; told_is = refl; one_line = found_kept act secret is }
kept_by act held (step.Look place) told.Done is = absurd (missed_not_kept act place told.Done (λ secret same. absurd (cc same)) is)
kept_by act held (step.Look place) (told.Refused number launched) is = absurd (missed_not_kept act place (told.Refused number launched) (λ secret same. absurd (cc same)) is)
kept_by act held (step.Look place) (told.Cancelled number) is = absurd (missed_not_kept act place (told.Cancelled number) (λ secret same. absurd (cc same)) is)
kept_by act held (step.Look place) told.NoMemory is = absurd (missed_not_kept act place told.NoMemory (λ secret same. absurd (cc same)) is)
kept_by act held (step.Look place) (told.Lost loss) is = absurd (missed_not_kept act place (told.Lost loss) (λ secret same. absurd (cc same)) is)
kept_by act held step.Ask reply is = absurd (other_not_kept act held step.Ask reply (λ place same. absurd (cc same)) is)
kept_by act held (step.Forget place) reply is = absurd (other_not_kept act held (step.Forget place) reply (λ other same. absurd (cc same)) is)
kept_by act held step.Store reply is = absurd (other_not_kept act held step.Store reply (λ place same. absurd (cc same)) is)
kept_by act held step.Probe reply is = absurd (other_not_kept act held step.Probe reply (λ place same. absurd (cc same)) is)
kept_by act held step.Keep reply is = absurd (other_not_kept act held step.Keep reply (λ place same. absurd (cc same)) is)

notes_not_kept : (act : Act) (held : List ℕ) (at : Step) (reply : Told) → verdict_is.Notes ending.Kept ≡ verdict act held at reply → ⊥
notes_not_kept act held at reply is = grind (arith, rules)

step_kept : (empty : Bool) (task : TaskValue) (terminal : EnvWords) (at : Step) (held : List ℕ) (reply : Told) (before after : Contacts)
    → Settles empty task terminal at held reply (verdict_is.Ends ending.Kept) before after → IsLook at reply
step_kept false task terminal at held reply before after settles = kept_by task.act held at reply settles.0
step_kept true task terminal at held reply before after settles = absurd (failed_not_kept task.act (step.Forget (place_of at)) settles.0 (emptied_not_kept at _ settles.2))

step_not_noted : (empty : Bool) (task : TaskValue) (terminal : EnvWords) (at : Step) (held : List ℕ) (reply : Told) (before after : Contacts)
    → Settles empty task terminal at held reply (verdict_is.Notes ending.Kept) before after → ⊥
step_not_noted false task terminal at held reply before after settles = notes_not_kept task.act held at reply settles.0
step_not_noted true task terminal at held reply before after settles = emptied_notes at _ ending.Kept settles.2

end_not_kept : (act : Act) (noted : Option Ending) → end_of act noted ≡ ending.Kept → noted ≡ Some ending.Kept
end_not_kept act noted is = grind (arith, rules)

looked_further : {task : TaskValue} {terminal : EnvWords} (visit : Visited task terminal) (visits : List (Visited task terminal)) → IsLooked task terminal visits → IsLooked task terminal (visit ∷ visits)
looked_further visit visits is = record {
  contact = is.contact;
  made = Contains-append_right (visit ∷ []) visits is.contact is.made;
  place = is.place;
  to_is = is.to_is;
  secret = is.secret;
  told_is = is.told_is;
  one_line = is.one_line;
}

looked : {task : TaskValue} {terminal : EnvWords} {steps : List Step} {held : List ℕ} {noted : Option Ending} {before after : Contacts} {replies : List Reply} {it : Ending}
    → (noted ≡ Some ending.Kept → ⊥) → it ≡ ending.Kept → (comes : ComesTo task terminal steps held noted before replies (Ends it) after) → IsLooked task terminal (visits_of comes)
looked {task = task} none kept (behind_all {noted = noted}) = absurd (none (end_not_kept task.act noted kept))
looked none kept (stops {step = at} {noted = noted} {ending = it} is) = absurd (none (stop_is_noted at noted it is ∙ ap (λ (e : Ending). Some e) kept))
looked none kept (ends going does) =
    let look = step_kept _ _ _ _ _ _ _ _ (rw kept at does.settles) in
    record { contact = visited does; made = (0, omega arith, refl); place = look.place; to_is = look.to_is; secret = look.secret; told_is = look.told_is; one_line = look.one_line }
looked none kept (goes_on going does more) = looked_further (visited does) (visits_of more) (looked none kept more)
looked none kept (notes {noted = noted} {ending = later} going does more) =
    looked_further (visited does) (visits_of more)
    (looked (λ first. elim (first_noted noted later ending.Kept first) [
      | inl before ↦ none before
      | inr same ↦ step_not_noted _ _ _ _ _ _ _ _ (rw same at does.settles)
    ]) kept more)
looked none kept (holds going does more) = looked_further (visited does) (visits_of more) (looked none kept more)

none_is_kept : None ≡ Some ending.Kept → ⊥
none_is_kept is = grind (arith, rules)

unmet_not_kept : (why : Unmet) → ending_of_unmet why ≡ ending.Kept → ⊥
unmet_not_kept why is = grind (arith, rules)

input_not_kept : (fault : InputFault) → ending.Input fault ≡ ending.Kept → ⊥
input_not_kept fault is = grind (arith, rules)

write_not_kept : (lasts : Lifetime) (written : Result (Unit {0}) WriteFault) → ending_of lasts written ≡ ending.Kept → ⊥
write_not_kept lasts written is = grind (arith, rules)

pub has_kept : {task : TaskValue} {terminal : EnvWords} {before after : World} {it : Ending} → it ≡ ending.Kept → GoesTo task terminal before after it → HasKept task terminal before after
has_kept is (refused_input {fault = fault} takes contacts output) = absurd (input_not_kept fault is)
has_kept is (not_found held {why = why} takes finds output) = absurd (unmet_not_kept why is)
has_kept is (ended steps output) =
    let well = rw is at steps in
    let one = looked none_is_kept refl well.comes in
    record { steps = well; contact = one.contact; made = one.made; place = one.place; to_is = one.to_is; secret = one.secret; told_is = one.told_is; one_line = one.one_line }
has_kept is (given {lasts = lasts} {written = written} steps writes) = absurd (write_not_kept lasts written is)

-- ---- a new passphrase

-- behind such steps the user was asked
record AskedBehind (firsts : List Step) (replies : List Reply) : Type 0 where
  front : List Reply
  done : AreDone firsts front
  told : Told
  later : List Reply
  replies_are : replies ≡ front ++ (record { to = step.Ask; told = told }) ∷ later

asked_at_once : (told : Told) (later : List Reply) → AskedBehind [] (record { to = step.Ask; told = told } ∷ later)
asked_at_once told later = record { front = []; done = tt; told = told; later = later; replies_are = refl }

asked_later : (at : Step) (firsts : List Step) (reply : Told) {replies : List Reply} → is_done at reply ≡ true → AskedBehind firsts replies
    → AskedBehind (at ∷ firsts) (record { to = at; told = reply } ∷ replies)
asked_later at firsts reply done asked = record {
  front = record { to = at; told = reply } ∷ asked.front;
  done = (refl, done, asked.done);
  told = asked.told;
  later = asked.later;
  replies_are = ap (λ (l : List Reply). record { to = at; told = reply } ∷ l) asked.replies_are;
}

asked : {task : TaskValue} {terminal : EnvWords} (firsts rest : List Step) {held secret : List ℕ} {lasts : Lifetime} {noted : Option Ending} {before after : Contacts} {replies : List Reply}
    → list_all changes firsts ≡ true → ComesTo task terminal (firsts ++ step.Ask ∷ rest) held noted before replies (Gives secret lasts) after → AskedBehind firsts replies
asked [] rest all (gives {told = reply} going does) = asked_at_once reply []
asked [] rest all (goes_on {told = reply} {others = others} going does more) = asked_at_once reply others
asked [] rest all (notes {told = reply} {others = others} going does more) = asked_at_once reply others
asked [] rest all (holds {told = reply} {others = others} going does more) = asked_at_once reply others
asked {task = task} (at ∷ firsts) rest all (gives {held = held} {secret = secret} {lasts = lasts} {told = reply} going does) =
    let change = first_of_all at firsts all in absurd (never_gives task.act held at reply secret lasts change (by_step does change))
asked {task = task} (at ∷ firsts) rest all (goes_on {held = held} {told = reply} going does more) =
    let change = first_of_all at firsts all in
    asked_later at firsts reply (goes_by task.act held at reply change (by_step does change)) (asked firsts rest (others_of_all at firsts all) more)
asked {task = task} (at ∷ firsts) rest all (notes {held = held} {ending = it} {told = reply} going does more) =
    let change = first_of_all at firsts all in absurd (never_notes task.act held at reply it change (by_step does change))
asked {task = task} (at ∷ firsts) rest all (holds {held = held} {secret = secret} {told = reply} going does more) =
    let change = first_of_all at firsts all in absurd (never_holds task.act held at reply secret change (by_step does change))

new_asked : {task : TaskValue} {terminal : EnvWords} (ttl : Option ℕ) (feeds : Bool) (agents : Agents) {held secret : List ℕ} {lasts : Lifetime} {noted : Option Ending} {before after : Contacts} {replies : List Reply}
    → ComesTo task terminal (steps_of (act.Give true false ttl feeds) agents) held noted before replies (Gives secret lasts) after → AskedBehind (before_new ttl agents) replies
new_asked None feeds One comes = asked (before_new None One) [] refl comes
new_asked None feeds Both comes = asked (before_new None Both) [] refl comes
new_asked (Some seconds) feeds One comes = asked (before_new (Some seconds) One) (step.Keep ∷ []) refl comes
new_asked (Some seconds) feeds Both comes = asked (before_new (Some seconds) Both) (step.Keep ∷ []) refl comes

unmet_not_given : (why : Unmet) (lasts : Lifetime) → ending_of_unmet why ≡ ending.Given lasts → ⊥
unmet_not_given why lasts is = grind (arith, rules)

input_not_given : (fault : InputFault) (lasts : Lifetime) → ending.Input fault ≡ ending.Given lasts → ⊥
input_not_given fault lasts is = grind (arith, rules)

pub has_forgotten : {task : TaskValue} {terminal : EnvWords} {before after : World} {it : Ending} (ttl : Option ℕ) (feeds : Bool) (lasts : Lifetime) → task.act ≡ act.Give true false ttl feeds → it ≡ ending.Given lasts
    → GoesTo task terminal before after it → HasForgotten task terminal ttl before after
has_forgotten ttl feeds lasts new is (refused_input {fault = fault} takes contacts output) = absurd (input_not_given fault lasts is)
has_forgotten ttl feeds lasts new is (not_found held {why = why} takes finds output) = absurd (unmet_not_given why lasts is)
has_forgotten ttl feeds lasts new is (ended steps output) = absurd ((steps_end none_noted steps.comes).not_given lasts is)
has_forgotten {task = task} {terminal = terminal} {after = after} ttl feeds lasts new is (given {secret = secret} {lasts = of} steps writes) =
    let all =
    new_asked ttl feeds steps.agents
    (subst (λ (a : Act). ComesTo task terminal (steps_of a steps.agents) steps.held None steps.between steps.replies (Gives secret of) after.contacts) new steps.comes)
    in
    record { secret = secret; lasts = of; steps = steps; front = all.front; done = all.done; told = all.told; later = all.later; replies_are = all.replies_are }

-- ---- an act that asks nobody

none_first : (at : Step) (steps : List Step) → list_any asks_user (at ∷ steps) ≡ false → asks_user at ≡ false
none_first at steps none = grind (arith, rules)

none_later : (at : Step) (steps : List Step) → list_any asks_user (at ∷ steps) ≡ false → list_any asks_user steps ≡ false
none_later at steps none = grind (arith, rules)

none_before : (at : Step) (reply : Told) (replies : List Reply) → asks_user at ≡ false → NobodyAsked replies → NobodyAsked (record { to = at; told = reply } ∷ replies)
none_before at reply replies none others = ap (λ (b : Bool). b || list_any (λ reply. asks_user reply.to) replies) none ∙ others

unasked : {task : TaskValue} {terminal : EnvWords} {steps : List Step} {held : List ℕ} {noted : Option Ending} {before after : Contacts} {replies : List Reply} {course : Course}
    → list_any asks_user steps ≡ false → ComesTo task terminal steps held noted before replies course after → NobodyAsked replies
unasked none behind_all = refl
unasked none (stops is) = refl
unasked none (gives {step = at} {steps = steps} {told = reply} going does) = none_before at reply [] (none_first at steps none) refl
unasked none (ends {step = at} {steps = steps} {told = reply} going does) = none_before at reply [] (none_first at steps none) refl
unasked none (goes_on {step = at} {steps = steps} {told = reply} {others = others} going does more) = none_before at reply others (none_first at steps none) (unasked (none_later at steps none) more)
unasked none (notes {step = at} {steps = steps} {told = reply} {others = others} going does more) = none_before at reply others (none_first at steps none) (unasked (none_later at steps none) more)
unasked none (holds {step = at} {steps = steps} {told = reply} {others = others} going does more) = none_before at reply others (none_first at steps none) (unasked (none_later at steps none) more)

looks_ask_none : (agents : Agents) → list_any asks_user (looks agents) ≡ false
looks_ask_none One = refl
looks_ask_none Both = refl

quiet_steps : (it : Act) (agents : Agents) → looks_alone it ≡ true → list_any asks_user (steps_of it agents) ≡ false
quiet_steps (act.Give repeats true ttl feeds) agents alone = looks_ask_none agents
quiet_steps (act.Give repeats false ttl feeds) agents alone = absurd (false≢true alone)
quiet_steps act.Cached agents alone = looks_ask_none agents
quiet_steps act.Forget agents alone = absurd (false≢true alone)
quiet_steps act.ForgetAll agents alone = absurd (false≢true alone)
quiet_steps act.Store agents alone = absurd (false≢true alone)

pub nobody_asked : {task : TaskValue} {terminal : EnvWords} {before : World} {course : Course} {input : Side} {after : Contacts} → looks_alone task.act ≡ true
    → (steps : TakesSteps task terminal before course input after) → NobodyAsked steps.replies
nobody_asked {task = task} alone steps = unasked (quiet_steps task.act steps.agents alone) steps.comes
