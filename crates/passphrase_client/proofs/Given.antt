-- What a run gives, by its end.
use Rattle.std.proofs.Common.{◌≡◌, ◌≢◌, ◌⊎◌, inl, inr, ℕ, List, Bool, true, false, Option, Some, None, Ok, Err, Result, refl, subst, arith, rules}
use Rattle.{agent_ports.specs.declared.link.WriteFault.WriteFault, passphrase_talk.specs.{Contacts.Contacts, declared.{connector.Unmet.Unmet, told.Told.Told}}, passphrase_words.specs.{Tasks.TaskValue, declared.task.Act.Act}}
use Rattle.session_options.specs.OptionValues.{EnvWords}
use Rattle.passphrase_client.{proofs.Answering.{answered, lists_ask_first}, specs.Laws.WasAnswered}
use Rattle.passphrase_client.specs.{Runs.{GoesTo, refused_input, not_found, ended, given, ending_of, ending_of_unmet, World, ComesTo, Settles, Reply, behind_all, stops, ends, goes_on, notes, holds}, Steps.place_of}
use Rattle.passphrase_client.specs.{Verdicts.{verdict, end_of, failure, emptied_verdict, first_of, stops_at}, declared.{course.Course.TheVariants.Ends, ending.{Ending.Ending, Lifetime.Lifetime}, input.InputFault.InputFault, steps.Step.Step}}
use Rattle.passphrase_client.specs.declared.steps.Step.TheVariants.{Forget}
use Rattle.passphrase_client.specs.declared.ending.Ending.TheVariants as ending
use Rattle.passphrase_client.specs.declared.verdict.Verdict.TheVariants as verdict_is

-- no end of steps says that a passphrase was given, or that none could be written
pub record IsOfSteps (it : Ending) : Type 0 where
  pub not_given : (lasts : Lifetime) → it ≢ ending.Given lasts
  pub not_cut : it ≢ ending.Unwritten
  pub has_agent : it ≢ ending.NoAgent

failed_end : (act : Act) (at : Step) (reply : Told) (it : Ending) → failure act at reply ≡ Some it → IsOfSteps it
failed_end act at reply it is = record { not_given = λ lasts. grind (arith, rules); not_cut = grind (arith, rules); has_agent = grind (arith, rules) }

verdict_ends : (act : Act) (held : List ℕ) (at : Step) (reply : Told) (it : Ending) → verdict_is.Ends it ≡ verdict act held at reply → IsOfSteps it
verdict_ends act held at reply it is = record { not_given = λ lasts. grind (arith, rules); not_cut = grind (arith, rules); has_agent = grind (arith, rules) }

verdict_notes : (act : Act) (held : List ℕ) (at : Step) (reply : Told) (it : Ending) → verdict_is.Notes it ≡ verdict act held at reply → IsOfSteps it
verdict_notes act held at reply it is = record { not_given = λ lasts. grind (arith, rules); not_cut = grind (arith, rules); has_agent = grind (arith, rules) }

emptied_ends : (at : Step) (failed : Option Ending) (it : Ending) → ((other : Ending) → failed ≡ Some other → IsOfSteps other) → verdict_is.Ends it ≡ emptied_verdict at failed → IsOfSteps it
emptied_ends at (Some other) it fine is = subst IsOfSteps (grind (arith, rules)) (fine other refl)
emptied_ends at None it fine is = record { not_given = λ lasts. grind (arith, rules); not_cut = grind (arith, rules); has_agent = grind (arith, rules) }

emptied_notes_none : (at : Step) (failed : Option Ending) (it : Ending) → verdict_is.Notes it ≡ emptied_verdict at failed → ⊥
emptied_notes_none at failed it is = grind (arith, rules)

step_ends : (empty : Bool) (task : TaskValue) (terminal : EnvWords) (at : Step) (held : List ℕ) (reply : Told) (it : Ending) (before after : Contacts)
    → Settles empty task terminal at held reply (verdict_is.Ends it) before after → IsOfSteps it
step_ends false task terminal at held reply it before after settles = verdict_ends task.act held at reply it settles.0
step_ends true task terminal at held reply it before after settles =
    emptied_ends at (failure task.act (Forget (place_of at)) settles.0) it (λ other is. failed_end task.act (Forget (place_of at)) settles.0 other is) settles.2

step_notes : (empty : Bool) (task : TaskValue) (terminal : EnvWords) (at : Step) (held : List ℕ) (reply : Told) (it : Ending) (before after : Contacts)
    → Settles empty task terminal at held reply (verdict_is.Notes it) before after → IsOfSteps it
step_notes false task terminal at held reply it before after settles = verdict_notes task.act held at reply it settles.0
step_notes true task terminal at held reply it before after settles = absurd (emptied_notes_none at _ it settles.2)

pub first_noted : (noted : Option Ending) (later it : Ending) → first_of noted later ≡ Some it → (noted ≡ Some it) ⊎ (later ≡ it)
first_noted noted later it is = grind (arith, rules)

pub stop_is_noted : (at : Step) (noted : Option Ending) (it : Ending) → stops_at at noted ≡ Some it → noted ≡ Some it
stop_is_noted at noted it is = grind (arith, rules)

end_is : (act : Act) (noted : Option Ending) → ((it : Ending) → noted ≡ Some it → IsOfSteps it) → IsOfSteps (end_of act noted)
end_is act (Some it) fine = fine it refl
end_is act None fine = record { not_given = λ lasts. grind (arith, rules); not_cut = grind (arith, rules); has_agent = grind (arith, rules) }

pub steps_end : {task : TaskValue} {terminal : EnvWords} {steps : List Step} {held : List ℕ} {noted : Option Ending} {before after : Contacts} {replies : List Reply} {it : Ending}
    → ((other : Ending) → noted ≡ Some other → IsOfSteps other) → ComesTo task terminal steps held noted before replies (Ends it) after → IsOfSteps it
steps_end {task = task} fine (behind_all {noted = noted}) = end_is task.act noted fine
steps_end fine (stops {step = at} {noted = noted} {ending = it} is) = fine it (stop_is_noted at noted it is)
steps_end fine (ends going does) = step_ends _ _ _ _ _ _ _ _ _ does.settles
steps_end fine (goes_on going does more) = steps_end fine more
steps_end fine (notes {noted = noted} {ending = later} going does more) =
    steps_end (λ other is. elim (first_noted noted later other is) [ inl before ↦ fine other before | inr same ↦ subst IsOfSteps same (step_notes _ _ _ _ _ _ _ _ _ does.settles) ]) more
steps_end fine (holds going does more) = steps_end fine more

pub none_noted : (it : Ending) → None ≡ Some it → IsOfSteps it
none_noted it is = absurd (grind (arith, rules))

unmet_not_given : (why : Unmet) (lasts : Lifetime) → ending_of_unmet why ≡ ending.Given lasts → ⊥
unmet_not_given why lasts is = grind (arith, rules)

refused_not_given : (fault : InputFault) (lasts : Lifetime) → ending.Input fault ≡ ending.Given lasts → ⊥
refused_not_given fault lasts is = grind (arith, rules)

given_whole : (of lasts : Lifetime) (written : Result (Unit {0}) WriteFault) → ending_of of written ≡ ending.Given lasts → written ≡ Ok tt
given_whole of lasts written is = grind (arith, rules)

pub was_answered : {task : TaskValue} {terminal : EnvWords} {before after : World} {it : Ending} {lasts : Lifetime} → it ≡ ending.Given lasts → GoesTo task terminal before after it → WasAnswered task terminal before after
was_answered {lasts = lasts} is (refused_input {fault = fault} takes contacts output) = absurd (refused_not_given fault lasts is)
was_answered {lasts = lasts} is (not_found held {why = why} takes finds output) = absurd (unmet_not_given why lasts is)
was_answered {lasts = lasts} is (ended steps output) = absurd ((steps_end none_noted steps.comes).not_given lasts is)
was_answered {task = task} {lasts = lasts} is (given {secret = secret} {lasts = of} {written = written} steps writes) =
    let are = answered (lists_ask_first task.act steps.agents) steps.comes in
    record {
      secret = secret;
      lasts = of;
      steps = steps;
      contact = are.contact;
      made = are.made;
      asks = are.asks;
      told_is = are.told_is;
      answered = are.has;
      one_line = are.one_line;
      written = (rw (given_whole of lasts written is) at writes).went;
    }

one_of_both : (of : Lifetime) (written : Result (Unit {0}) WriteFault) → ((lasts : Lifetime) → ending_of of written ≢ ending.Given lasts) → ending_of of written ≢ ending.Unwritten → ⊥
one_of_both of (Ok done) whole cut = whole of refl
one_of_both of (Err fault) whole cut = cut refl

pub output_stands : {task : TaskValue} {terminal : EnvWords} {before after : World} {it : Ending} → GoesTo task terminal before after it → ((lasts : Lifetime) → it ≢ ending.Given lasts) → it ≢ ending.Unwritten
    → after.output ≡ before.output
output_stands (refused_input takes contacts output) whole cut = output
output_stands (not_found held takes finds output) whole cut = output
output_stands (ended steps output) whole cut = output
output_stands (given {lasts = of} {written = written} steps writes) whole cut = absurd (one_of_both of written whole cut)
