use Rattle.std.proofs.{Common.{rules, arith, ◌≡◌, ◌≢◌, ◌+◌, ℕ, length, ap, sym, ◌∙◌, refl}, lemmas.Grind.common_steps}
use Rattle.{cache_policy.specs.{declared.mark.MarkStep.MarkStep, Entries.stored, Histories.History, Runs.last_base, Turns.mark_step}, agent_core.proofs.Counting.stored_bare}
use Rattle.agent_lock.proofs.Stepping.{marked_step, unmade, given_up, marks_few, totals_given_up, given_at}
use Rattle.agent_lock.proofs.state.State.step.Goals as goal

pub add-requires-clause-small : goal.add-requires-clause-small
add-requires-clause-small c = marks_few c.args.self.now c.requires c.next_start-next.ensures.below

pub returns-then-spent : goal.returns-then-spent
returns-then-spent c =
    let k = c.requires in
    let all : c.args.self.now.core.base + c.args.self.now.core.count ≡ last_base = search rules in
    let taken = c.step-outcome.ensures.step k.stands.history k.stands.legal k.stands.stands in
    let stepped = given_up c.args.self.now k c.next_start-next.ensures.below all taken in
    record {
      kept = stepped.kept;
      journaled = stepped.journaled;
      core = search rules;
      totals = totals_given_up c.args.self.now k c.next_start-next.ensures.below all taken;
      grant = given_at _ taken;
      fits = search rules;
      memory = search rules;
      limits = search rules;
      back = search rules;
    }

pub returns-in-Some : goal.returns-in-Some
returns-in-Some c =
    let k = c.requires in
    let more : c.args.self.now.core.base + c.args.self.now.core.count ≢ last_base = search rules in
    let taken = c.in-Ok.ensures.step k.stands.history k.stands.legal k.stands.stands in
    let a = c.add.ensures in
    let asked = mark_step c.args.session c.args.step in
    let bare = λ (before : History) (moment : ℕ). ap (λ (s : MarkStep). length (stored c.args.self.now.core.limits before s moment)) c.of-asked.ensures ∙ stored_bare c.args.self.now.core.limits before asked moment in
    let next = c.next_start-next.ensures.start in
    let stepped =
    marked_step c.args.self.now k c.next_start-next.ensures.below more c.step-outcome.new.self c.args.session c.args.reading asked _ taken c.step-outcome.ensures.limits
    c.in-Some.answer (sym c.of.ensures ∙ c.in-Some.is) _ c.stores-stores.result
    (record { session_is = refl; step_is = c.of-asked.ensures; reply_is = refl; moment_is = c.moment.ensures; stores_are = λ before moment held. bare before moment ∙ c.stores-stores.ensures before moment held })
    c.add.new.self (record { core_is = a.core; journal_is = rw next at a.journal; carried_is = rw next at a.carried; total_is = a.total; sound = a.sound; room = a.room }) in
    record {
      kept = stepped.kept;
      journaled = stepped.journaled;
      core = search rules;
      totals = grind (arith, common_steps);
      grant = given_at _ taken;
      fits = search rules;
      memory = search rules;
      limits = search rules;
      back = search rules;
    }

pub returns-in-None-clause-kept : goal.returns-in-None-clause-kept
returns-in-None-clause-kept c = let k = c.requires in (unmade c.args.self.now k (search rules) (c.in-Ok.ensures.step k.stands.history k.stands.legal k.stands.stands) (sym c.of.ensures ∙ c.in-None.is)).kept

pub returns-in-None-clause-journaled : goal.returns-in-None-clause-journaled
returns-in-None-clause-journaled c = let k = c.requires in (unmade c.args.self.now k (search rules) (c.in-Ok.ensures.step k.stands.history k.stands.legal k.stands.stands) (sym c.of.ensures ∙ c.in-None.is)).journaled

pub returns-in-Err-clause-kept : goal.returns-in-Err-clause-kept
returns-in-Err-clause-kept c = let k = c.requires in (unmade c.args.self.now k (search rules) (c.in-Err.ensures.step k.stands.history k.stands.legal k.stands.stands) refl).kept

pub returns-in-Err-clause-journaled : goal.returns-in-Err-clause-journaled
returns-in-Err-clause-journaled c = let k = c.requires in (unmade c.args.self.now k (search rules) (c.in-Err.ensures.step k.stands.history k.stands.legal k.stands.stands) refl).journaled
