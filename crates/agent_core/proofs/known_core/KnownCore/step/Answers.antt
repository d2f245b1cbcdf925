use Rattle.std.{specs.Prelude.{◌≡◌, ◌≢◌, ℕ, ◌+◌, List, length, true, IsSome, IfSome, Ok}, proofs.Common.{ap, sym, ◌∙◌, subst, refl, rules, arith}}
use Rattle.cache_policy.specs.{declared.{mark.{Mark.Mark, MarkStep.MarkStep}, history.History.History as HistoryInMemory, step.Reply.Reply as Told, tally.Tally.Tally}, Histories.run_of, Legal.IsLegalRun}
use Rattle.cache_policy.specs.{Runs.{last_base, moment_of, next_history, run_with_mark}, Turns.{Stand, Refused, mark_step, closes, turn_of}, Entries.stored, Tallies.one_if}
use Rattle.agent_core.{specs.{Cores.{AtCore, IsStep, mark_of}, Known.{AtKnown, IsOut, TakesStep, spent}, Recording.{KeepsRun, LastHasRoom, reply_of}, Tallies.Tallied}, proofs.Coming.needs_fits}
use Rattle.agent_core.proofs.Counting.{can_count, tally_stays, tally_counted}
use Rattle.agent_core.proofs.Knowing.{seat_next, legal_last, spent_run, going, no_room, has_next, can_add, keeps_same, like_same, records_stay, is_marked, Marks, made, HasRoomFor, records_marked, not_refused, not_stand, took_refused}
use Rattle.agent_core.proofs.{Knowing.{Stands, took_stood, moment_is, added_later}, Taken.fits_taken}
use Rattle.agent_core.proofs.known_core.KnownCore.step.Goals as goal

pub returns-then-spent-clause-takes : goal.returns-then-spent-clause-takes
returns-then-spent-clause-takes c =
    let all : c.self.inside.core.base + c.self.inside.core.count ≡ last_base = search rules in
    rw (sym c.self.view_is) (spent (spent_run c.self.inside.core (run_of c.self.inside.histories.items) c.self.invariant.records.keeps all) refl)

pub returns-then-is_err-clause-takes : goal.returns-then-is_err-clause-takes
returns-then-is_err-clause-takes c =
    let keeps = c.self.invariant.records.keeps in
    let more : c.self.inside.core.base + c.self.inside.core.count ≢ last_base = search rules in
    let needs : c.needs_room-needs.result ≡ true = search rules in
    rw (sym c.self.view_is, c.room_for.ensures.items)
    (subst (λ (m : ℕ). TakesStep c.self.inside.core.limits (run_of c.self.inside.histories.items) c.args.session m (mark_step c.args.session c.args.step) Refused (run_of c.self.inside.histories.items))
    (moment_is c.self.inside.core (run_of c.self.inside.histories.items) c.args.reading keeps)
    (no_room c.self.inside.core (run_of c.self.inside.histories.items) c.args.session _ (mark_step c.args.session c.args.step) keeps more
    (sym (c.needs_room-needs.ensures keeps.last (legal_last c.self.inside.core (run_of c.self.inside.histories.items) keeps) keeps.stands) ∙ needs)))

pub returns-then-is_err-clause-fits : goal.returns-then-is_err-clause-fits
returns-then-is_err-clause-fits c =
    let keeps = c.self.invariant.records.keeps in
    let needs : c.needs_room-needs.result ≡ true = search rules in
    needs_fits c.self.inside.core (mark_step c.args.session c.args.step) _
    (sym (c.needs_room-needs.ensures keeps.last (legal_last c.self.inside.core (run_of c.self.inside.histories.items) keeps) keeps.stands) ∙ needs)

-- what is known of the core before the step
kept_run_before : (c : goal.After-stood) → KeepsRun c.self.inside.core (run_of c.self.inside.histories.items)
kept_run_before c = c.self.invariant.records.keeps

-- a step that has to stand
step_stands : (c : goal.After-stood) → Stands c.self.inside.core c.step.new.self (run_of c.self.inside.histories.items) c.args.session
    (moment_of c.self.inside.core.moment c.args.reading) (mark_step c.args.session c.args.step) c.in-Stand.wait
step_stands c =
    let keeps = c.self.invariant.records.keeps in
    let step : IsStep c.self.inside.core keeps.last c.args.session (moment_of c.self.inside.core.moment c.args.reading) (mark_step c.args.session c.args.step) (turn_of (Ok c.in-Ok.reply)) c.step.new.self =
    c.in-Ok.ensures.step keeps.last (legal_last c.self.inside.core (run_of c.self.inside.histories.items) keeps) keeps.stands in
    let more : c.self.inside.core.base + c.self.inside.core.count ≢ last_base = search rules in
    took_stood c.self.inside.core c.step.new.self (run_of c.self.inside.histories.items) keeps c.args.session _ (mark_step c.args.session c.args.step) c.in-Stand.wait more
    (subst (λ (r : Told). IsStep c.self.inside.core keeps.last c.args.session (moment_of c.self.inside.core.moment c.args.reading) (mark_step c.args.session c.args.step) (turn_of (Ok r)) c.step.new.self) c.in-Stand.is step)

pub invariant_of-self-in-Stand : goal.invariant_of-self-in-Stand
invariant_of-self-in-Stand c =
    let stands = step_stands c in
    record {
      records = records_stay c.self.inside.core c.step.new.self c.self.inside.histories c.room_for.new.histories c.self.inside.next c.room_for.new.next
          c.self.invariant.records c.room_for.ensures.items c.room_for.ensures.room c.room_for.ensures.kept
          (like_same c.self.inside.core c.step.new.self stands.same)
          (keeps_same c.self.inside.core c.step.new.self (run_of c.self.inside.histories.items) c.self.invariant.records.keeps stands.same);
      tally_is = tally_stays c.self.inside.core.limits c.step.new.self.limits (run_of c.self.inside.histories.items) (run_of c.room_for.new.histories.items) c.self.inside.tally
          (ap (λ (k : AtCore). k.limits) stands.same) (ap run_of c.room_for.ensures.items) c.self.invariant.tally_is;
    }

pub returns-in-Stand-clause-takes : goal.returns-in-Stand-clause-takes
returns-in-Stand-clause-takes c =
    rw (sym c.self.view_is, c.room_for.ensures.items, c.stood.ensures.turn)
    (subst (λ (m : ℕ). TakesStep c.self.inside.core.limits (run_of c.self.inside.histories.items) c.args.session m (mark_step c.args.session c.args.step) (Stand c.in-Stand.wait) (run_of c.self.inside.histories.items))
    (moment_is c.self.inside.core (run_of c.self.inside.histories.items) c.args.reading c.self.invariant.records.keeps) (step_stands c).takes)

-- the room that the step needs is there
room_is_there : (c : goal.After-add-arg-in_default-1) → HasRoomFor c.self.inside.core c.self.inside.histories c.self.inside.next c.room_for.new.next
    (moment_of c.self.inside.core.moment c.args.reading) (mark_step c.args.session c.args.step)
room_is_there c =
    let keeps = c.self.invariant.records.keeps in
    let more : c.self.inside.core.base + c.self.inside.core.count ≢ last_base = search rules in
    let room : c.needs_room-needs.result ≡ true → IsSome c.room_for.new.next = search rules in
    record {
      records = c.self.invariant.records;
      more = more;
      own = subst (λ (k : AtKnown). IfSome (closes (mark_step c.args.session c.args.step)) (IsOut k.run)) (sym c.self.view_is) c.requires.own;
      kept = c.room_for.ensures.kept;
      room = λ needs. room (c.needs_room-needs.ensures keeps.last (legal_last c.self.inside.core (run_of c.self.inside.histories.items) keeps) keeps.stands ∙ needs);
    }

pub add-requires : goal.add-requires
add-requires c =
    let has = room_is_there c in
    rw c.start_after-start.ensures
    (can_add c.self.inside.core c.room_for.new.histories c.room_for.new.next
    (subst (λ (l : List HistoryInMemory). KeepsRun c.self.inside.core (run_of l)) (sym c.room_for.ensures.items) c.self.invariant.records.keeps)
    (subst LastHasRoom (sym c.room_for.ensures.items) c.self.invariant.records.present) c.room_for.ensures.room
    (has_next c.self.inside.core c.self.inside.histories c.self.inside.next c.room_for.new.next (mark_step c.args.session c.args.step) _
    has.records has.more has.own has.kept has.room))

-- a step that makes its mark
step_marks : (c : goal.After-add) → Marks c.self.inside.core c.step.new.self (run_of c.self.inside.histories.items) c.args.session
    (moment_of c.self.inside.core.moment c.args.reading) (mark_step c.args.session c.args.step) (turn_of (Ok c.in-Ok.reply))
    c.mark_of-mark.result
step_marks c =
    let keeps = c.self.invariant.records.keeps in
    let more : c.self.inside.core.base + c.self.inside.core.count ≢ last_base = search rules in
    let gone = going c.self.inside.core (run_of c.self.inside.histories.items) keeps more in
    let step : IsStep c.self.inside.core keeps.last c.args.session (moment_of c.self.inside.core.moment c.args.reading) (mark_step c.args.session c.args.step) (turn_of (Ok c.in-Ok.reply)) c.step.new.self =
    c.in-Ok.ensures.step keeps.last (legal_last c.self.inside.core (run_of c.self.inside.histories.items) keeps) keeps.stands in
    let is = is_marked c.self.inside.core c.step.new.self keeps.last c.args.session _ (mark_step c.args.session c.args.step) (turn_of (Ok c.in-Ok.reply))
    (not_stand c.in-Ok.reply c.in_default.not-Stand) (not_refused c.in-Ok.reply) gone step in
    made c.self.inside.core c.step.new.self (run_of c.self.inside.histories.items) keeps c.args.session (mark_step c.args.session c.args.step) (turn_of (Ok c.in-Ok.reply)) _
    gone c.in-Ok.ensures.limits (omega (arith, keeps.moment)) (omega (arith, keeps.stands.moment)) is _
    (c.mark_of-mark.ensures
    ∙ ap (λ (s : MarkStep). mark_of c.args.session s (reply_of (turn_of (Ok c.in-Ok.reply))) c.step.new.self.moment) c.mark_step_of-asked.ensures)

-- the run has it
run_has_mark : (c : goal.After-add) → (run_of c.add.new.histories.items) ≡ run_with_mark (run_of c.self.inside.histories.items)
    c.mark_of-mark.result
run_has_mark c =
    added_later c.self.inside.core (run_of c.self.inside.histories.items) (run_of c.room_for.new.histories.items) (run_of c.add.new.histories.items) c.start_after-start.result _
    c.self.invariant.records.keeps c.start_after-start.ensures (ap run_of c.room_for.ensures.items) c.add.ensures.run

-- and the tally counts it
tally_counts_mark : (c : goal.After-add) → Tallied c.step.new.self.limits (run_of c.add.new.histories.items) c.counted-self-inside.result
tally_counts_mark c =
    let keeps = c.self.invariant.records.keeps in
    let mark : Mark = c.mark_of-mark.result in
    let now : length (stored c.self.inside.core.limits (next_history keeps.last) mark.step mark.moment) ≡ one_if c.stores-stores.result =
    subst (λ (s : MarkStep). length (stored c.self.inside.core.limits (next_history keeps.last) s mark.moment) ≡ one_if c.stores-stores.result)
    (sym c.mark_step_of-asked.ensures ∙ ap (λ (m : Mark). m.step) (sym c.mark_of-mark.ensures))
    (c.stores-stores.ensures (next_history keeps.last) mark.moment (seat_next keeps.last ∙ sym keeps.stands.seat_is)) in
    tally_stays c.self.inside.core.limits c.step.new.self.limits (run_with_mark (run_of c.self.inside.histories.items) mark) (run_of c.add.new.histories.items)
    c.counted-self-inside.result c.in-Ok.ensures.limits (run_has_mark c)
    (subst (λ (t : Tally). Tallied c.self.inside.core.limits (run_with_mark (run_of c.self.inside.histories.items) mark) t) (sym c.counted-self-inside.ensures)
    (tally_counted c.self.inside.core.limits (run_of c.self.inside.histories.items) keeps.last mark c.self.inside.tally c.stores-stores.result keeps.legal.turns_over
    keeps.last_is c.self.invariant.tally_is now))

pub counted-self-inside-requires : goal.counted-self-inside-requires
counted-self-inside-requires c =
    let keeps = c.self.invariant.records.keeps in
    can_count c.self.inside.core.limits (run_of c.self.inside.histories.items) keeps.last c.self.inside.tally keeps.legal keeps.last_is keeps.below
    (legal_last c.self.inside.core (run_of c.self.inside.histories.items) keeps).few c.self.invariant.tally_is

pub invariant_of-self-in_default : goal.invariant_of-self-in_default
invariant_of-self-in_default c =
    let more : c.self.inside.core.base + c.self.inside.core.count ≢ last_base = search rules in
    let room : c.needs_room-needs.result ≡ true → IsSome c.room_for.new.next = search rules in
    let keeps = c.self.invariant.records.keeps in
    record {
      records = records_marked c.self.inside.core c.step.new.self c.self.inside.histories c.add.new.histories c.self.inside.next c.room_for.new.next c.add.new.next
          c.args.session _ (mark_step c.args.session c.args.step) (turn_of (Ok c.in-Ok.reply)) _
          (record {
            records = c.self.invariant.records;
            more = more;
            own = subst (λ (k : AtKnown). IfSome (closes (mark_step c.args.session c.args.step)) (IsOut k.run)) (sym c.self.view_is) c.requires.own;
            kept = c.room_for.ensures.kept;
            room = λ needs. room (c.needs_room-needs.ensures keeps.last (legal_last c.self.inside.core (run_of c.self.inside.histories.items) keeps) keeps.stands ∙ needs);
          }) (step_marks c) (run_has_mark c) c.add.ensures.last c.add.ensures.room
          (λ none. c.add.ensures.kept (c.start_after-start.ensures ∙ none));
      tally_is = tally_counts_mark c;
    }

pub returns-in_default-clause-takes : goal.returns-in_default-clause-takes
returns-in_default-clause-takes c =
    rw (sym c.self.view_is, run_has_mark c)
    (subst (λ (m : ℕ). TakesStep c.self.inside.core.limits (run_of c.self.inside.histories.items) c.args.session m (mark_step c.args.session c.args.step) (turn_of (Ok c.in-Ok.reply))
    (run_with_mark (run_of c.self.inside.histories.items)
    c.mark_of-mark.result))
    (moment_is c.self.inside.core (run_of c.self.inside.histories.items) c.args.reading c.self.invariant.records.keeps) (step_marks c).takes)

pub returns-in_default-clause-fits : goal.returns-in_default-clause-fits
returns-in_default-clause-fits c = fits_taken c.args.session c.args.step (turn_of (Ok c.in-Ok.reply)) c.in-Ok.ensures.fits

pub returns-in_default-clause-back : goal.returns-in_default-clause-back
returns-in_default-clause-back c = not_stand c.in-Ok.reply c.in_default.not-Stand

pub returns-in_default-clause-legal : goal.returns-in_default-clause-legal
returns-in_default-clause-legal c =
    subst (IsLegalRun c.step.new.self.limits) (sym (run_has_mark c)) (step_marks c).keeps.legal

pub returns-in-Err-clause-takes : goal.returns-in-Err-clause-takes
returns-in-Err-clause-takes c =
    let keeps = c.self.invariant.records.keeps in
    let step : IsStep c.self.inside.core keeps.last c.args.session (moment_of c.self.inside.core.moment c.args.reading) (mark_step c.args.session c.args.step) Refused c.step.new.self =
    c.in-Err.ensures.step keeps.last (legal_last c.self.inside.core (run_of c.self.inside.histories.items) keeps) keeps.stands in
    rw (sym c.self.view_is, c.room_for.ensures.items)
    (subst (λ (m : ℕ). TakesStep c.self.inside.core.limits (run_of c.self.inside.histories.items) c.args.session m (mark_step c.args.session c.args.step) Refused (run_of c.self.inside.histories.items))
    (moment_is c.self.inside.core (run_of c.self.inside.histories.items) c.args.reading keeps)
    (took_refused c.self.inside.core c.step.new.self (run_of c.self.inside.histories.items) keeps c.args.session _ (mark_step c.args.session c.args.step) step))
