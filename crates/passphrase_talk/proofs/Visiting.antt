-- A contact, from its connection to its end.
use Rattle.std.proofs.Common.{◌≡◌, ◌≤◌, ◌+◌, ℕ, List, [], ◌∷◌, Option, None, IfSome, refl, ap, sym, subst, ◌∙◌, arith}
use Rattle.{agent_ports.specs.{Counts.RoseBy, Launches.{IsFresh, child_then}, Sides.Side}, assuan_client.specs.{Connections.Connection, Skipping.nothing, declared.answer.State.TheVariants.Ready}, session_options.specs.OptionValues.EnvWords}
use Rattle.passphrase_talk.specs.{Contacts.{Contact, Contacts, HandsOver, then_met, then_opened, with_launches}, Dialogues.{IsDialogue, Leads, options_of, told_of, launches_of}, Turns.{Turn, AreTaken, texts_of}}
use Rattle.passphrase_talk.specs.{Visits.{AreWritten, Visits, met, no_memory, unmet}, declared.{connector.{Place.Place, Waits.{Waits, TheVariants.Answer}}, told.Told.Told, visits.TheConstants.BUDGET}}
use Rattle.passphrase_talk.proofs.{Ending.{Ends, wrote, last_of, dialogue_ends, lost_at, read_lost, write_lost, unwritten_told}, Writing.{turns_wrote, texts_written, last_read, last_write}}
use Rattle.passphrase_talk.specs.declared.told.Loss.TheVariants as loss
use Rattle.passphrase_talk.specs.declared.told.Told.TheVariants as told

-- what becomes of the turns, besides what is told
pub record Effects (what : Told) (turns : List Turn) (last : Connection) : Type 0 where
  pub texts : IfSome last.output.bytes (AreWritten (texts_of turns) what)
  pub read : what ≡ told.Lost loss.Read → 1 ≤ last.input.faults
  pub write : what ≡ told.Lost loss.Write → 1 ≤ last.output.faults

effects_by : {what : Told} (fresh last : Connection) (turns : List Turn) → IsFresh fresh.input fresh.output → Ends turns → AreTaken fresh turns last → what ≡ told_of turns → Effects what turns last
effects_by fresh last [] unused ends taken is = absurd ends
effects_by {what} fresh last (turn ∷ turns) unused ends taken is = record {
  texts = texts_written what (texts_of (turn ∷ turns)) (wrote (last_of turn.answer turns)) fresh.output.bytes last.output.bytes unused.unwritten
      (turns_wrote turn turns fresh last ends.1 taken) (λ same. is ∙ unwritten_told (last_of turn.answer turns) ends.0 same);
  read = λ lost. last_read turn turns taken (read_lost (last_of turn.answer turns) (lost_at ends.0 (sym is ∙ lost)));
  write = λ lost. last_write turn turns taken (write_lost (last_of turn.answer turns) (lost_at ends.0 (sym is ∙ lost)));
}

-- the connection was made, the dialogue led, and it was left
pub meets : {place : Place} {waits : Waits} {line : List ℕ} {terminal : EnvWords} {what : Told} {before after : Contacts} {input output : Side}
    (joined left : Contacts) (fresh last : Connection) → fresh ≡ record { input = input; output = output; reader = record { ahead = []; left = BUDGET; ended = None }; tally = nothing; state = Ready }
    → IsFresh input output → before.coming ≡ child_then input.bytes joined.coming → joined.sought ≡ before.sought → joined.opened ≡ then_opened before.opened place waits → joined.met ≡ before.met → before.faults ≤ joined.faults → before.shortages ≤ joined.shortages
    → Leads waits (IsDialogue (options_of waits terminal) line) told_of launches_of fresh what last before.launches left.launches → left ≡ with_launches joined left.launches
    → after.coming ≡ left.coming → after.sought ≡ left.sought → after.opened ≡ left.opened → after.met ≡ then_met left.met place last.input.bytes last.output.bytes
    → after.launches ≡ left.launches → RoseBy (last.input.faults + last.output.faults) left.faults after.faults → left.faults ≤ after.faults → after.shortages ≡ left.shortages
    → Visits place waits line terminal what before after
meets {place} {waits} {before} {after} {input} {output} joined left fresh last is unused coming sought opened met_is grew short leads same coming_is sought_is opened_is left_is handed_is rose grew_more short_is =
    let fresh_unused : IsFresh fresh.input fresh.output = rw is unused in
    let does = effects_by fresh last leads.turns fresh_unused (dialogue_ends leads.follows) leads.taken leads.told_is in
    let faults_are : left.faults ≡ joined.faults = ap (λ (all : Contacts). all.faults) same in
    let shortages_are : left.shortages ≡ joined.shortages = ap (λ (all : Contacts). all.shortages) same in
    met (record {
      turns = leads.turns;
      given = input.bytes;
      left = last.input.bytes;
      written = last.output.bytes;
      talk = record {
        follows = leads.follows;
        fresh = fresh;
        unused = fresh_unused;
        reader = rw is refl;
        tally = rw is refl;
        state = rw is refl;
        given_are = rw is refl;
        last = last;
        taken = leads.taken;
        left_are = refl;
        written_are = refl;
      };
      told_is = leads.told_is;
      texts = does.texts;
      coming = coming ∙ ap (λ (o : Option (List (List ℕ))). child_then input.bytes o) (sym (coming_is ∙ ap (λ (all : Contacts). all.coming) same));
      sought = sought_is ∙ ap (λ (all : Contacts). all.sought) same ∙ sought;
      opened = opened_is ∙ ap (λ (all : Contacts). all.opened) same ∙ opened;
      met = left_is ∙ ap (λ (o : Option (List Contact)). then_met o place last.input.bytes last.output.bytes) (ap (λ (all : Contacts). all.met) same ∙ met_is);
      handed = subst (λ (l : Option (List (List ℕ))). HandsOver waits (launches_of leads.turns) before.launches l) (sym handed_is) leads.handed;
      faults = omega (arith, grew, grew_more, faults_are);
      shortages = omega (arith, short, short_is, shortages_are);
      read_rose = λ lost. let one = does.read lost in omega (arith, one, rose, grew, faults_are);
      write_rose = λ lost. let one = does.write lost in omega (arith, one, rose, grew, faults_are);
    })

-- where no user may have to type, nothing was handed on
pub nothing_handed : {place : Place} {waits : Waits} {line : List ℕ} {terminal : EnvWords} {what : Told} {before after : Contacts}
    → Visits place waits line terminal what before after → waits ≡ Answer → after.launches ≡ before.launches
nothing_handed (no_memory un) answers = un.launches
nothing_handed (unmet un) answers = un.launches
nothing_handed {before} {after} (met contact) answers = subst (λ (w : Waits). HandsOver w (launches_of contact.turns) before.launches after.launches) answers contact.handed
