-- One contact with an agent: the connection, its turns, and what is told of it.
use Rattle.std.specs.Prelude.{◌≡◌, ◌≢◌, ◌≤◌, ℕ, List, [], ◌++◌, Option, None, IfSome}
use Rattle.{agent_ports.specs.{Counts.Rose, Launches.{IsFresh, child_then}}, assuan_client.specs.{Connections.Connection, Skipping.nothing, declared.answer.State.TheVariants.Ready}, session_options.specs.OptionValues.EnvWords}
use Rattle.passphrase_talk.specs.{Contacts.{Contacts, HandsOver, then_met, then_opened}, Dialogues.{IsDialogue, options_of, told_of, launches_of}, Turns.{Turn, AreTaken, texts_of}, declared.connector.{Place.Place, Waits.Waits}}
use Rattle.passphrase_talk.specs.declared.{told.Told.Told, visits.TheConstants.BUDGET}
use Rattle.passphrase_talk.specs.declared.told.Loss.TheVariants as loss
use Rattle.passphrase_talk.specs.declared.told.Told.TheVariants as told

-- All bytes of these were written, or some first ones of them where a write failed.
pub record AreWritten (texts : List ℕ) (what : Told) (written : List ℕ) : Type 0 where
  pub unwritten : List ℕ
  pub split : texts ≡ written ++ unwritten
  pub whole : what ≢ told.Lost loss.Write → unwritten ≡ []

-- A dialogue of these turns over a link that could give these bytes, did not give those that are left, and was written these; where they are known.
pub record Talk (options : List (List ℕ)) (line : List ℕ) (turns : List Turn) (given left written : Option (List ℕ)) : Type 0 where
  pub follows : IsDialogue options line turns
  pub fresh : Connection
  pub unused : IsFresh fresh.input fresh.output
  pub reader : fresh.reader ≡ record { ahead = []; left = BUDGET; ended = None }
  pub tally : fresh.tally ≡ nothing
  pub state : fresh.state ≡ Ready
  pub given_are : fresh.input.bytes ≡ given
  pub last : Connection
  pub taken : AreTaken fresh turns last
  pub left_are : last.input.bytes ≡ left
  pub written_are : last.output.bytes ≡ written

-- no connection was made
pub record IsUnmet (what : Told) (before after : Contacts) : Type 0 where
  pub coming : after.coming ≡ before.coming
  pub sought : after.sought ≡ before.sought
  pub opened : after.opened ≡ before.opened
  pub met : after.met ≡ before.met
  pub launches : after.launches ≡ before.launches
  pub faults : before.faults ≤ after.faults
  pub shortages : before.shortages ≤ after.shortages
  pub rose : what ≡ told.Lost loss.Unmet → Rose before.faults after.faults
  pub no_memory_rose : what ≡ told.NoMemory → Rose before.shortages after.shortages

-- A connection was made with this agent and for this wait, which is the next to come; the dialogue was led, and it was left. What the agent said in
-- it of pinentries that it launched for the request was handed on, in its order, and nothing else; and where no user may have to type, nothing was.
pub record IsMet (place : Place) (waits : Waits) (options : List (List ℕ)) (line : List ℕ) (what : Told) (before after : Contacts) : Type 0 where
  pub turns : List Turn
  pub given : Option (List ℕ)
  pub left : Option (List ℕ)
  pub written : Option (List ℕ)
  pub talk : Talk options line turns given left written
  pub told_is : what ≡ told_of turns
  pub texts : IfSome written (AreWritten (texts_of turns) what)
  pub coming : before.coming ≡ child_then given after.coming
  pub sought : after.sought ≡ before.sought
  pub opened : after.opened ≡ then_opened before.opened place waits
  pub met : after.met ≡ then_met before.met place left written
  pub handed : HandsOver waits (launches_of turns) before.launches after.launches
  pub faults : before.faults ≤ after.faults
  pub shortages : before.shortages ≤ after.shortages
  pub read_rose : what ≡ told.Lost loss.Read → Rose before.faults after.faults
  pub write_rose : what ≡ told.Lost loss.Write → Rose before.faults after.faults

-- one contact, as the connector's contacts before it and after it show it
pub data Visits (place : Place) (waits : Waits) (line : List ℕ) (terminal : EnvWords) : Told → Contacts → Contacts → Type 0 where
  no_memory : {before after : Contacts} → IsUnmet told.NoMemory before after → Visits place waits line terminal told.NoMemory before after
  unmet : {before after : Contacts} → IsUnmet (told.Lost loss.Unmet) before after → Visits place waits line terminal (told.Lost loss.Unmet) before after
  met : {what : Told} {before after : Contacts} → IsMet place waits (options_of waits terminal) line what before after
      → Visits place waits line terminal what before after
