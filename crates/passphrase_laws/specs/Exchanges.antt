-- The exchange of a request for a passphrase (GnuPG manual, "Agent GET_PASSPHRASE"), as its client reads it.
use Rattle.std.specs.{List.{AllByRecursion, flat_map}, Prelude.{◌≡◌, ℕ, Bool, true, false, List, [], ◌∷◌, ◌++◌, Option, Some, None, Result, Ok, Err, ⊤}}
use Rattle.{agent_ask.specs.{Session.{SessionEvents.{Sent, Cut, Inquiry, CacheTurn, Port, said_last}, TurnActions.Closes}, SessionPrompts.note}, agent_commands.specs.{Answers.IsPassphrase, Events.Inquired, Actions.CacheEvent, Passphrases.Passphrase}}
use Rattle.{agent_commands.specs.Requests.GetFields, assuan_client.specs.Answers.success_of, assuan_server.specs.{Errors.{error_text, error_number}, Inquiries.inquire_text, Written.refusal_line}}
use Rattle.{assuan_server.specs.declared.errors.Origin.Origin, assuan_text.specs.LineEnds.line_of, session_client.specs.{Asking.{Asked, NotAsked}, declared.{code.Code.Code, refusal.Refusal.Refusal}}}
use Rattle.session_options.specs.{OptionValues.OptionValues, declared.rules.Rules.Rules}
use Rattle.passphrase_laws.specs.Readings.{IsReadAs}
use Rattle.assuan_client.specs.declared.answer.Answer.TheVariants as answer

-- The last line, if there is one, by what the request came to: the passphrase in data lines, and read so; or the error by which it is
-- refused, and read as that. A client that is gone is told nothing.
pub data TellsLast : Result (List ℕ) Refusal → Option (List ℕ) → Type 0 where
  passphrase : {secret text : List ℕ} → IsPassphrase true secret text → IsReadAs text (success_of secret) → TellsLast (Ok secret) (Some text)
  refused : {why : Refusal} (code : Code) (origin : Origin) → refusal_line why ≡ Some (line_of (error_text code origin))
      → IsReadAs (line_of (error_text code origin)) (answer.Err (error_number code origin)) → TellsLast (Err why) (Some (line_of (error_text code origin)))
  gone : {why : Refusal} → refusal_line why ≡ None → TellsLast (Err why) None

-- The request came by its passphrase, or was refused; a ticket that it held was given back; and then the last line was written.
pub record IsTold (rules : Rules) (values : OptionValues) (fields : GetFields) (events : List CacheEvent) : Type 0 where
  pub work : List CacheEvent
  pub held : Option ℕ
  pub result : Result (List ℕ) Refusal
  pub came : Passphrase rules values fields None work result held
  pub back : List CacheEvent
  pub closed : Closes None held back (Ok tt) None
  pub last : Option (List ℕ)
  pub events_are : events ≡ work ++ (back ++ said_last last)
  pub tells : TellsLast result last

-- nothing is written to the client
abbrev pub IsSilent : CacheEvent → Type 0
IsSilent (CacheTurn taken) = ⊤
IsSilent (Port what) = ⊤
IsSilent _ = ⊥

-- whether the client was told that a pinentry was launched: once, if at all, and nothing else was written
pub data Notes : List CacheEvent → Bool → Type 0 where
  none : {events : List CacheEvent} → AllByRecursion IsSilent events → Notes events false
  once : (before later : List CacheEvent) (pid : ℕ) (inquired : Inquired) → AllByRecursion IsSilent before → AllByRecursion IsSilent later
      → Notes (before ++ note pid inquired ∷ later) true

-- the bytes that an event writes to the client
abbrev pub text_of : CacheEvent → List ℕ
text_of (Sent text) = text
text_of (Cut text) = text
text_of (Inquiry word params limit (Asked outcome)) = line_of (inquire_text word params)
text_of (Inquiry word params limit (NotAsked text)) = text
text_of _ = []

abbrev pub texts_of : List CacheEvent → List ℕ
texts_of events = flat_map text_of events
