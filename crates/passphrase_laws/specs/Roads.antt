-- The road of a passphrase: what a session of this agent writes to its client, and what the client's dialogue tells of it (Assuan manual,
-- "server responses").
use Rattle.std.specs.Prelude.{◌≡◌, ◌<◌, ◌^◌, ℕ, Bool, List, [], ◌∷◌, ◌++◌, decimal, Some, Result, Ok, Err, ⊤}
use Rattle.{agent_ask.specs.Session.SessionEvents.{Cut, Inquiry}, agent_commands.specs.{Actions.CacheEvent, Requests.GetFields}, assuan_server.specs.{Errors.{error_text, error_number}, Inquiries.{Outcome, Ended, Spent, ReadFault}, Written.{greeting, ok, refusal_line}}}
use Rattle.{assuan_server.specs.declared.errors.Origin.Origin, assuan_text.specs.LineEnds.line_of, passphrase_talk.specs.declared.told.Told.Told, session_client.specs.{Asking.{Asked, NotAsked}, declared.code.Code.Code}}
use Rattle.{session_client.specs.declared.refusal.Refusal.Refusal, session_options.specs.{OptionValues.OptionValues, declared.rules.Rules.Rules}}
use Rattle.passphrase_laws.specs.Exchanges.{IsTold, Notes, texts_of}
use Rattle.passphrase_talk.specs.declared.told.Loss.TheVariants as loss
use Rattle.passphrase_talk.specs.declared.told.Told.TheVariants as told

-- a client that answered an inquiry so isn't gone: it is still told how the request ends
abbrev pub IsThere : Outcome → Type 0
IsThere Ended = ⊥
IsThere Spent = ⊥
IsThere ReadFault = ⊥
IsThere _ = ⊤

-- An event whose write didn't fail. The note of a pinentry has the number of its process, which is below 2^64, and its client wasn't gone at it.
abbrev pub IsWhole : CacheEvent → Type 0
IsWhole (Cut text) = ⊥
IsWhole (Inquiry word params limit (Asked outcome)) = ((pid : ℕ) × (params ≡ decimal pid) × (pid < 2 ^ 64)) × IsThere outcome
IsWhole (Inquiry word params limit (NotAsked text)) = ⊥
IsWhole _ = ⊤

-- the agent's answers to these options: each is taken or refused
pub data AreReplies : List (List ℕ) → List ℕ → Type 0 where
  none : AreReplies [] []
  taken : (option : List ℕ) {options : List (List ℕ)} {replies : List ℕ} → AreReplies options replies → AreReplies (option ∷ options) (ok ++ replies)
  refused : (option : List ℕ) (why : Code) (origin : Origin) {options : List (List ℕ)} {replies : List ℕ} → AreReplies options replies
      → AreReplies (option ∷ options) (line_of (error_text why origin) ++ replies)

-- the greeting, these answers, and what the exchange of the request writes
abbrev pub session_text : List ℕ → List CacheEvent → List ℕ
session_text replies events = line_of greeting ++ (replies ++ texts_of events)

-- What the client is told of a request that came to this, for which a pinentry was launched or not: the passphrase, that there is an empty
-- one, or the error. But where its link failed it is told of that.
pub data Hears (launched : Bool) : Result (List ℕ) Refusal → Told → Type 0 where
  unread : {result : Result (List ℕ) Refusal} → Hears launched result (told.Lost loss.Read)
  unwritten : {result : Result (List ℕ) Refusal} → Hears launched result (told.Lost loss.Write)
  passphrase : {byte : ℕ} {secret : List ℕ} → Hears launched (Ok (byte ∷ secret)) (told.Passphrase (byte ∷ secret))
  empty : Hears launched (Ok []) told.Done
  refused : {why : Refusal} (code : Code) (origin : Origin) → refusal_line why ≡ Some (line_of (error_text code origin))
      → Hears launched (Err why) (told.Refused (error_number code origin) launched)

-- The exchange told the client what the request came to, and this is what the client was told.
pub record Reaches (rules : Rules) (values : OptionValues) (fields : GetFields) (events : List CacheEvent) (what : Told) : Type 0 where
  pub told : IsTold rules values fields events
  pub launched : Bool
  pub notes : Notes told.work launched
  pub hears : Hears launched told.result what
