-- What stands after a refusal: how each request is carried out, as far as what it stores, clears, replaces and gives back goes, and what an event that refuses
-- it leaves to be done. This is the project's own.
use Rattle.std.specs.{List.AllByRecursion, Prelude.{◌≡◌, ◌≢◌, ◌⊎◌, ◌++◌, ℕ, true, false, List, [], ◌∷◌, Option, Some, None, ⊤}}
use Rattle.agent_ask.specs.{Events.{Call, GetPin, Confirm, Start, Shut, Called, OutOfMemory}, Session.PortCalls.{PortCall, KeyCall, Read, Listed, Replaced, Removed, NotDrawn, Prompt, Keys, Dice, NoMemory, Trust}}
use Rattle.{agent_ask.specs.{Session.{SessionEvents.{Received, Sent, CacheTurn, Port, cache_turn}, TrustCalls.TrustCall}, Interrupts.Interrupts}, agent_ports.specs.declared.{grip.Grip.Grip, keys.{KeyDone.KeyDone, KeyRead.KeyRead}}}
use Rattle.{assuan_server.specs.Written.failed, session_client.specs.declared.code.Code.Code, cache_policy.specs.{Desks.{AtDesk, is_of}, Histories.History, Runs.joined, Turns.{Turn, Done, Refused, closes, opens}, declared.mark.Mark.Mark}}
use Rattle.{cache_policy.specs.declared.{mark.MarkStep.{MarkStep, TheVariants.{Put, Clear, Flush, Stop, Close}}, mode.Mode.TheVariants.Normal}, agent_commands.specs.{Events.EventWith, Exchanges.is_quiet}}
use Rattle.{agent_commands.specs.declared.request.{CacheCommand.TheVariants.{GetPassphrase, ClearPassphrase, ReloadAgent, KillAgent}, Request.{Request, TheVariants.Cache}}, key_commands.specs.Events.IsUncalled}
use Rattle.key_commands.specs.{Lines.{IsNotice, grip_text}, Passphrases.put_key}
use Rattle.agent_session.specs.{Completeness.{AnswersFromCache, AnswersDone, EndsInOk, IsAnswer}, OwnPassphrases.{IsNonceOf, MayStore}}
use Rattle.agent_ask.specs.Session.TrustCalls as trust_call
use Rattle.agent_ask.specs.declared.prompt.prompter.Consent.TheVariants as consent
use Rattle.agent_ask.specs.declared.prompt.prompter.Opened.TheVariants as opened
use Rattle.agent_ask.specs.declared.prompt.prompter.Outcome.TheVariants as outcome
use Rattle.agent_ports.specs.declared.keys.KeyDone.TheVariants as key_done
use Rattle.agent_ports.specs.declared.keys.KeyNames.TheVariants as key_names
use Rattle.agent_ports.specs.declared.keys.KeyRead.TheVariants as key_read
use Rattle.agent_ports.specs.declared.trust.TrustDone.TheVariants as trust_done
use Rattle.agent_ports.specs.declared.trust.TrustRead.TheVariants as trust_read
use Rattle.session_client.specs.declared.code.Code.TheVariants as code

-- ---- events that refuse their request

-- a turn that finds no memory, but for one that gives a ticket back
abbrev pub turn_refuses : Option ℕ → Turn → Option Code
turn_refuses None Refused = Some code.NoMemory
turn_refuses _ _ = None

-- a call of the prompter that fails, or whose child breaks the protocol
abbrev pub call_refuses : Call → Option Code
call_refuses (Start spec opened.Failed) = Some code.NoPinentry
call_refuses (Start spec (opened.Broken breach)) = Some code.NoPinentry
call_refuses (GetPin error outcome.Failed) = Some code.NoPinentry
call_refuses (GetPin error (outcome.Broken breach)) = Some code.NoPinentry
call_refuses (Confirm consent.Failed) = Some code.NoPinentry
call_refuses (Confirm (consent.Broken breach)) = Some code.NoPinentry
call_refuses _ = None

-- a call of the keys that fails, or finds no memory
abbrev pub read_refuses : KeyRead → Option Code
read_refuses key_read.Failed = Some code.General
read_refuses key_read.NoMemory = Some code.NoMemory
read_refuses _ = None

abbrev pub change_refuses : KeyDone → Option Code
change_refuses key_done.Failed = Some code.General
change_refuses key_done.NoMemory = Some code.NoMemory
change_refuses _ = None

abbrev pub keys_refuse : KeyCall → Option Code
keys_refuse (Read grip answer) = read_refuses answer
keys_refuse (Listed key_names.Failed) = Some code.General
keys_refuse (Listed key_names.NoMemory) = Some code.NoMemory
keys_refuse (Listed (key_names.Names grips)) = None
keys_refuse (Replaced grip file answer) = change_refuses answer
keys_refuse (Removed grip answer) = change_refuses answer

-- the same of a call of the trust file, of which there is none among the work of the requests that are meant here
abbrev pub trust_refuses : TrustCall → Option Code
trust_refuses (trust_call.Read trust_read.Failed) = Some code.General
trust_refuses (trust_call.Read trust_read.NoMemory) = Some code.NoMemory
trust_refuses (trust_call.Replaced file trust_done.Failed) = Some code.General
trust_refuses (trust_call.Replaced file trust_done.NoMemory) = Some code.NoMemory
trust_refuses _ = None

-- the code by which an event refuses its request, where it does: for want of memory, or since the prompter, the keys, the dice or the trust file failed
abbrev pub refuses : EventWith PortCall → Option Code
refuses (CacheTurn taken) = turn_refuses (closes taken.asked) taken.turn
refuses (Port (Prompt (Called call))) = call_refuses call
refuses (Port (Prompt OutOfMemory)) = Some code.NoMemory
refuses (Port (Keys call)) = keys_refuse call
refuses (Port (Dice (NotDrawn count))) = Some code.General
refuses (Port (Trust call)) = trust_refuses call
refuses (Port NoMemory) = Some code.NoMemory
refuses _ = None

-- ---- the work of a request

module _ (request : Request) (IsNonce : List ℕ → Type 0) where
  -- the turns that are its work: the cache is asked, or the prompt is wanted; and what is stored, cleared or stopped, by its own commands alone
  abbrev pub IsWorkStep : MarkStep → Type 0
  IsWorkStep (Put id mode life secret) = MayStore request IsNonce id mode
  IsWorkStep (Clear id mode) = request ≡ Cache (ClearPassphrase id mode)
  IsWorkStep Flush = request ≡ Cache ReloadAgent
  IsWorkStep Stop = request ≡ Cache KillAgent
  IsWorkStep (Close ticket keep) = ⊥
  IsWorkStep _ = ⊤

  -- what is done of a request: no key's file is changed by it, the trust file isn't called, and no ticket is given back
  abbrev pub IsAllowed : EventWith PortCall → Type 0
  IsAllowed (Received took) = ⊥
  IsAllowed (Sent text) = IsNotice text
  IsAllowed (CacheTurn taken) = IsWorkStep taken.asked
  IsAllowed (Port (Keys (Replaced grip file answer))) = answer ≢ key_done.Done
  IsAllowed (Port (Keys (Removed grip answer))) = answer ≢ key_done.Done
  IsAllowed (Port (Trust call)) = ⊥
  IsAllowed _ = ⊤

  -- and it isn't refused by it
  abbrev pub IsWork : EventWith PortCall → Type 0
  IsWork event = IsAllowed event × (refuses event ≡ None)

  abbrev pub AreWork : List (EventWith PortCall) → Type 0
  AreWork events = AllByRecursion IsWork events

-- ---- its end

-- the answer, or none where the client is gone
pub data IsLast : List (EventWith PortCall) → Type 0 where
  gone : IsLast []
  said : {text : List ℕ} → IsAnswer text → IsLast (Sent text ∷ [])

-- a ticket that is still held is given back, and nothing is kept
pub data GivesBack (last : List (EventWith PortCall)) : List (EventWith PortCall) → Type 0 where
  no_ticket : GivesBack last last
  with_ticket : {ticket : ℕ} (turn : Turn) → GivesBack last (cache_turn (Close ticket None) turn ∷ last)

-- a prompt by which its request is refused is shut
abbrev pub shuts : EventWith PortCall → List (EventWith PortCall)
shuts (Port (Prompt event)) = Port (Prompt (Called Shut)) ∷ []
shuts _ = []

-- what the one turn behind a changed file comes to, and the answer: it is done, or it interrupts the request, whose file stays changed
pub data Settles : Turn → List ℕ → Type 0 where
  settled : {text : List ℕ} → EndsInOk text → Settles Done text
  interrupted : {turn : Turn} {why : Code} → Interrupts turn why → Settles turn (failed why)

-- How a request ends, once its work is done.
pub data IsEnd (request : Request) (IsNonce : List ℕ → Type 0) : List (EventWith PortCall) → Type 0 where
  answered : {last : List (EventWith PortCall)} → IsLast last → IsEnd request IsNonce last
  -- a prompt's ticket is given back, and its passphrase may be kept
  given_back : {ticket : ℕ} {keep : Option (List ℕ)} {last : List (EventWith PortCall)} (turn : Turn) → IsLast last → IsEnd request IsNonce (cache_turn (Close ticket keep) turn ∷ last)
  -- it is, and then there is no memory for the answer: what was kept stays
  unanswered : {ticket : ℕ} {keep : Option (List ℕ)} (turn : Turn) → IsEnd request IsNonce (cache_turn (Close ticket keep) turn ∷ Port NoMemory ∷ Sent (failed code.NoMemory) ∷ [])
  -- an event refuses it: nothing is done behind it but to shut the prompt, to give the ticket back and to answer
  refused : {event : EventWith PortCall} {why : Code} {ending : List (EventWith PortCall)} → IsAllowed request IsNonce event → refuses event ≡ Some why → GivesBack (Sent (failed why) ∷ []) ending
      → IsEnd request IsNonce (event ∷ (shuts event ++ ending))
  -- a key's file is replaced, and the passphrase kept by the return of the ticket, or by a turn
  kept : {grip : Grip} {file : List ℕ} {ticket : ℕ} {pass text : List ℕ} (turn : Turn) → EndsInOk text
      → IsEnd request IsNonce (Port (Keys (Replaced grip file key_done.Done)) ∷ cache_turn (Close ticket (Some pass)) turn ∷ Sent text ∷ [])
  stored : {grip : Grip} {file pass text : List ℕ} {turn : Turn} → Settles turn text
      → IsEnd request IsNonce (Port (Keys (Replaced grip file key_done.Done)) ∷ cache_turn (put_key grip pass) turn ∷ Sent text ∷ [])
  -- a key's file is removed, and its passphrase cleared
  cleared : {grip : Grip} {text : List ℕ} {turn : Turn} {ending : List (EventWith PortCall)} → Settles turn text → GivesBack (Sent text ∷ []) ending
      → IsEnd request IsNonce (Port (Keys (Removed grip key_done.Done)) ∷ cache_turn (Clear (grip_text grip) Normal) turn ∷ ending)

-- What is done for a request, from its first event to its last: its work, and its end. A failed write of its answer ends the whole session, and is no action
-- of this.
pub record CourseBy (request : Request) (IsNonce : List ℕ → Type 0) (events : List (EventWith PortCall)) : Type 0 where
  pub work : List (EventWith PortCall)
  pub last : List (EventWith PortCall)
  pub is : events ≡ work ++ last
  pub each : AreWork request IsNonce work
  pub end : IsEnd request IsNonce last

-- and what it stores under a nonce is stored under one that was drawn for it
abbrev pub Course : Request → List (EventWith PortCall) → Type 0
Course request events = CourseBy request (IsNonceOf events) events

-- ---- requests that are refused so

-- how a request ends that an event of its own refuses by this code
pub data RefusedEnd (request : Request) (IsNonce : List ℕ → Type 0) : Code → List (EventWith PortCall) → Type 0 where
  -- at its work: nothing more is done for it
  at_work : {event : EventWith PortCall} {why : Code} {ending : List (EventWith PortCall)} → IsAllowed request IsNonce event → refuses event ≡ Some why → GivesBack (Sent (failed why) ∷ []) ending
      → RefusedEnd request IsNonce why (event ∷ (shuts event ++ ending))
  -- behind the return of its ticket, by which a passphrase may have been kept
  at_answer : {ticket : ℕ} {keep : Option (List ℕ)} (turn : Turn)
      → RefusedEnd request IsNonce code.NoMemory (cache_turn (Close ticket keep) turn ∷ Port NoMemory ∷ Sent (failed code.NoMemory) ∷ [])
  -- behind a key's file that was replaced, whose passphrase found no memory to be stored; or that was removed, whose passphrase found none to be cleared
  at_store : {grip : Grip} {file pass : List ℕ}
      → RefusedEnd request IsNonce code.NoMemory (Port (Keys (Replaced grip file key_done.Done)) ∷ cache_turn (put_key grip pass) Refused ∷ Sent (failed code.NoMemory) ∷ [])
  at_clear : {grip : Grip} {ending : List (EventWith PortCall)} → GivesBack (Sent (failed code.NoMemory) ∷ []) ending
      → RefusedEnd request IsNonce code.NoMemory (Port (Keys (Removed grip key_done.Done)) ∷ cache_turn (Clear (grip_text grip) Normal) Refused ∷ ending)

pub record RefusedCourse (request : Request) (why : Code) (events : List (EventWith PortCall)) : Type 0 where
  pub work : List (EventWith PortCall)
  pub last : List (EventWith PortCall)
  pub is : events ≡ work ++ last
  pub each : AreWork request (IsNonceOf events) work
  pub end : RefusedEnd request (IsNonceOf events) why last

-- the codes that are answered for such events alone
pub data IsOwnCode : Code → Type 0 where
  memory : IsOwnCode code.NoMemory
  fault : IsOwnCode code.General

-- ---- prompts

-- one that isn't a turn that may open a prompt
abbrev pub IsUnopening : EventWith PortCall → Type 0
IsUnopening (CacheTurn taken) = opens taken.asked ≡ false
IsUnopening _ = ⊤

-- Behind a call of the prompter stands no turn that may open a prompt. So where such a turn is refused, the prompter wasn't called before it.
abbrev pub OpensFirst : List (EventWith PortCall) → Type 0
OpensFirst [] = ⊤
OpensFirst (event ∷ more) = (IsUncalled event ⊎ AllByRecursion IsUnopening more) × OpensFirst more

-- ---- turns

-- A turn that finds no memory makes no mark: the run goes on by marks of other sessions alone.
abbrev pub LeavesRun : AtDesk → Option (List History) → Option (List History) → Type 0
LeavesRun desk (Some before) (Some after) = (others : List Mark) × AllByRecursion (λ mark. is_of desk.session mark ≡ false) others × (joined after ≡ joined before ++ others)
LeavesRun desk None None = ⊤
LeavesRun desk _ _ = ⊥

-- It gives no ticket back, and leaves the desk as it was.
pub record LeavesDesk (before : AtDesk) (asked : MarkStep) (after : AtDesk) : Type 0 where
  pub no_close : closes asked ≡ None
  pub run : LeavesRun before before.run after.run
  pub limits : after.limits ≡ before.limits
  pub session : after.session ≡ before.session
  pub out : after.out ≡ before.out

-- ---- requests that want no memory

-- what is done for a request that asks the cache alone, or clears it
abbrev pub AnswersAlone : Request → List (EventWith PortCall) → Type 0
AnswersAlone (Cache (GetPassphrase plain check no_ask repeat quality id texts)) events = is_quiet no_ask texts ≡ true → AnswersFromCache plain id events
AnswersAlone (Cache (ClearPassphrase id mode)) events = AnswersDone (Clear id mode) events
AnswersAlone (Cache ReloadAgent) events = AnswersDone Flush events
AnswersAlone request events = ⊤
