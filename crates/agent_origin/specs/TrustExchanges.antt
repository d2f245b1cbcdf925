-- Requests on the trust list and what is done for them, as the GnuPG manual has them ("Agent's Assuan protocol", ISTRUSTED and MARKTRUSTED). The
-- codes, the texts and the order of what is done are this project's own. A row of each stands in proofs/WorkedExchanges.
use Rattle.std.specs.Prelude.{◌++◌, ℕ, Bool, true, false, List, codes, Option, Some, None}
use Rattle.{agent_ask.specs.{ConsentActions.AgreesTo, Events.Call, Session.{ActionExchanges.AnyExchange, Actions.{◌>>=◌, Returns, Refuses}, TurnActions.in_mode}}, assuan_server.specs.{Written.{ok, refusal_line}, Clients.session_lines, Connections.Connection}}
use Rattle.{agent_commands.specs.{Endings.went_after, Exchanges.{CacheReply, reply}, States.AnswersRequest, declared.went.Went.Went}, agent_ports.specs.{KeyFiles.KeyFiles, Sides.Side, TrustFiles.TrustState, declared.grip.Grip.Grip}}
use Rattle.{cache_policy.specs.{Turns.Turn, declared.mark.MarkStep.MarkStep}, hex.specs.Hex.encode_upper, key_commands.specs.{Events.Event, Actions.Action}, session_client.specs.declared.refusal.Refusal.TheVariants.Agent}
use Rattle.{session_options.specs.{OptionValues.OptionValues, declared.{options.PinMode.PinMode, rules.Rules.Rules}}, trust_list.specs.Trust.trust}
use Rattle.agent_origin.specs.{PortStates.{PortWorld, port_state}, TrustActions.{ReadsFile, AddsEntry, Replaces}, declared.trust.request.{TrustPurpose.{TrustPurpose, TheVariants.{X509, OpenPgp}}, TrustRequest.TrustRequest}}
use Rattle.agent_origin.specs.declared.trust.request.TrustRequest.TheVariants.{IsTrusted, MarkTrusted, Bad}
use Rattle.session_client.specs.declared.code.Code.TheVariants as code

-- the flag of an entry
abbrev pub flag_of : TrustPurpose → ℕ
flag_of X509 = 83
flag_of OpenPgp = 80

-- what the user is asked, one after the other
abbrev pub trust_question : List ℕ → List ℕ
trust_question name = codes "Trust " ++ (name ++ codes "?")

abbrev pub fingerprint_question : Grip → List ℕ → List ℕ
fingerprint_question fingerprint name = codes "Is " ++ (encode_upper fingerprint.0 ++ (codes " the right fingerprint of " ++ (name ++ codes "?")))

-- What the file says of a certificate decides the request. Where it says nothing, something else is done.
abbrev pub unless_said : Option Bool → Action (Unit {0}) → Action (Unit {0})
unless_said (Some true) otherwise = Returns tt
unless_said (Some false) otherwise = Refuses (Agent code.NotTrusted)
unless_said None otherwise = otherwise

-- the certificate is trusted by what the file says now
unfoldable pub TrustedNow : Grip → Action (Unit {0})
TrustedNow fingerprint = do
  file ← ReadsFile
  unless_said (trust file fingerprint.0) (Refuses (Agent code.NotTrusted))

-- the file with the entry that is new takes its place
unfoldable pub Stores : Grip → TrustPurpose → List ℕ → Action (Unit {0})
Stores fingerprint purpose file = do
  new ← AddsEntry file fingerprint (flag_of purpose)
  Replaces new

-- unless the file says by now whether the certificate is trusted
unfoldable pub StoresUnsaid : Grip → TrustPurpose → Action (Unit {0})
StoresUnsaid fingerprint purpose = do
  file ← ReadsFile
  unless_said (trust file fingerprint.0) (Stores fingerprint purpose file)

module _ (rules : Rules) (options : OptionValues) (fingerprint : Grip) (purpose : TrustPurpose) (name : List ℕ) where
  -- The user agrees twice. Only then is the file read from which the new one is made.
  unfoldable pub Consented : Action (Unit {0})
  Consented = do
    trusted ← AgreesTo session_lines rules options (trust_question name)
    right ← AgreesTo session_lines rules options (fingerprint_question fingerprint name)
    StoresUnsaid fingerprint purpose

  -- the user is asked, where the client wants prompts
  abbrev pub asked_in : PinMode → Action (Unit {0})
  asked_in mode = in_mode mode Consented

  -- the certificate is marked as trusted, unless the file says already whether it is
  unfoldable pub Marked : Action (Unit {0})
  Marked = do
    file ← ReadsFile
    unless_said (trust file fingerprint.0) (asked_in options.mode)

-- what is done for a request, up to its reply
abbrev pub Carried : Rules → OptionValues → TrustRequest → Action (Unit {0})
Carried rules options (IsTrusted fingerprint) = TrustedNow fingerprint
Carried rules options (MarkTrusted fingerprint purpose name) = Marked rules options fingerprint purpose name.items
Carried rules options (Bad code) = Refuses (Agent code)

-- it is answered by OK alone, and leaves the option values
abbrev pub TrustReplies : Rules → OptionValues → TrustRequest → Action CacheReply
TrustReplies rules options request = do
  carried ← Carried rules options request
  Returns (reply options ok)

-- A request: what the session does for it, and how the session goes on.
abbrev pub TrustExchange : Rules → OptionValues → TrustRequest → List Event → Went → Type 0
TrustExchange rules options request events went = AnyExchange refusal_line went_after (TrustReplies rules options request) options events options went

module _ {D P : Type 0} (turned : D → MarkStep → Turn → D → Type 0) (prompted : P → Call → P → Type 0) (rules : Rules) (options : OptionValues) (request : TrustRequest) where
  -- A request was answered, whole or in part. It has nothing to do with the keys and the dice, whatever these are.
  abbrev pub AnswersTrust : Connection → D → P → TrustState → Went → Connection → D → P → TrustState → Type 0
  AnswersTrust conn desk prompter trust went conn_now desk_now prompter_now trust_now =
      (keys : KeyFiles) (dice : Side)
      → AnswersRequest {w = PortWorld turned prompted} (λ before. AnyExchange refusal_line went_after (TrustReplies rules before request) before) options
      (port_state turned prompted conn desk prompter keys dice trust) went options (port_state turned prompted conn_now desk_now prompter_now keys dice trust_now)
