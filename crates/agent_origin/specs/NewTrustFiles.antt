-- A new trust file: what was done for its request before it took the old one's place. This is this project's own.
use Rattle.std.specs.Prelude.{◌≡◌, ◌≤◌, ℕ, List, [], ◌∷◌, ◌++◌, length, Some, None, Ok}
use Rattle.{arrayvec.specs.ArrayVec.ArrayVec, agent_ask.specs.{ConsentActions.AgreesTo, Session.{SessionEvents.{Received, cache_turn}, TrustCalls.{Read, Replaced}}}, agent_ports.specs.declared.{grip.Grip.Grip, trust.TrustDone.TheVariants.Done}}
use Rattle.{agent_ports.specs.declared.trust.TrustRead.TrustRead, assuan_line.specs.declared.reader.Took.TheVariants.Line, assuan_server.specs.Clients.session_lines, cache_policy.specs.Turns.{Turn, Open}}
use Rattle.{cache_policy.specs.declared.mark.MarkStep.TheVariants.{Seat, Close}, key_commands.specs.Events.Event, session_options.specs.{OptionValues.OptionValues, declared.rules.Rules.Rules}, trust_list.specs.Trust.{trust, with_entry}}
use Rattle.trust_list.specs.declared.TheConstants.{MAX_TRUST_FILE_LEN}
use Rattle.agent_origin.specs.{TrustExchanges.{flag_of, trust_question, fingerprint_question}, TrustActions.{file_in, trust_called}, TrustRequests.trust_request_of, declared.trust.request.TrustPurpose.TrustPurpose}
use Rattle.agent_origin.specs.declared.trust.request.TrustRequest.{TrustRequest, TheVariants.MarkTrusted}

-- these bytes became the file
abbrev pub replaced : List ℕ → Event
replaced file = trust_called (Replaced file Done)

-- What a request did before and after these bytes became the file. It was MARKTRUSTED. The user agreed to both questions, each by a prompt of its
-- own, under one ticket. Behind them, while the ticket was held, the file was read, which said nothing of the certificate. The new file is that
-- one with one entry more.
pub record HasConsents (rules : Rules) (options : OptionValues) (request : TrustRequest) (before : List Event) (file : List ℕ) (after : List Event) : Type 0 where
  pub fingerprint : Grip
  pub purpose : TrustPurpose
  pub name : ArrayVec ℕ
  pub marks : request ≡ MarkTrusted fingerprint purpose name
  pub early : TrustRead
  pub ticket : ℕ
  pub first : List Event
  pub second : List Event
  pub read : TrustRead
  pub in_order : before ≡ trust_called (Read early) ∷ cache_turn (Seat None None) (Open ticket) ∷ (first ++ (second ++ trust_called (Read read) ∷ []))
  pub trusts : AgreesTo session_lines rules options (trust_question name.items) (Some ticket) first (Ok tt) (Some ticket)
  pub is_right : AgreesTo session_lines rules options (fingerprint_question fingerprint name.items) (Some ticket) second (Ok tt) (Some ticket)
  pub old : List ℕ
  pub old_is : file_in read ≡ Some old
  pub unsaid : trust old fingerprint.0 ≡ None
  pub new_is : file ≡ with_entry old fingerprint.0 (flag_of purpose)
  pub fits : length file ≤ MAX_TRUST_FILE_LEN
  pub turn : Turn
  pub later : List Event
  pub given_back : after ≡ cache_turn (Close ticket None) turn ∷ later

-- the same within a session: for its last request, by the option values then
pub record HasConsentsIn (rules : Rules) (before : List Event) (file : List ℕ) (after : List Event) : Type 0 where
  pub front : List Event
  pub line : List ℕ
  pub options : OptionValues
  pub own : List Event
  pub before_is : before ≡ front ++ Received (Line line) ∷ own
  pub consents : HasConsents rules options (trust_request_of line) own file after
