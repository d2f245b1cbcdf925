-- Why a request is answered by an error line in a session that came in by a door: that it isn't allowed there, or what must have happened in its
-- exchange, for each code of a request on the trust list. The codes and their causes are this project's own.
use Rattle.std.specs.Prelude.{◌≡◌, ◌<◌, ◌⊎◌, ℕ, Bool, true, false, List, ◌∷◌, length, Option, Some, None}
use Rattle.{agent_ask.specs.{Prompters.is_failed, Session.TrustCalls.Read}, agent_commands.specs.Requests.request_of, agent_ports.specs.declared.{grip.Grip.Grip, trust.TrustRead.TrustRead}, arrayvec.specs.ArrayVec.ArrayVec}
use Rattle.{session_client.specs.declared.code.Code.Code, assuan_server.specs.declared.errors.Origin.{Origin, TheVariants.{Agent, Pinentry}}, cache_policy.specs.Turns.{Stopping, Late}, key_commands.specs.Events.Event}
use Rattle.{session_options.specs.{OptionValues.OptionValues, declared.rules.Rules.Rules}, trust_list.specs.{Trust.{trust, with_entry}, declared.TheConstants.MAX_TRUST_FILE_LEN}, agent_origin.specs.{Doors.allowed, TrustExchanges.flag_of}}
use Rattle.agent_origin.specs.{TrustActions.{file_in, trust_called}, TrustRequests.{trust_request_of, trust_command}, declared.{door.Door.Door, session_state.SessionState.SessionState, trust.request.TrustPurpose.TrustPurpose}}
use Rattle.{agent_origin.specs.declared.trust.request.TrustRequest.{TrustRequest, TheVariants.{IsTrusted, MarkTrusted, Bad}}, command_table.specs.{Commands.command_in, declared.commands.TrustCommandName.TrustCommandName}}
use Rattle.agent_session.specs.Causes.{Has, HasOne, HasCall, HasTrustCall, HasTurn, IsSaid, WantsMemory, FailsAtTrust, IsCaused, is_broken, is_cancelled, is_disagreed, is_timed_out}
use Rattle.session_client.specs.declared.code.Code.TheVariants as code
use Rattle.session_client.specs.declared.client_error.Gone.TheVariants as gone
use Rattle.session_client.specs.declared.client_error.ClientError.TheVariants as client_error
use Rattle.session_options.specs.declared.options.PinMode.TheVariants as mode

module _ (events : List Event) where
  -- ---- what happened in an exchange with these events

  -- the trust file was read, and has these bytes
  pub data IsReadTrust (file : List ℕ) : Type 0 where
    read_trust : {answer : TrustRead} → file_in answer ≡ Some file → Has (trust_called (Read answer)) events → IsReadTrust file

-- it was read again, behind the first event, and has these bytes
pub data IsReadAgain (file : List ℕ) : List Event → Type 0 where
  read_again : {first : Event} {more : List Event} → IsReadTrust more file → IsReadAgain file (first ∷ more)

module _ (events : List Event) where
  module _ (request : TrustRequest) where
    -- ISTRUSTED of this certificate, and what a file that was read says of it
    pub record IsAsked (fingerprint : Grip) (says : Option Bool) : Type 0 where
      pub file : List ℕ
      pub request_is : request ≡ IsTrusted fingerprint
      pub is_read : IsReadTrust events file
      pub says_so : trust file fingerprint.0 ≡ says

    -- MARKTRUSTED of this certificate, and what this file says of it, which was read
    pub record IsMarked (fingerprint : Grip) (purpose : TrustPurpose) (file : List ℕ) (says : Option Bool) : Type 0 where
      pub name : ArrayVec ℕ
      pub request_is : request ≡ MarkTrusted fingerprint purpose name
      pub is_read : IsReadTrust events file
      pub says_so : trust file fingerprint.0 ≡ says

    -- ---- the causes of each code

    -- by what a file that was read says: to ISTRUSTED not that the certificate is trusted, or to MARKTRUSTED that it isn't
    pub data IsNotTrusted : Type 0 where
      unsaid : {fingerprint : Grip} → IsAsked fingerprint None → IsNotTrusted
      denied : {fingerprint : Grip} → IsAsked fingerprint (Some false) → IsNotTrusted
      denied_mark : {fingerprint : Grip} {purpose : TrustPurpose} {file : List ℕ} → IsMarked fingerprint purpose file (Some false) → IsNotTrusted

    -- the client sent too much by an inquiry; or MARKTRUSTED's file says nothing once the user consented, and is too long with one entry more
    pub data IsTooMuch : Type 0 where
      inquired : IsSaid events client_error.TooMuch → IsTooMuch
      too_long : {fingerprint : Grip} {purpose : TrustPurpose} {name : ArrayVec ℕ} {file : List ℕ} → request ≡ MarkTrusted fingerprint purpose name → IsReadAgain file events
          → trust file fingerprint.0 ≡ None → MAX_TRUST_FILE_LEN < length (with_entry file fingerprint.0 (flag_of purpose)) → IsTooMuch

    module _ (options : OptionValues) where
      -- the client wants no prompt, and the file that was read says nothing; the client cancelled an inquiry; or the agent ends
      pub data IsMarkCancelled : Type 0 where
        by_mode : {fingerprint : Grip} {purpose : TrustPurpose} {file : List ℕ} → IsMarked fingerprint purpose file None → options.mode ≡ mode.Cancel → IsMarkCancelled
        by_client : IsSaid events client_error.Cancelled → IsMarkCancelled
        by_stop : HasTurn events Stopping → IsMarkCancelled

      -- the client wants no prompt, and the file that was read says nothing
      pub data IsMarkUnprompted : Type 0 where
        error : {fingerprint : Grip} {purpose : TrustPurpose} {file : List ℕ} → IsMarked fingerprint purpose file None → options.mode ≡ mode.Error → IsMarkUnprompted
        loopback : {fingerprint : Grip} {purpose : TrustPurpose} {file : List ℕ} → IsMarked fingerprint purpose file None → options.mode ≡ mode.Loopback → IsMarkUnprompted

      -- an error line with this code and origin has its cause in this exchange of a request on the trust list
      abbrev pub IsTrustCaused : Code → Origin → Type 0
      IsTrustCaused code.Cancelled Pinentry = HasCall events is_cancelled
      IsTrustCaused code.Timeout Pinentry = HasCall events is_timed_out
      IsTrustCaused code.NotConfirmed Pinentry = HasCall events is_disagreed
      IsTrustCaused code.NotTrusted Agent = IsNotTrusted
      IsTrustCaused code.General Agent = HasTrustCall events FailsAtTrust
      IsTrustCaused code.NoMemory Agent = HasOne events WantsMemory
      IsTrustCaused code.Cancelled Agent = IsMarkCancelled
      IsTrustCaused code.Timeout Agent = HasTurn events Late
      IsTrustCaused code.NoPinentry Agent = IsMarkUnprompted ⊎ (HasCall events is_failed ⊎ HasCall events is_broken)
      IsTrustCaused code.Parameter Agent = request ≡ Bad code.Parameter
      IsTrustCaused code.TooMuch Agent = IsTooMuch
      IsTrustCaused code.Unexpected Agent = IsSaid events client_error.Unexpected
      IsTrustCaused code.LineTooLong Agent = IsSaid events (client_error.Gone gone.TooLong)
      IsTrustCaused _ _ = ⊥

module _ (rules : Rules) (before : SessionState) (line : List ℕ) (events : List Event) where
  -- the same of a line that is allowed: a request on the trust list, where its command is one, or one of any session
  abbrev pub IsCausedBy : Option TrustCommandName → Code → Origin → Type 0
  IsCausedBy (Some name) why origin = IsTrustCaused events (trust_request_of line) before.options why origin
  IsCausedBy None why origin = IsCaused events rules before (request_of line) why origin

-- an error line with this code and origin has its cause in this exchange of a line
pub data IsCausedAtDoor (door : Door) (rules : Rules) (before : SessionState) (line : List ℕ) (events : List Event) : Code → Origin → Type 0 where
  forbidden : allowed door line ≡ false → IsCausedAtDoor door rules before line events code.Forbidden Agent
  is_allowed : {why : Code} {origin : Origin} → allowed door line ≡ true → IsCausedBy rules before line events (trust_command (command_in line)) why origin
      → IsCausedAtDoor door rules before line events why origin
