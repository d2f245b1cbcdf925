-- A worked exchange of a request on the trust list: MARKTRUSTED whose file is too long with one entry more, as it is read once the user consented.
use Rattle.std.{specs.List.AllByRecursion, proofs.Common.{◌≡◌, ◌<◌, ℕ, Bool, true, List, [], ◌∷◌, ◌++◌, length, Option, Some, None, Result, Ok, Err, refl, sym, subst}}
use Rattle.{agent_ask.specs.{ConsentActions.AgreesTo, Session.{SessionEvents.{Sent, cache_turn}, TrustCalls.Read}}, agent_ports.specs.declared.{grip.Grip.Grip, trust.TrustRead.TrustRead}, arrayvec.specs.ArrayVec.ArrayVec}
use Rattle.{assuan_server.specs.{Clients.session_lines, Written.failed, declared.errors.Origin.TheVariants.Agent}, cache_policy.specs.{Turns.{Open, Done}, declared.mark.MarkStep.TheVariants.{Seat, Close}}, key_commands.specs.Events.Event}
use Rattle.{key_commands.specs.Actions.Action, key_lines.specs.Canon.Canon, session_client.specs.declared.refusal.Refusal.Refusal, session_options.specs.declared.rules.Rules.Rules, trust_list.specs.Trust.{trust, with_entry}}
use Rattle.{trust_list.specs.declared.TheConstants.MAX_TRUST_FILE_LEN, agent_commands.specs.declared.went.Went.TheVariants.On, agent_origin.specs.{DoorSessions.DoorExchange, Doors.allowed}}
use Rattle.agent_origin.specs.{TrustExchanges.{flag_of, trust_question, fingerprint_question, unless_said, TrustExchange, Marked, Consented, StoresUnsaid, Stores}, TrustActions.{file_in, trust_called, has_read}}
use Rattle.agent_origin.specs.{TrustRequests.{trust_request_of, trust_command}, declared.{door.Door.Door, session_state.SessionState.SessionState, trust.request.{TrustPurpose.TrustPurpose, TrustRequest.TheVariants.MarkTrusted}}}
use Rattle.command_table.specs.Commands.{command_in}
use Rattle.agent_session.{specs.{Causes.{here, later}, Completeness.{Remembers, HasError}, DoorCauses.{IsTooMuch, too_long, read_again, read_trust}, Exactly.on_trust}, proofs.{Decisions.Exact.door_cause, Standing.{has_left, has_right}}}
use Rattle.agent_ask.specs.Session.ActionExchanges as exchanges
use Rattle.agent_ask.specs.Session.Actions as chain
use Rattle.agent_ask.specs.Session.TurnActions as turning
use Rattle.session_client.specs.declared.code.Code.TheVariants as code
use Rattle.session_client.specs.declared.refusal.Refusal.TheVariants as refusals
use Rattle.session_options.specs.declared.options.PinMode.TheVariants as mode
use Rattle.agent_origin.specs.TrustActions as actions
use Rattle.command_table.specs.declared.commands.TrustCommandName.TheVariants as name

-- what the file doesn't say is asked
asked_next : {said : Option Bool} (otherwise : Action (Unit {0})) {before after : Option ℕ} {events : List Event} {result : Result (Unit {0}) Refusal} → said ≡ None → otherwise before events result after
    → unless_said said otherwise before events result after
asked_next {said} otherwise {before} {after} {events} {result} none does = subst (λ s. unless_said s otherwise before events result after) (sym none) does

module _ (rules : Rules) (kept : SessionState) (fingerprint : Grip) (purpose : TrustPurpose) (owner : ArrayVec ℕ) (first_read second_read : TrustRead) (early late : List ℕ) (found : file_in first_read ≡ Some early)
    (found_again : file_in second_read ≡ Some late) (unsaid : trust early fingerprint.0 ≡ None) (unsaid_still : trust late fingerprint.0 ≡ None) (much : MAX_TRUST_FILE_LEN < length (with_entry late fingerprint.0 (flag_of purpose)))
    (ticket : ℕ) (first second : List Event) where
  -- its client wants prompts
  abbrev asking : SessionState
  asking = record kept { options = record kept.options { mode = mode.Ask } }

  abbrev work : List Event
  work = trust_called (Read first_read) ∷ cache_turn (Seat None None) (Open ticket) ∷ (first ++ (second ++ trust_called (Read second_read) ∷ []))

  abbrev events : List Event
  events = work ++ cache_turn (Close ticket None) Done ∷ Sent (failed code.TooMuch) ∷ []

  module _ (trusts_it : AgreesTo session_lines rules asking.options (trust_question owner.items) (Some ticket) first (Ok tt) (Some ticket))
      (is_right : AgreesTo session_lines rules asking.options (fingerprint_question fingerprint owner.items) (Some ticket) second (Ok tt) (Some ticket)) where
    marked : Marked rules asking.options fingerprint purpose owner.items None work (Err (refusals.Agent code.TooMuch)) (Some ticket)
    unfolding Marked Consented StoresUnsaid Stores
    marked =
        chain.goes_on (has_read found) (asked_next _ unsaid (chain.goes_on (turning.opened tt) (chain.goes_on trusts_it (chain.goes_on is_right (chain.goes_on (has_read found_again)
        (asked_next _ unsaid_still (chain.stops (actions.too_long much))))))))

    exchange : TrustExchange rules asking.options (MarkTrusted fingerprint purpose owner) events On
    exchange = exchanges.refused work (Some ticket) (refusals.Agent code.TooMuch) (chain.stops marked) (turning.closed Done tt)

  -- its cause is the second read: at a door where the command is allowed the answer is Too much data
  module _ (one_canon : (file : List ℕ) (a b : Option (List ℕ)) → Canon file a → Canon file b → a ≡ b) (door : Door) (line : List ℕ) (allows : allowed door line ≡ true)
      (named : trust_command (command_in line) ≡ Some name.MarkTrusted) (is : trust_request_of line ≡ MarkTrusted fingerprint purpose owner) (remembers : AllByRecursion Remembers events) where
    read_again_so : IsTooMuch events (trust_request_of line)
    read_again_so = subst (IsTooMuch events) (sym is) (too_long refl (read_again (read_trust found_again (has_left _ (later (has_right first (has_right second here)))))) unsaid_still much)

    too_much_data : DoorExchange door rules asking line events asking On → HasError code.TooMuch Agent events
    too_much_data exchanged = door_cause rules asking one_canon line door exchanged remembers code.TooMuch (on_trust allows named read_again_so)
