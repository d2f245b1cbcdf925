-- What is done for requests on the trust list, on worked examples.
use Rattle.std.{proofs.Common.{◌≡◌, ℕ, Bool, false, List, [], ◌∷◌, ◌++◌, replicate, Some, None, refl, lit≤}, specs.{Fmt.digits, Prelude.codes}}
use Rattle.{hex.specs.Hex.encode_with, agent_ask.specs.{Consents.{AsksConsent, agreed_of, asked}, Events.{Called, Start, Confirm, Shut}, Session.{PortCalls.Prompt, SessionEvents.{Sent, Port, cache_turn}}, Plans.{IsSpec, text}, Prompts.quiet}}
use Rattle.agent_ask.specs.{Session.TrustCalls.{Read, Replaced}, SessionPrompts.{none, called as shown}, declared.prompt.{prompter.{Consent.{Consent, TheVariants.{Yes, No}}, Opened.TheVariants.Pid}, spec.PromptSpec.PromptSpec}}
use Rattle.agent_ask.specs.{ConsentActions.{consents, refused as dissents}, Session.{Actions.{goes_on, stops, returns, refuses}, ActionExchanges.{answered, refused}, TurnActions.{opened, unheld, closed}}}
use Rattle.{assuan_server.specs.Written.{ok, failed, failed_at_pinentry}, agent_commands.specs.{declared.went.Went.TheVariants.On, Exchanges.reply}, agent_ports.specs.declared.{grip.Grip.Grip, trust.TrustDone.TheVariants.Done as IsDone}}
use Rattle.{agent_ports.specs.declared.trust.TrustRead.{TrustRead, TheVariants.{Absent, Failed}}, cache_policy.specs.{declared.mark.MarkStep.TheVariants.{Seat, Close}, Turns.{Open, Done}}, key_commands.specs.Events.Event}
use Rattle.{session_options.specs.{OptionValues.OptionValues, declared.rules.Rules.Rules}, trust_list.specs.Trust.with_entry, session_client.specs.declared.refusal.Refusal.TheVariants.{Agent, Pinentry}}
use Rattle.session_client.specs.declared.code.Code.TheVariants.{General, NotTrusted, NotConfirmed, Forbidden}
use Rattle.agent_origin.specs.{TrustExchanges.{trust_question, fingerprint_question, TrustExchange, TrustedNow, Stores, StoresUnsaid, Consented, Marked}, TrustActions.{has_read, faulted, added, replaced, file_in, trust_called}}
use Rattle.agent_origin.specs.declared.trust.request.{TrustPurpose.TheVariants.X509, TrustRequest.{TrustRequest, TheVariants.{IsTrusted, MarkTrusted}}}
use Rattle.session_options.specs.declared.options.PinMode.TheVariants as mode

not_trusted_line : failed NotTrusted ≡ codes "ERR 67108962 Not trusted <GPG Agent>" ++ 10 ∷ []
unfolding digits
not_trusted_line = refl

not_confirmed_line : failed_at_pinentry NotConfirmed ≡ codes "ERR 83886194 Not confirmed <Pinentry>" ++ 10 ∷ []
unfolding digits
not_confirmed_line = refl

forbidden_line : failed Forbidden ≡ codes "ERR 67109115 Forbidden <GPG Agent>" ++ 10 ∷ []
unfolding digits
forbidden_line = refl

-- the fingerprint of forty times `A`, and what is asked for a name
abbrev certificate : Grip
certificate = record { 0 = replicate 20 170 }

abbrev name : List ℕ
name = codes "Root CA"

first_question : trust_question name ≡ codes "Trust Root CA?"
first_question = refl

second_question : fingerprint_question certificate name ≡ codes "Is AAAAAAAAAAAAAAAAAAAAAAAAAAAAAAAAAAAAAAAA the right fingerprint of Root CA?"
unfolding encode_with
second_question = refl

abbrev file : List ℕ
file = codes "AAAAAAAAAAAAAAAAAAAAAAAAAAAAAAAAAAAAAAAA S" ++ 10 ∷ []

new_file : with_entry [] certificate.0 83 ≡ file
unfolding encode_with
new_file = refl

-- one prompt that says this, and is answered so
abbrev prompt : PromptSpec → Consent → List Event
prompt spec consent =
    Port (Prompt (Called (Start spec (Pid 7)))) ∷ Port (Prompt (Called (Confirm consent))) ∷ Port (Prompt (Called Shut)) ∷ []

asks : (spec : PromptSpec) (notify : Bool) → notify ≡ false → (consent : Consent)
    → AsksConsent spec notify (Called (Start spec (Pid 7)) ∷ Called (Confirm consent) ∷ Called Shut ∷ []) (agreed_of consent)
asks spec notify is consent = record { before = Called (Start spec (Pid 7)) ∷ Called (Confirm consent) ∷ []; whole = refl; asks = asked consent (quiet is) }

module _ (rules : Rules) (values : OptionValues) where
  -- there is no file
  nothing_trusted : TrustExchange rules values (IsTrusted certificate) (trust_called (Read Absent) ∷ Sent (failed NotTrusted) ∷ []) On
  unfolding TrustedNow encode_with
  nothing_trusted = refused (trust_called (Read Absent) ∷ []) None (Agent NotTrusted) (stops (goes_on (has_read refl) refuses)) unheld

  -- there is one
  trusted : (answer : TrustRead) → file_in answer ≡ Some file → TrustExchange rules values (IsTrusted certificate) (trust_called (Read answer) ∷ Sent ok ∷ []) On
  unfolding TrustedNow encode_with
  trusted answer is = answered (trust_called (Read answer) ∷ []) None (reply values ok) (goes_on (goes_on (has_read is) returns) returns) unheld

  unread : TrustExchange rules values (IsTrusted certificate) (trust_called (Read Failed) ∷ Sent (failed General) ∷ []) On
  unfolding TrustedNow
  unread = refused (trust_called (Read Failed) ∷ []) None (Agent General) (stops (stops faulted)) unheld

  module _ (first second : PromptSpec) where
    abbrev asking : OptionValues
    asking = record values { mode = mode.Ask; notify = false }

    abbrev mark : TrustRequest
    mark = MarkTrusted certificate X509 (text name)

    module _ (is_first : IsSpec rules asking (text (trust_question name)) (text []) false first) (is_second : IsSpec rules asking (text (fingerprint_question certificate name)) (text []) false second) where
      -- both consents are given, and the file is made
      marked : TrustExchange rules asking mark
          (trust_called (Read Absent) ∷ cache_turn (Seat None None) (Open 3)
          ∷ (prompt first Yes ++ (prompt second Yes ++ (trust_called (Read Absent) ∷ trust_called (Replaced (with_entry [] certificate.0 83) IsDone) ∷ cache_turn (Close 3 None) Done ∷ Sent ok ∷ [])))) On
      unfolding Marked Consented StoresUnsaid Stores encode_with
      marked =
          answered
          (trust_called (Read Absent) ∷ cache_turn (Seat None None) (Open 3)
          ∷ (prompt first Yes ++ (prompt second Yes ++ (trust_called (Read Absent) ∷ trust_called (Replaced (with_entry [] certificate.0 83) IsDone) ∷ []))))
          (Some 3) (reply asking ok)
          (goes_on
          (goes_on (has_read refl)
          (goes_on (opened tt)
          (goes_on {first = prompt first Yes} (consents first is_first (record { prompt = _; asks = asks first false refl Yes; in_session = shown (shown (shown none)) }))
          (goes_on {first = prompt second Yes} (consents second is_second (record { prompt = _; asks = asks second false refl Yes; in_session = shown (shown (shown none)) }))
          (goes_on (has_read refl)
          (goes_on {first = []} (added (lit≤ tt)) replaced))))))
          returns)
          (closed Done tt)

      -- the second one isn't: no file is made, and the seat is free
      unmarked : TrustExchange rules asking mark
          (trust_called (Read Absent) ∷ cache_turn (Seat None None) (Open 3)
          ∷ (prompt first Yes ++ (prompt second No ++ (cache_turn (Close 3 None) Done ∷ Sent (failed_at_pinentry NotConfirmed) ∷ [])))) On
      unfolding Marked Consented encode_with
      unmarked =
          refused (trust_called (Read Absent) ∷ cache_turn (Seat None None) (Open 3) ∷ (prompt first Yes ++ prompt second No)) (Some 3) (Pinentry NotConfirmed)
          (stops
          (goes_on (has_read refl)
          (goes_on (opened tt)
          (goes_on {first = prompt first Yes} (consents first is_first (record { prompt = _; asks = asks first false refl Yes; in_session = shown (shown (shown none)) }))
          (stops {first = prompt second No} (dissents second is_second (record { prompt = _; asks = asks second false refl No; in_session = shown (shown (shown none)) }) refl))))))
          (closed Done tt)
