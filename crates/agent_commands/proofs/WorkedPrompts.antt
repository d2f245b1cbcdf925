-- A row of each request on the cache that prompts the user: what is done and written for it, in order.
use Rattle.std.{specs.{Prelude.{⊤, ◌≡◌, ◌++◌, ℕ, List, [], ◌∷◌, codes, true, false, Some, None, refl}, Fmt.digits}, proofs.{Common.{arith, ap, length}, lemmas.List.Elements.{All-cons, All-nil}}}
use Rattle.{arrayvec.specs.ArrayVec.ArrayVec, agent_ask.specs.{Events.{Call, Start, GetPin, Confirm, Shut, Called, Notified}, Session.{PortCalls.Prompt, ActionExchanges.{answered, refused}, Actions.{returns, goes_on, stops}}}}
use Rattle.agent_ask.specs.{Plans.{IsSpec, plan_of, text}, Prompts.{MeetsCheck, typed, repeat_text, Opens, Tries, IsTry, Repeats}, Session.SessionEvents.{Sent, Port, cache_turn}, SessionPrompts.{AnyInSession, note}, Tests.test_of}
use Rattle.agent_ask.specs.{Session.TurnActions.{opened, unheld, closed}, PinActions.prompted, declared.prompt.{spec.{AskPlan.AskPlan, PromptSpec.PromptSpec}, test.Tested.TheVariants.Yes}}
use Rattle.agent_ask.proofs.WorkedPrompts.{any_given, called_by, shown_by, prompts, first_try, second_try, third_try}
use Rattle.{assuan_escape.specs.DataLines.IsPiece, assuan_server.specs.{Clients.session_lines, Written.{failed, failed_at_pinentry, ok, IsDataAnswer}}, cache_policy.specs.declared.mark.MarkStep.TheVariants.{Seat, Close}}
use Rattle.{cache_policy.specs.Turns.{Open, Done}, session_client.specs.{Asking.Asked, declared.refusal.Refusal.TheVariants.{Agent, Pinentry, Client}}, session_options.specs.{OptionValues.OptionValues, declared.rules.Rules.Rules}}
use Rattle.agent_commands.proofs.Secrets.{is_secret}
use Rattle.agent_commands.specs.{Answers.IsPassphrase, Exchanges.{reply, tells, CacheExchange}, Actions.CacheEvent, Passphrases.ask_or_open, Requests.{GetFields, get_passphrase}, declared.request.CacheCommand.TheVariants.GetConfirmation}
use Rattle.agent_commands.specs.declared.{request.{Request.TheVariants.Cache, Texts.Texts}, went.Went.TheVariants.On}
use Rattle.agent_ask.specs.ConsentActions as consent
use Rattle.agent_ask.specs.Consents as consents
use Rattle.agent_ask.specs.declared.prompt.ask.Asked.TheVariants as asked
use Rattle.agent_ask.specs.declared.client.caller.Heard.TheVariants as heard
use Rattle.agent_ask.specs.declared.prompt.consent.Agreed.TheVariants as agreed
use Rattle.agent_ask.specs.declared.prompt.prompter.Consent.TheVariants as consented
use Rattle.agent_ask.specs.declared.prompt.prompter.Opened.TheVariants as opening
use Rattle.agent_ask.specs.declared.prompt.prompter.Outcome.TheVariants as outcome
use Rattle.assuan_server.specs.Inquiries as answers
use Rattle.session_client.specs.declared.code.Code.TheVariants as code
use Rattle.session_client.specs.declared.client_error.ClientError.TheVariants as client_error
use Rattle.session_options.specs.declared.options.PinMode.TheVariants as mode

-- some lines, as they are written
abbrev written_lines : List (List ℕ) → List ℕ
written_lines [] = []
written_lines (line ∷ more) = line ++ 10 ∷ written_lines more

cancelled_is : failed_at_pinentry code.Cancelled ≡ written_lines (codes "ERR 83886179 Operation cancelled <Pinentry>" ∷ [])
unfolding digits
cancelled_is = refl

not_confirmed_is : failed_at_pinentry code.NotConfirmed ≡ written_lines (codes "ERR 83886194 Not confirmed <Pinentry>" ∷ [])
unfolding digits
not_confirmed_is = refl

bad_pass_is : failed code.BadPass ≡ written_lines (codes "ERR 67108875 Bad passphrase <GPG Agent>" ∷ [])
unfolding digits
bad_pass_is = refl

-- what is typed
abbrev escaped : List ℕ
escaped = codes "100%" ++ 13 ∷ 10 ∷ []

-- a percent sign, a carriage return and a line feed in one data line, and then OK
escaped_data : IsDataAnswer escaped (written_lines (codes "D 100%25%0D%0A" ∷ codes "OK" ∷ []))
escaped_data = record {
  pieces = escaped ∷ [];
  are_data = record { joined = refl; each = All-cons IsPiece escaped [] (omega arith, omega arith) (All-nil IsPiece); full = (tt, tt) };
  text_is = refl;
}

escaped_told : IsPassphrase true escaped (written_lines (codes "D 100%25%0D%0A" ∷ codes "OK" ∷ []))
escaped_told = record { is = is_secret escaped (omega arith, (omega arith, (omega arith, (omega arith, (omega arith, (omega arith, tt)))))) (omega arith); written = escaped_data }

-- a passphrase that is checked, in one data line
checked_data : IsDataAnswer (codes "abcdefg1") (written_lines (codes "D abcdefg1" ∷ codes "OK" ∷ []))
checked_data = record {
  pieces = codes "abcdefg1" ∷ [];
  are_data = record { joined = refl; each = All-cons IsPiece (codes "abcdefg1") [] (omega arith, omega arith) (All-nil IsPiece); full = (tt, tt) };
  text_is = refl;
}

checked_told : IsPassphrase true (codes "abcdefg1") (written_lines (codes "D abcdefg1" ∷ codes "OK" ∷ []))
checked_told = record { is = is_secret (codes "abcdefg1") (omega arith, (omega arith, (omega arith, (omega arith, (omega arith, (omega arith, (omega arith, (omega arith, tt)))))))) (omega arith); written = checked_data }

-- calls of the prompter as a session's events
abbrev shown : List Call → List CacheEvent
shown = shown_by session_lines

-- `X X X`: no error, no prompt and no description
abbrev no_texts : Texts
no_texts = record { error = text []; prompt = text []; description = text [] }

module _ (rules : Rules) (options : OptionValues) (spec : PromptSpec) (ticket pid : ℕ) where
  -- a user who is asked, and a client that isn't told of it
  abbrev asking : OptionValues
  asking = record options { mode = mode.Ask; notify = false }

  abbrev start : Call
  start = Start spec (opening.Pid pid)

  -- GET_PASSPHRASE --data id1 X X X
  abbrev plain : GetFields
  plain = record { plain = true; check = false; no_ask = false; repeat = 0; quality = false; id = Some (codes "id1"); texts = Some no_texts }

  abbrev seated : CacheEvent
  seated = cache_turn (ask_or_open (codes "id1")) (Open ticket)

  module _ (is_spec : IsSpec rules asking (text []) (text []) false spec) where
    -- what is typed is kept as the ticket is given back, and told
    typed_at_prompt : CacheExchange rules asking (Cache (get_passphrase plain))
        (seated ∷ (shown (start ∷ GetPin [] (outcome.Pin escaped) ∷ Shut ∷ []) ++ cache_turn (Close ticket (Some escaped)) Done ∷ Sent (written_lines (codes "D 100%25%0D%0A" ∷ codes "OK" ∷ [])) ∷ [])) asking On
    typed_at_prompt =
        answered (seated ∷ (shown (start ∷ GetPin [] (outcome.Pin escaped) ∷ Shut ∷ []) ++ cache_turn (Close ticket (Some escaped)) Done ∷ [])) None
        (reply asking (written_lines (codes "D 100%25%0D%0A" ∷ codes "OK" ∷ [])))
        (goes_on {first = seated ∷ (shown (start ∷ GetPin [] (outcome.Pin escaped) ∷ Shut ∷ []) ++ cache_turn (Close ticket (Some escaped)) Done ∷ [])}
        (goes_on (opened tt)
        (goes_on {first = shown (start ∷ GetPin [] (outcome.Pin escaped) ∷ Shut ∷ [])}
        (prompted spec is_spec (prompts session_lines pid (GetPin [] (outcome.Pin escaped) ∷ []) refl (Tries.good first_try (IsTry.accepted tt tt Repeats.same))) any_given)
        (goes_on (closed Done tt) returns)))
        (goes_on (tells escaped_told) returns)) unheld

    -- a cancel is the pinentry's error; nothing is kept
    cancelled : CacheExchange rules asking (Cache (get_passphrase plain))
        (seated ∷ (shown (start ∷ GetPin [] outcome.Cancelled ∷ Shut ∷ []) ++ cache_turn (Close ticket None) Done ∷ Sent (failed_at_pinentry code.Cancelled) ∷ [])) asking On
    cancelled = refused (seated ∷ shown (start ∷ GetPin [] outcome.Cancelled ∷ Shut ∷ [])) (Some ticket) (Pinentry code.Cancelled)
        (stops (goes_on (opened tt)
        (stops (prompted spec is_spec (prompts session_lines pid (GetPin [] outcome.Cancelled ∷ []) refl (Tries.over first_try (IsTry.ended outcome.Cancelled refl))) (λ is. cc is, refl))))) (closed Done tt)

-- ---- a passphrase that is checked, and repeated once

-- it has eight bytes at least, one of which is no letter
weak_is : ¬ MeetsCheck (Some (8, 1)) (codes "abcdefgh")
weak_is met = omega (arith, met.1)

good_is : MeetsCheck (Some (8, 1)) (codes "abcdefg1")
good_is = (omega arith, omega arith)

-- The first try is too weak, the second is repeated otherwise, and the third is good: each shows what failed the one before.
abbrev three_tries : List Call
three_tries =
    GetPin [] (outcome.Pin (codes "abcdefgh"))
    ∷ GetPin (codes "This passphrase is too weak (try 2 of 3)") (outcome.Pin (codes "abcdefg1")) ∷ GetPin (codes "Please repeat the passphrase") (outcome.Pin (codes "abcdefg"))
    ∷ GetPin (codes "Passphrases differ (try 3 of 3)") (outcome.Pin (codes "abcdefg1")) ∷ GetPin (codes "Please repeat the passphrase") (outcome.Pin (codes "abcdefg1")) ∷ []

-- three tries that are too weak are the last
abbrev three_weak : List Call
three_weak =
    GetPin [] (outcome.Pin (codes "abcdefgh")) ∷ GetPin (codes "This passphrase is too weak (try 2 of 3)") (outcome.Pin (codes "abcdefgh"))
    ∷ GetPin (codes "This passphrase is too weak (try 3 of 3)") (outcome.Pin (codes "abcdefgh")) ∷ []

module _ (rules : Rules) (options : OptionValues) (spec : PromptSpec) (ticket pid : ℕ) where
  abbrev checking : Rules
  checking = record rules { min_len = 8; min_nonalpha = 1 }

  abbrev ready : OptionValues
  ready = record options { mode = mode.Ask; notify = false }

  abbrev begin : Call
  begin = Start spec (opening.Pid pid)

  -- GET_PASSPHRASE --data --check --repeat=1 X X X X
  abbrev checked : GetFields
  checked = record { plain = true; check = true; no_ask = false; repeat = 1; quality = false; id = None; texts = Some no_texts }

  abbrev plan : AskPlan
  plan = plan_of checking ready (text []) true 1

  three : Tries plan (λ pin. ⊤) 1 None (called_by three_tries) (test_of (codes "abcdefg1") Yes ∷ test_of (codes "abcdefg1") Yes ∷ []) (asked.Pin (codes "abcdefg1"))
  three =
      Tries.again {events = typed [] (codes "abcdefgh") ∷ []} {tests = []} first_try (IsTry.weak weak_is)
      (Tries.again {events = typed (codes "This passphrase is too weak (try 2 of 3)") (codes "abcdefg1") ∷ typed repeat_text (codes "abcdefg") ∷ []}
      {tests = test_of (codes "abcdefg1") Yes ∷ []} second_try (IsTry.accepted good_is tt (Repeats.differs {before = 0} (omega arith) (λ is. omega (arith, ap (λ (bytes : List ℕ). length bytes) is))))
      (Tries.good third_try (IsTry.accepted good_is tt Repeats.same)))

  none_good : Tries plan (λ pin. ⊤) 1 None (called_by three_weak) [] asked.Bad
  none_good =
      Tries.again {events = typed [] (codes "abcdefgh") ∷ []} {tests = []} first_try (IsTry.weak weak_is)
      (Tries.again {events = typed (codes "This passphrase is too weak (try 2 of 3)") (codes "abcdefgh") ∷ []} {tests = []} second_try (IsTry.weak weak_is)
      (Tries.again {events = typed (codes "This passphrase is too weak (try 3 of 3)") (codes "abcdefgh") ∷ []} {tests = []} third_try (IsTry.weak weak_is) (Tries.bad (omega arith))))

  module _ (is_spec : IsSpec checking ready (text []) (text []) false spec) where
    third_is_good : CacheExchange checking ready (Cache (get_passphrase checked))
        (cache_turn (Seat None None) (Open ticket) ∷ (shown (begin ∷ (three_tries ++ Shut ∷ []))
        ++ cache_turn (Close ticket (Some (codes "abcdefg1"))) Done ∷ Sent (written_lines (codes "D abcdefg1" ∷ codes "OK" ∷ [])) ∷ [])) ready On
    third_is_good =
        answered (cache_turn (Seat None None) (Open ticket) ∷ (shown (begin ∷ (three_tries ++ Shut ∷ [])) ++ cache_turn (Close ticket (Some (codes "abcdefg1"))) Done ∷ [])) None
        (reply ready (written_lines (codes "D abcdefg1" ∷ codes "OK" ∷ [])))
        (goes_on {first = cache_turn (Seat None None) (Open ticket) ∷ (shown (begin ∷ (three_tries ++ Shut ∷ [])) ++ cache_turn (Close ticket (Some (codes "abcdefg1"))) Done ∷ [])}
        (goes_on (goes_on (opened tt) returns)
        (goes_on {first = shown (begin ∷ (three_tries ++ Shut ∷ []))} (prompted spec is_spec (prompts session_lines pid three_tries refl three) any_given) (goes_on (closed Done tt) returns)))
        (goes_on (tells checked_told) returns)) unheld

    none_is_good : CacheExchange checking ready (Cache (get_passphrase checked))
        (cache_turn (Seat None None) (Open ticket) ∷ (shown (begin ∷ (three_weak ++ Shut ∷ [])) ++ cache_turn (Close ticket None) Done ∷ Sent (failed code.BadPass) ∷ [])) ready On
    none_is_good = refused (cache_turn (Seat None None) (Open ticket) ∷ shown (begin ∷ (three_weak ++ Shut ∷ []))) (Some ticket) (Agent code.BadPass)
        (stops (goes_on (goes_on (opened tt) returns) (stops (prompted spec is_spec (prompts session_lines pid three_weak refl none_good) (λ is. cc is, refl))))) (closed Done tt)

-- ---- consent, and a client that is told of a prompt

module _ (rules : Rules) (options : OptionValues) (description : ArrayVec ℕ) (spec : PromptSpec) (ticket : ℕ) where
  -- a client that is told of prompts
  abbrev told : OptionValues
  told = record options { mode = mode.Ask; notify = true }

  abbrev seat_taken : CacheEvent
  seat_taken = cache_turn (Seat None None) (Open ticket)

  abbrev begun : CacheEvent
  begun = Port (Prompt (Called (Start spec (opening.Pid 7))))

  abbrev ended : CacheEvent
  ended = Port (Prompt (Called Shut))

  -- it is told the prompt's process, and what it sends back is dropped
  abbrev noted : answers.Outcome → CacheEvent
  noted came = note 7 (Asked came)

  abbrev question : CacheEvent
  question = Port (Prompt (Called (Confirm consented.Yes)))

  module _ (is_spec : consent.IsQuestion rules told description.items spec) where
    confirmed : CacheExchange rules told (Cache (GetConfirmation description)) (seat_taken ∷ begun ∷ noted (answers.Data []) ∷ question ∷ ended ∷ cache_turn (Close ticket None) Done ∷ Sent ok ∷ []) told On
    confirmed = answered (seat_taken ∷ begun ∷ noted (answers.Data []) ∷ question ∷ ended ∷ []) (Some ticket) (reply told ok)
        (goes_on {first = seat_taken ∷ begun ∷ noted (answers.Data []) ∷ question ∷ ended ∷ []} (goes_on (opened tt) (consent.AgreesTo.consents spec is_spec (record {
          prompt = Called (Start spec (opening.Pid 7)) ∷ Notified 7 heard.Fine ∷ Called (Confirm consented.Yes) ∷ Called Shut ∷ [];
          asks = record {
            before = Called (Start spec (opening.Pid 7)) ∷ Notified 7 heard.Fine ∷ Called (Confirm consented.Yes) ∷ [];
            whole = refl;
            asks = consents.ConsentBefore.asked consented.Yes (Opens.told refl);
          };
          in_session = AnyInSession.called (AnyInSession.noted refl (AnyInSession.called (AnyInSession.called AnyInSession.none)));
        }))) returns) (closed Done tt)

    -- one that cancels in place of taking note: nothing is asked, and this is the agent's error
    not_noted : CacheExchange rules told (Cache (GetConfirmation description))
        (seat_taken ∷ begun ∷ noted answers.Cancelled ∷ ended ∷ cache_turn (Close ticket None) Done ∷ Sent (failed code.Cancelled) ∷ []) told On
    not_noted = refused (seat_taken ∷ begun ∷ noted answers.Cancelled ∷ ended ∷ []) (Some ticket) (Client client_error.Cancelled)
        (stops (goes_on (opened tt) (consent.AgreesTo.refused {answer = agreed.Heard heard.Cancelled} spec is_spec (record {
          prompt = Called (Start spec (opening.Pid 7)) ∷ Notified 7 heard.Cancelled ∷ Called Shut ∷ [];
          asks = record {
            before = Called (Start spec (opening.Pid 7)) ∷ Notified 7 heard.Cancelled ∷ [];
            whole = refl;
            asks = consents.ConsentBefore.client_error (λ is. cc is) (Opens.told refl);
          };
          in_session = AnyInSession.called (AnyInSession.noted refl (AnyInSession.called AnyInSession.none));
        }) refl))) (closed Done tt)

    -- a user who says no
    abbrev denial : CacheEvent
    denial = Port (Prompt (Called (Confirm consented.No)))

    not_confirmed : CacheExchange rules told (Cache (GetConfirmation description))
        (seat_taken ∷ begun ∷ noted (answers.Data []) ∷ denial ∷ ended ∷ cache_turn (Close ticket None) Done ∷ Sent (failed_at_pinentry code.NotConfirmed) ∷ []) told On
    not_confirmed = refused (seat_taken ∷ begun ∷ noted (answers.Data []) ∷ denial ∷ ended ∷ []) (Some ticket) (Pinentry code.NotConfirmed)
        (stops (goes_on (opened tt) (consent.AgreesTo.refused {answer = agreed.No} spec is_spec (record {
          prompt = Called (Start spec (opening.Pid 7)) ∷ Notified 7 heard.Fine ∷ Called (Confirm consented.No) ∷ Called Shut ∷ [];
          asks = record {
            before = Called (Start spec (opening.Pid 7)) ∷ Notified 7 heard.Fine ∷ Called (Confirm consented.No) ∷ [];
            whole = refl;
            asks = consents.ConsentBefore.asked consented.No (Opens.told refl);
          };
          in_session = AnyInSession.called (AnyInSession.noted refl (AnyInSession.called (AnyInSession.called AnyInSession.none)));
        }) refl))) (closed Done tt)
