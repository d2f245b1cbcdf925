-- A session on a worked example: it is said four options, the user is asked, and its client is told that the pinentry was launched. What of it is the
-- request's own is fixed by where it stands, and the values by the options: so no other exchange that writes the same bytes can be put in its place.
use Rattle.std.{specs.{List.AllByRecursion, Prelude.{⊤}, Fmt.digits}, proofs.{Common.{◌≡◌, ℕ, true, false, List, [], ◌∷◌, ◌++◌, codes, Some, None, refl, sym, subst, ◌∙◌, arith}, lemmas.{Bool.cond-true, List.Elements.{All-cons, All-nil}}}}
use Rattle.agent_ask.{specs.{Events.{Called, GetPin, Notified, Shut, Start}, Plans.{IsSpec, plan_of, text}, Prompts.{AsksBefore, IsTry, Opens, Repeats, Tries, typed}, SessionPrompts.{AnyInSession, note}, Tests.test_of}, proofs.WorkedPrompts.{any_given, first_try}}
use Rattle.agent_ask.specs.{PinActions.{PromptsPin, prompted}, Session.{ActionExchanges.{AnyExchange, answered}, Actions.{goes_on, returns}, PortCalls.Prompt, SessionEvents.{Port, Received, Sent, cache_turn}}}
use Rattle.agent_ask.specs.declared.prompt.{spec.{AskPlan.AskPlan, PromptSpec.PromptSpec}, test.Tested.TheVariants.Yes}
use Rattle.agent_commands.proofs.Secrets.{is_secret}
use Rattle.agent_commands.specs.{Actions.CacheEvent, Answers.IsPassphrase, Endings.went_after, Exchanges.{CacheExchange, LineExchange, option_replies, reply, tells}, Passphrases.ask_or_open, Requests.get_passphrase, Talks.Session}
use Rattle.{agent_commands.specs.declared.{request.Request.{Request, TheVariants.Cache}, went.{SessionEnd.TheVariants.Ended as AtEnd, Went.TheVariants.On}}, agent_origin.specs.{SessionExchanges.{SessionExchange, cache, kept_at_start}, declared.session_state.SessionState.SessionState}}
use Rattle.{assuan_escape.specs.DataLines.IsPiece, assuan_server.specs.{Clients.session_lines, Inquiries.{Data, Ended}, Written.{IsDataAnswer, greeting, ok, refusal_line}}, assuan_text.specs.LineEnds.line_of, cache_policy.specs.{Turns.{Done, Open}, declared.mark.MarkStep.TheVariants.Close}}
use Rattle.{passphrase_talk.specs.Dialogues.options_of, passphrase_words.specs.{Requests.{Asks, line_of_request}, Tasks.TaskValue, Texts.texts_of as words_of, declared.task.Act.TheVariants.Give}}
use Rattle.{session_client.specs.Asking.Asked, session_options.specs.{OptionValues.{Applied, EnvWords, OptionValues}, Text.can_be_kept, declared.{rules.Rules.Rules}}}
use Rattle.agent_session.specs.OwnPassphrases.{Served}
use Rattle.passphrase_laws.specs.{Asking.{Says, fields_of}, Exchanges.texts_of, Roads.IsWhole, Served.{AppliedInTurn, Serves, Sets}}
use Rattle.passphrase_laws.proofs.{Asked.asks_read, Passing.{applied_in_turn, are_options, are_passed, ctype_sets, name_sets, notify_sets, plain_session, type_sets}, Serving.serves}
use Rattle.agent_ask.specs.Session.Answering as answering
use Rattle.agent_ask.specs.Session.TurnActions as turn
use Rattle.agent_ask.specs.declared.client.caller.Heard.TheVariants as heard
use Rattle.agent_ask.specs.declared.prompt.ask.Asked.TheVariants as asked
use Rattle.agent_ask.specs.declared.prompt.prompter.Opened.TheVariants as opened
use Rattle.agent_ask.specs.declared.prompt.prompter.Outcome.TheVariants as outcome
use Rattle.agent_commands.specs.Talks as talks
use Rattle.agent_session.specs.OwnPassphrases as serving
use Rattle.assuan_line.specs.declared.reader.Took.TheVariants as took
use Rattle.passphrase_talk.specs.declared.connector.Waits.TheVariants as waits

-- where the user is asked
abbrev terminal : EnvWords
terminal = record { ttyname = codes "/dev/pts/1"; ttytype = codes "xterm"; lc_ctype = codes "C"; lc_messages = [] }

abbrev options : List (List ℕ)
options = options_of waits.Prompt terminal

options_are : options ≡ codes "OPTION allow-pinentry-notify" ∷ codes "OPTION ttyname=/dev/pts/1" ∷ codes "OPTION ttytype=xterm" ∷ codes "OPTION lc-ctype=C" ∷ []
options_are = refl

-- what is kept as mail, or typed
abbrev task : TaskValue
task = record { folder = None; seconds = None; id = codes "mail"; act = Give false false None true; texts = words_of (codes "mail") None [] }

says : Says task None []
says = record { id_is = refl; some = λ is. cc is; texts_are = refl }

abbrev line : List ℕ
line = line_of_request task Asks

line_is : line ≡ codes "GET_PASSPHRASE --data mail X X Passphrase+mail"
line_is = refl

abbrev secret : List ℕ
secret = codes "swordfish"

abbrev written : List ℕ
written = codes "D swordfish" ++ 10 ∷ (codes "OK" ++ 10 ∷ [])

as_data : IsDataAnswer secret written
as_data = record {
  pieces = secret ∷ [];
  are_data = record { joined = refl; each = All-cons IsPiece secret [] (omega arith, omega arith) (All-nil IsPiece); full = (tt, tt) };
  text_is = refl;
}

as_told : IsPassphrase true secret written
as_told = record {
  is = is_secret secret (omega arith, (omega arith, (omega arith, (omega arith, (omega arith, (omega arith, (omega arith, (omega arith, (omega arith, tt))))))))) (omega arith);
  written = as_data;
}

-- an option whose value can be kept is set
is_set : (rules : Rules) {value : List ℕ} {change : OptionValues → OptionValues} {said : List ℕ} → Sets value change said → can_be_kept value ≡ true → (kept : SessionState)
    → SessionExchange rules kept said (Sent ok ∷ []) (record kept { options = change kept.options }) On
is_set rules {value} {change} {said} sets keeps kept =
    cache (subst (λ (r : Request). CacheExchange rules kept.options r (Sent ok ∷ []) (change kept.options) On) (sym sets.read)
    (subst (λ (a : Applied). AnyExchange refusal_line went_after (option_replies a.answer a.after) kept.options (Sent ok ∷ []) (change kept.options) On)
    (sym (sets.sets kept.options ∙ cond-true (can_be_kept value) _ _ keeps)) (answered [] None (reply (change kept.options) ok) returns turn.unheld)))

-- the process of its pinentry
abbrev pid : ℕ
pid = 4711

module _ (rules : Rules) (ticket : ℕ) (spec : PromptSpec) where
  -- what is kept at each line
  abbrev at_first : SessionState
  at_first = kept_at_start rules

  abbrev told : SessionState
  told = record at_first { options = record at_first.options { notify = true } }

  abbrev named : SessionState
  named = record told { options = record told.options { env = record told.options.env { ttyname = codes "/dev/pts/1" } } }

  abbrev typed_so : SessionState
  typed_so = record named { options = record named.options { env = record named.options.env { ttytype = codes "xterm" } } }

  abbrev kept : SessionState
  kept = record typed_so { options = record typed_so.options { env = record typed_so.options.env { lc_ctype = codes "C" } } }

  -- the prompt, of which the client is told
  abbrev shown : List CacheEvent
  shown =
      Port (Prompt (Called (Start spec (opened.Pid pid)))) ∷ note pid (Asked (Data [])) ∷ Port (Prompt (Called (GetPin [] (outcome.Pin secret)))) ∷ Port (Prompt (Called Shut)) ∷ []

  abbrev own : List CacheEvent
  own = cache_turn (ask_or_open (codes "mail")) (Open ticket) ∷ (shown ++ cache_turn (Close ticket (Some secret)) Done ∷ Sent written ∷ [])

  abbrev plan : AskPlan
  plan = plan_of rules kept.options (text []) false 0

  prompts : PromptsPin session_lines spec plan (λ pin. ⊤) shown (asked.Pin secret)
  prompts = record {
    prompt = Called (Start spec (opened.Pid pid)) ∷ Notified pid heard.Fine ∷ typed [] secret ∷ Called Shut ∷ [];
    asks = record {
      before = Called (Start spec (opened.Pid pid)) ∷ Notified pid heard.Fine ∷ typed [] secret ∷ [];
      whole = refl;
      tests = test_of secret Yes ∷ [];
      asks = AsksBefore.tried {events = Called (Start spec (opened.Pid pid)) ∷ Notified pid heard.Fine ∷ []} {more = typed [] secret ∷ []} (Opens.told refl) (Tries.good first_try (IsTry.accepted tt tt Repeats.same));
    };
    in_session = AnyInSession.called (AnyInSession.noted refl (AnyInSession.called (AnyInSession.called AnyInSession.none)));
  }

  module _ (is_spec : IsSpec rules kept.options (text (codes "Passphrase mail")) (text (codes "Passphrase:")) false spec) where
    exchange : LineExchange rules kept.options line own kept.options On
    exchange = subst (λ (r : Request). CacheExchange rules kept.options r own kept.options On) (sym (asks_read task None [] says)) given where
      given : CacheExchange rules kept.options (Cache (get_passphrase (fields_of task None [] false 0))) own kept.options On
      given =
          answered (cache_turn (ask_or_open (codes "mail")) (Open ticket) ∷ (shown ++ cache_turn (Close ticket (Some secret)) Done ∷ [])) None (reply kept.options written)
          (goes_on {first = cache_turn (ask_or_open (codes "mail")) (Open ticket) ∷ (shown ++ cache_turn (Close ticket (Some secret)) Done ∷ [])}
          (goes_on (turn.Asks.opened tt) (goes_on {first = shown} (prompted spec is_spec prompts any_given) (goes_on (turn.closed Done tt) returns)))
          (goes_on (tells as_told) returns)) turn.unheld

    -- what the session does
    abbrev front : List CacheEvent
    front =
        Received (took.Line (codes "OPTION allow-pinentry-notify")) ∷ Sent ok ∷ Received (took.Line (codes "OPTION ttyname=/dev/pts/1")) ∷ Sent ok
        ∷ Received (took.Line (codes "OPTION ttytype=xterm")) ∷ Sent ok ∷ Received (took.Line (codes "OPTION lc-ctype=C")) ∷ Sent ok ∷ []

    abbrev spoken : List CacheEvent
    spoken = Sent (line_of greeting) ∷ (front ++ Received (took.Line line) ∷ (own ++ Received took.End ∷ []))

    session : Session (SessionExchange rules) (kept_at_start rules) spoken AtEnd
    session =
        talks.greeted
        (talks.goes_on {events = Sent ok ∷ []} (codes "OPTION allow-pinentry-notify") (answering.whole (is_set rules notify_sets refl at_first))
        (talks.goes_on {events = Sent ok ∷ []} (codes "OPTION ttyname=/dev/pts/1") (answering.whole (is_set rules (name_sets 47 (codes "dev/pts/1")) refl told))
        (talks.goes_on {events = Sent ok ∷ []} (codes "OPTION ttytype=xterm") (answering.whole (is_set rules (type_sets 120 (codes "term")) refl named))
        (talks.goes_on {events = Sent ok ∷ []} (codes "OPTION lc-ctype=C") (answering.whole (is_set rules (ctype_sets 67 []) refl typed_so))
        (talks.goes_on {events = own} line (answering.whole (cache exchange)) talks.ended)))))

    whole : AllByRecursion IsWhole spoken
    whole = (tt, (tt, (tt, (tt, (tt, (tt, (tt, (tt, (tt, (tt, (tt, (tt, (((pid, refl, omega arith), tt), (tt, (tt, (tt, (tt, (tt, tt))))))))))))))))))

    it_serves : Serves rules (SessionExchange rules) options line spoken
    it_serves =
        serves rules (SessionExchange rules) line [] (get_passphrase (fields_of task None [] false 0)) (asks_read task None [] says) (plain_session rules line) options
        (are_passed rules (SessionExchange rules) (λ line is. plain_session rules line) options (are_options waits.Prompt terminal)) session refl whole

    -- the options were answered one after another, and made these values, by which a launch is told
    answered_so : Served rules (SessionExchange rules) at_first front kept
    answered_so =
        serving.one_more {events = Sent ok ∷ []} (codes "OPTION allow-pinentry-notify") (is_set rules notify_sets refl at_first)
        (serving.one_more {events = Sent ok ∷ []} (codes "OPTION ttyname=/dev/pts/1") (is_set rules (name_sets 47 (codes "dev/pts/1")) refl told)
        (serving.one_more {events = Sent ok ∷ []} (codes "OPTION ttytype=xterm") (is_set rules (type_sets 120 (codes "term")) refl named)
        (serving.one_more {events = Sent ok ∷ []} (codes "OPTION lc-ctype=C") (is_set rules (ctype_sets 67 []) refl typed_so) serving.none)))

    values_are : AppliedInTurn (kept_at_start rules).options options kept.options
    values_are = applied_in_turn rules (SessionExchange rules) (λ line is. plain_session rules line) options (are_options waits.Prompt terminal) answered_so refl

    stands : spoken ≡ Sent (line_of greeting) ∷ (front ++ Received (took.Line line) ∷ (own ++ Received took.End ∷ []))
    stands = refl

    -- An exchange of the same line at whose note the client was gone writes the same bytes up to there, and the rest could pass for what comes behind it: but
    -- it isn't what was done here. Where `own` was tied to the session by its bytes alone it was taken, and then anything could be told.
    abbrev phantom : List CacheEvent
    phantom =
        cache_turn (ask_or_open (codes "mail")) (Open ticket)
        ∷ Port (Prompt (Called (Start spec (opened.Pid pid)))) ∷ note pid (Asked Ended) ∷ Port (Prompt (Called Shut)) ∷ cache_turn (Close ticket None) Done ∷ []

    same_bytes : texts_of spoken ≡ line_of greeting ++ ((ok ++ (ok ++ (ok ++ ok))) ++ texts_of phantom) ++ written
    unfolding digits
    same_bytes = refl

    never_phantom : (other : Serves rules (SessionExchange rules) options line spoken) → other.own ≡ phantom → ⊥
    never_phantom other is = (subst (λ (e : List CacheEvent). AllByRecursion IsWhole e) is other.whole).1.1.0.1
