-- A request of the command on a worked example: its line, how the agent reads it, what is written for it, and what that is read as.
use Rattle.std.{specs.List.AllByRecursion, proofs.{Common.{◌≡◌, ◌<◌, ℕ, true, List, [], ◌∷◌, ◌++◌, codes, All, None, refl, ap, sym, subst, ◌∙◌, arith}, lemmas.List.Elements.{All-cons, All-nil}}}
use Rattle.{agent_ask.specs.Session.{ActionExchanges.answered, Actions.{goes_on, returns}, SessionEvents.{CacheTurn, Received, Sent, cache_turn}}, agent_commands.{proofs.Secrets.is_secret, specs.{Answers.IsPassphrase, Exchanges.{CacheExchange, LineExchange, reply, tells}, Actions.CacheEvent}}}
use Rattle.agent_commands.specs.{Passphrases.ask, Requests.get_passphrase, Talks.Session, declared.{request.Request.{Request, TheVariants.Cache}, went.{SessionEnd.TheVariants.Ended, Went.TheVariants.On}}}
use Rattle.{agent_origin.specs.SessionExchanges.{SessionExchange, cache, kept_at_start}, assuan_escape.specs.DataLines.IsPiece, assuan_server.specs.Written.{IsDataAnswer, greeting}, assuan_text.specs.LineEnds.line_of}
use Rattle.{cache_policy.specs.{Turns.{Turn, Given}, declared.{grant.Grant.Grant, mode.Mode.TheVariants.User}}, passphrase_words.specs.{Options.form_of, Requests.{Looks, line_of_request}, Tasks.TaskValue, Texts.texts_of as words_of}}
use Rattle.{passphrase_words.specs.declared.task.Act.TheVariants.Cached, session_options.specs.{OptionValues.OptionValues, declared.rules.Rules.Rules}}
use Rattle.passphrase_laws.{specs.{Asking.{Means, Says, command, fields_of}, Exchanges.texts_of, Readings.IsReadAs, Roads.{IsWhole, AreReplies, session_text}, Served.{Serves, lines_read}}, proofs.{Asked.looks_read, Passing.plain_session, ReadAs.passphrase_read}}
use Rattle.passphrase_laws.proofs.Serving.{serves}
use Rattle.agent_ask.specs.Session.Answering as answering
use Rattle.agent_ask.specs.Session.TurnActions as turn
use Rattle.agent_commands.specs.Talks as talks
use Rattle.assuan_client.specs.declared.answer.Answer.TheVariants as answer
use Rattle.assuan_line.specs.declared.reader.Took.TheVariants as took
use Rattle.passphrase_words.specs.Spelling as spelling
use Rattle.passphrase_laws.specs.Roads as road
use Rattle.passphrase_laws.proofs.Meaning as meaning

-- what is kept as mail is looked for
abbrev task : TaskValue
task = record { folder = None; seconds = None; id = codes "mail"; act = Cached; texts = words_of (codes "mail") None [] }

says : Says task None []
says = record { id_is = refl; some = λ is. cc is; texts_are = refl }

line_is : line_of_request task Looks ≡ codes "GET_PASSPHRASE --data --no-ask mail X X Passphrase+mail"
line_is = refl

-- a percent sign is escaped in its data line
abbrev secret : List ℕ
secret = codes "50% off"

abbrev written : List ℕ
written = codes "D 50%25 off" ++ 10 ∷ (codes "OK" ++ 10 ∷ [])

as_data : IsDataAnswer secret written
as_data = record {
  pieces = secret ∷ [];
  are_data = record { joined = refl; each = All-cons IsPiece secret [] (omega arith, omega arith) (All-nil IsPiece); full = (tt, tt) };
  text_is = refl;
}

as_told : IsPassphrase true secret written
as_told = record {
  is = is_secret secret (omega arith, (omega arith, (omega arith, (omega arith, (omega arith, (omega arith, (omega arith, tt))))))) (omega arith);
  written = as_data;
}

-- and read as the passphrase
read : IsReadAs written (answer.Got secret)
read = passphrase_read secret written as_told

abbrev events : Grant → List CacheEvent
events grant = cache_turn (ask (codes "mail")) (Given grant) ∷ Sent written ∷ []

-- what is live is given
exchange : (rules : Rules) (values : OptionValues) (grant : Grant) → grant.id ≡ codes "mail" → grant.mode ≡ User → grant.entry.secret ≡ secret
    → LineExchange rules values (line_of_request task Looks) (events grant) values On
exchange rules values grant id mode is =
    subst (λ (r : Request). CacheExchange rules values r (events grant) values On) (sym (looks_read task None [] says)) given where
      given : CacheExchange rules values (Cache (get_passphrase (fields_of task None [] true 0))) (events grant) values On
      given =
          answered (cache_turn (ask (codes "mail")) (Given grant) ∷ []) None (reply values written)
          (goes_on (goes_on (turn.Asks.given (id, mode)) returns) (goes_on (tells (rw is as_told)) returns)) turn.unheld

whole : (grant : Grant) → AllByRecursion IsWhole (events grant)
whole grant = (tt, (tt, tt))

-- the bytes of the session, to a client that says no options
text_is : (grant : Grant) → session_text [] (events grant) ≡ codes "OK Pleased to meet you" ++ 10 ∷ written
text_is grant = refl

no_replies : AreReplies [] []
no_replies = road.none

-- ---- from the words to the session

-- its words
abbrev words : List (List ℕ)
words = codes "--cached" ∷ codes "mail" ∷ []

meant : Means words task None []
unfolding form_of
meant = command (spelling.flag {name = codes "--cached"} refl spelling.none) refl (record {
  sound = refl;
  together = refl;
  alone_or_free = refl;
  counted = refl;
  task_is = refl;
  fit = record { id_is = refl; short = omega arith; whole = refl };
})

abbrev line : List ℕ
line = line_of_request task Looks

-- a session that is said this line alone
abbrev spoken : Grant → List CacheEvent
spoken grant = Sent (line_of greeting) ∷ Received (took.Line line) ∷ (events grant ++ Received took.End ∷ [])

-- the entry that the third event gives
abbrev given_by : Grant → Turn → Grant
given_by else_this (Given grant) = grant
given_by else_this _ = else_this

abbrev third : Grant → List CacheEvent → Grant
third else_this (first ∷ second ∷ CacheTurn taken ∷ more) = given_by else_this taken.turn
third else_this _ = else_this

module _ (rules : Rules) (grant : Grant) (id : grant.id ≡ codes "mail") (mode : grant.mode ≡ User) (is : grant.entry.secret ≡ secret) where
  session : Session (SessionExchange rules) (kept_at_start rules) (spoken grant) Ended
  session = talks.greeted (talks.goes_on line (answering.whole (cache (exchange rules (kept_at_start rules).options grant id mode is))) talks.ended)

  it_serves : Serves rules (SessionExchange rules) [] line (spoken grant)
  it_serves =
      serves rules (SessionExchange rules) line [] (get_passphrase (fields_of task None [] true 0)) (looks_read task None [] (meaning.says words task None [] meant)) (plain_session rules line) [] tt session refl
      (tt, (tt, (tt, (tt, (tt, tt)))))

  -- the entry that is given stands in the session: another one of the same passphrase writes the same bytes, but wasn't given here
  only_grant : (other : Grant) (it : Serves rules (SessionExchange rules) [] line (spoken grant)) → it.own ≡ events other → other ≡ grant
  only_grant other it is = by_front it.front it.options_are it.own it.later is it.at where
    by_front : (front : List CacheEvent) → lines_read front ≡ [] → (own later : List CacheEvent) → own ≡ events other
        → spoken grant ≡ Sent (line_of greeting) ∷ (front ++ Received (took.Line line) ∷ (own ++ later)) → other ≡ grant
    by_front [] none own later is at =
        let there : spoken grant ≡ Sent (line_of greeting) ∷ Received (took.Line line) ∷ (events other ++ later) =
        at ∙ ap (λ (e : List CacheEvent). Sent (line_of greeting) ∷ Received (took.Line line) ∷ (e ++ later)) is in sym (ap (third grant) there)
    by_front (first ∷ front) none own later is at =
        let head : first ≡ Received (took.Line line) = cc at in
        let reads : lines_read (Received (took.Line line) ∷ front) ≡ [] = ap (λ (e : CacheEvent). lines_read (e ∷ front)) (sym head) ∙ none in absurd (cc reads)

  it_writes : texts_of (spoken grant) ≡ codes "OK Pleased to meet you" ++ 10 ∷ written
  it_writes = refl
