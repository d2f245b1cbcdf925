-- What a session of this agent does for the lines of a dialogue: each option is answered by one line, and then the request is. How an option is
-- answered is this project's own.
use Rattle.std.specs.{List.AllByRecursion, Prelude.{◌≡◌, ◌≤◌, ℕ, true, List, [], ◌∷◌, ◌++◌, length, Option, Some, if◌then◌else◌}}
use Rattle.{agent_ask.specs.{Plans.text, Session.SessionEvents.{Received, Sent}}, agent_commands.specs.{Exchanges.LineExchange, Actions.CacheEvent, Requests.{GetFields, request_of}, declared.request.CacheCommand.TheVariants.SetOption}}
use Rattle.{agent_commands.specs.declared.{request.Request.TheVariants.Cache, went.Went.{Went, TheVariants.On}}, agent_origin.specs.{SessionExchanges.kept_at_start, declared.session_state.SessionState.SessionState}}
use Rattle.{agent_ports.specs.Sides.Side, agent_session.specs.{Completeness.Exchanges, OwnPassphrases.Served}, assuan_line.specs.declared.reader.Took.{Took, TheVariants.Line}, assuan_server.specs.{Errors.error_text, Written.{greeting, ok}, declared.errors.Origin.Origin}}
use Rattle.{assuan_text.specs.{Blanks.without_blanks, LineEnds.line_of}, passphrase_talk.specs.{Dialogues.options_of, Turns.Turn, Visits.Talk, declared.{connector.Waits.Waits, told.Told.Told, visits.TheConstants.BUDGET}}, session_client.specs.declared.code.Code.Code}
use Rattle.session_options.specs.{OptionValues.{EnvWords, OptionValues, applied, refused as left_as, set_to}, Text.can_be_kept}
use Rattle.session_options.specs.declared.{options.{OptionAnswer.TheVariants.Parameter, PinMode.TheVariants.Ask}, rules.Rules.Rules}
use Rattle.passphrase_laws.specs.{Exchanges.texts_of, Roads.{AreReplies, IsWhole, Reaches, session_text}}

-- a line by which an option is taken, or refused
pub data IsReply : List ℕ → Type 0 where
  taken : IsReply ok
  refused : (why : Code) (origin : Origin) → IsReply (line_of (error_text why origin))

-- what is done for an option: that line is written, the session goes on, and its pinentry-mode stays
pub record Passes (before : OptionValues) (events : List CacheEvent) (after : OptionValues) (went : Went) : Type 0 where
  pub reply : List ℕ
  pub is_reply : IsReply reply
  pub events_are : events ≡ Sent reply ∷ []
  pub goes_on : went ≡ On
  pub mode : after.mode ≡ before.mode

-- so is done for this option in a session with these exchanges, whatever it keeps
abbrev pub IsPassed : Exchanges → List ℕ → Type 0
IsPassed exchange option =
    (before after : SessionState) (events : List CacheEvent) (went : Went) → exchange before option events after went → Passes before.options events after.options went

-- The line is read as an option that, where this value can be kept, changes the option values so, and else is refused.
pub record Sets (value : List ℕ) (change : OptionValues → OptionValues) (line : List ℕ) : Type 0 where
  pub said : List ℕ
  pub read : request_of line ≡ Cache (SetOption (text said))
  pub sets : (values : OptionValues) → applied values said ≡ (if can_be_kept value then set_to (change values) else left_as Parameter values)

-- the words of a terminal, and what each changes
abbrev pub terminal_words : EnvWords → List (List ℕ × (List ℕ → OptionValues → OptionValues))
terminal_words terminal =
    (terminal.ttyname, λ value old. record old { env = record old.env { ttyname = value } })
    ∷ (terminal.ttytype, λ value old. record old { env = record old.env { ttytype = value } })
    ∷ (terminal.lc_ctype, λ value old. record old { env = record old.env { lc_ctype = value } })
    ∷ (terminal.lc_messages, λ value old. record old { env = record old.env { lc_messages = value } })
    ∷ []

-- These lines set the words in their order, each without the blanks in front of it; one that is empty isn't said.
pub data SetInTurn : List (List ℕ × (List ℕ → OptionValues → OptionValues)) → List (List ℕ) → Type 0 where
  none : SetInTurn [] []
  unsaid : {change : List ℕ → OptionValues → OptionValues} {more : List (List ℕ × (List ℕ → OptionValues → OptionValues))} {lines : List (List ℕ)} → SetInTurn more lines
      → SetInTurn (([], change) ∷ more) lines
  said : {byte : ℕ} {word : List ℕ} {change : List ℕ → OptionValues → OptionValues} {more : List (List ℕ × (List ℕ → OptionValues → OptionValues))} {line : List ℕ} {lines : List (List ℕ)}
      → Sets (without_blanks (byte ∷ word)) (change (without_blanks (byte ∷ word))) line → SetInTurn more lines → SetInTurn ((byte ∷ word, change) ∷ more) (line ∷ lines)

-- that a pinentry's launch is to be told, and then these words
pub record SaysTerminal (terminal : EnvWords) (lines : List (List ℕ)) : Type 0 where
  pub notify : List ℕ
  pub notifies : Sets [] (λ old. record old { notify = true }) notify
  pub words : List (List ℕ)
  pub in_turn : SetInTurn (terminal_words terminal) words
  pub lines_are : lines ≡ notify ∷ words

-- the lines that a session read, in their order
abbrev pub lines_read : List CacheEvent → List (List ℕ)
lines_read [] = []
lines_read (Received (Line line) ∷ later) = line ∷ lines_read later
lines_read (_ ∷ later) = lines_read later

-- These lines are read as options, and applied one after another. One that is refused leaves the values.
pub data AppliedInTurn : OptionValues → List (List ℕ) → OptionValues → Type 0 where
  unchanged : {values : OptionValues} → AppliedInTurn values [] values
  applies : {values after : OptionValues} {line : List ℕ} {lines : List (List ℕ)} (said : List ℕ) → request_of line ≡ Cache (SetOption (text said))
      → AppliedInTurn (applied values said).after lines after → AppliedInTurn values (line ∷ lines) after

-- nothing is done any more, or something is read next: a line, or what comes in its place
pub data IsNext : List CacheEvent → Type 0 where
  over : IsNext []
  reads : {took : Took} {later : List CacheEvent} → IsNext (Received took ∷ later)

-- A session with these exchanges, whose events are these, was said the options, and then the line: it wrote its greeting, a reply to each option, and what
-- its exchange of the line writes, and maybe more. That exchange is the part of its events from this line up to what was read next, and begins with what
-- was kept behind the options.
pub record Serves (rules : Rules) (exchange : Exchanges) (options : List (List ℕ)) (line : List ℕ) (events : List CacheEvent) : Type 0 where
  pub front : List CacheEvent
  pub kept : SessionState
  pub answered : Served rules exchange (kept_at_start rules) front kept
  pub options_are : lines_read front ≡ options
  pub replies : List ℕ
  pub are_replies : AreReplies options replies
  pub mode : kept.options.mode ≡ Ask
  pub own : List CacheEvent
  pub after : OptionValues
  pub went : Went
  pub exchanges : LineExchange rules kept.options line own after went
  pub whole : AllByRecursion IsWhole own
  pub later : List CacheEvent
  pub next : IsNext later
  pub at : events ≡ Sent (line_of greeting) ∷ (front ++ Received (Line line) ∷ (own ++ later))
  pub writes : texts_of events ≡ session_text replies own ++ texts_of later

-- A dialogue of the command was with a session of these events, whose output stood so before it and behind it: the session read the options and then the
-- line; no write of it failed, and at no inquiry did it take its client for gone; nothing was written to that side of the link before, all that was written
-- could be read at the other side, and it is as much as the command reads. These are the premises that depend on the machine.
pub record SpeaksWith (waits : Waits) (terminal : EnvWords) (line : List ℕ) (turns : List Turn) (events : List CacheEvent) (before after : Side) : Type 0 where
  pub later : List (List ℕ)
  pub reads : lines_read events ≡ options_of waits terminal ++ line ∷ later
  pub whole : AllByRecursion IsWhole events
  pub unwritten : before.bytes ≡ Some []
  pub within : length (texts_of events) ≤ BUDGET
  pub left : Option (List ℕ)
  pub written : Option (List ℕ)
  pub talk : Talk (options_of waits terminal) line turns after.bytes left written

-- What a dialogue that says the command's own options is told is what its request came to, by the values that these options made of those of the start.
pub record AnswersRequest (rules : Rules) (exchange : Exchanges) (waits : Waits) (terminal : EnvWords) (line : List ℕ) (fields : GetFields) (events : List CacheEvent) (what : Told) : Type 0 where
  pub serves : Serves rules exchange (options_of waits terminal) line events
  pub values_are : AppliedInTurn (kept_at_start rules).options (options_of waits terminal) serves.kept.options
  pub reaches : Reaches rules serves.kept.options fields serves.own what
