-- The options that the command says are taken or refused.
use Rattle.std.{specs.{List.AllByRecursion, Prelude.if◌then◌else◌}, proofs.Common.{◌≡◌, ◌≢◌, ◌⊎◌, ℕ, Bool, true, false, List, [], ◌∷◌, ◌++◌, codes, Option, Some, None, inl, inr, refl, ap, sym, subst, ◌∙◌}}
use Rattle.{agent_ask.specs.{Plans.text, Session.{ActionExchanges.{AnyExchange, answered, refused}, Actions.{returns, refuses}}}, agent_commands.specs.{Endings.went_after, Exchanges.{CacheExchange, option_replies}, Actions.CacheEvent}}
use Rattle.{agent_commands.specs.{Requests.{request_by, request_of}, declared.{request.{CacheCommand.{CacheCommand, TheVariants.SetOption}, Request.{Request, TheVariants.Cache}}, went.Went.{Went, TheVariants.On}}}, command_table.specs.Commands.{command_in, command_named}}
use Rattle.{agent_origin.specs.{Doors.allowed, DoorSessions.{DoorExchange, door_command, own_to_door}, SessionExchanges.{RequestExchange, SessionExchange, cache, keys}, declared.{door.Door.{Door, TheVariants.Home}, session_state.SessionState.SessionState}}}
use Rattle.{agent_session.specs.{Completeness.Exchanges, OwnPassphrases.Served}, assuan_server.specs.{Written.refusal_line, declared.errors.Origin.TheVariants.Agent}, command_table.specs.declared.commands.Command.Command}
use Rattle.{assuan_text.specs.Blanks.without_blanks, passphrase_talk.specs.{Dialogues.{option_with, options_of}, declared.connector.Waits.Waits}}
use Rattle.session_options.specs.{OptionValues.{Applied, EnvWords, OptionValues, applied, refused as left_so, set_to}, Table.named, Text.can_be_kept, declared.{options.OptionAnswer.OptionAnswer, rules.Rules.Rules}}
use Rattle.passphrase_laws.specs.Served.{AppliedInTurn, IsPassed, Passes, SaysTerminal, SetInTurn, Sets, lines_read}
use Rattle.agent_ask.specs.Session.TurnActions as turn
use Rattle.agent_commands.specs.declared.request.CacheCommand.TheVariants as request
use Rattle.agent_session.specs.OwnPassphrases as answering
use Rattle.command_table.specs.declared.commands.Command.TheVariants as on
use Rattle.command_table.specs.declared.commands.CommandName.TheVariants as name
use Rattle.passphrase_talk.specs.declared.connector.Waits.TheVariants as waits
use Rattle.session_client.specs.declared.code.Code.TheVariants as code
use Rattle.session_options.specs.declared.options.OptionAnswer.TheVariants as option
use Rattle.passphrase_laws.specs.Served as served

by_left : {answer : OptionAnswer} {before set : OptionValues} → answer ≢ option.Set → (answer ≡ option.Set) ⊎ (set ≡ before) → before ≡ set
by_left not (inl is) = absurd (not is)
by_left not (inr same) = sym same

-- what is done for an option: it is passed over, and the option values are these then
pub record Does (before : OptionValues) (events : List CacheEvent) (set after : OptionValues) (went : Went) : Type 0 where
  pub passes : Passes before events after went
  pub after_is : after ≡ set

-- by each answer to an option, which is taken or leaves the values
does_by : (answer : OptionAnswer) (before set : OptionValues) → set.mode ≡ before.mode → (answer ≡ option.Set) ⊎ (set ≡ before) → {events : List CacheEvent} {after : OptionValues} {went : Went}
    → AnyExchange refusal_line went_after (option_replies answer set) before events after went → Does before events set after went
does_by option.Set before set same left (answered events held reply returns turn.unheld) =
    record { passes = record { reply = _; is_reply = served.taken; events_are = refl; goes_on = refl; mode = same }; after_is = refl }
does_by option.Set before set same left (refused events held why does _) = elim does [ ]
does_by option.Unknown before set same left (answered events held reply does _) = elim does [ ]
does_by option.Unknown before set same left (refused events held why refuses turn.unheld) =
    record { passes = record { reply = _; is_reply = served.refused code.UnknownOption Agent; events_are = refl; goes_on = refl; mode = refl }; after_is = by_left (λ is. cc is) left }
does_by option.Parameter before set same left (answered events held reply does _) = elim does [ ]
does_by option.Parameter before set same left (refused events held why refuses turn.unheld) =
    record { passes = record { reply = _; is_reply = served.refused code.Parameter Agent; events_are = refl; goes_on = refl; mode = refl }; after_is = by_left (λ is. cc is) left }
does_by option.NotSupported before set same left (answered events held reply does _) = elim does [ ]
does_by option.NotSupported before set same left (refused events held why refuses turn.unheld) =
    record { passes = record { reply = _; is_reply = served.refused code.NotSupported Agent; events_are = refl; goes_on = refl; mode = refl }; after_is = by_left (λ is. cc is) left }

-- what a session does for a request on the cache is its exchange
pub on_cache : {rules : Rules} {before after : SessionState} {request : Request} {command : CacheCommand} {events : List CacheEvent} {went : Went} → request ≡ Cache command
    → RequestExchange rules before request events after went → CacheExchange rules before.options request events after.options went
on_cache is (cache exchange) = exchange
on_cache is (keys exchange) = absurd (cc is)

-- a line that is read as an option, which leaves the pinentry-mode, and where it isn't taken all values
pub record IsOption (line : List ℕ) : Type 0 where
  pub said : List ℕ
  pub read : request_of line ≡ Cache (SetOption (text said))
  pub mode : (values : OptionValues) → (applied values said).after.mode ≡ values.mode
  pub left : (values : OptionValues) → ((applied values said).answer ≡ option.Set) ⊎ ((applied values said).after ≡ values)

kept_mode : (values set : OptionValues) → set.mode ≡ values.mode → (kept : Bool) → (if kept then set_to set else left_so option.Parameter values).after.mode ≡ values.mode
kept_mode values set same true = same
kept_mode values set same false = refl

kept_left : (values set : OptionValues) (kept : Bool) → ((if kept then set_to set else left_so option.Parameter values).answer ≡ option.Set) ⊎ ((if kept then set_to set else left_so option.Parameter values).after ≡ values)
kept_left values set true = inl refl
kept_left values set false = inr refl

-- one that sets a word
is_option : {value : List ℕ} {change : OptionValues → OptionValues} (line : List ℕ) → ((values : OptionValues) → (change values).mode ≡ values.mode) → Sets value change line → IsOption line
is_option {value} {change} line same is = record {
  said = is.said;
  read = is.read;
  mode = λ values. ap (λ (a : Applied). a.after.mode) (is.sets values) ∙ kept_mode values (change values) (same values) (can_be_kept value);
  left = λ values. subst (λ (a : Applied). (a.answer ≡ option.Set) ⊎ (a.after ≡ values)) (sym (is.sets values)) (kept_left values (change values) (can_be_kept value));
}

-- what is done for such a line is what a session that came in by no door does for it
abbrev pub IsPlain : Rules → Exchanges → List ℕ → Type 0
IsPlain rules exchange line =
    (before after : SessionState) (events : List CacheEvent) (went : Went) → exchange before line events after went → SessionExchange rules before line events after went

module _ (rules : Rules) (exchange : Exchanges) (plain : (line : List ℕ) → IsOption line → IsPlain rules exchange line) where
  option_does : (line : List ℕ) (is : IsOption line) (before after : SessionState) (events : List CacheEvent) (went : Went) → exchange before line events after went
      → Does before.options events (applied before.options is.said).after after.options went
  option_does line is before after events went exchanged =
      does_by (applied before.options is.said).answer before.options (applied before.options is.said).after (is.mode before.options) (is.left before.options)
      (subst (λ (r : Request). CacheExchange rules before.options r events after.options went) is.read (on_cache is.read (plain line is before after events went exchanged)))

  pub are_passed : (lines : List (List ℕ)) → AllByRecursion IsOption lines → AllByRecursion (IsPassed exchange) lines
  are_passed [] each = tt
  are_passed (line ∷ lines) each = (λ before after events went exchanged. (option_does line each.0 before after events went exchanged).passes, are_passed lines each.1)

  -- lines that were answered one after another were applied one after another
  pub applied_in_turn : (lines : List (List ℕ)) → AllByRecursion IsOption lines → {start kept : SessionState} {front : List CacheEvent} → Served rules exchange start front kept → lines_read front ≡ lines
      → AppliedInTurn start.options lines kept.options
  applied_in_turn [] each answering.none reads = served.unchanged
  applied_in_turn [] each (answering.one_more line exchanged later) reads = absurd (cc reads)
  applied_in_turn (option ∷ lines) each answering.none reads = absurd (cc reads)
  applied_in_turn (option ∷ lines) each {start} {kept} (answering.one_more {mid} {events} {more} line exchanged later) reads =
      let does = option_does option each.0 start mid events On (subst (λ (l : List ℕ). exchange start l events mid On) (cc reads) exchanged) in
      let rest : lines_read (events ++ more) ≡ lines = cc reads in
      let values = applied_in_turn lines each.1 later (sym (ap (λ (e : List CacheEvent). lines_read (e ++ more)) does.passes.events_are) ∙ rest) in
      served.applies each.0.said each.0.read (subst (λ (v : OptionValues). AppliedInTurn v lines kept.options) does.after_is values)

-- ---- each of the options

pub notify_sets : Sets [] (λ old. record old { notify = true }) (codes "OPTION allow-pinentry-notify")
unfolding request_of command_named applied named
notify_sets = record { said = codes "allow-pinentry-notify"; read = refl; sets = λ values. refl }

pub name_sets : (byte : ℕ) (word : List ℕ) → Sets (without_blanks (byte ∷ word)) (λ old. record old { env = record old.env { ttyname = without_blanks (byte ∷ word) } }) (codes "OPTION ttyname=" ++ byte ∷ word)
unfolding request_of command_named applied named
name_sets byte word = record { said = codes "ttyname=" ++ byte ∷ word; read = refl; sets = λ values. refl }

pub type_sets : (byte : ℕ) (word : List ℕ) → Sets (without_blanks (byte ∷ word)) (λ old. record old { env = record old.env { ttytype = without_blanks (byte ∷ word) } }) (codes "OPTION ttytype=" ++ byte ∷ word)
unfolding request_of command_named applied named
type_sets byte word = record { said = codes "ttytype=" ++ byte ∷ word; read = refl; sets = λ values. refl }

pub ctype_sets : (byte : ℕ) (word : List ℕ) → Sets (without_blanks (byte ∷ word)) (λ old. record old { env = record old.env { lc_ctype = without_blanks (byte ∷ word) } }) (codes "OPTION lc-ctype=" ++ byte ∷ word)
unfolding request_of command_named applied named
ctype_sets byte word = record { said = codes "lc-ctype=" ++ byte ∷ word; read = refl; sets = λ values. refl }

messages_sets : (byte : ℕ) (word : List ℕ) → Sets (without_blanks (byte ∷ word)) (λ old. record old { env = record old.env { lc_messages = without_blanks (byte ∷ word) } }) (codes "OPTION lc-messages=" ++ byte ∷ word)
unfolding request_of command_named applied named
messages_sets byte word = record { said = codes "lc-messages=" ++ byte ∷ word; read = refl; sets = λ values. refl }

abbrev Changes : Type 0
Changes = List (List ℕ × (List ℕ → OptionValues → OptionValues))

name_turn : (word : List ℕ) {more : Changes} {lines : List (List ℕ)} → SetInTurn more lines
    → SetInTurn ((word, λ value old. record old { env = record old.env { ttyname = value } }) ∷ more) (option_with (codes "OPTION ttyname=") word ++ lines)
name_turn [] later = served.unsaid later
name_turn (byte ∷ word) later = served.said (name_sets byte word) later

type_turn : (word : List ℕ) {more : Changes} {lines : List (List ℕ)} → SetInTurn more lines
    → SetInTurn ((word, λ value old. record old { env = record old.env { ttytype = value } }) ∷ more) (option_with (codes "OPTION ttytype=") word ++ lines)
type_turn [] later = served.unsaid later
type_turn (byte ∷ word) later = served.said (type_sets byte word) later

ctype_turn : (word : List ℕ) {more : Changes} {lines : List (List ℕ)} → SetInTurn more lines
    → SetInTurn ((word, λ value old. record old { env = record old.env { lc_ctype = value } }) ∷ more) (option_with (codes "OPTION lc-ctype=") word ++ lines)
ctype_turn [] later = served.unsaid later
ctype_turn (byte ∷ word) later = served.said (ctype_sets byte word) later

messages_turn : (word : List ℕ) {more : Changes} {lines : List (List ℕ)} → SetInTurn more lines
    → SetInTurn ((word, λ value old. record old { env = record old.env { lc_messages = value } }) ∷ more) (option_with (codes "OPTION lc-messages=") word ++ lines)
messages_turn [] later = served.unsaid later
messages_turn (byte ∷ word) later = served.said (messages_sets byte word) later

pub says_terminal : (terminal : EnvWords) → SaysTerminal terminal (options_of waits.Prompt terminal)
says_terminal terminal = record {
  notify = codes "OPTION allow-pinentry-notify";
  notifies = notify_sets;
  words = _;
  in_turn = name_turn terminal.ttyname (type_turn terminal.ttytype (ctype_turn terminal.lc_ctype (messages_turn terminal.lc_messages served.none)));
  lines_are = refl;
}

-- ---- all of them

abbrev AreOptions : List (List ℕ) → Type 0
AreOptions lines = AllByRecursion IsOption lines

all_append : (first more : List (List ℕ)) → AreOptions first → AreOptions more → AreOptions (first ++ more)
all_append [] more one two = two
all_append (line ∷ first) more one two = (one.0, all_append first more one.1 two)

name_option : (word : List ℕ) → AreOptions (option_with (codes "OPTION ttyname=") word)
name_option [] = tt
name_option (byte ∷ word) = (is_option _ (λ values. refl) (name_sets byte word), tt)

type_option : (word : List ℕ) → AreOptions (option_with (codes "OPTION ttytype=") word)
type_option [] = tt
type_option (byte ∷ word) = (is_option _ (λ values. refl) (type_sets byte word), tt)

ctype_option : (word : List ℕ) → AreOptions (option_with (codes "OPTION lc-ctype=") word)
ctype_option [] = tt
ctype_option (byte ∷ word) = (is_option _ (λ values. refl) (ctype_sets byte word), tt)

messages_option : (word : List ℕ) → AreOptions (option_with (codes "OPTION lc-messages=") word)
messages_option [] = tt
messages_option (byte ∷ word) = (is_option _ (λ values. refl) (messages_sets byte word), tt)

pub are_options : (wait : Waits) (terminal : EnvWords) → AreOptions (options_of wait terminal)
are_options waits.Answer terminal = tt
are_options waits.Prompt terminal = (
  is_option _ (λ values. refl) notify_sets,
  all_append (option_with (codes "OPTION ttyname=") terminal.ttyname) _ (name_option terminal.ttyname)
      (all_append (option_with (codes "OPTION ttytype=") terminal.ttytype) _ (type_option terminal.ttytype)
      (all_append (option_with (codes "OPTION lc-ctype=") terminal.lc_ctype) _ (ctype_option terminal.lc_ctype)
      (all_append (option_with (codes "OPTION lc-messages=") terminal.lc_messages) [] (messages_option terminal.lc_messages) tt))),
)

-- ---- by no door, and at the user's own

pub plain_session : (rules : Rules) (line : List ℕ) → IsPlain rules (SessionExchange rules) line
plain_session rules line before after events went exchanged = exchanged

not_own_by : (command : Option Command) (line : List ℕ) (what : CacheCommand) → request_by command line ≡ Cache what → what ≢ request.Help → own_to_door command ≡ None
not_own_by None line what is not = refl
not_own_by (Some (on.Cache name.Help)) line what is not = let same : what ≡ request.Help = cc is in absurd (not same)
not_own_by (Some (on.Cache other)) line what is not = refl
not_own_by (Some (on.Key name)) line what is not = refl
not_own_by (Some (on.Trust name)) line what is not = absurd (cc is)

-- a request on the cache is none of the door's own, but for HELP
pub not_own : (line : List ℕ) (what : CacheCommand) → request_of line ≡ Cache what → what ≢ request.Help → door_command Home line ≡ None
unfolding request_of
not_own line what is not = not_own_by (command_in line) line what is not

-- by the law that an exchange at a door is a session's
abbrev pub AsSession : Type 0
AsSession = (door : Door) (rules : Rules) (kept now : SessionState) (line : List ℕ) (events : List CacheEvent) (went : Went) → DoorExchange door rules kept line events now went
    → allowed door line ≡ true → door_command door line ≡ None → SessionExchange rules kept line events now went

pub plain_home : AsSession → (rules : Rules) (line : List ℕ) (what : CacheCommand) → request_of line ≡ Cache what → what ≢ request.Help → IsPlain rules (DoorExchange Home rules) line
plain_home law rules line what is not before after events went exchanged = law Home rules before after line events went exchanged refl (not_own line what is not)

pub option_home : AsSession → (rules : Rules) (line : List ℕ) → IsOption line → IsPlain rules (DoorExchange Home rules) line
option_home law rules line is = plain_home law rules line (SetOption (text is.said)) is.read (λ help. cc help)
