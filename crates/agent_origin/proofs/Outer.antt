-- Lines that are allowed at the outer door, and what is done for them to the cache.
use Rattle.std.{proofs.Common.{◌≡◌, ℕ, Bool, true, false, List, [], ◌∷◌, ◌++◌, Option, None, Some, Result, Ok, Err, is_none, refl, ap, sym, ◌∙◌, subst, append_assoc}, specs.Prelude.⊤}
use Rattle.agent_ask.specs.Session.{ClientActions.{Writes, written, cut, Inquires, given, not_given}, ActionExchanges.{AnyReply, AnyExchange, answered, refused}, Actions.{Follows, Returns, Refuses}}
use Rattle.agent_ask.specs.{Session.{SessionEvents.{AnyEvent, Received, Sent, Cut, Inquiry, CacheTurn, Port, turns_in, said_last}, TurnActions.{Seats, opened, interrupted, Closes, unheld, closed}}, ConsentActions.AgreesTo}
use Rattle.agent_ask.{specs.{Events.PromptEvent, PinActions.prompted, SessionPrompts.{AnyInSession, none, called, noted, out_of_memory}}, proofs.Within.{Within, OfNothing, weaker, returned, refused as refused_so, is_needed, or_otherwise}}
use Rattle.agent_commands.specs.{Exchanges.{CacheExchange, LineExchange, option_replies, confirms_by, CacheReplies, TellsPassphrase, TellsInfo}, Actions.{CacheEvent, CacheAction, AsksPassphrase}}
use Rattle.agent_commands.specs.Passphrases.{LooksFor, WantsPrompt, KeepsUnder, ByCache, Uncached as NotCached, WithoutPrompt, PromptsAny, Prompts, as_wanted, passphrase_by}
use Rattle.agent_commands.specs.{Requests.{GetFields, get_fields, leaves_cache, request_of, request_by, asked_by, either, info_of, confirmation_of}, declared.request.CacheCommand.CacheCommand}
use Rattle.agent_commands.specs.declared.request.{CacheCommand.TheVariants.{Nop, Reset, Bye, Help, SetOption, GetInfo, GetPassphrase, PresetPassphrase, ClearPassphrase, GetConfirmation, ReloadAgent, KillAgent, SetKeyDesc}, Info.Info}
use Rattle.{agent_commands.specs.declared.{request.{Request.{Request, TheVariants.{Cache, Key, Bad}}, Texts.Texts}, went.Went.Went}, assuan_server.specs.{Written.limit_line, Clients.session_lines}, session_client.specs.Fields.◌>>=◌}
use Rattle.{session_client.specs.declared.{code.Code.Code, refusal.Refusal.{Refusal, TheVariants.Agent}, client_error.Gone.Gone}, command_table.specs.{Commands.{command_in, outer_rule}, declared.commands.Command.Command}}
use Rattle.{command_table.specs.declared.commands.CommandName.CommandName, assuan_text.specs.{Options.arguments_of, Words.{rest_of, words}}, arrayvec.specs.ArrayVec.ArrayVec, cache_policy.specs.declared.secret.TheConstants.MAX_SECRET_LEN}
use Rattle.{cache_policy.specs.{declared.mark.MarkStep.TheVariants.Seat, Extending.Taken, Turns.Open}, session_options.specs.{declared.{options.{OptionAnswer.OptionAnswer, PinMode.PinMode}, rules.Rules.Rules}, OptionValues.OptionValues}}
use Rattle.agent_origin.specs.{Doors.{passes, passes_by, allowed}, OuterTurns.{AreOuterTurns, no_turns, peeks, unseated, seated, LeavesCache}, declared.door.Door.TheVariants.Outer}
use Rattle.agent_ask.specs.ConsentActions as consent
use Rattle.agent_ask.proofs.Within as within
use Rattle.agent_commands.specs.Exchanges as exchange
use Rattle.command_table.specs.declared.commands.Command.TheVariants as at_table
use Rattle.command_table.specs.declared.commands.CommandName.TheVariants as name
use Rattle.session_client.specs.declared.code.Code.TheVariants as code
use Rattle.session_options.specs.declared.options.OptionAnswer.TheVariants as option
use Rattle.session_options.specs.declared.options.PinMode.TheVariants as mode

-- ---- events

are_outer_then : {first second : List Taken} → AreOuterTurns first → AreOuterTurns second → AreOuterTurns (first ++ second)
are_outer_then no_turns after = after
are_outer_then (peeks before) after = peeks (are_outer_then before after)
are_outer_then (unseated by before) after = unseated by (are_outer_then before after)
are_outer_then (seated before) after = seated (are_outer_then before after)

pub turns_then : {T O F : Type 0} (first second : List (AnyEvent T O F)) → turns_in (first ++ second) ≡ turns_in first ++ turns_in second
turns_then [] second = refl
turns_then (Received took ∷ more) second = turns_then more second
turns_then (Sent text ∷ more) second = turns_then more second
turns_then (Cut text ∷ more) second = turns_then more second
turns_then (Inquiry word params limit inquired ∷ more) second = turns_then more second
turns_then (CacheTurn taken ∷ more) second = ap (λ (t : List Taken). taken ∷ t) (turns_then more second)
turns_then (Port what ∷ more) second = turns_then more second

pub leaves_then : {T O F : Type 0} (first second : List (AnyEvent T O F)) → LeavesCache first → LeavesCache second → LeavesCache (first ++ second)
leaves_then first second before after = subst AreOuterTurns (sym (turns_then first second)) (are_outer_then before after)

-- a prompt takes no turn
pub prompt_still : {prompt : List PromptEvent} {events : List CacheEvent} → AnyInSession session_lines prompt events → turns_in events ≡ []
prompt_still none = refl
prompt_still (called more) = prompt_still more
prompt_still (noted says more) = prompt_still more
prompt_still (out_of_memory more) = prompt_still more

-- ---- actions

-- What turns are to come to that a request takes with this ticket in hand: with the turn by which it was had, they leave the cache.
abbrev pub Owes : Option ℕ → List Taken → Type 0
Owes None turns = AreOuterTurns turns
Owes (Some ticket) turns = AreOuterTurns (record { asked = Seat None None; turn = Open ticket } ∷ turns)

abbrev pub LeaveLaw : {A : Type 0} → CacheAction A
LeaveLaw before events result after = (later : List Taken) → Owes after later → Owes before (turns_in events ++ later)

-- an action leaves the cache, where all that follows does
abbrev pub Leaves : {A : Type 0} → CacheAction A → Type 0
Leaves action = Within action LeaveLaw

-- and where no ticket is held
abbrev pub LeavesUnseated : {A : Type 0} → CacheAction A → Type 0
LeavesUnseated action = Within action (λ before events result after. before ≡ None → LeaveLaw before events result after)

turns_behind : (held : Option ℕ) (some more : List CacheEvent) (later : List Taken) → Owes held (turns_in some ++ (turns_in more ++ later)) → Owes held (turns_in (some ++ more) ++ later)
turns_behind held some more later = subst (Owes held) (sym (ap (λ (t : List Taken). t ++ later) (turns_then some more) ∙ append_assoc (turns_in some) (turns_in more) later))

pub bind : {A B : Type 0} {action : CacheAction A} {next : A → CacheAction B} → Leaves action → ((value : A) → Leaves (next value)) → Leaves (Follows action next)
bind = within.bind (record {
  then = λ {before} some more one other later owes. turns_behind before some more later (one (turns_in more ++ later) (other later owes));
  alone = λ one. one;
})

pub bind_unseated : {A B : Type 0} {action : CacheAction A} {next : A → CacheAction B} → LeavesUnseated action → ((value : A) → Leaves (next value)) → LeavesUnseated (Follows action next)
bind_unseated = within.bind (record {
  then = λ {before} some more one other free later owes. turns_behind before some more later (one free (turns_in more ++ later) (other later owes));
  alone = λ one. one;
})

pub unseated_too : {A : Type 0} {action : CacheAction A} → Leaves action → LeavesUnseated action
unseated_too = weaker (record { of = λ before events result after leaves free. leaves })

pub leaves_nothing : {A : Type 0} → OfNothing {A = A} LeaveLaw
leaves_nothing = record { of = λ held result later owes. owes }

pub gives : {A : Type 0} (value : A) → Leaves (Returns value)
gives = returned leaves_nothing

pub refused_by : {A : Type 0} (why : Refusal) → Leaves (Refuses {A = A} why)
refused_by = refused_so leaves_nothing

writes_of : (text : List ℕ) (before : Option ℕ) (events : List CacheEvent) (result : Result (Unit {0}) Refusal) (after : Option ℕ) → Writes text before events result after → LeaveLaw before events result after
writes_of text before events result after written later owes = owes
writes_of text before events result after (cut unsent is) later owes = owes

inquires_of : (word : List ℕ) (most : ℕ) (before : Option ℕ) (events : List CacheEvent) (result : Result (List ℕ) Refusal) (after : Option ℕ) → Inquires session_lines word most before events result after
    → LeaveLaw before events result after
inquires_of word most before events result after (given is) later owes = owes
inquires_of word most before events result after (not_given is) later owes = owes

-- a ticket that is held is given back
closes_of : (keep : Option (List ℕ)) (before : Option ℕ) (events : List CacheEvent) (result : Result (Unit {0}) Refusal) (after : Option ℕ) → Closes keep before events result after → LeaveLaw before events result after
closes_of keep before events result after unheld later owes = owes
closes_of keep before events result after (closed turn can) later owes = seated owes

-- a prompt takes no turn
shown_of : {prompt : List PromptEvent} {events : List CacheEvent} (held : Option ℕ) → AnyInSession session_lines prompt events → (later : List Taken) → Owes held later
    → Owes held (turns_in events ++ later)
shown_of held in_session later owes = subst (Owes held) (sym (ap (λ (t : List Taken). t ++ later) (prompt_still in_session))) owes

-- the seat is taken where no ticket is held
seats_of : (before : Option ℕ) (events : List CacheEvent) (result : Result (Unit {0}) Refusal) (after : Option ℕ) → Seats (Seat None None) before events result after → before ≡ None → LeaveLaw before events result after
seats_of None events result after (opened can) free later owes = owes
seats_of None events result after (interrupted can by) free later owes = unseated by owes
seats_of (Some ticket) events result after does free later owes = absurd (cc free)

asks_client : Leaves AsksPassphrase
asks_client = bind (record { of = writes_of (limit_line MAX_SECRET_LEN) }) (λ told. record { of = inquires_of _ _ })

-- ---- passphrases that aren't cached

looks_for : (id : Option (List ℕ)) → id ≡ None → Leaves (LooksFor id)
looks_for None is = gives None
looks_for (Some id) is = cc is

wants_prompt : (id : Option (List ℕ)) → id ≡ None → LeavesUnseated (WantsPrompt id)
wants_prompt None is = bind_unseated (record { of = seats_of }) (λ seat. gives None)
wants_prompt (Some id) is = cc is

keeps_under : (id : Option (List ℕ)) → id ≡ None → (secret : List ℕ) → Leaves (KeepsUnder id secret)
keeps_under None is secret = gives tt
keeps_under (Some id) is secret = cc is

module _ (id : Option (List ℕ)) (is : id ≡ None) where
  uncached : (way : PinMode) → Leaves (NotCached id way)
  uncached mode.Ask = refused_by (Agent code.NoPinentry)
  uncached mode.Cancel = refused_by (Agent code.Cancelled)
  uncached mode.Error = refused_by (Agent code.NoPinentry)
  uncached mode.Loopback = bind asks_client (λ secret. bind (keeps_under id is secret) (λ kept. gives secret))

  without_prompt : (way : PinMode) → Leaves (WithoutPrompt id way)
  without_prompt way = bind (looks_for id is) (λ cached. or_otherwise leaves_nothing cached (uncached way))

  by_cache : Leaves (ByCache id)
  by_cache = bind (looks_for id is) (λ cached. is_needed leaves_nothing code.NoData cached)

module _ (agent : Rules) (options : OptionValues) where
  prompts_of : (texts : Texts) (check quality : Bool) (repeat : ℕ) (before : Option ℕ) (events : List CacheEvent) (result : Result (List ℕ) Refusal) (after : Option ℕ)
      → PromptsAny agent options texts check quality repeat before events result after → LeaveLaw before events result after
  prompts_of texts check quality repeat before events result after (prompted spec is prompt gives) later owes = shown_of before prompt.in_session later owes

  agrees_of : (question : List ℕ) (before : Option ℕ) (events : List CacheEvent) (result : Result (Unit {0}) Refusal) (after : Option ℕ) → AgreesTo session_lines agent options question before events result after
      → LeaveLaw before events result after
  agrees_of question before events result after (consent.consents spec is prompt) later owes = shown_of before prompt.in_session later owes
  agrees_of question before events result after (consent.refused spec is prompt refusal) later owes = shown_of before prompt.in_session later owes

  module _ (fields : GetFields) (is : fields.id ≡ None) where
    prompts : (texts : Texts) → Leaves (Prompts agent options texts fields.check fields.quality fields.repeat)
    prompts texts = bind (record { of = prompts_of texts fields.check fields.quality fields.repeat }) (λ pin. bind (record { of = closes_of (Some pin) }) (λ kept. gives pin))

    as_wanted_leaves : (way : PinMode) (texts : Texts) → LeavesUnseated (as_wanted agent options fields way texts)
    as_wanted_leaves mode.Ask texts = bind_unseated (wants_prompt fields.id is) (λ cached. or_otherwise leaves_nothing cached (prompts texts))
    as_wanted_leaves mode.Cancel texts = unseated_too (without_prompt fields.id is mode.Cancel)
    as_wanted_leaves mode.Error texts = unseated_too (without_prompt fields.id is mode.Error)
    as_wanted_leaves mode.Loopback texts = unseated_too (without_prompt fields.id is mode.Loopback)

    passphrase_leaves : (no_ask : Bool) (texts : Option Texts) → LeavesUnseated (passphrase_by agent options fields no_ask texts)
    passphrase_leaves true None = unseated_too (by_cache fields.id is)
    passphrase_leaves false None = unseated_too (by_cache fields.id is)
    passphrase_leaves true (Some texts) = unseated_too (by_cache fields.id is)
    passphrase_leaves false (Some texts) = as_wanted_leaves options.mode texts

-- ---- requests

-- one that may be made at the outer door
abbrev IsOuterRequest : Request → Type 0
IsOuterRequest (Cache (GetPassphrase plain check no_ask repeat quality id texts)) = id ≡ None
IsOuterRequest (Cache (PresetPassphrase id life secret)) = ⊥
IsOuterRequest (Cache (ClearPassphrase id mode)) = ⊥
IsOuterRequest (Cache ReloadAgent) = ⊥
IsOuterRequest (Cache KillAgent) = ⊥
IsOuterRequest (Cache (SetKeyDesc text)) = ⊥
IsOuterRequest _ = ⊤

tells_passphrase_of : (plain : Bool) (secret : List ℕ) (before : Option ℕ) (events : List CacheEvent) (result : Result (List ℕ) Refusal) (after : Option ℕ)
    → TellsPassphrase plain secret before events result after → LeaveLaw before events result after
tells_passphrase_of plain secret before events result after (exchange.TellsPassphrase.tells is) later owes = owes

tells_info_of : (agent : Rules) (what : Info) (before : Option ℕ) (events : List CacheEvent) (result : Result (List ℕ) Refusal) (after : Option ℕ) → TellsInfo agent what before events result after
    → LeaveLaw before events result after
tells_info_of agent what before events result after (exchange.TellsInfo.tells is) later owes = owes

option_leaves : (answer : OptionAnswer) (after : OptionValues) → Leaves (option_replies answer after)
option_leaves option.Set after = gives _
option_leaves option.Unknown after = refused_by (Agent code.UnknownOption)
option_leaves option.Parameter after = refused_by (Agent code.Parameter)
option_leaves option.NotSupported after = refused_by (Agent code.NotSupported)

module _ (agent : Rules) (options : OptionValues) where
  confirms_leave : (way : PinMode) (description : ArrayVec ℕ) → LeavesUnseated (confirms_by agent options way description)
  confirms_leave mode.Ask description = bind_unseated (record { of = seats_of }) (λ seat. record { of = agrees_of agent options description.items })
  confirms_leave mode.Cancel description = unseated_too (refused_by (Agent code.Cancelled))
  confirms_leave mode.Error description = unseated_too (refused_by (Agent code.NoPinentry))
  confirms_leave mode.Loopback description = unseated_too (refused_by (Agent code.NoPinentry))

  replies_leave : (command : CacheCommand) → IsOuterRequest (Cache command) → LeavesUnseated (CacheReplies agent options command)
  replies_leave Nop outer = unseated_too (gives _)
  replies_leave Reset outer = unseated_too (gives _)
  replies_leave Bye outer = unseated_too (gives _)
  replies_leave Help outer = unseated_too (gives _)
  replies_leave (SetOption text) outer = unseated_too (option_leaves _ _)
  replies_leave (GetInfo what) outer = unseated_too (bind (record { of = tells_info_of agent what }) (λ text. gives _))
  replies_leave (GetPassphrase plain check no_ask repeat quality id texts) outer =
      bind_unseated (passphrase_leaves agent options (record { plain = plain; check = check; no_ask = no_ask; repeat = repeat; quality = quality; id = id; texts = texts }) outer no_ask texts)
      (λ secret. bind (record { of = tells_passphrase_of plain secret }) (λ text. gives _))
  replies_leave (GetConfirmation description) outer = bind_unseated (confirms_leave options.mode description) (λ agreed. gives _)
  replies_leave _ outer = absurd outer

pub said_leaves : (T O F : Type 0) (line : Option (List ℕ)) → LeavesCache (said_last {T = T} {O = O} {F = F} line)
said_leaves T O F None = no_turns
said_leaves T O F (Some line) = no_turns

-- behind its actions a ticket is given back
ends_leave : {A : Type 0} {action : CacheAction A} (leaves : LeavesUnseated action) (events back last : List CacheEvent) (result : Result A Refusal) (held : Option ℕ) → action None events result held
    → Closes None held back (Ok tt) None → LeavesCache last → LeavesCache (events ++ (back ++ last))
ends_leave leaves events back last result held does closes last_leaves =
    subst AreOuterTurns (sym (turns_then events (back ++ last)))
    (leaves.of None events result held does refl (turns_in (back ++ last))
    (subst (Owes held) (sym (turns_then back last)) (closes_of None held back (Ok tt) None closes (turns_in last) last_leaves)))

pub actions_leave : {S W : Type 0} {refusal_text : Refusal → Option (List ℕ)} {went_after : Option Gone → W} {actions : CacheAction (AnyReply S W)} {before after : S} {events : List CacheEvent} {went : W} → LeavesUnseated actions
    → AnyExchange refusal_text went_after actions before events after went → LeavesCache events
actions_leave leaves (answered events held reply {back} does closes) = ends_leave leaves events back _ (Ok reply) held does closes no_turns
actions_leave {refusal_text} leaves (refused events held why {back} does closes) = ends_leave leaves events back _ (Err why) held does closes (said_leaves _ _ _ (refusal_text why))

exchange_leaves : (agent : Rules) (before after : OptionValues) (request : Request) (events : List CacheEvent) (went : Went) → IsOuterRequest request → CacheExchange agent before request events after went
    → LeavesCache events
exchange_leaves agent before after (Cache command) events went outer does = actions_leave (replies_leave agent before command outer) does
exchange_leaves agent before after (Bad why) events went outer does = actions_leave (unseated_too (refused_by (Agent why))) does
exchange_leaves agent before after (Key line) events went outer does = absurd does

-- ---- lines

info_outer : (read : Result Info Code) → IsOuterRequest (either (read >>= λ what. Ok (GetInfo what)))
info_outer (Ok what) = tt
info_outer (Err code) = tt

confirmation_outer : (arguments : List (List ℕ)) → IsOuterRequest (either (confirmation_of arguments))
confirmation_outer [] = tt
confirmation_outer (word ∷ more) = tt

no_id_there : (id : Option (List ℕ)) → is_none id ≡ true → id ≡ None
no_id_there None is = refl
no_id_there (Some id) is = cc is

uncached_outer : (request : Request) → leaves_cache (get_fields request) ≡ true → IsOuterRequest request
uncached_outer (Cache (GetPassphrase plain check no_ask repeat quality id texts)) is = no_id_there id is
uncached_outer _ is = cc is

passes_outer : (name : CommandName) (line : List ℕ) → request_of line ≡ either (asked_by name (rest_of line)) → passes (outer_rule (at_table.Cache name)) line ≡ true → IsOuterRequest (either (asked_by name (rest_of line)))
passes_outer name.Nop line same is = tt
passes_outer name.Reset line same is = tt
passes_outer name.Bye line same is = tt
passes_outer name.Help line same is = tt
passes_outer name.SetOption line same is = tt
passes_outer name.GetInfo line same is = info_outer (info_of (arguments_of (words (rest_of line))))
passes_outer name.GetPassphrase line same is = subst IsOuterRequest same (uncached_outer (request_of line) is)
passes_outer name.GetConfirmation line same is = confirmation_outer (arguments_of (words (rest_of line)))
passes_outer _ line same is = cc is

named_outer : (line : List ℕ) (found : Option Command) → request_of line ≡ request_by found line → passes_by found line ≡ true → IsOuterRequest (request_by found line)
named_outer line None same allows = tt
named_outer line (Some (at_table.Key name)) same allows = tt
named_outer line (Some (at_table.Trust name)) same allows = tt
named_outer line (Some (at_table.Cache name)) same allows = passes_outer name line same allows

pub line_outer : (line : List ℕ) → allowed Outer line ≡ true → IsOuterRequest (request_of line)
unfolding request_of
line_outer line allows = named_outer line (command_in line) refl allows

pub line_leaves : (agent : Rules) (before after : OptionValues) (line : List ℕ) (events : List CacheEvent) (went : Went) → allowed Outer line ≡ true
    → LineExchange agent before line events after went → LeavesCache events
line_leaves agent before after line events went allows exchanged = exchange_leaves agent before after (request_of line) events went (line_outer line allows) exchanged
