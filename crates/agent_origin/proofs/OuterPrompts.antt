-- At the outer door no terminal and no language is set, so no prompt names one.
use Rattle.std.{specs.{List.AllByRecursion, Prelude.{codes, drop}}, proofs.Common.{◌≡◌, ◌∙◌, ℕ, Bool, true, false, cond, List, [], ◌∷◌, ◌++◌, Option, Some, None, Ok, bytes_eq, refl, sym, ap, subst}}
use Rattle.std.proofs.lemmas.Slice.Eq.{bytes_eq-Decides}
use Rattle.agent_ask.{specs.Session.{Answering.{WholeOrCut, whole, cut}, ActionExchanges.{answered, refused}, SessionEvents.{Cut, Sent, CutAtLast}}, proofs.Within.{Within, Yields, returned_so, refused_so, yields_then}}
use Rattle.agent_commands.specs.{Endings.went_after, Exchanges.{CacheExchange, CacheReply, option_replies, CacheReplies}, Requests.request_of}
use Rattle.agent_commands.specs.{Talks.{Talk, goes_on, over, ended, spent, read_fault, too_long, cut_too_long, Session, greeted, cut_greeting}, declared.request.{CacheCommand.CacheCommand, Request.{Request, TheVariants.{Cache, Key, Bad}}}}
use Rattle.{agent_commands.specs.declared.went.{SessionEnd.SessionEnd, Went.{Went, TheVariants.On}}, assuan_server.specs.Written.ok, assuan_text.specs.Rows.found, command_table.specs.Commands.command_in, key_commands.specs.Events.Event}
use Rattle.{key_commands.proofs.EachEvent.each_append, session_client.specs.declared.refusal.Refusal.TheVariants.Agent}
use Rattle.session_options.specs.{OptionValues.{OptionValues, Applied, without_description, set_to, with_mode, with_count, valued, applied_as, applied}, Table.{names, named, mode_of, count_of}, Text.{name_of, option_value, can_be_kept}}
use Rattle.session_options.specs.declared.{options.{OptionAnswer.OptionAnswer, PinMode.PinMode}, rules.Rules.Rules}
use Rattle.agent_origin.specs.{DoorSessions.{own_to_door, door_command, AllowedExchange, DoorExchange}, Doors.{is_of_terminal, sets_terminal, allowed}, OuterPrompts.{no_words, PromptNames, PromptsName}}
use Rattle.agent_origin.{specs.{SessionExchanges.{RequestExchange, cache, keys}, declared.{door.Door.TheVariants.Outer, door_session.DoorCommand.{DoorCommand, TheVariants.Terminal}, session_state.SessionState.SessionState}}, proofs.Naming.exchange_names}
use Rattle.agent_commands.specs.declared.request.CacheCommand.TheVariants as on
use Rattle.session_options.specs.declared.options.OptionAnswer.TheVariants as option
use Rattle.session_options.specs.declared.options.PinMode.TheVariants as mode
use Rattle.agent_origin.specs.DoorSessions as door

-- ---- an option that isn't of the terminal

abbrev Env : Applied → OptionValues → Type 0
Env applied old = applied.after.env ≡ old.env

mode_env : (old : OptionValues) (mode : Option PinMode) → Env (with_mode old mode) old
mode_env old None = refl
mode_env old (Some mode.Ask) = refl
mode_env old (Some mode.Cancel) = refl
mode_env old (Some mode.Error) = refl
mode_env old (Some mode.Loopback) = loopback old.allow_loopback
  where
    loopback : (may : Bool) → Env (cond may (record { answer = option.Set; after = record old { mode = mode.Loopback } }) (record { answer = option.NotSupported; after = old })) old
    loopback true = refl
    loopback false = refl

count_env : (old : OptionValues) (count : Option ℕ) → Env (with_count old count) old
count_env old None = refl
count_env old (Some count) = refl

kept_env : (old : OptionValues) (done : Applied) → Env done old → (may : Bool) → Env (cond may done (record { answer = option.Parameter; after = old })) old
kept_env old done same true = same
kept_env old done same false = refl

-- a name that is none of these
other_row : (row called : List ℕ) → is_of_terminal row ≡ true → is_of_terminal called ≡ false → bytes_eq row called ≡ false
other_row row called is other = by (bytes_eq row called) refl
  where
    by : (same : Bool) → bytes_eq row called ≡ same → same ≡ false
    by true same = absurd (cc (subst (λ (n : List ℕ). is_of_terminal n ≡ true) ((bytes_eq-Decides row called).0 same) is, other))
    by false same = refl

first_other : {X : Type 0} (Is : Option X → Type 0) (a b c d : X) (rest : Option X) → Is rest → (first second third fourth : Bool) → first ≡ false → second ≡ false → third ≡ false → fourth ≡ false
    → Is (cond first (Some a) (cond second (Some b) (cond third (Some c) (cond fourth (Some d) rest))))
first_other Is a b c d rest is true second third fourth one two three four = cc one
first_other Is a b c d rest is false true third fourth one two three four = cc two
first_other Is a b c d rest is false false true fourth one two three four = cc three
first_other Is a b c d rest is false false false true one two three four = cc four
first_other Is a b c d rest is false false false false one two three four = is

either_is : {X : Type 0} (Is : X → Type 0) (one other : X) → Is one → Is other → (first : Bool) → Is (cond first one other)
either_is Is one other is_one is_other true = is_one
either_is Is one other is_one is_other false = is_other

each_found : {X : Type 0} (Is : Option X → Type 0) → Is None → (called : List ℕ) (rows : List (List ℕ × X)) → AllByRecursion (λ row. Is (Some row.1)) rows → Is (found called rows)
each_found Is none called [] each = none
each_found Is none called (row ∷ rows) each = either_is Is (Some row.1) (found called rows) each.0 (each_found Is none called rows each.1) (bytes_eq row.0 called)

-- each of the other rows leaves them
others_env : (old : OptionValues) (value : List ℕ) → AllByRecursion (λ row. Env (valued old value (Some row.1)) old) (drop 4 names)
others_env old value =
    let row = λ (done : Applied) (same : Env done old). kept_env old done same (can_be_kept value) in
    let none = row (set_to old) refl in
    let notify = row (set_to (record old { notify = true })) refl in
    let mode = row (with_mode old (mode_of value)) (mode_env old (mode_of value)) in
    let count = row (with_count old (count_of old.rules_count value)) (count_env old (count_of old.rules_count value)) in
    (none, (none, (none, (none, (none, (none, (notify, (mode, (count, tt)))))))))

named_env : (old : OptionValues) (called value : List ℕ) → is_of_terminal called ≡ false → Env (valued old value (named called)) old
unfolding named
named_env old called value other =
    first_other (λ o. Env (valued old value o) old) _ _ _ _ _ (each_found (λ o. Env (valued old value o) old) refl called (drop 4 names) (others_env old value))
    (bytes_eq (codes "ttyname") called) (bytes_eq (codes "ttytype") called) (bytes_eq (codes "lc-ctype") called) (bytes_eq (codes "lc-messages") called)
    (other_row (codes "ttyname") called refl other) (other_row (codes "ttytype") called refl other) (other_row (codes "lc-ctype") called refl other) (other_row (codes "lc-messages") called refl other)

by_name : (old : OptionValues) (called value : List ℕ) → is_of_terminal called ≡ false → Env (applied_as old called value) old
by_name old [] value other = refl
by_name old (byte ∷ more) value other = named_env old (byte ∷ more) value other

applied_env : (old : OptionValues) (text : List ℕ) → is_of_terminal (name_of text) ≡ false → Env (applied old text) old
unfolding applied
applied_env old text other = by_name old (name_of text) (option_value text) other

-- ---- requests

abbrev Unset : OptionValues → Type 0
Unset values = values.env ≡ no_words

abbrev Leaves : CacheReply → Type 0
Leaves reply = Unset reply.kept

option_unset : (answer : OptionAnswer) (after : OptionValues) → Unset after → Within (option_replies answer after) (Yields Leaves)
option_unset option.Set after unset = returned_so _ (λ held. unset)
option_unset option.Unknown after unset = refused_so _ (λ held. tt)
option_unset option.Parameter after unset = refused_so _ (λ held. tt)
option_unset option.NotSupported after unset = refused_so _ (λ held. tt)

module _ (rules : Rules) (options : OptionValues) (unset : Unset options) where
  replies_unset : (command : CacheCommand) → sets_terminal (Cache command) ≡ false → Within (CacheReplies rules options command) (Yields Leaves)
  replies_unset on.Nop is = returned_so _ (λ held. unset)
  replies_unset on.Reset is = returned_so _ (λ held. refl)
  replies_unset on.Bye is = returned_so _ (λ held. unset)
  replies_unset on.Help is = returned_so _ (λ held. unset)
  replies_unset (on.SetOption text) is = option_unset (applied options text.items).answer (applied options text.items).after (applied_env options text.items is ∙ unset)
  replies_unset (on.SetKeyDesc text) is = returned_so _ (λ held. unset)
  replies_unset (on.GetInfo what) is = yields_then Leaves (λ text. returned_so _ (λ held. unset))
  replies_unset (on.GetPassphrase plain check no_ask repeat quality id texts) is = yields_then Leaves (λ secret. yields_then Leaves (λ text. returned_so _ (λ held. unset)))
  replies_unset (on.PresetPassphrase id life secret) is = yields_then Leaves (λ stored. returned_so _ (λ held. unset))
  replies_unset (on.ClearPassphrase id mode) is = yields_then Leaves (λ changed. returned_so _ (λ held. unset))
  replies_unset (on.GetConfirmation description) is = yields_then Leaves (λ agreed. returned_so _ (λ held. unset))
  replies_unset on.ReloadAgent is = yields_then Leaves (λ changed. returned_so _ (λ held. unset))
  replies_unset on.KillAgent is = yields_then Leaves (λ changed. returned_so _ (λ held. unset))

  exchange_unset : (request : Request) → sets_terminal request ≡ false → (events : List Event) (after : OptionValues) (went : Went) → CacheExchange rules options request events after went → Unset after
  exchange_unset (Cache command) is _ _ _ (answered events held reply does closes) = (replies_unset command is).of None events (Ok reply) held does
  exchange_unset (Cache command) is _ _ _ (refused events held why does closes) = unset
  exchange_unset (Bad why) is _ _ _ (answered events held reply does closes) = (refused_so {law = Yields Leaves} (Agent why) (λ held. tt)).of None events (Ok reply) held does
  exchange_unset (Bad why) is _ _ _ (refused events held other does closes) = unset
  exchange_unset (Key line) is _ _ _ does = absurd does

described_env : (options : OptionValues) (ends : Bool) → (cond ends (without_description options) options).env ≡ options.env
described_env options true = refl
described_env options false = refl

request_unset : {rules : Rules} {before after : SessionState} (request : Request) → sets_terminal request ≡ false → Unset before.options → {events : List Event} {went : Went}
    → RequestExchange rules before request events after went → Unset after.options
request_unset {rules} {before} request is unset (cache {events} {options} {went} exchange) = exchange_unset rules before.options unset request is events options went exchange
request_unset {before} request is unset (keys exchange) = described_env before.options _ ∙ unset

-- ---- lines at the outer door

heeded : (sets : Bool) (terminal : DoorCommand) (rest : Option DoorCommand) → cond sets (Some terminal) rest ≡ None → sets ≡ false
heeded true terminal rest is = cc is
heeded false terminal rest is = refl

allowed_unset : {rules : Rules} {before after : SessionState} (line : List ℕ) {command : Option DoorCommand} → door_command Outer line ≡ command → Unset before.options → {events : List Event} {went : Went}
    → AllowedExchange rules before line command events after went → Unset after.options
allowed_unset line is unset door.helped = unset
allowed_unset line is unset door.unset = unset
allowed_unset line is unset (door.trusts exchange) = unset
allowed_unset line is unset (door.any exchange) = request_unset (request_of line) (heeded (sets_terminal (request_of line)) _ (own_to_door (command_in line)) is) unset exchange

door_unset : {rules : Rules} {before after : SessionState} (line : List ℕ) → Unset before.options → {events : List Event} {went : Went} → DoorExchange Outer rules before line events after went → Unset after.options
door_unset line unset (door.forbidden never) = unset
door_unset line unset (door.is_allowed allows exchange) = allowed_unset line refl unset exchange

pub line_unnamed : {rules : Rules} {before after : SessionState} (line : List ℕ) {events : List Event} {went : Went} → Unset before.options → DoorExchange Outer rules before line events after went
    → PromptsName no_words events × Unset after.options
line_unnamed line {events} unset exchange = (subst (λ env. PromptsName env events) unset (exchange_names exchange), door_unset line unset exchange)

-- ---- an option of the terminal

by_terminal : {rules : Rules} {before after : SessionState} {line : List ℕ} {command : Option DoorCommand} {events : List Event} {went : Went} → AllowedExchange rules before line command events after went → command ≡ Some Terminal
    → (events ≡ Sent ok ∷ []) × (after ≡ before) × (went ≡ On)
by_terminal door.helped is = cc is
by_terminal door.unset is = (refl, refl, refl)
by_terminal (door.trusts exchange) is = cc is
by_terminal (door.any exchange) is = cc is

pub option_unset_there : {rules : Rules} {before after : SessionState} (line : List ℕ) {events : List Event} {went : Went} → allowed Outer line ≡ true → sets_terminal (request_of line) ≡ true
    → DoorExchange Outer rules before line events after went → (events ≡ Sent ok ∷ []) × (after ≡ before) × (went ≡ On)
option_unset_there line allows sets (door.forbidden refuses) = absurd (cc (allows, refuses))
option_unset_there line allows sets (door.is_allowed may exchange) = by_terminal exchange (ap (λ b. cond b (Some Terminal) (own_to_door (command_in line))) sets)

-- ---- sessions

each_front : {E : Type 0} (Is : E → Type 0) (first more : List E) → AllByRecursion Is (first ++ more) → AllByRecursion Is first
each_front Is [] more each = tt
each_front Is (event ∷ first) more each = (each.0, each_front Is first more each.1)

cut_names : {events done : List Event} → CutAtLast events done → PromptsName no_words events → PromptsName no_words done
cut_names last each =
    let front = each_front (PromptNames no_words) last.before _ (subst (PromptsName no_words) last.whole each) in
    subst (PromptsName no_words) (sym last.done_is) (each_append (PromptNames no_words) last.before (Cut last.sent ∷ []) front (tt, tt))

module _ (rules : Rules) where
  either_unnamed : {before after : SessionState} (line : List ℕ) {events : List Event} {went : Went} → Unset before.options → WholeOrCut went_after (DoorExchange Outer rules before line) events after went
      → PromptsName no_words events × Unset after.options
  either_unnamed line unset (whole exchange) = line_unnamed line unset exchange
  either_unnamed line unset (cut exchange last) = let so = line_unnamed line unset exchange in (cut_names last so.0, so.1)

  talk_unnamed : {before : SessionState} {events : List Event} {end : SessionEnd} → Unset before.options → Talk (DoorExchange Outer rules) before events end → PromptsName no_words events
  talk_unnamed unset (goes_on {events} {more} line exchange later) =
      let so = either_unnamed line unset exchange in
      (tt, each_append (PromptNames no_words) events more so.0 (talk_unnamed so.1 later))
  talk_unnamed unset (over line exchange) = (tt, (either_unnamed line unset exchange).0)
  talk_unnamed unset ended = (tt, tt)
  talk_unnamed unset spent = (tt, tt)
  talk_unnamed unset read_fault = (tt, tt)
  talk_unnamed unset too_long = (tt, (tt, tt))
  talk_unnamed unset (cut_too_long last) = (tt, cut_names last (tt, tt))

  pub session_unnamed : {start : SessionState} {events : List Event} {end : SessionEnd} → Unset start.options → Session (DoorExchange Outer rules) start events end → PromptsName no_words events
  session_unnamed unset (greeted later) = (tt, talk_unnamed unset later)
  session_unnamed unset (cut_greeting last) = cut_names last (tt, tt)
