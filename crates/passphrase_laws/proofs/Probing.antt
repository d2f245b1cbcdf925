-- A probe that its client cancelled takes no turn.
use Rattle.std.{specs.List.AllByRecursion, proofs.Common.{◌≡◌, ◌⊎◌, ℕ, Bool, true, false, List, [], ◌∷◌, ◌++◌, codes, Option, Some, None, Result, Ok, Err, inl, inr, refl, ap, sym, subst, ◌∙◌, append-nil}}
use Rattle.agent_ask.specs.Session.{ActionExchanges.{AnyExchange, answered, refused}, Actions.{Follows, goes_on, stops, Returns, returns, refuses, wanted}, ClientActions.{given, not_given, written, cut}, SessionEvents.{Cut, Inquiry, Sent, said_last, turns_in}, TurnActions.{Changes, Closes}}
use Rattle.{agent_commands.specs.{Actions.{AsksPassphrase, CacheEvent}, Endings.went_after, Events.Inquired, Exchanges.{CacheReplies, CacheReply, Presets, put}, declared.{request.CacheCommand.TheVariants.PresetPassphrase, went.Went.Went}}, assuan_server.specs.{Clients.session_lines, Written.refusal_line}}
use Rattle.{cache_policy.specs.declared.{life.Life.Life, mark.MarkStep.MarkStep, secret.TheConstants.MAX_SECRET_LEN}, session_client.specs.{Asking.{Asked, NotAsked, said_by}, declared.{code.Code.{Code, TheVariants.NotSupported}, refusal.Refusal.Refusal}}}
use Rattle.session_options.specs.{OptionValues.OptionValues, declared.rules.Rules.Rules}
use Rattle.agent_ask.specs.Session.SessionEvents as event
use Rattle.agent_ask.specs.Session.TurnActions as turning
use Rattle.assuan_server.specs.Inquiries as inquiry

-- no inquiry was cancelled
abbrev IsUncancelled : CacheEvent → Type 0
IsUncancelled (Inquiry word params limit (Asked inquiry.Cancelled)) = ⊥
IsUncancelled _ = Unit {0}

abbrev Uncancelled : List CacheEvent → Type 0
Uncancelled events = AllByRecursion IsUncancelled events

all_append : (first more : List CacheEvent) → Uncancelled first → Uncancelled more → Uncancelled (first ++ more)
all_append [] more one two = two
all_append (event ∷ first) more one two = (one.0, all_append first more one.1 two)

turns_none : (first more : List CacheEvent) → turns_in first ≡ [] → turns_in more ≡ [] → turns_in (first ++ more) ≡ []
turns_none [] more one two = two
turns_none (event.Received took ∷ first) more one two = turns_none first more one two
turns_none (event.Sent text ∷ first) more one two = turns_none first more one two
turns_none (event.Cut text ∷ first) more one two = turns_none first more one two
turns_none (event.Inquiry word params limit inquired ∷ first) more one two = turns_none first more one two
turns_none (event.CacheTurn taken ∷ first) more one two = absurd (cc one)
turns_none (event.Port what ∷ first) more one two = turns_none first more one two

-- no turn was taken, or nothing was cancelled
abbrev Fine : List CacheEvent → Type 0
Fine events = (turns_in events ≡ []) ⊎ Uncancelled events

fine_behind : (first more : List CacheEvent) → Fine first → turns_in more ≡ [] → Uncancelled more → Fine (first ++ more)
fine_behind first more (inl none) turns all = inl (turns_none first more none turns)
fine_behind first more (inr each) turns all = inr (all_append first more each all)

-- ---- the inquiry

uncancelled : (word params : List ℕ) (limit : ℕ) (inquired : Inquired) {bytes : List ℕ} → said_by session_lines inquired ≡ Ok bytes → IsUncancelled (Inquiry word params limit inquired)
uncancelled word params limit (Asked (inquiry.Data bytes)) is = tt
uncancelled word params limit (Asked inquiry.Cancelled) is = absurd (cc is)
uncancelled word params limit (Asked inquiry.TooMuch) is = tt
uncancelled word params limit (Asked inquiry.Unexpected) is = tt
uncancelled word params limit (Asked inquiry.Ended) is = tt
uncancelled word params limit (Asked inquiry.TooLong) is = tt
uncancelled word params limit (Asked inquiry.Spent) is = tt
uncancelled word params limit (Asked inquiry.ReadFault) is = tt
uncancelled word params limit (NotAsked text) is = tt

abbrev IfGiven : Result (List ℕ) Refusal → List CacheEvent → Type 0
IfGiven (Ok bytes) events = Uncancelled events
IfGiven (Err why) events = Unit {0}

record AsksOnce (before : Option ℕ) (events : List CacheEvent) (result : Result (List ℕ) Refusal) (after : Option ℕ) : Type 0 where
  stays : after ≡ before
  none : turns_in events ≡ []
  unless : IfGiven result events

asks_once : {before after : Option ℕ} {events : List CacheEvent} {result : Result (List ℕ) Refusal} → AsksPassphrase before events result after → AsksOnce before events result after
asks_once (goes_on written (given {inquired} says)) = record { stays = refl; none = refl; unless = (tt, (uncancelled (codes "PASSPHRASE") [] MAX_SECRET_LEN inquired says, tt)) }
asks_once (goes_on written (not_given says)) = record { stays = refl; none = refl; unless = tt }
asks_once (stops (cut unsent is)) = record { stays = refl; none = refl; unless = tt }

-- ---- the request

record IsFine (before : Option ℕ) (events : List CacheEvent) (after : Option ℕ) : Type 0 where
  stays : after ≡ before
  fine : Fine events

changes_fine : {step : MarkStep} {before after : Option ℕ} {events : List CacheEvent} {result : Result (Unit {0}) Refusal} → Changes step before events result after → (after ≡ before) × Uncancelled events
changes_fine (turning.Changes.done fits) = (refl, (tt, tt))
changes_fine (turning.Changes.interrupted fits why) = (refl, (tt, tt))

wanted_fine : (code : Code) (allowed : Bool) {before after : Option ℕ} {events : List CacheEvent} (result : Result (Unit {0}) Refusal) → wanted code allowed before events result after → (after ≡ before) × (events ≡ [])
wanted_fine code true _ returns = (refl, refl)
wanted_fine code false _ refuses = (refl, refl)

module _ (rules : Rules) (id : List ℕ) (life : Life) where
  asks_then : {before after : Option ℕ} {events : List CacheEvent} {result : Result (Unit {0}) Refusal} → Follows AsksPassphrase (λ given. Changes (put id life given)) before events result after → IsFine before events after
  asks_then (goes_on {first} {events = later} asks changes) =
      let one = asks_once asks in
      let two = changes_fine changes in record { stays = two.0 ∙ one.stays; fine = inr (all_append first later one.unless two.1) }
  asks_then (stops asks) = let one = asks_once asks in record { stays = one.stays; fine = inl one.none }

  presets_fine : {before after : Option ℕ} {events : List CacheEvent} {result : Result (Unit {0}) Refusal} → Presets rules id life None before events result after → IsFine before events after
  presets_fine (goes_on {first} {events = later} allowed rest) =
      let one = wanted_fine NotSupported rules.allow_preset _ allowed in
      let two = asks_then rest in record { stays = two.stays ∙ one.0; fine = subst (λ (f : List CacheEvent). Fine (f ++ later)) (sym one.1) two.fine }
  presets_fine (stops allowed) =
      let one = wanted_fine NotSupported rules.allow_preset _ allowed in record { stays = one.0; fine = inl (ap turns_in one.1) }

  returns_fine : {A : Type 0} {value : A} {before after : Option ℕ} {events : List CacheEvent} {result : Result A Refusal} → Returns value before events result after → (after ≡ before) × (events ≡ [])
  returns_fine returns = (refl, refl)

  module _ (values : OptionValues) where
    replies_fine : {held : Option ℕ} {events : List CacheEvent} {result : Result CacheReply Refusal} → CacheReplies rules values (PresetPassphrase id life None) None events result held → IsFine None events held
    replies_fine (goes_on {first} {events = later} presets replied) =
        let one = presets_fine presets in
        let two = returns_fine replied in
        record { stays = two.0 ∙ one.stays; fine = subst Fine (sym (ap (λ (l : List CacheEvent). first ++ l) two.1 ∙ append-nil first)) one.fine }
    replies_fine (stops presets) = presets_fine presets

    unheld_back : {held after : Option ℕ} {back : List CacheEvent} {result : Result (Unit {0}) Refusal} → Closes None held back result after → held ≡ None → back ≡ []
    unheld_back turning.Closes.unheld is = refl
    unheld_back (turning.Closes.closed turn fits) is = absurd (cc is)

    abbrev last_event : Option (List ℕ) → List CacheEvent
    last_event last = said_last last

    last_fine : (last : Option (List ℕ)) → (turns_in (last_event last) ≡ []) × Uncancelled (last_event last)
    last_fine None = (refl, tt)
    last_fine (Some line) = (refl, (tt, tt))

    pub probe_fine : {events : List CacheEvent} {after : OptionValues} {went : Went} → AnyExchange refusal_line went_after (CacheReplies rules values (PresetPassphrase id life None)) values events after went → Fine events
    probe_fine (answered events held reply {back} does given_back) =
        let is = replies_fine does in
        subst (λ (b : List CacheEvent). Fine (events ++ (b ++ Sent reply.text ∷ []))) (sym (unheld_back given_back is.stays)) (fine_behind events (Sent reply.text ∷ []) is.fine refl (tt, tt))
    probe_fine (refused events held why {back} does given_back) =
        let is = replies_fine does in
        let last = last_fine (refusal_line why) in
        subst (λ (b : List CacheEvent). Fine (events ++ (b ++ said_last (refusal_line why)))) (sym (unheld_back given_back is.stays)) (fine_behind events (said_last (refusal_line why)) is.fine last.0 last.1)

one_at : (before : List CacheEvent) (event : CacheEvent) (later : List CacheEvent) → Uncancelled (before ++ event ∷ later) → IsUncancelled event
one_at [] event later each = each.0
one_at (first ∷ before) event later each = one_at before event later each.1

pub cancelled_is_turnless : (before later : List CacheEvent) (word params : List ℕ) (limit : ℕ) {events : List CacheEvent} → Fine events → events ≡ before ++ Inquiry word params limit (Asked inquiry.Cancelled) ∷ later → turns_in events ≡ []
cancelled_is_turnless before later word params limit (inl none) is = none
cancelled_is_turnless before later word params limit (inr each) is =
    absurd (one_at before (Inquiry word params limit (Asked inquiry.Cancelled)) later (subst Uncancelled is each))
