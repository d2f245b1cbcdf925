-- Whole sessions at the outer door, and what they do to the cache.
use Rattle.std.proofs.Common.{◌≡◌, ℕ, true, List, [], ◌∷◌, ◌++◌, refl, ap, sym, ◌∙◌, subst}
use Rattle.{agent_ask.specs.Session.{Answering.{WholeOrCut, whole, cut}, SessionEvents.{AnyEvent, Sent, Cut, turns_in, CutAtLast}}, agent_commands.specs.{Endings.went_after, Exchanges.CacheExchange, Requests.request_of}}
use Rattle.agent_commands.specs.{Talks.{Talk, goes_on, over, ended, spent, read_fault, too_long, cut_too_long, Session, greeted, cut_greeting}, declared.{request.Request.Request, went.{SessionEnd.SessionEnd, Went.Went}}}
use Rattle.{key_commands.specs.{Events.Event, Exchanges.KeyExchange, Requests.key_request_of}, session_options.specs.declared.rules.Rules.Rules}
use Rattle.agent_origin.specs.{DoorSessions.{AllowedExchange, helped, unset, trusts, any, DoorExchange, forbidden, is_allowed}, Doors.allowed, OuterTurns.{AreOuterTurns, no_turns, LeavesCache}}
use Rattle.agent_origin.{specs.{SessionExchanges.{RequestExchange, cache, keys}, declared.{door.Door.TheVariants.Outer, session_state.SessionState.SessionState}}, proofs.{Outer.{turns_then, leaves_then, line_leaves}, OuterKeys.{handed_line, key_leaves}}}
use Rattle.agent_origin.proofs.OuterTrust.{trust_leaves}

-- a cut exchange has the turns of the whole one
cut_turns : {T O F : Type 0} {events done : List (AnyEvent T O F)} → CutAtLast events done → turns_in done ≡ turns_in events
cut_turns last =
    ap turns_in last.done_is ∙ turns_then last.before (Cut last.sent ∷ []) ∙ sym (turns_then last.before (Sent (last.sent ++ last.unsent) ∷ [])) ∙ sym (ap turns_in last.whole)

module _ (rules : Rules) where
  request_leaves : (line : List ℕ) {before after : SessionState} (request : Request) → request_of line ≡ request → allowed Outer line ≡ true
      → {events : List Event} {went : Went} → RequestExchange rules before request events after went → LeavesCache events
  request_leaves line {before} request is allows {events} {went} (cache {options} exchanged) =
      line_leaves rules before.options options line events went allows (subst (λ (r : Request). CacheExchange rules before.options r events options went) (sym is) exchanged)
  request_leaves line {before} request is allows {events} (keys {line = handed} {wraps} {went} exchanged) =
      key_leaves rules before.options before.wraps line allows
      (subst (λ (l : List ℕ). KeyExchange rules before.options before.wraps (key_request_of l) events wraps went) (handed_line line handed is) exchanged)

  allowed_leaves : (line : List ℕ) {before after : SessionState} → allowed Outer line ≡ true → {named : _} {events : List Event} {went : Went} → AllowedExchange rules before line named events after went
      → LeavesCache events
  allowed_leaves line allows helped = no_turns
  allowed_leaves line allows unset = no_turns
  allowed_leaves line {before} allows (trusts exchanged) = trust_leaves rules before.options line allows exchanged
  allowed_leaves line allows (any exchanged) = request_leaves line (request_of line) refl allows exchanged

  exchange_leaves : {line : List ℕ} {before after : SessionState} {events : List Event} {went : Went} → DoorExchange Outer rules before line events after went → LeavesCache events
  exchange_leaves (forbidden not_allowed) = no_turns
  exchange_leaves {line} (is_allowed allows exchanged) = allowed_leaves line allows exchanged

  either_leaves : (line : List ℕ) {before after : SessionState} {events : List Event} {went : Went} → WholeOrCut went_after (DoorExchange Outer rules before line) events after went → LeavesCache events
  either_leaves line (whole exchanged) = exchange_leaves exchanged
  either_leaves line (cut exchanged last) = subst AreOuterTurns (sym (cut_turns last)) (exchange_leaves exchanged)

  talk_leaves : {before : SessionState} {events : List Event} {end : SessionEnd} → Talk (DoorExchange Outer rules) before events end → LeavesCache events
  talk_leaves (goes_on {events} {more} line exchanged later) = leaves_then events more (either_leaves line exchanged) (talk_leaves later)
  talk_leaves (over line exchanged) = either_leaves line exchanged
  talk_leaves ended = no_turns
  talk_leaves spent = no_turns
  talk_leaves read_fault = no_turns
  talk_leaves too_long = no_turns
  talk_leaves (cut_too_long last) = subst AreOuterTurns (sym (cut_turns last)) no_turns

  pub outer_leaves : {start : SessionState} {events : List Event} {end : SessionEnd} → Session (DoorExchange Outer rules) start events end → LeavesCache events
  outer_leaves (greeted later) = talk_leaves later
  outer_leaves (cut_greeting last) = subst AreOuterTurns (sym (cut_turns last)) no_turns
