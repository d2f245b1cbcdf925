-- A session ends where a line of its client's was too long, and its client is told so exactly where it ends by that.
use Rattle.std.{specs.List.AllByRecursion, proofs.Common.{◌≡◌, ◌∙◌, ◌++◌, ◌⊎◌, ℕ, List, [], ◌∷◌, Option, None, Some, codes, arith, refl, sym, ap, subst, inl, inr}}
use Rattle.{agent_ask.specs.Session.{Answering.{whole, cut}, SessionEvents.{Received, Sent, Cut, CutAtLast}}, agent_commands.specs.{Requests.request_of, Endings.end_of, Talks.{Talk, Session}, declared.request.Request.{Request, TheVariants.Key}}}
use Rattle.agent_commands.specs.declared.went.{SessionEnd.{SessionEnd, TheVariants.{Bye, Killed, Ended, TooLong, Spent, ReadFault, WriteFault}}, Went.{Went, TheVariants.{On, End}}}
use Rattle.agent_origin.specs.{DoorSessions.{AllowedExchange, DoorExchange}, TrustExchanges.TrustExchange, TrustRequests.trust_command, SessionExchanges.{RequestExchange, cache, keys, went_after_key}, declared.door.Door.Door}
use Rattle.{agent_origin.specs.declared.session_state.SessionState.SessionState, command_table.specs.{Commands.command_in, declared.commands.TrustCommandName.TrustCommandName}, assuan_server.specs.{Errors.error_text, Written.greeting}}
use Rattle.{assuan_server.specs.declared.errors.Origin.TheVariants.Agent, assuan_text.specs.LineEnds.line_of, key_commands.specs.Events.Event, session_client.specs.declared.client_error.Gone.Gone}
use Rattle.session_options.specs.declared.rules.Rules.{Rules}
use Rattle.agent_session.specs.{Causes.{Has, here, later, IsSaid, said}, Completeness.{AnswersNothing, AnswersAtLast, IsAnsweredBy, HasError, Exchanges, CausedInSession, CausedAtDoor}, DoorCauses.IsCausedBy}
use Rattle.agent_session.{specs.Exactly.{WasTooLong, at_read, at_inquiry, EndsTooLong}, proofs.{Courses.{CacheCourses.cache_gone, Courses.heard_so, KeyCourses.key_gone}, DoorAnswering.because, Causes.ErrorLines.{no_reply, no_status}}}
use Rattle.agent_session.proofs.{Causes.{Explained.has_split, Replying.begins}, Decisions.{ExactEnds.{refusal_told, end_told}, TrustGone.trust_gone, TrustTold.{Told, told}}, Standing.{has_left, has_right, each_has}}
use Rattle.agent_commands.specs.Talks as talks
use Rattle.agent_origin.specs.DoorSessions as doors
use Rattle.assuan_line.specs.declared.reader.Took.TheVariants as took
use Rattle.session_client.specs.declared.code.Code.TheVariants as code
use Rattle.session_client.specs.declared.client_error.Gone.TheVariants as gone
use Rattle.session_client.specs.declared.client_error.ClientError.TheVariants as client_error
use Rattle.agent_session.specs.Completeness as answers
use Rattle.agent_session.proofs.Decisions.TrustTold as telling

-- ---- lists

abbrev long_line : Event
long_line = Sent (line_of (error_text code.LineTooLong Agent))

first_or_later : {event first : Event} {more : List Event} → Has event (first ∷ more) → (event ≡ first) ⊎ Has event more
first_or_later here = inl refl
first_or_later (later has) = inr has

-- the last of a list is the last of the same
snoc_front : (first second : List Event) (last other : Event) → first ++ last ∷ [] ≡ second ++ other ∷ [] → first ≡ second
snoc_front [] [] last other is = refl
snoc_front [] (event ∷ []) last other is = absurd (cc is)
snoc_front [] (event ∷ next ∷ second) last other is = absurd (cc is)
snoc_front (event ∷ []) [] last other is = absurd (cc is)
snoc_front (event ∷ next ∷ first) [] last other is = absurd (cc is)
snoc_front (event ∷ first) (again ∷ second) last other is =
    let same : event ≡ again = cc is in
    let rest : first ++ last ∷ [] ≡ second ++ other ∷ [] = cc is in
    ap (λ e. e ∷ first) same ∙ ap (λ l. again ∷ l) (snoc_front first second last other rest)

-- ---- events that answer nothing

nothing_long : (events : List Event) → AllByRecursion AnswersNothing events → Has long_line events → ⊥
nothing_long events each has = no_status code.LineTooLong Agent (each_has AnswersNothing events each has)

nothing_read : (events : List Event) → AllByRecursion AnswersNothing events → Has (Received took.TooLong) events → ⊥
nothing_read events each has = each_has AnswersNothing events each has

at_last_read : {events : List Event} → AnswersAtLast events → Has (Received took.TooLong) events → ⊥
at_last_read {events} at_last has = elim (has_split at_last.before (Sent at_last.text ∷ []) (subst (λ e. Has (Received took.TooLong) e) at_last.is has)) [
  | inl before ↦ nothing_read at_last.before at_last.nothing_before before
  | inr (later none) ↦ elim none [ ]
]

at_last_long : {events : List Event} (front : List Event) (last : Event) → AnswersAtLast events → events ≡ front ++ last ∷ [] → Has long_line front → ⊥
at_last_long front last at_last is has =
    nothing_long at_last.before at_last.nothing_before (subst (λ f. Has long_line f) (snoc_front front at_last.before last (Sent at_last.text) (sym is ∙ at_last.is)) has)

-- in an exchange no request is read, and nothing before its last event says that a line was too long
none_read : (went : Went) {events : List Event} → IsAnsweredBy went events → Has (Received took.TooLong) events → ⊥
none_read On answered has = at_last_read answered has
none_read (End Bye) answered has = at_last_read answered has
none_read (End Killed) answered has = at_last_read answered has
none_read (End TooLong) answered has = at_last_read answered has
none_read (End Ended) answered has = nothing_read _ answered.0 has
none_read (End Spent) answered has = nothing_read _ answered.0 has
none_read (End ReadFault) answered has = nothing_read _ answered.0 has
none_read (End WriteFault) answered has = nothing_read _ answered has

none_long : (went : Went) {events : List Event} (front : List Event) (last : Event) → IsAnsweredBy went events → events ≡ front ++ last ∷ [] → Has long_line front → ⊥
none_long On front last answered is has = at_last_long front last answered is has
none_long (End Bye) front last answered is has = at_last_long front last answered is has
none_long (End Killed) front last answered is has = at_last_long front last answered is has
none_long (End TooLong) front last answered is has = at_last_long front last answered is has
none_long (End Ended) front last answered is has = nothing_long _ answered.0 (subst (λ e. Has long_line e) (sym is) (has_left _ has))
none_long (End Spent) front last answered is has = nothing_long _ answered.0 (subst (λ e. Has long_line e) (sym is) (has_left _ has))
none_long (End ReadFault) front last answered is has = nothing_long _ answered.0 (subst (λ e. Has long_line e) (sym is) (has_left _ has))
none_long (End WriteFault) front last answered is has = nothing_long _ answered (subst (λ e. Has long_line e) (sym is) (has_left _ has))

-- ---- sessions

-- what a relation of exchanges has to satisfy
pub record EndsLong (relation : Exchanges) : Type 0 where
  pub answered : {before after : SessionState} {line : List ℕ} {events : List Event} {went : Went} → relation before line events after went → IsAnsweredBy went events
  pub ends : {before after : SessionState} {line : List ℕ} {events : List Event} {went : Went} → relation before line events after went → IsSaid events (client_error.Gone gone.TooLong) → went ≡ End TooLong
  pub told : {before after : SessionState} {line : List ℕ} {events : List Event} {went : Went} → relation before line events after went → went ≡ End TooLong → Has long_line events
  pub caused : {before after : SessionState} {line : List ℕ} {events : List Event} {went : Went} → relation before line events after went → Has long_line events → IsSaid events (client_error.Gone gone.TooLong)

was_more : (first : List Event) {more : List Event} → WasTooLong more → WasTooLong (first ++ more)
was_more first (at_read has) = at_read (has_right first has)
was_more first (at_inquiry (said says has)) = at_inquiry (said says (has_right first has))

was_split : (first : List Event) {more : List Event} → WasTooLong (first ++ more) → WasTooLong first ⊎ WasTooLong more
was_split first {more} (at_read has) = elim (has_split first more has) [ inl before ↦ inl (at_read before) | inr behind ↦ inr (at_read behind) ]
was_split first {more} (at_inquiry (said says has)) = elim (has_split first more has) [ inl before ↦ inl (at_inquiry (said says before)) | inr behind ↦ inr (at_inquiry (said says behind)) ]

-- another event, by which no line was too long and its client isn't told so
module _ (event : Event) (no_read : event ≡ Received took.TooLong → ⊥) (heard : IsSaid (event ∷ []) (client_error.Gone gone.TooLong) → ⊥) (untold : long_line ≡ event → ⊥) where
  behind_event : {more : List Event} {end : SessionEnd} → EndsTooLong more end → EndsTooLong (event ∷ more) end
  behind_event {more} {end} long = record {
    ends = λ was. elim (was_split (event ∷ []) was) [ inl first ↦ absurd (no_first first) | inr behind ↦ long.ends behind ];
    was = λ is. was_more (event ∷ []) (long.was is);
    told = λ is. later (long.told is);
    told_alone = λ has. elim (first_or_later has) [ inl same ↦ absurd (untold same) | inr behind ↦ long.told_alone behind ];
  }
    where
      no_first : WasTooLong (event ∷ []) → ⊥
      no_first (at_read has) = elim (first_or_later has) [ inl same ↦ no_read (sym same) | inr none ↦ absurd (elim none [ ]) ]
      no_first (at_inquiry says) = heard says

received : {more : List Event} {end : SessionEnd} (line : List ℕ) → EndsTooLong more end → EndsTooLong (Received (took.Line line) ∷ more) end
received line = behind_event (Received (took.Line line)) (λ is. absurd (cc is)) (heard_so _ (refl, tt)) (λ is. absurd (cc is))

-- a line that was too long, whose answer couldn't be written
behind_write : {done : List Event} → EndsTooLong done WriteFault → EndsTooLong (Received took.TooLong ∷ done) WriteFault
behind_write long = record { ends = λ was. inr refl; was = λ is. absurd (cc is); told = λ is. absurd (cc is); told_alone = λ has. long.told_alone (behind has) }
  where
    behind : {done : List Event} → Has long_line (Received took.TooLong ∷ done) → Has long_line done
    behind (later has) = has

-- by a write that failed it ends otherwise
fault_ends : {events : List Event} → (Has long_line events → ⊥) → EndsTooLong events WriteFault
fault_ends untold = record { ends = λ was. inr refl; was = λ is. absurd (cc is); told = λ is. absurd (cc is); told_alone = λ has. absurd (untold has) }

cut_untold : {events done : List Event} → ((front : List Event) (last : Event) → events ≡ front ++ last ∷ [] → Has long_line front → ⊥) → CutAtLast events done → Has long_line done → ⊥
cut_untold none last has = elim (has_split last.before (Cut last.sent ∷ []) (subst (λ d. Has long_line d) last.done_is has)) [
  | inl before ↦ none last.before _ last.whole before
  | inr (later no_more) ↦ elim no_more [ ]
]

one_untold : {event : Event} (front : List Event) (last : Event) → event ∷ [] ≡ front ++ last ∷ [] → Has long_line front → ⊥
one_untold {event} front last is has = elim (subst (λ f. Has long_line f) (snoc_front front [] last event (sym is)) has) [ ]

untold_greeting : long_line ≡ Sent (line_of greeting) → ⊥
untold_greeting is =
    no_reply code.LineTooLong Agent (begins (λ e. omega (arith, e)) (record { before = []; asides = answers.none; rest = codes " Pleased to meet you"; is = refl; one_line = refl })) (cc is)

-- nothing, by whatever end but that
none_long_ends : {end : SessionEnd} → (end ≡ TooLong → ⊥) → EndsTooLong [] end
none_long_ends other = record { ends = λ was. absurd (none_was was); was = λ is. absurd (other is); told = λ is. absurd (other is); told_alone = λ has. elim has [ ] }
  where
    none_was : WasTooLong [] → ⊥
    none_was (at_read has) = elim has [ ]
    none_was (at_inquiry says) = heard_so [] tt says

module _ {relation : Exchanges} (long : EndsLong relation) where
  whole_long : {before after : SessionState} {line : List ℕ} {events : List Event} {end : SessionEnd} → relation before line events after (End end) → EndsTooLong events end
  whole_long {events} {end} exchanged = record {
    ends = λ was. inl (ended (ends_by was));
    was = λ is. at_inquiry (long.caused exchanged (long.told exchanged (ap End is)));
    told = λ is. long.told exchanged (ap End is);
    told_alone = λ has. ended (long.ends exchanged (long.caused exchanged has));
  }
    where
      ended : End end ≡ End TooLong → end ≡ TooLong
      ended is = cc is

      ends_by : WasTooLong events → End end ≡ End TooLong
      ends_by (at_read has) = absurd (none_read (End end) (long.answered exchanged) has)
      ends_by (at_inquiry says) = long.ends exchanged says

  on_long : {before after : SessionState} {line : List ℕ} {events more : List Event} {end : SessionEnd} → relation before line events after On → EndsTooLong more end → EndsTooLong (events ++ more) end
  on_long {events} {more} exchanged rest = record {
    ends = λ was. elim (was_split events was) [ inl first ↦ absurd (not_first first) | inr behind ↦ rest.ends behind ];
    was = λ is. was_more events (rest.was is);
    told = λ is. has_right events (rest.told is);
    told_alone = λ has. elim (has_split events more has) [ inl first ↦ absurd (goes_on (long.ends exchanged (long.caused exchanged first))) | inr behind ↦ rest.told_alone behind ];
  }
    where
      goes_on : On ≡ End TooLong → ⊥
      goes_on is = cc is

      not_first : WasTooLong events → ⊥
      not_first (at_read has) = none_read On (long.answered exchanged) has
      not_first (at_inquiry says) = goes_on (long.ends exchanged says)

  talk_long : {before : SessionState} {events : List Event} {end : SessionEnd} → Talk relation before events end → EndsTooLong events end
  talk_long (talks.goes_on line (whole exchanged) talk) = received line (on_long exchanged (talk_long talk))
  talk_long (talks.over line (whole exchanged)) = received line (whole_long exchanged)
  talk_long (talks.over line (cut {went} exchanged last)) = received line (fault_ends (cut_untold (λ front event is. none_long went front event (long.answered exchanged) is) last))
  talk_long talks.ended = behind_event _ (λ is. absurd (cc is)) (heard_so _ (refl, tt)) (λ is. absurd (cc is)) (none_long_ends (λ is. absurd (cc is)))
  talk_long talks.spent = behind_event _ (λ is. absurd (cc is)) (heard_so _ (refl, tt)) (λ is. absurd (cc is)) (none_long_ends (λ is. absurd (cc is)))
  talk_long talks.read_fault = behind_event _ (λ is. absurd (cc is)) (heard_so _ (refl, tt)) (λ is. absurd (cc is)) (none_long_ends (λ is. absurd (cc is)))
  talk_long talks.too_long = record { ends = λ was. inl refl; was = λ is. at_read here; told = λ is. later here; told_alone = λ has. refl }
  talk_long (talks.cut_too_long last) = behind_write (fault_ends (cut_untold one_untold last))

  pub long_session : {before : SessionState} {events : List Event} {end : SessionEnd} → Session relation before events end → EndsTooLong events end
  long_session (talks.greeted talk) = behind_event (Sent (line_of greeting)) (λ is. absurd (cc is)) (heard_so _ (refl, tt)) untold_greeting (talk_long talk)
  long_session (talks.cut_greeting last) = fault_ends (cut_untold one_untold last)

-- ---- exchanges

request_gone : {rules : Rules} {before after : SessionState} {events : List Event} {went : Went} {how : Gone} (request : Request) → RequestExchange rules before request events after went → IsSaid events (client_error.Gone how)
    → went ≡ End (end_of how)
request_gone {rules} {before} {events} request (cache {options} exchange) says = cache_gone rules before.options options events _ request exchange says
request_gone {rules} {before} (Key line) (keys exchange) says = ap went_after_key (key_gone (Key line) rules before.options before.wraps refl exchange says)

allowed_gone : {rules : Rules} {before after : SessionState} {line : List ℕ} {command : _} {events : List Event} {went : Went} {how : Gone} → AllowedExchange rules before line command events after went
    → IsSaid events (client_error.Gone how) → went ≡ End (end_of how)
allowed_gone doors.helped says = absurd (heard_so _ (refl, tt) says)
allowed_gone doors.unset says = absurd (heard_so _ (refl, tt) says)
allowed_gone (doors.trusts exchanged) says = trust_gone _ _ _ exchanged says
allowed_gone {line} (doors.any exchanged) says = request_gone (request_of line) exchanged says

door_gone : {door : Door} {rules : Rules} {before after : SessionState} {line : List ℕ} {events : List Event} {went : Went} {how : Gone} → DoorExchange door rules before line events after went
    → IsSaid events (client_error.Gone how) → went ≡ End (end_of how)
door_gone (doors.forbidden refuses) says = absurd (heard_so _ (refl, tt) says)
door_gone (doors.is_allowed allows exchanged) says = allowed_gone exchanged says

line_told : (rules : Rules) (options : _) (request : _) {events : List Event} {went : Went} → Told rules options request events went → went ≡ End TooLong → Has long_line events
line_told rules options request (telling.answered some back does closes) is = absurd (cc is)
line_told rules options request (telling.refused some back why does closes) is = refusal_told some back why is

trust_told : (rules : Rules) (options : _) (request : _) {events : List Event} {went : Went} → TrustExchange rules options request events went → went ≡ End TooLong → Has long_line events
trust_told rules options request exchanged = line_told rules options request (told rules options request exchanged)

allowed_told : {rules : Rules} {before after : SessionState} {line : List ℕ} {command : _} {events : List Event} {went : Went} → AllowedExchange rules before line command events after went → went ≡ End TooLong
    → Has long_line events
allowed_told doors.helped is = absurd (cc is)
allowed_told doors.unset is = absurd (cc is)
allowed_told (doors.trusts exchanged) is = trust_told _ _ _ exchanged is
allowed_told (doors.any exchanged) is = end_told exchanged is

door_told : {door : Door} {rules : Rules} {before after : SessionState} {line : List ℕ} {events : List Event} {went : Went} → DoorExchange door rules before line events after went → went ≡ End TooLong → Has long_line events
door_told (doors.forbidden refuses) is = absurd (cc is)
door_told (doors.is_allowed allows exchanged) is = allowed_told exchanged is

said_by_command : (rules : Rules) (before : SessionState) (line : List ℕ) {events : List Event} (found : Option TrustCommandName) → IsCausedBy rules before line events found code.LineTooLong Agent
    → IsSaid events (client_error.Gone gone.TooLong)
said_by_command rules before line None cause = cause
said_by_command rules before line (Some found) cause = cause

pub session_long : (rules : Rules) → EndsLong (CausedInSession rules)
session_long rules = record {
  answered = λ {before} {after} {line} {events} {went} caused. caused.answered;
  ends = λ {before} {after} {line} {events} {went} caused says. request_gone (request_of line) caused.exchange says;
  told = λ {before} {after} {line} {events} {went} caused is. end_told caused.exchange is;
  caused = λ {before} {after} {line} {events} {went} caused has. caused.caused code.LineTooLong Agent has;
}

pub door_long : (door : Door) (rules : Rules) → EndsLong (CausedAtDoor door rules)
door_long door rules = record {
  answered = λ {before} {after} {line} {events} {went} caused. caused.by_cause.answered;
  ends = λ {before} {after} {line} {events} {went} caused says. door_gone caused.by_cause.exchange says;
  told = λ {before} {after} {line} {events} {went} caused is. door_told caused.by_cause.exchange is;
  caused = λ {before} {after} {line} {events} {went} caused has.
      said_by_command rules before line (trust_command (command_in line)) (because rules before line events door code.LineTooLong (λ e. absurd (cc e)) (caused.by_cause.caused code.LineTooLong Agent has));
}
