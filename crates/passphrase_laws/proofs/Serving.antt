-- What a session of this agent writes for the lines that it was said.
use Rattle.std.{specs.List.AllByRecursion, proofs.{Common.{◌≡◌, ℕ, List, [], ◌∷◌, ◌++◌, Option, Some, None, refl, ap, sym, subst, ◌∙◌, append-nil, append_assoc}, lemmas.List.Concat.flat_map-append}}
use Rattle.{agent_ask.specs.{Session.{Answering.{whole, cut}, SessionEvents.{Sent, CutAtLast}, Worlds.{Does, Outside}}, Events.Call}, agent_commands.specs.{Exchanges.LineExchange, Actions.CacheEvent, Requests.request_of}}
use Rattle.{agent_commands.specs.{Talks.{Session, Talk}, declared.{request.{CacheCommand.CacheCommand, Request.TheVariants.Cache}, went.{SessionEnd.SessionEnd, Went.{Went, TheVariants.{End, On}}}}}, agent_origin.specs.PortStates.PortWorld}
use Rattle.{agent_origin.specs.{SessionExchanges.kept_at_start, declared.session_state.SessionState.SessionState}, agent_session.specs.{Completeness.Exchanges, OwnPassphrases.Served}, agent_ports.specs.{Leads.Leads, Sides.with_bytes}}
use Rattle.{assuan_line.specs.declared.reader.Took.TheVariants.Line, assuan_server.specs.{Reading.Supply, Written.greeting}, assuan_text.specs.LineEnds.line_of, cache_policy.specs.{Turns.Turn, declared.mark.MarkStep.MarkStep}}
use Rattle.session_options.specs.{OptionValues.OptionValues, declared.rules.Rules.Rules}
use Rattle.passphrase_laws.{specs.{Exchanges.{text_of, texts_of}, Roads.{AreReplies, IsWhole, session_text}, Served.{IsNext, IsPassed, IsReply, Passes, Serves, lines_read}}, proofs.{Passing.{IsPlain, on_cache}, Texts.{whole_at, whole_behind, whole_front}}}
use Rattle.agent_ask.specs.Session.SessionEvents as event
use Rattle.agent_ask.specs.Session.Worlds as does
use Rattle.agent_commands.specs.Talks as talks
use Rattle.agent_ports.specs.Leads as leads
use Rattle.agent_session.specs.OwnPassphrases as answering
use Rattle.passphrase_laws.specs.Roads as road
use Rattle.passphrase_laws.specs.Served as served

abbrev Whole : List CacheEvent → Type 0
Whole events = AllByRecursion IsWhole events

-- no write failed
uncut : {events done : List CacheEvent} → CutAtLast events done → Whole done → ⊥
uncut last each = whole_at last.before (event.Cut last.sent) [] (subst (λ (e : List CacheEvent). Whole e) last.done_is each)

next_read : {exchange : Exchanges} {kept : SessionState} {events : List CacheEvent} {end : SessionEnd} → Talk exchange kept events end → IsNext events
next_read (talks.goes_on line exchange talk) = served.reads
next_read (talks.over line exchange) = served.reads
next_read talks.ended = served.reads
next_read talks.spent = served.reads
next_read talks.read_fault = served.reads
next_read talks.too_long = served.reads
next_read (talks.cut_too_long last) = served.reads

module _ (rules : Rules) (exchange : Exchanges) (line : List ℕ) (more_lines : List (List ℕ)) (command : CacheCommand) (is : request_of line ≡ Cache command) (plain : IsPlain rules exchange line) where
  -- what is done from some place of a session on, where this is kept
  record Reached (options : List (List ℕ)) (start : SessionState) (events : List CacheEvent) : Type 0 where
    front : List CacheEvent
    kept : SessionState
    answered : Served rules exchange start front kept
    options_are : lines_read front ≡ options
    replies : List ℕ
    are_replies : AreReplies options replies
    front_texts : texts_of front ≡ replies
    mode_is : kept.options.mode ≡ start.options.mode
    own : List CacheEvent
    after : OptionValues
    went : Went
    exchanges : LineExchange rules kept.options line own after went
    is_whole : Whole own
    later : List CacheEvent
    next : IsNext later
    at : events ≡ front ++ event.Received (Line line) ∷ (own ++ later)

  at_request : {kept after : SessionState} {said : List ℕ} {events : List CacheEvent} {went : Went} → exchange kept said events after went → said ≡ line → Whole events → (more : List CacheEvent) → IsNext more
      → Reached [] kept (event.Received (Line said) ∷ (events ++ more))
  at_request {kept} {after} {events = events} {went} exchanged same each more next = record {
    front = [];
    kept = kept;
    answered = answering.none;
    options_are = refl;
    replies = [];
    are_replies = road.none;
    front_texts = refl;
    mode_is = refl;
    own = events;
    after = after.options;
    went = went;
    exchanges = on_cache is (plain kept after events went (subst (λ (l : List ℕ). exchange kept l events after went) same exchanged));
    is_whole = each;
    later = more;
    next = next;
    at = ap (λ (l : List ℕ). event.Received (Line l) ∷ (events ++ more)) same;
  }

  behind_option : {option said : List ℕ} {options : List (List ℕ)} {kept after : SessionState} {events more : List CacheEvent} → exchange kept said events after On → said ≡ option
      → Passes kept.options events after.options On → Reached options after more → Reached (option ∷ options) kept (event.Received (Line said) ∷ (events ++ more))
  behind_option {option} {said} {options} {events = events} {more} exchanged same passes rest = record {
    front = event.Received (Line said) ∷ (events ++ rest.front);
    kept = rest.kept;
    answered = answering.one_more said exchanged rest.answered;
    options_are =
        ap (λ (e : List CacheEvent). said ∷ lines_read (e ++ rest.front)) passes.events_are ∙ ap (λ (l : List (List ℕ)). said ∷ l) rest.options_are
        ∙ ap (λ (l : List ℕ). l ∷ options) same;
    replies = passes.reply ++ rest.replies;
    are_replies = by_reply passes.is_reply;
    front_texts = ap (λ (e : List CacheEvent). texts_of (e ++ rest.front)) passes.events_are ∙ ap (λ (t : List ℕ). passes.reply ++ t) rest.front_texts;
    mode_is = rest.mode_is ∙ passes.mode;
    own = rest.own;
    after = rest.after;
    went = rest.went;
    exchanges = rest.exchanges;
    is_whole = rest.is_whole;
    later = rest.later;
    next = rest.next;
    at =
        ap (λ (e : List CacheEvent). event.Received (Line said) ∷ (events ++ e)) rest.at
        ∙ ap (λ (e : List CacheEvent). event.Received (Line said) ∷ e) (sym (append_assoc events rest.front (event.Received (Line line) ∷ (rest.own ++ rest.later))));
  }
    where
      by_reply : {reply : List ℕ} → IsReply reply → AreReplies (option ∷ options) (reply ++ rest.replies)
      by_reply served.taken = road.taken option rest.are_replies
      by_reply (served.refused why origin) = road.refused option why origin rest.are_replies

  reach : (options : List (List ℕ)) → AllByRecursion (IsPassed exchange) options → {kept : SessionState} {events : List CacheEvent} {end : SessionEnd} → Talk exchange kept events end
      → lines_read events ≡ options ++ line ∷ more_lines → Whole events → Reached options kept events
  reach [] pass (talks.goes_on {events} {more} said (whole exchanged) talk) reads each = at_request exchanged (cc reads) (whole_front events more each.1) more (next_read talk)
  reach [] pass {kept} (talks.over {events} said (whole exchanged)) reads each =
      subst (λ (e : List CacheEvent). Reached [] kept (event.Received (Line said) ∷ e)) (append-nil events) (at_request exchanged (cc reads) each.1 [] served.over)
  reach (option ∷ options) pass {kept} (talks.goes_on {after} {events} {more} said (whole exchanged) talk) reads each =
      let passes = pass.0 kept after events On (subst (λ (l : List ℕ). exchange kept l events after On) (cc reads) exchanged) in
      let later : lines_read (events ++ more) ≡ options ++ line ∷ more_lines = cc reads in
      behind_option exchanged (cc reads) passes
      (reach options pass.1 talk (sym (ap (λ (e : List CacheEvent). lines_read (e ++ more)) passes.events_are) ∙ later) (whole_behind events more each.1))
  reach (option ∷ options) pass {kept} (talks.over {after} {events} {end} said (whole exchanged)) reads each =
      let passes = pass.0 kept after events (End end) (subst (λ (l : List ℕ). exchange kept l events after (End end)) (cc reads) exchanged) in
      let goes : End end ≡ On = passes.goes_on in absurd (cc goes)
  reach options pass (talks.over said (cut exchanged last)) reads each = absurd (uncut last each.1)
  reach [] pass talks.ended reads each = absurd (cc reads)
  reach [] pass talks.spent reads each = absurd (cc reads)
  reach [] pass talks.read_fault reads each = absurd (cc reads)
  reach [] pass talks.too_long reads each = absurd (cc reads)
  reach (option ∷ options) pass talks.ended reads each = absurd (cc reads)
  reach (option ∷ options) pass talks.spent reads each = absurd (cc reads)
  reach (option ∷ options) pass talks.read_fault reads each = absurd (cc reads)
  reach (option ∷ options) pass talks.too_long reads each = absurd (cc reads)
  reach options pass (talks.cut_too_long last) reads each = absurd (uncut last each.1)

  pub serves : (options : List (List ℕ)) → AllByRecursion (IsPassed exchange) options → {events : List CacheEvent} {end : SessionEnd} → Session exchange (kept_at_start rules) events end
      → lines_read events ≡ options ++ line ∷ more_lines → Whole events → Serves rules exchange options line events
  serves options pass (talks.greeted talk) reads each =
      let it = reach options pass talk reads each.1 in record {
        front = it.front;
        kept = it.kept;
        answered = it.answered;
        options_are = it.options_are;
        replies = it.replies;
        are_replies = it.are_replies;
        mode = it.mode_is;
        own = it.own;
        after = it.after;
        went = it.went;
        exchanges = it.exchanges;
        whole = it.is_whole;
        later = it.later;
        next = it.next;
        at = ap (λ (e : List CacheEvent). event.Sent (line_of greeting) ∷ e) it.at;
        writes = ap (λ (e : List CacheEvent). line_of greeting ++ texts_of e) it.at ∙ writes_so it.front it.own it.later it.front_texts;
      }
    where
      writes_so : (front own later : List CacheEvent) {replies : List ℕ} → texts_of front ≡ replies
          → line_of greeting ++ texts_of (front ++ event.Received (Line line) ∷ (own ++ later)) ≡ session_text replies own ++ texts_of later
      writes_so front own later {replies} are =
          ap (λ (t : List ℕ). line_of greeting ++ t)
          (flat_map-append text_of front (event.Received (Line line) ∷ (own ++ later)) ∙ ap (λ (t : List ℕ). texts_of front ++ t) (flat_map-append text_of own later)
          ∙ ap (λ (t : List ℕ). t ++ (texts_of own ++ texts_of later)) are ∙ sym (append_assoc replies (texts_of own) (texts_of later)))
          ∙ sym (append_assoc (line_of greeting) (replies ++ texts_of own) (texts_of later))
  serves options pass (talks.cut_greeting last) reads each = absurd (uncut last each)

-- ---- the bytes

with_nothing : (bytes : Option (List ℕ)) → with_bytes bytes [] ≡ bytes
with_nothing None = refl
with_nothing (Some bytes) = ap (λ (b : List ℕ). Some b) (append-nil bytes)

with_both : (bytes : Option (List ℕ)) (first more : List ℕ) → with_bytes (with_bytes bytes first) more ≡ with_bytes bytes (first ++ more)
with_both None first more = refl
with_both (Some bytes) first more = ap (λ (b : List ℕ). Some b) (append_assoc bytes first more)

module _ {D P : Type 0} (turned : D → MarkStep → Turn → D → Type 0) (prompted : P → Call → P → Type 0) (supply : Supply) where
  event_written : {before after : Outside (PortWorld turned prompted)} {event : CacheEvent} → Does (PortWorld turned prompted) supply before event after
      → after.output ≡ with_bytes before.output (text_of event)
  event_written {before} (does.received reads needs) = sym (with_nothing before.output)
  event_written does.sent = refl
  event_written does.cut = refl
  event_written (does.asked reads needs) = refl
  event_written (does.not_asked unsent split) = refl
  event_written {before} (does.turned turns) = sym (with_nothing before.output)
  event_written {before} (does.ported changes) = sym (with_nothing before.output)

  -- what was written behind a session's events is theirs
  pub written : {before after : Outside (PortWorld turned prompted)} {events : List CacheEvent} → Leads (Does (PortWorld turned prompted) supply) before events after
      → after.output ≡ with_bytes before.output (texts_of events)
  written {before} leads.none = sym (with_nothing before.output)
  written {before} (leads.one {event = first} {more} does_first later) =
      written later ∙ ap (λ (o : Option (List ℕ)). with_bytes o (texts_of more)) (event_written does_first) ∙ with_both before.output (text_of first) (texts_of more)
