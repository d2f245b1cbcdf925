-- A dialogue with a session, from its greeting to what is told of it.
use Rattle.std.{specs.List.AllByRecursion, proofs.{Common.{◌≡◌, ◌≢◌, ℕ, ◌≤◌, Bool, false, List, [], ◌∷◌, ◌++◌, length, Option, Some, None, Result, Ok, Err, refl, ap, sym, subst, ◌∙◌, arith, append_assoc, append-nil}, lemmas.Bool.false≢true}}
use Rattle.std.proofs.lemmas.List.Concat.{flat_map-append}
use Rattle.{agent_ask.specs.Session.SessionEvents.{Sent, said_last}, agent_commands.specs.Actions.CacheEvent, agent_ports.specs.Sides.followed_by, assuan_client.specs.{Connections.Connection, Skipping.nothing}}
use Rattle.{assuan_client.specs.declared.answer.Answer.Answer, assuan_line.specs.Next.{Reader, held}, assuan_server.specs.{Errors.{error_text, error_number}, Written.{greeting, ok, refusal_line}}, assuan_text.specs.LineEnds.line_of}
use Rattle.passphrase_talk.specs.{Dialogues.{Requests, IsDialogue, stopped, goes_on, requested, not_greeted, greeted, told_of, loss_of, passed, is_ok}, Turns.{Hello, OptionLine, Turn, turn_of, AreTaken, one}, Visits.Talk}
use Rattle.{passphrase_talk.specs.declared.{told.Told.Told, visits.TheConstants.BUDGET}, session_client.specs.declared.refusal.Refusal.Refusal}
use Rattle.passphrase_laws.{specs.{Exchanges.{TellsLast, gone, IsSilent, Notes, texts_of, text_of}, Readings.Comes, Roads.{IsWhole, AreReplies, session_text, Hears}}, proofs.Finding.{ComesTo, is_found}}
use Rattle.passphrase_laws.proofs.{Hearing.{Takes, takes, no_read, no_write, by_finds, begun, command_takes, front, rest, IsLast, last_is, requested_hears}, Replying.{error_comes, ok_comes, greeting_comes}}
use Rattle.passphrase_laws.proofs.Texts.{silent_texts, whole_front}
use Rattle.assuan_client.specs.declared.answer.Answer.TheVariants as answer
use Rattle.passphrase_laws.specs.Roads as road

-- a turn that goes on tells nothing
behind_option : {line : List ℕ} {options : List (List ℕ)} (option : List ℕ) (next : Answer) {turns : List Turn} → Requests line options turns
    → told_of turns ≡ told_of (turn_of (OptionLine option) next ∷ turns)
behind_option option next (stopped not) = refl
behind_option option next (goes_on passes later) = refl
behind_option option next (requested replies) = refl

behind_greeting : {line : List ℕ} {options : List (List ℕ)} {turns : List Turn} → Requests line options turns → told_of turns ≡ told_of (turn_of Hello answer.Ok ∷ turns)
behind_greeting (stopped not) = refl
behind_greeting (goes_on passes later) = refl
behind_greeting (requested replies) = refl

module _ (result : Result (List ℕ) Refusal) (text behind : List ℕ) (last : IsLast result text) (line : List ℕ) (was : Bool) (work : List CacheEvent) (notes : Notes work was)
    (whole : AllByRecursion IsWhole work) where
  abbrev written : List ℕ
  written = texts_of work ++ text

  -- what is told from some option on
  abbrev Told_from : List (List ℕ) → List ℕ → Type 0
  Told_from options replies = (turns : List Turn) (conn after : Connection) → Requests line options turns → Comes (replies ++ written) behind conn → AreTaken conn turns after
      → Hears was result (told_of turns)

  -- an option that is answered by a line which is passed over, or at which the link failed
  stops_at : (says last_answer : Answer) (option first more : List ℕ) {conn mid : Connection} → passed says ≡ Ok tt → passed last_answer ≡ Err (loss_of last_answer)
      → Takes says first more conn mid last_answer → Hears was result (told_of (turn_of (OptionLine option) last_answer ∷ []))
  stops_at says last_answer option first more passes stops (takes next counted) = let both = sym passes ∙ stops in absurd (cc both)
  stops_at says last_answer option first more passes stops no_read = road.unread
  stops_at says last_answer option first more passes stops no_write = road.unwritten

  goes_behind : (says next_answer : Answer) (option first replies : List ℕ) {options : List (List ℕ)} → Told_from options replies → {turns : List Turn} {conn mid after : Connection}
      → passed next_answer ≡ Ok tt → Requests line options turns → Comes (first ++ (replies ++ written)) behind conn → AreTaken mid turns after
      → Takes says first ((replies ++ written) ++ behind) conn mid next_answer → Hears was result (told_of (turn_of (OptionLine option) next_answer ∷ turns))
  goes_behind says next_answer option first replies later {turns} {mid = mid} {after} passes requests comes taken (takes next counted) =
      subst (λ (t : Told). Hears was result t) (behind_option option next_answer requests) (later turns mid after requests (rest first (replies ++ written) comes next counted) taken)
  goes_behind says next_answer option first replies later passes requests comes taken no_read = absurd (cc passes)
  goes_behind says next_answer option first replies later passes requests comes taken no_write = absurd (cc passes)

  option_hears : (says : Answer) (option first replies : List ℕ) {options : List (List ℕ)} → passed says ≡ Ok tt → ComesTo nothing first says → Told_from options replies
      → Told_from (option ∷ options) (first ++ replies)
  option_hears says option first replies {options} passes found_as later turns conn after requests comes taken = by_requests requests taken where
    now : Comes (first ++ (replies ++ written)) behind conn
    now = subst (λ (t : List ℕ). Comes t behind conn) (append_assoc first replies written) comes

    by_requests : {turns : List Turn} {after : Connection} → Requests line (option ∷ options) turns → AreTaken conn turns after → Hears was result (told_of turns)
    by_requests (stopped {last = ends} stops) (one {mid = mid} answered more) =
        stops_at says ends option first ((replies ++ written) ++ behind) passes stops
        (command_takes (line_of option) nothing says ends first ((replies ++ written) ++ behind) conn mid found_as (front first (replies ++ written) now) answered).takes_it
    by_requests (goes_on {next = next} passes_next requests) (one {mid = mid} answered more) =
        goes_behind says next option first replies later passes_next requests now more
        (command_takes (line_of option) nothing says next first ((replies ++ written) ++ behind) conn mid found_as (front first (replies ++ written) now) answered).takes_it

  options_hear : {options : List (List ℕ)} {replies : List ℕ} → AreReplies options replies → Told_from options replies
  options_hear road.none turns conn after (requested replies) comes (one answered more) = requested_hears result text behind last line notes whole comes answered replies more
  options_hear (road.taken option {replies = replies} more) turns conn after requests comes taken =
      option_hears answer.Ok option ok replies refl (ok_comes nothing begun) (options_hear more) turns conn after requests comes taken
  options_hear (road.refused option why origin {replies = replies} more) turns conn after requests comes taken =
      option_hears (answer.Err (error_number why origin)) option (line_of (error_text why origin)) replies refl (error_comes nothing why origin) (options_hear more) turns conn after requests
      comes taken

  dialogue_hears : {options : List (List ℕ)} {replies : List ℕ} → AreReplies options replies → {turns : List Turn} {conn after : Connection} → IsDialogue options line turns
      → Comes (line_of greeting ++ (replies ++ written)) behind conn → AreTaken conn turns after → Hears was result (told_of turns)
  dialogue_hears {replies = replies} are {conn = conn} (not_greeted {last = ends} not) comes (one {mid = mid} answered more) =
      by_takes (by_finds conn refl (is_found nothing _ answer.Ok (greeting_comes nothing begun) _ conn mid ends (front (line_of greeting) (replies ++ written) comes).within answered (front (line_of greeting) (replies ++ written) comes).next).finds) not where
        by_takes : {ends : Answer} {conn mid : Connection} {more : List ℕ} → Takes answer.Ok (line_of greeting) more conn mid ends → is_ok ends ≡ false → Hears was result (told_of (turn_of Hello ends ∷ []))
        by_takes (takes next counted) not = absurd (false≢true (sym not))
        by_takes no_read not = road.unread
        by_takes no_write not = road.unwritten
  dialogue_hears {replies = replies} are {conn = conn} (greeted {turns} requests) comes (one {mid = mid} {after = after} answered more) =
      let is = by_finds conn refl (is_found nothing _ answer.Ok (greeting_comes nothing begun) _ conn mid answer.Ok (front (line_of greeting) (replies ++ written) comes).within answered (front (line_of greeting) (replies ++ written) comes).next).finds in
      subst (λ (t : Told). Hears was result t) (behind_greeting requests) (options_hear are turns mid after requests (by_takes is refl) more) where
        by_takes : {ends : Answer} → Takes answer.Ok (line_of greeting) ((replies ++ written) ++ behind) conn mid ends → ends ≡ answer.Ok → Comes (replies ++ written) behind mid
        by_takes (takes next counted) is = rest (line_of greeting) (replies ++ written) comes next counted
        by_takes no_read is = absurd (cc is)
        by_takes no_write is = absurd (cc is)

-- ---- the whole

silent_front : (first more : List CacheEvent) → AllByRecursion IsSilent first → texts_of (first ++ more) ≡ texts_of more
silent_front first more silent = flat_map-append text_of first more ∙ ap (λ (t : List ℕ). t ++ texts_of more) (silent_texts first silent)

-- what an exchange writes: what its work does, and the last line
last_texts : (work back : List CacheEvent) (text : List ℕ) → AllByRecursion IsSilent back → texts_of (work ++ (back ++ said_last (Some text))) ≡ texts_of work ++ text
last_texts work back text silent =
    flat_map-append text_of work (back ++ Sent text ∷ []) ∙ ap (λ (t : List ℕ). texts_of work ++ t) (silent_front back (Sent text ∷ []) silent ∙ append-nil text)

fresh_comes : {options : List (List ℕ)} {line : List ℕ} {turns : List Turn} (text behind : List ℕ) {left written : Option (List ℕ)} (talk : Talk options line turns (Some (text ++ behind)) left written)
    → length text ≤ BUDGET → Comes text behind talk.fresh
fresh_comes text behind talk few = record {
  next =
      ap (λ (r : Reader). followed_by r.ahead talk.fresh.input.bytes) talk.reader ∙ ap (λ (b : Option (List ℕ)). followed_by [] b) talk.given_are;
  within = omega (arith, few, ap held talk.reader);
}

pub hears_it : (result : Result (List ℕ) Refusal) (last : Option (List ℕ)) (was : Bool) (work back events : List CacheEvent) {options : List (List ℕ)} (replies behind line : List ℕ) {turns : List Turn}
    {left written : Option (List ℕ)} → TellsLast result last → ((why : Refusal) → result ≡ Err why → AllByRecursion IsWhole work → refusal_line why ≢ None) → Notes work was → AllByRecursion IsSilent back → events ≡ work ++ (back ++ said_last last) → AllByRecursion IsWhole events
    → AreReplies options replies → length (session_text replies events) ≤ BUDGET → Talk options line turns (Some (session_text replies events ++ behind)) left written → Hears was result (told_of turns)
hears_it result None was work back events replies behind line (gone {why} is) told notes silent events_are whole are few talk =
    absurd (told why refl (whole_front work (back ++ said_last None) (subst (λ (e : List CacheEvent). AllByRecursion IsWhole e) events_are whole)) is)
hears_it result (Some text) was work back events replies behind line tells told notes silent events_are whole are few talk =
    let texts : texts_of events ≡ texts_of work ++ text = ap texts_of events_are ∙ last_texts work back text silent in
    let whole_work : AllByRecursion IsWhole work = whole_front work (back ++ said_last (Some text)) (subst (λ (e : List CacheEvent). AllByRecursion IsWhole e) events_are whole) in
    let comes : Comes (session_text replies events) behind talk.fresh = fresh_comes (session_text replies events) behind talk few in
    dialogue_hears result text behind (last_is tells) line was work notes whole_work are talk.follows
    (subst (λ (t : List ℕ). Comes (line_of greeting ++ (replies ++ t)) behind talk.fresh) texts comes) talk.taken
