-- What a dialogue tells of a session's bytes: each turn finds the answer that the session wrote next, or the link failed.
use Rattle.std.{specs.List.AllByRecursion, proofs.Common.{◌≡◌, ◌≢◌, ◌⊎◌, ℕ, ◌+◌, Bool, true, false, cond, List, [], ◌∷◌, ◌++◌, length, decimal, Some, Result, Ok, Err, inl, inr, refl, ap, sym, subst, ◌∙◌, arith, append_assoc, length-append}}
use Rattle.std.proofs.lemmas.Bool.{false≢true, ne_eqb}
use Rattle.{agent_ask.specs.SessionPrompts.note, agent_commands.specs.Actions.CacheEvent, assuan_client.specs.{Answers.success_of, Connections.Connection, Skipping.{Tally, nothing, with_lines, with_inquiry}, Writing.Command}}
use Rattle.{assuan_client.specs.declared.answer.Answer.Answer, assuan_line.specs.Next.held, assuan_server.specs.{Errors.{error_text, error_number}, Inquiries.inquire_text, Written.refusal_line, declared.errors.Origin.Origin}}
use Rattle.{assuan_text.specs.LineEnds.line_of, passphrase_talk.specs.{Dialogues.{Replies, ended, asked, told_behind, told_by, quiet, after_said, is_inquiry}, Turns.{End, Turn, AreTaken, one}, declared.told.Told.Told}}
use Rattle.session_client.specs.declared.{code.Code.Code, refusal.Refusal.Refusal}
use Rattle.passphrase_laws.specs.{Exchanges.{TellsLast, passphrase, gone, IsSilent, Notes, texts_of, text_of}, Readings.{unread, Comes, IsBegun, Finds, found, failed}, Roads.{IsWhole, AreReplies, session_text, Hears}}
use Rattle.passphrase_laws.proofs.{Finding.{ComesTo, is_found}, NoteLines.{launched, note_comes}, Texts.{silent_texts, noted_texts, whole_at, note_whole}, Replying.{data_comes, error_comes}}
use Rattle.assuan_client.specs.declared.answer.Answer.TheVariants as answer
use Rattle.passphrase_laws.specs.Exchanges as exchanges
use Rattle.passphrase_laws.specs.Roads as road

-- ---- single turns

-- a turn found the answer that comes next, or the link failed at it
pub data Takes (says : Answer) (text behind : List ℕ) (before after : Connection) : Answer → Type 0 where
  takes : unread after ≡ Some behind → held before.reader ≡ length text + held after.reader → Takes says text behind before after says
  no_read : Takes says text behind before after answer.ReadFault
  no_write : Takes says text behind before after answer.WriteFault

pub by_finds : {says what : Answer} {text behind : List ℕ} {there after : Connection} (before : Connection) → held there.reader ≡ held before.reader → Finds says text behind there after what
    → Takes says text behind before after what
by_finds before same (found next counted) = takes next (sym same ∙ counted)
by_finds before same (failed rose) = no_read

is_write_fault : (what : Answer) → (what ≡ answer.WriteFault) ⊎ (what ≢ answer.WriteFault)
is_write_fault answer.Ok = inr (λ is. cc is)
is_write_fault (answer.Got secret) = inr (λ is. cc is)
is_write_fault (answer.Err number) = inr (λ is. cc is)
is_write_fault (answer.Asked word text) = inr (λ is. cc is)
is_write_fault (answer.Broken why) = inr (λ is. cc is)
is_write_fault answer.ReadFault = inr (λ is. cc is)
is_write_fault answer.WriteFault = inl refl

pub begun : IsBegun nothing
begun = record { no_data = refl; few = omega arith }

-- a turn, and what came in its command by an inquiry
pub record TurnTakes (tally : Tally) (says : Answer) (text behind : List ℕ) (comes : ComesTo tally text says) (before after : Connection) (what : Answer) : Type 0 where
  pub takes_it : Takes says text behind before after what
  pub tally_is : (word more : List ℕ) → what ≡ answer.Asked word more → after.tally ≡ with_inquiry (with_lines tally comes.lines)

pub command_takes : (bytes : List ℕ) (tally : Tally) (says what : Answer) (text behind : List ℕ) (before after : Connection) (comes : ComesTo tally text says) → Comes text behind before
    → Command bytes tally what before after → TurnTakes tally says text behind comes before after what
command_takes bytes tally says what text behind before after comes next command = elim (is_write_fault what) [
  | inl is ↦ record {
    takes_it = subst (λ (a : Answer). Takes says text behind before after a) (sym is) no_write;
    tally_is = λ word more asks. let both = sym is ∙ asks in absurd (cc both);
  }
  | inr not ↦
      let read = (command.answered not).answered in
      let is = is_found tally text says comes behind _ after what next.within read next.next in
      record { takes_it = by_finds before refl is.finds; tally_is = is.tally_is }
]

-- what comes behind the first of two texts
pub front : (first more : List ℕ) {behind : List ℕ} {conn : Connection} → Comes (first ++ more) behind conn → Comes first (more ++ behind) conn
front first more {behind} comes = record {
  next = comes.next ∙ ap (λ (b : List ℕ). Some b) (append_assoc first more behind);
  within = omega (arith, comes.within, length-append first more);
}

pub rest : (first more : List ℕ) {behind : List ℕ} {before after : Connection} → Comes (first ++ more) behind before → unread after ≡ Some (more ++ behind) → held before.reader ≡ length first + held after.reader
    → Comes more behind after
rest first more comes next counted = record { next = next; within = omega (arith, comes.within, counted, length-append first more) }

-- ---- the last answer

-- what is told, by whether a pinentry was launched, and that has these turns behind it
abbrev pub told_last : Bool → Answer → Told
told_last false last = told_by quiet last
told_last true last = told_by (after_said End quiet) last

abbrev pub told_turns : Bool → Answer → List Turn → Told
told_turns false next turns = told_behind quiet next turns
told_turns true next turns = told_behind (after_said End quiet) next turns

-- the last line comes to an answer, of which this is told
pub record IsLast (result : Result (List ℕ) Refusal) (text : List ℕ) : Type 0 where
  pub says : Answer
  pub comes : (tally : Tally) → IsBegun tally → ComesTo tally text says
  pub ends : is_inquiry says ≡ false
  pub hears : (was : Bool) → Hears was result (told_last was says)

success_is : (byte : ℕ) (secret : List ℕ) → success_of (byte ∷ secret) ≡ answer.Got (byte ∷ secret)
success_is byte secret = ap (λ (b : Bool). cond b answer.Ok (answer.Got (byte ∷ secret))) (ne_eqb (length (byte ∷ secret)) 0 (λ is. omega (arith, is)))

success_ends : (secret : List ℕ) → is_inquiry (success_of secret) ≡ false
success_ends [] = refl
success_ends (byte ∷ secret) = ap is_inquiry (success_is byte secret)

success_hears : (secret : List ℕ) (was : Bool) → Hears was (Ok secret) (told_last was (success_of secret))
success_hears [] false = road.empty
success_hears [] true = road.empty
success_hears (byte ∷ secret) false = subst (λ (a : Answer). Hears false (Ok (byte ∷ secret)) (told_last false a)) (sym (success_is byte secret)) road.passphrase
success_hears (byte ∷ secret) true = subst (λ (a : Answer). Hears true (Ok (byte ∷ secret)) (told_last true a)) (sym (success_is byte secret)) road.passphrase

refusal_hears : {why : Refusal} (code : Code) (origin : Origin) → refusal_line why ≡ Some (line_of (error_text code origin)) → (was : Bool)
    → Hears was (Err why) (told_last was (answer.Err (error_number code origin)))
refusal_hears code origin is false = road.refused code origin is
refusal_hears code origin is true = road.refused code origin is

unread_hears : {result : Result (List ℕ) Refusal} (was : Bool) → Hears was result (told_last was answer.ReadFault)
unread_hears false = road.unread
unread_hears true = road.unread

unwritten_hears : {result : Result (List ℕ) Refusal} (was : Bool) → Hears was result (told_last was answer.WriteFault)
unwritten_hears false = road.unwritten
unwritten_hears true = road.unwritten

pub last_is : {result : Result (List ℕ) Refusal} {text : List ℕ} → TellsLast result (Some text) → IsLast result text
last_is (passphrase {secret} {text} told reads) = record {
  says = success_of secret;
  comes = λ tally starts. data_comes tally secret text starts told.is.bytes told.is.short told.written;
  ends = success_ends secret;
  hears = success_hears secret;
}
last_is (exchanges.refused code origin is reads) = record {
  says = answer.Err (error_number code origin);
  comes = λ tally starts. error_comes tally code origin;
  ends = refl;
  hears = refusal_hears code origin is;
}

end_told : (was : Bool) {last : Answer} {turns : List Turn} → is_inquiry last ≡ false → Replies last turns → told_turns was last turns ≡ told_last was last
end_told false not (ended is) = refl
end_told true not (ended is) = refl
end_told was not (asked replies) = absurd (false≢true (sym not))

module _ (result : Result (List ℕ) Refusal) (text behind : List ℕ) (last : IsLast result text) where
  last_hears : (was : Bool) {next : Answer} {turns : List Turn} {before after : Connection} → Takes last.says text behind before after next → Replies next turns
      → Hears was result (told_turns was next turns)
  last_hears was (takes next counted) replies = subst (λ (t : Told). Hears was result t) (sym (end_told was last.ends replies)) (last.hears was)
  last_hears was no_read replies = subst (λ (t : Told). Hears was result t) (sym (end_told was refl replies)) (unread_hears was)
  last_hears was no_write replies = subst (λ (t : Told). Hears was result t) (sym (end_told was refl replies)) (unwritten_hears was)

  -- behind the note of a pinentry, which is answered by END
  behind_note : (params : List ℕ) {next : Answer} {turns : List Turn} {before mid after : Connection}
      → (note_is : ComesTo nothing (line_of (inquire_text launched params)) (answer.Asked launched params))
      → TurnTakes nothing (answer.Asked launched params) (line_of (inquire_text launched params)) (text ++ behind) note_is before mid next → note_is.lines ≡ []
      → Comes (line_of (inquire_text launched params) ++ text) behind before → Replies next turns → AreTaken mid turns after → Hears true result (told_behind quiet next turns)
  behind_note params {next} {turns} {before} {mid} note_is it no_lines comes replies taken = by_takes it.takes_it it.tally_is replies taken where
    by_takes : {next : Answer} {turns : List Turn} {after : Connection} → Takes (answer.Asked launched params) (line_of (inquire_text launched params)) (text ++ behind) before mid next
        → ((word more : List ℕ) → next ≡ answer.Asked word more → mid.tally ≡ with_inquiry (with_lines nothing note_is.lines)) → Replies next turns → AreTaken mid turns after
        → Hears true result (told_behind quiet next turns)
    by_takes no_read tally replies taken = subst (λ (t : Told). Hears true result t) (sym (end_told false refl replies)) road.unread
    by_takes no_write tally replies taken = subst (λ (t : Told). Hears true result t) (sym (end_told false refl replies)) road.unwritten
    by_takes (takes next counted) tally (ended not) taken = absurd (false≢true (sym not))
    by_takes (takes next counted) tally (asked replies) (one {mid = now} answered more) =
        let counts : mid.tally ≡ record { notes = 1; bytes = [] } = tally launched params refl ∙ ap (λ (l : List (List ℕ)). with_inquiry (with_lines nothing l)) no_lines in
        let starts : IsBegun mid.tally = subst IsBegun (sym counts) (record { no_data = refl; few = omega arith }) in
        last_hears true (command_takes _ mid.tally last.says _ text behind mid now (last.comes mid.tally starts) (rest (line_of (inquire_text launched params)) text comes next counted) answered.2).takes_it replies

  -- the request, and what was written for it
  pub requested_hears : (line : List ℕ) {was : Bool} {work : List CacheEvent} → Notes work was → AllByRecursion IsWhole work → {next : Answer} {turns : List Turn} {before mid after : Connection}
      → Comes (texts_of work ++ text) behind before → Command (line_of line) nothing next before mid → Replies next turns → AreTaken mid turns after → Hears was result (told_behind quiet next turns)
  requested_hears line (exchanges.none {events} silent) whole {before = before} {mid = mid} comes command replies taken =
      let now : Comes text behind before = subst (λ (t : List ℕ). Comes (t ++ text) behind before) (silent_texts events silent) comes in
      last_hears false (command_takes (line_of line) nothing last.says _ text behind before mid (last.comes nothing begun) now command).takes_it replies
  requested_hears line (exchanges.once earlier later pid inquired silent still) whole {before = before} {mid = mid} comes command replies taken =
      let is = note_whole pid inquired (whole_at earlier (note pid inquired) later whole) in
      let texts : texts_of (earlier ++ note pid inquired ∷ later) ≡ line_of (inquire_text launched (decimal pid)) = noted_texts earlier pid inquired later silent still ∙ is.1 in
      let now : Comes (line_of (inquire_text launched (decimal pid)) ++ text) behind before = subst (λ (t : List ℕ). Comes (t ++ text) behind before) texts comes in
      let note_is = note_comes nothing (decimal pid) begun is.0 in
      behind_note (decimal pid) note_is.comes (command_takes (line_of line) nothing (answer.Asked launched (decimal pid)) _ _ (text ++ behind) before mid note_is.comes (front (line_of (inquire_text launched (decimal pid))) text now) command)
      note_is.no_lines now replies taken
