-- What the turns of a dialogue write, and where the link's counts rise.
use Rattle.std.{proofs.Common.{◌≡◌, ◌≢◌, ◌≤◌, ℕ, Bool, true, false, List, [], ◌∷◌, ◌++◌, Option, Some, None, All, IfSome, refl, ap, sym, subst, ◌∙◌, arith, append-nil, append_assoc}, specs.List.flat_map}
use Rattle.{agent_ports.{specs.Sides.{Side, with_bytes}, proofs.Known.with_bytes_append}, assuan_client.specs.{Answers.ReadOn, Connections.Connection, Skipping.Tally, Writing.{Command, reply_text}, declared.answer.Answer.Answer}}
use Rattle.assuan_escape.specs.DataLines.{IsPiece}
use Rattle.passphrase_talk.{specs.{Turns.{Said, Hello, OptionLine, Request, End, Cancel, Turn, text_of, texts_of, IsAnswered, AreTaken, none, one}, Visits.AreWritten, declared.told.Told.Told}, proofs.Ending.{wrote, last_of, GoOn}}
use Rattle.assuan_client.specs.declared.answer.Answer.TheVariants as answer
use Rattle.passphrase_talk.specs.declared.told.Loss.TheVariants as loss
use Rattle.passphrase_talk.specs.declared.told.Told.TheVariants as told

-- all bytes of a text were written, or some first ones
pub record Wrote (text : List ℕ) (whole_is : Bool) (before after : Option (List ℕ)) : Type 0 where
  pub sent : List ℕ
  pub unsent : List ℕ
  pub split : text ≡ sent ++ unsent
  pub written : after ≡ with_bytes before sent
  pub whole : whole_is ≡ true → unsent ≡ []

with_none : (written : Option (List ℕ)) → written ≡ with_bytes written []
with_none None = refl
with_none (Some before) = ap (λ (x : List ℕ). Some x) (sym (append-nil before))

wrote_all : {text : List ℕ} {whole : Bool} {before after : Option (List ℕ)} → after ≡ with_bytes before text → Wrote text whole before after
wrote_all {text} is = record { sent = text; unsent = []; split = sym (append-nil text); written = is; whole = λ same. refl }

-- a first text was written whole, and then a second one, whole or in part
wrote_then : (first second : List ℕ) {whole : Bool} {before mid after : Option (List ℕ)} → Wrote first true before mid → Wrote second whole mid after → Wrote (first ++ second) whole before after
wrote_then first second {before} early late = record {
  sent = first ++ late.sent;
  unsent = late.unsent;
  split = ap (λ (x : List ℕ). first ++ x) late.split ∙ sym (append_assoc first late.sent late.unsent);
  written =
      let all : first ≡ early.sent = early.split ∙ ap (λ (x : List ℕ). early.sent ++ x) (early.whole refl) ∙ append-nil early.sent in
      late.written ∙ ap (λ (o : Option (List ℕ)). with_bytes o late.sent) (early.written ∙ ap (with_bytes before) (sym all)) ∙ with_bytes_append before first late.sent;
  whole = late.whole;
}

by_fault : {P : Type 0} (said : Answer) → (said ≢ answer.WriteFault → P) → (said ≡ answer.WriteFault → P) → P
by_fault answer.Ok went stopped = went (λ same. cc same)
by_fault (answer.Got bytes) went stopped = went (λ same. cc same)
by_fault (answer.Err number) went stopped = went (λ same. cc same)
by_fault (answer.Asked word text) went stopped = went (λ same. cc same)
by_fault (answer.Broken why) went stopped = went (λ same. cc same)
by_fault answer.ReadFault went stopped = went (λ same. cc same)
by_fault answer.WriteFault went stopped = stopped refl

read_wrote : {tally : Tally} (said : Answer) {before after : Connection} → ReadOn tally said before after → Wrote [] (wrote said) before.output.bytes after.output.bytes
read_wrote said {before} has = wrote_all (ap (λ (s : Side). s.bytes) has.output ∙ with_none before.output.bytes)

command_wrote : {text : List ℕ} {tally : Tally} (said : Answer) {before after : Connection} → Command text tally said before after → Wrote text (wrote said) before.output.bytes after.output.bytes
command_wrote said does =
    by_fault said (λ not. wrote_all (does.answered not).written)
    (λ is.
    let cut = (does.unanswered is).cut in
    record { sent = cut.sent; unsent = cut.unsent; split = cut.split; written = cut.written; whole = λ same. let never = sym (ap wrote is) ∙ same in absurd (cc never) })

-- no bytes are sent in no pieces
no_pieces : (pieces : List (List ℕ)) → All IsPiece pieces → flat_map (λ piece. piece) pieces ≡ [] → pieces ≡ []
no_pieces [] each joined = refl
no_pieces ([] ∷ more) each joined = let some = (each 0 [] (omega arith)).0 in absurd (omega (arith, some))
no_pieces ((byte ∷ piece) ∷ more) each joined = absurd (cc joined)

turn_wrote : (said : Said) (next : Answer) (before after : Connection) → IsAnswered said next before after → Wrote (text_of said) (wrote next) before.output.bytes after.output.bytes
turn_wrote Hello next before after has = read_wrote next has
turn_wrote (OptionLine line) next before after does = command_wrote next does
turn_wrote (Request line) next before after does = command_wrote next does
turn_wrote End next before after (pieces, are, does) =
    subst (λ (p : List (List ℕ)). Wrote (reply_text p) (wrote next) before.output.bytes after.output.bytes) (no_pieces pieces are.each are.joined) (command_wrote next does)
turn_wrote Cancel next before after does = command_wrote next does

-- all texts are written, or the last of them in part
pub turns_wrote : (turn : Turn) (turns : List Turn) (before after : Connection) → GoOn (turn ∷ turns) → AreTaken before (turn ∷ turns) after
    → Wrote (texts_of (turn ∷ turns)) (wrote (last_of turn.answer turns)) before.output.bytes after.output.bytes
turns_wrote turn [] before after go (one answered none) =
    subst (λ (t : List ℕ). Wrote t (wrote turn.answer) before.output.bytes after.output.bytes) (sym (append-nil (text_of turn.said))) (turn_wrote turn.said turn.answer before after answered)
turns_wrote turn (next ∷ turns) before after go (one {mid} answered rest) =
    wrote_then (text_of turn.said) (texts_of (next ∷ turns))
    (subst (λ (whole : Bool). Wrote (text_of turn.said) whole before.output.bytes mid.output.bytes) go.0 (turn_wrote turn.said turn.answer before mid answered))
    (turns_wrote next turns mid after go.1 rest)

by_whole : {P : Type 0} (whole : Bool) → (whole ≡ true → P) → (whole ≡ false → P) → P
by_whole true when otherwise = when refl
by_whole false when otherwise = otherwise refl

-- the bytes that were written, where they are known
pub texts_written : (what : Told) (texts : List ℕ) (whole : Bool) (before after : Option (List ℕ)) → IfSome before (λ bytes. bytes ≡ []) → Wrote texts whole before after
    → (whole ≡ false → what ≡ told.Lost loss.Write) → IfSome after (AreWritten texts what)
texts_written what texts whole None after fresh has lost = rw has.written tt
texts_written what texts whole (Some bytes) after fresh has lost =
    rw (has.written, fresh) (record { unwritten = has.unsent; split = has.split; whole = λ not. by_whole whole has.whole (λ is. absurd (not (lost is))) })

-- where the last answer is that a read or a write failed, the link has counted it
read_rose : (said : Said) (before after : Connection) → IsAnswered said answer.ReadFault before after → 1 ≤ after.input.faults
read_rose Hello before after has = let rose = has.fault refl in omega (arith, rose)
read_rose (OptionLine line) before after does = let rose = (does.answered (λ same. cc same)).answered.fault refl in omega (arith, rose)
read_rose (Request line) before after does = let rose = (does.answered (λ same. cc same)).answered.fault refl in omega (arith, rose)
read_rose End before after (pieces, are, does) = let rose = (does.answered (λ same. cc same)).answered.fault refl in omega (arith, rose)
read_rose Cancel before after does = let rose = (does.answered (λ same. cc same)).answered.fault refl in omega (arith, rose)

write_rose : (said : Said) (before after : Connection) → IsAnswered said answer.WriteFault before after → 1 ≤ after.output.faults
write_rose Hello before after has = absurd (has.no_write refl)
write_rose (OptionLine line) before after does = let rose = (does.unanswered refl).cut.rose in omega (arith, rose)
write_rose (Request line) before after does = let rose = (does.unanswered refl).cut.rose in omega (arith, rose)
write_rose End before after (pieces, are, does) = let rose = (does.unanswered refl).cut.rose in omega (arith, rose)
write_rose Cancel before after does = let rose = (does.unanswered refl).cut.rose in omega (arith, rose)

pub last_read : (turn : Turn) (turns : List Turn) {before after : Connection} → AreTaken before (turn ∷ turns) after → last_of turn.answer turns ≡ answer.ReadFault → 1 ≤ after.input.faults
last_read turn [] {before} {after} (one answered none) is = read_rose turn.said before after (subst (λ (a : Answer). IsAnswered turn.said a before after) is answered)
last_read turn (next ∷ turns) (one answered rest) is = last_read next turns rest is

pub last_write : (turn : Turn) (turns : List Turn) {before after : Connection} → AreTaken before (turn ∷ turns) after → last_of turn.answer turns ≡ answer.WriteFault → 1 ≤ after.output.faults
last_write turn [] {before} {after} (one answered none) is = write_rose turn.said before after (subst (λ (a : Answer). IsAnswered turn.said a before after) is answered)
last_write turn (next ∷ turns) (one answered rest) is = last_write next turns rest is
