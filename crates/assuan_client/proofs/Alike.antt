-- Connections to which the same bytes come are answered the same, unless a read or a write failed.
use Rattle.std.proofs.Common.{◌≡◌, ◌≢◌, ◌+◌, ℕ, Bool, true, false, List, ◌++◌, length, Option, Some, None, refl, ap, sym, subst, ◌∙◌, arith}
use Rattle.{agent_ports.specs.Sides.WhereKnown, assuan_line.{specs.{Next.OnLine, declared.reader.Took.Took}, proofs.OnlyTook.{Fits, same_reading}}}
use Rattle.assuan_client.specs.{Answers.{Says, Answers, ReadOn}, Connections.Connection, Forms.answer_form, Skipping.{Tally, nothing, with_lines, with_inquiry, skips_after}, Writing.Command, declared.answer.{Answer.Answer, State.State}}
use Rattle.assuan_client.proofs.OnlyAnswer.{by_form, is_by_form}
use Rattle.assuan_client.specs.declared.answer.Answer.TheVariants as answer
use Rattle.assuan_client.specs.declared.answer.State.TheVariants as state
use Rattle.assuan_line.specs.declared.breach.Breach.TheVariants as breach
use Rattle.assuan_line.specs.declared.reader.Took.TheVariants as took

abbrev pub is_fault : Answer → Bool
is_fault answer.ReadFault = true
is_fault answer.WriteFault = true
is_fault _ = false

-- the same bytes come, as many more may be taken, and the same came in the command
pub record Alike (one two : Connection) : Type 0 where
  pub rest : List ℕ
  pub other : List ℕ
  pub known : one.input.bytes ≡ Some rest
  pub also : two.input.bytes ≡ Some other
  pub bytes : one.reader.ahead ++ rest ≡ two.reader.ahead ++ other
  pub fits : Fits one.reader two.reader rest other
  pub tally : one.tally ≡ two.tally

-- after this answer something may be said
abbrev pub goes_on : Answer → Bool
goes_on answer.Ok = true
goes_on (answer.Got bytes) = true
goes_on (answer.Err number) = true
goes_on (answer.Asked word text) = true
goes_on (answer.Broken why) = false
goes_on answer.ReadFault = false
goes_on answer.WriteFault = false

-- what is known of the bytes before is known of those after
pub both_known : (before after : Option (List ℕ)) (P Q : List ℕ → List ℕ → Type 0) (rest : List ℕ) → before ≡ Some rest → WhereKnown before after P → WhereKnown before after Q
    → (left : List ℕ) × (after ≡ Some left) × P rest left × Q rest left
both_known None after P Q rest is first second = let never = is in absurd (cc never)
both_known (Some was) None P Q rest is first second = absurd first
both_known (Some was) (Some left) P Q rest is first second =
    let same : was ≡ rest = cc is in (left, refl, subst (λ (r : List ℕ). P r left) same first, subst (λ (r : List ℕ). Q r left) same second)

took_fine : {tally : Tally} {what : Took} {said : Answer} → Says tally what said → is_fault said ≡ false → what ≡ took.ReadFault → ⊥
took_fine (Says.ok is none) fine same = cc same
took_fine (Says.got is some) fine same = cc same
took_fine (Says.err is) fine same = cc same
took_fine (Says.asked is fewer) fine same = cc same
took_fine (Says.many_notes is many) fine same = cc same
took_fine (Says.many_inquiries is many) fine same = cc same
took_fine (Says.too_much is more) fine same = cc same
took_fine (Says.foreign is) fine same = cc same
took_fine Says.ended fine same = cc same
took_fine Says.too_long fine same = cc same
took_fine Says.spent fine same = cc same
took_fine Says.read_fault fine same = cc fine

abbrev by_took : Tally → Took → Answer
by_took tally (took.Line line) = by_form tally line (answer_form line)
by_took tally took.TooLong = answer.Broken breach.TooLong
by_took tally took.End = answer.Broken breach.Ended
by_took tally took.Spent = answer.Broken breach.Spent
by_took tally took.ReadFault = answer.ReadFault

says_is : (tally : Tally) (what : Took) (said : Answer) → Says tally what said → said ≡ by_took tally what
says_is tally (took.Line line) said says = is_by_form says
says_is tally took.TooLong said Says.too_long = refl
says_is tally took.End said Says.ended = refl
says_is tally took.Spent said Says.spent = refl
says_is tally took.ReadFault said Says.read_fault = refl

-- an answer after which something may be said is given by a line
on_line : (P : Type 0) {tally : Tally} {what : Took} {said : Answer} → Says tally what said → goes_on said ≡ true → OnLine what P → P
on_line P (Says.ok is none) going line = line
on_line P (Says.got is some) going line = line
on_line P (Says.err is) going line = line
on_line P (Says.asked is fewer) going line = line
on_line P (Says.many_notes is many) going line = absurd (cc going)
on_line P (Says.many_inquiries is many) going line = absurd (cc going)
on_line P (Says.too_much is more) going line = absurd (cc going)
on_line P (Says.foreign is) going line = line
on_line P Says.ended going line = absurd (cc going)
on_line P Says.too_long going line = absurd (cc going)
on_line P Says.spent going line = absurd (cc going)
on_line P Says.read_fault going line = absurd (cc going)

-- what came in the command, as an answer leaves it
abbrev tally_by : Tally → List (List ℕ) → Answer → Tally
tally_by tally lines (answer.Asked word text) = with_inquiry (with_lines tally lines)
tally_by tally lines said = nothing

not_asked_state : {now stands : State} → now ≡ stands → stands ≢ state.Asked → now ≢ state.Asked
not_asked_state is not same = not (sym is ∙ same)

tally_after : {tally : Tally} (said : Answer) {before after : Connection} (lines : List (List ℕ)) → ReadOn tally said before after
    → ((word text : List ℕ) → said ≡ answer.Asked word text → after.tally ≡ with_inquiry (with_lines tally lines)) → goes_on said ≡ true → after.tally ≡ tally_by tally lines said
tally_after answer.Ok lines has asked going = has.cleared (not_asked_state has.state (λ same. absurd (cc same)))
tally_after (answer.Got bytes) lines has asked going = has.cleared (not_asked_state has.state (λ same. absurd (cc same)))
tally_after (answer.Err number) lines has asked going = has.cleared (not_asked_state has.state (λ same. absurd (cc same)))
tally_after (answer.Asked word text) lines has asked going = asked word text refl
tally_after (answer.Broken why) lines has asked going = absurd (cc going)
tally_after answer.ReadFault lines has asked going = absurd (cc going)
tally_after answer.WriteFault lines has asked going = absurd (cc going)

-- the same answer, and connections that go on alike where something may be said
pub record SaidAlike (said again : Answer) (one two : Connection) : Type 0 where
  pub is : said ≡ again
  pub alike : goes_on said ≡ true → Alike one two

pub answered_alike : {tally : Tally} (said again : Answer) {before after start end : Connection} → is_fault said ≡ false → is_fault again ≡ false → Alike before start
    → ReadOn tally said before after → ReadOn tally again start end → SaidAlike said again after end
answered_alike {tally} said again {before} {after} {start} {end} fine fine' alike has has' =
    let first = both_known before.input.bytes after.input.bytes (λ bytes left. Answers tally (before.reader.ahead ++ bytes) has.took said after.tally after.reader left)
    (λ bytes left. length bytes + after.reader.left ≡ length left + before.reader.left) alike.rest alike.known has.read.known has.read.budget in
    let second = both_known start.input.bytes end.input.bytes (λ bytes left. Answers tally (start.reader.ahead ++ bytes) has'.took again end.tally end.reader left)
    (λ bytes left. length bytes + end.reader.left ≡ length left + start.reader.left) alike.other alike.also has'.read.known has'.read.budget in
    let one = first.2 in
    let two = subst (λ (b : List ℕ). Answers tally b has'.took again end.tally end.reader second.0) (sym alike.bytes) second.2 in
    let fits : Fits after.reader end.reader first.0 second.0 = omega (arith, first.3, second.3, alike.fits) in
    let same = same_reading (skips_after tally) (before.reader.ahead ++ alike.rest) has.took has'.took after.reader end.reader first.0 second.0
    (took_fine one.says fine) (took_fine two.says fine') one.reads two.reads fits in
    let says = says_is (with_lines tally one.lines) has.took said one.says in
    let says' = says_is (with_lines tally two.lines) has'.took again two.says in
    let is : said ≡ again =
    says ∙ ap (λ (l : List (List ℕ)). by_took (with_lines tally l) has.took) same.skipped ∙ ap (by_took (with_lines tally two.lines)) same.took_is.is ∙ sym says' in
    record {
      is = is;
      alike = λ going. record {
        rest = first.0;
        other = second.0;
        known = first.1;
        also = second.1;
        bytes = on_line (after.reader.ahead ++ first.0 ≡ end.reader.ahead ++ second.0) one.says going same.took_is.left_is;
        fits = fits;
        tally =
            tally_after said one.lines has one.asked going ∙ ap (λ (l : List (List ℕ)). tally_by tally l said) same.skipped ∙ ap (tally_by tally two.lines) is
            ∙ sym (tally_after again two.lines has' two.asked (sym (ap goes_on is) ∙ going));
      };
    }

no_cut : (said : Answer) → is_fault said ≡ false → said ≢ answer.WriteFault
no_cut said fine same = let never = sym fine ∙ ap is_fault same in absurd (cc never)

pub exchanged_alike : {text other : List ℕ} {tally : Tally} (said again : Answer) {before after start end : Connection} → is_fault said ≡ false → is_fault again ≡ false
    → Alike before start → Command text tally said before after → Command other tally again start end → SaidAlike said again after end
exchanged_alike said again fine fine' alike has has' =
    let whole = has.answered (no_cut said fine) in
    let whole' = has'.answered (no_cut again fine') in
    answered_alike said again fine fine'
    (record { rest = alike.rest; other = alike.other; known = alike.known; also = alike.also; bytes = alike.bytes; fits = alike.fits; tally = alike.tally })
    whole.answered whole'.answered
