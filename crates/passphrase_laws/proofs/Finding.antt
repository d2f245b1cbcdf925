-- Lines that come to an answer are read as it.
use Rattle.std.{proofs.Common.{◌≡◌, ℕ, ◌+◌, ◌≤◌, false, List, [], ◌++◌, length, Option, Some, None, refl, ap, sym, subst, ◌∙◌, arith, append_assoc, length-append}, specs.List.flat_map}
use Rattle.{agent_ports.specs.{Counts.Rose, Sides.{WhereKnown, followed_by}}, assuan_client.{proofs.OnlyAnswer.{by_form, is_by_form}, specs.{Answers.{Answers, Says, read_fault, ReadOn}, Connections.Connection, Forms.answer_form}}}
use Rattle.{assuan_client.specs.{Skipping.{Tally, with_lines, with_inquiry, skips_after}, declared.answer.Answer.Answer}, assuan_line.specs.{Next.held, declared.reader.Took.{Took, TheVariants.ReadFault}}, assuan_text.specs.LineEnds.line_of}
use Rattle.passphrase_laws.{specs.Readings.{unread, Finds, found, failed}, proofs.Walking.{IsSent, AreSkipped, Walked, walk, whole, spent, fault}}
use Rattle.assuan_client.specs.declared.answer.Answer.TheVariants as answer

-- a text is lines that are skipped and one that isn't, by which they come to this answer
pub record ComesTo (tally : Tally) (text : List ℕ) (answer : Answer) : Type 0 where
  pub lines : List (List ℕ)
  pub last : List ℕ
  pub text_is : text ≡ flat_map line_of lines ++ line_of last
  pub skipped : AreSkipped (skips_after tally) [] lines
  pub sent : IsSent last
  pub stops : skips_after tally lines last ≡ false
  pub says : by_form (with_lines tally lines) last (answer_form last) ≡ answer

fault_is : {tally : Tally} {what : Answer} → Says tally ReadFault what → what ≡ answer.ReadFault
fault_is read_fault = refl

module _ (tally : Tally) (text : List ℕ) (says : Answer) (comes : ComesTo tally text says) (behind : List ℕ) (before after : Connection) (what : Answer)
    (rest left : List ℕ) (is : before.reader.ahead ++ rest ≡ text ++ behind) (within : length text ≤ held before.reader) (after_is : after.input.bytes ≡ Some left)
    (budget : length rest + after.reader.left ≡ length left + before.reader.left) (rose : what ≡ answer.ReadFault → Rose before.input.faults after.input.faults) where
  counted : length before.reader.ahead + length rest ≡ length text + length behind
  counted = sym (length-append before.reader.ahead rest) ∙ ap length is ∙ length-append text behind

  by_walk : {took : Took} (lines : List (List ℕ)) → Walked (skips_after tally) comes.lines comes.last behind lines after.reader left took → Says (with_lines tally lines) took what
      → Finds says text behind before after what
  by_walk lines (whole same kept) told =
      let it : what ≡ says = is_by_form told ∙ ap (λ (l : List (List ℕ)). by_form (with_lines tally l) comes.last (answer_form comes.last)) same ∙ comes.says in
      let now : unread after ≡ Some behind = ap (λ (b : Option (List ℕ)). followed_by after.reader.ahead b) after_is ∙ ap (λ (b : List ℕ). Some b) kept in
      let long : length after.reader.ahead + length left ≡ length behind = sym (length-append after.reader.ahead left) ∙ ap length kept in
      subst (λ (a : Answer). Finds says text behind before after a) (sym it) (found now (omega (arith, long, counted, budget)))
  by_walk lines (spent no_more short) told = absurd (omega (arith, no_more, short, counted, budget, within))
  by_walk lines fault told = subst (λ (a : Answer). Finds says text behind before after a) (sym (fault_is told)) (failed (rose (fault_is told)))

  -- what came in the command by an inquiry
  tally_by : {took : Took} (lines : List (List ℕ)) → Walked (skips_after tally) comes.lines comes.last behind lines after.reader left took → Says (with_lines tally lines) took what
      → (word more : List ℕ) → what ≡ answer.Asked word more → after.tally ≡ with_inquiry (with_lines tally lines) → after.tally ≡ with_inquiry (with_lines tally comes.lines)
  tally_by lines (whole same kept) told word more is now = now ∙ ap (λ (l : List (List ℕ)). with_inquiry (with_lines tally l)) same
  tally_by lines (spent no_more short) told word more is now = absurd (omega (arith, no_more, short, counted, budget, within))
  tally_by lines fault told word more is now = let both = sym (fault_is told) ∙ is in absurd (cc both)

  all_is : before.reader.ahead ++ rest ≡ flat_map line_of comes.lines ++ (line_of comes.last ++ behind)
  all_is = is ∙ ap (λ (t : List ℕ). t ++ behind) comes.text_is ∙ append_assoc (flat_map line_of comes.lines) (line_of comes.last) behind

  walked : (took : Took) (answers : Answers tally (before.reader.ahead ++ rest) took what after.tally after.reader left)
      → Walked (skips_after tally) comes.lines comes.last behind answers.lines after.reader left took
  walked took answers =
      walk (skips_after tally) comes.lines comes.last behind took after.reader left all_is comes.skipped comes.sent comes.stops answers.reads.skipped answers.reads.stops answers.reads.next

  by_answers : (took : Took) → Answers tally (before.reader.ahead ++ rest) took what after.tally after.reader left → Finds says text behind before after what
  by_answers took answers = by_walk answers.lines (walked took answers) answers.says

  tally_by_answers : (took : Took) → Answers tally (before.reader.ahead ++ rest) took what after.tally after.reader left → (word more : List ℕ) → what ≡ answer.Asked word more
      → after.tally ≡ with_inquiry (with_lines tally comes.lines)
  tally_by_answers took answers word more is = tally_by answers.lines (walked took answers) answers.says word more is (answers.asked word more is)

-- so of a reading over a link
module _ (tally : Tally) (text : List ℕ) (says : Answer) (comes : ComesTo tally text says) (behind : List ℕ) (before after : Connection) (what : Answer)
    (within : length text ≤ held before.reader) (read : ReadOn tally what before after) where
  not_none : {bytes : List ℕ} → None ≡ Some bytes → ⊥
  not_none is = cc is

  -- what is found, and what came in the command by an inquiry
  pub record IsFound : Type 0 where
    pub finds : Finds says text behind before after what
    pub tally_is : (word more : List ℕ) → what ≡ answer.Asked word more → after.tally ≡ with_inquiry (with_lines tally comes.lines)

  by_bytes : (was now : Option (List ℕ)) → was ≡ before.input.bytes → now ≡ after.input.bytes → followed_by before.reader.ahead was ≡ Some (text ++ behind)
      → WhereKnown was now (λ rest left. Answers tally (before.reader.ahead ++ rest) read.took what after.tally after.reader left)
      → WhereKnown was now (λ rest left. length rest + after.reader.left ≡ length left + before.reader.left) → IsFound
  by_bytes None now was_is now_is next known budget = absurd (not_none next)
  by_bytes (Some rest) None was_is now_is next known budget = absurd known
  by_bytes (Some rest) (Some left) was_is now_is next known budget =
      let is : before.reader.ahead ++ rest ≡ text ++ behind = cc next in
      record {
        finds = by_answers tally text says comes behind before after what rest left is within (sym now_is) budget read.fault read.took known;
        tally_is = tally_by_answers tally text says comes behind before after what rest left is within (sym now_is) budget read.fault read.took known;
      }

  pub is_found : unread before ≡ Some (text ++ behind) → IsFound
  is_found next = by_bytes before.input.bytes after.input.bytes refl refl next read.read.known read.read.budget

  pub finds : unread before ≡ Some (text ++ behind) → Finds says text behind before after what
  finds next = (is_found next).finds
