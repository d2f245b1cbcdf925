-- What is read, by what the answers of a reader say.
use Rattle.std.{proofs.Common.{◌≡◌, ◌+◌, ℕ, Bool, List, [], ◌++◌, length, Option, None, Some, refl, ap, sym, subst, arith}, specs.{Option.option_map, Prelude.IfSome}}
use Rattle.{agent_ports.specs.Sides.WhereKnown, assuan_line.specs.{Next.{Reader, ended_by}, Skipping.{ReadsNext, ReadsAfter}, declared.reader.Took.Took}}
use Rattle.assuan_server.specs.Reading.{Supply, unread, IsSupply, Reads, line, too_long, end, spent, fault, ReadsPast}
use Rattle.assuan_line.specs.declared.reader.Took.TheVariants as took

-- what a read of lines says of the bytes that come next, and with which supply it began
pub read_known : (supply : Supply) (start now : Reader) (before after : Option (List ℕ)) (Says Which : List ℕ → List ℕ → Type 0)
    → WhereKnown before after Says → WhereKnown before after (λ rest left. length rest + now.left ≡ length left + start.left)
    → IfSome before (λ left. IsSupply supply start left)
    → ((rest left : List ℕ) → IsSupply supply now left → Says rest left → Which (unread start rest) (unread now left))
    → WhereKnown (option_map (unread start) before) (option_map (unread now) after) Which × IfSome after (λ left. IsSupply supply now left)
read_known supply start now None None Says Which known within is each = (tt, tt)
read_known supply start now None (Some left) Says Which known within is each = absurd known
read_known supply start now (Some rest) None Says Which known within is each = absurd known
read_known supply start now (Some rest) (Some left) Says Which known within is each =
    let is_now : IsSupply supply now left = omega (arith, is, within) in (each rest left is_now known, is_now)

-- What an answer says is what is read. The reader stands as the answer makes it.
abbrev ended_reader : List ℕ → ℕ → Took → Reader
ended_reader ahead count answer = record { ahead = ahead; left = count; ended = ended_by answer }

module _ (supply : Supply) (later : List ℕ) (ahead : List ℕ) (count : ℕ) (left : List ℕ) where
  reads : (answer : Took) → IsSupply supply (ended_reader ahead count answer) left → ReadsNext later answer (ended_reader ahead count answer) left → Reads supply later answer (unread (ended_reader ahead count answer) left)
  reads (took.Line text) is says = subst (λ (x : List ℕ). Reads supply later (took.Line text) x) (sym says.1) (line says.0)
  reads took.TooLong is says = too_long says
  reads took.End is says =
      subst (λ (x : List ℕ). Reads supply later took.End x) (sym says.1)
      (end says.0 (omega (arith, is, says.2, ap (λ (l : List ℕ). length l) says.1)))
  reads took.Spent is says = spent says.0 (omega (arith, is, says.1))
  reads took.ReadFault is says = fault says.0 (omega (arith, is, says.1))

module _ (skips : List (List ℕ) → List ℕ → Bool) (supply : Supply) (bytes : List ℕ) (lines : List (List ℕ)) (answer : Took) (after : Reader) (left : List ℕ) where
  pub reads_past : after.ended ≡ ended_by answer → IsSupply supply after left → ReadsAfter skips [] lines bytes answer after left → ReadsPast skips supply bytes lines answer (unread after left)
  reads_past ended is read =
      let as_ended : after ≡ ended_reader after.ahead after.left answer = ap (λ (o : Option Took). record { ahead = after.ahead; left = after.left; ended = o }) ended in
      record {
        later = read.later;
        skipped = read.skipped;
        stops = read.stops;
        reads =
            subst (λ (r : Reader). Reads supply read.later answer (unread r left)) (sym as_ended)
            (reads supply read.later after.ahead after.left left answer is (subst (λ (r : Reader). ReadsNext read.later answer r left) as_ended read.next));
      }

-- the bytes before a read are those ahead and those that the source holds
pub here_going : (reader : Reader) (left : List ℕ) → reader.ended ≡ None → unread reader left ≡ reader.ahead ++ left
here_going reader left going = rw going refl
