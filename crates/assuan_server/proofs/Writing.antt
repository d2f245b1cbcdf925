-- A write of data lines that is under way.
use Rattle.std.proofs.{Common.{◌≡◌, ℕ, ◌+◌, ◌-◌, ◌^◌, ◌≤◌, min, List, [], ◌∷◌, ◌++◌, length, take, drop, Option, Some, None, Ok, Err, refl, ap, sym, ◌∙◌, subst, arith, append_assoc, append-nil, length-append}, lemmas.List.length_push}
use Rattle.std.proofs.lemmas.List.Concat.{flat_map-append}
use Rattle.{agent_ports.{specs.{Sides.with_bytes, declared.link.Sent.{Sent, TheVariants.{All as Whole, Failed}}, Writing.StopsWriting}, proofs.Known.with_bytes_append}, assuan_escape.specs.DataLines.{data_line, AreData, data_text}}
use Rattle.assuan_text.specs.LineEnds.{line_of}
use Rattle.assuan_server.specs.{Connections.Connection, Written.{HasWritten, WritesData}}

-- the lines so far: whatever pieces the rest is sent in, they complete these
pub record IsWriting (bytes : List ℕ) (before now : Connection) (rest : List ℕ) (sent : ℕ) : Type 0 where
  pub done : List (List ℕ)
  pub completes : (later : List (List ℕ)) → AreData rest later → AreData bytes (done ++ later)
  pub output : now.output.bytes ≡ with_bytes before.output.bytes (data_text done)
  pub counted : sent ≡ min (length (data_text done)) (2 ^ 64 - 1)
  pub faults : before.output.faults ≤ now.output.faults
  pub input : now.input ≡ before.input
  pub reader : now.reader ≡ before.reader
  pub link : now.link ≡ before.link

-- a text alone is a line's parts
pub written_alone : (text : List ℕ) {before after : Connection} {sent : Sent} → HasWritten (line_of (text ++ [])) before sent after → HasWritten (line_of text) before sent after
written_alone text {before} {after} {sent} wrote = subst (λ (t : List ℕ). HasWritten (line_of t) before sent after) (append-nil text) wrote

nothing_written : (o : Option (List ℕ)) → o ≡ with_bytes o []
nothing_written None = refl
nothing_written (Some before) = ap (λ (x : List ℕ). Some x) (sym (append-nil before))

pub writing_none : (bytes : List ℕ) (before : Connection) → IsWriting bytes before before bytes 0
writing_none bytes before = record {
  done = [];
  completes = λ later data_. data_;
  output = nothing_written before.output.bytes;
  counted = omega arith;
  faults = omega arith;
  input = refl;
  reader = refl;
  link = refl;
}

module _ (bytes : List ℕ) (before now : Connection) (rest : List ℕ) (sent : ℕ) (writing : IsWriting bytes before now rest sent) where
  -- nothing is left
  pub written_once_none_is_left : rest ≡ [] → WritesData bytes before (Ok sent) now
  written_once_none_is_left nothing = record {
    pieces = writing.done;
    are_data = subst (λ (x : List (List ℕ)). AreData bytes x) (append-nil writing.done)
        (writing.completes [] (subst (λ (x : List ℕ). AreData x []) (sym nothing) (record { joined = refl; each = λ k d h. absurd (omega arith); full = tt })));
    written = record { output = writing.output; faults = writing.faults; input = writing.input; reader = writing.reader; link = writing.link };
    counted = writing.counted;
  }

  module _ (count : ℕ) (first : (later : List (List ℕ)) → AreData (drop count rest) later → AreData rest (take count rest ∷ later)) (after : Connection) where
    text_more : data_text (writing.done ++ take count rest ∷ []) ≡ data_text writing.done ++ line_of (data_line (take count rest))
    text_more = flat_map-append (λ (piece : List ℕ). line_of (data_line piece)) writing.done (take count rest ∷ []) ∙ ap (λ (x : List ℕ). data_text writing.done ++ x) (append-nil (line_of (data_line (take count rest))))

    -- one line more
    pub writing_more : HasWritten (line_of (data_line (take count rest))) now Whole after → IsWriting bytes before after (drop count rest) (min (sent + (length (data_line (take count rest)) + 1)) (2 ^ 64 - 1))
    writing_more wrote = record {
      done = writing.done ++ take count rest ∷ [];
      completes = λ later are.
          subst (λ (x : List (List ℕ)). AreData bytes x) (sym (append_assoc writing.done (take count rest ∷ []) later))
          (writing.completes (take count rest ∷ later) (first later are));
      output = wrote.output ∙ ap (λ (o : Option (List ℕ)). with_bytes o (line_of (data_line (take count rest)))) writing.output
          ∙ with_bytes_append before.output.bytes (data_text writing.done) (line_of (data_line (take count rest)))
          ∙ ap (λ (x : List ℕ). with_bytes before.output.bytes x) (sym text_more);
      counted = omega (arith, writing.counted, ap length text_more, length-append (data_text writing.done) (line_of (data_line (take count rest))), length_push (data_line (take count rest)) 10);
      faults = omega (arith, writing.faults, wrote.faults);
      input = wrote.input ∙ writing.input;
      reader = wrote.reader ∙ writing.reader;
      link = wrote.link ∙ writing.link;
    }

    -- the line was cut
    pub written_cut : (part : ℕ) → (others : (later : List (List ℕ)) × AreData (drop count rest) later)
        → HasWritten (line_of (data_line (take count rest))) now (Failed part) after
        → WritesData bytes before (Err (min (sent + part) (2 ^ 64 - 1))) after
    written_cut part later wrote =
        let cut : StopsWriting (line_of (data_line (take count rest))) now.output after.output = wrote.output.stopped in
        let whole : data_text (writing.done ++ take count rest ∷ later.0) ≡ (data_text writing.done ++ cut.sent) ++ (cut.unsent ++ data_text later.0) =
        flat_map-append (λ (piece : List ℕ). line_of (data_line piece)) writing.done (take count rest ∷ later.0)
        ∙ ap (λ (x : List ℕ). data_text writing.done ++ (x ++ data_text later.0)) cut.split
        ∙ ap (λ (x : List ℕ). data_text writing.done ++ x) (append_assoc cut.sent cut.unsent (data_text later.0))
        ∙ sym (append_assoc (data_text writing.done) cut.sent (cut.unsent ++ data_text later.0)) in record {
          pieces = writing.done ++ take count rest ∷ later.0;
          are_data = writing.completes (take count rest ∷ later.0) (first later.0 later.1);
          written = record {
            output = record {
              stopped = record {
                sent = data_text writing.done ++ cut.sent;
                unsent = cut.unsent ++ data_text later.0;
                split = whole;
                written = cut.written ∙ ap (λ (o : Option (List ℕ)). with_bytes o cut.sent) writing.output ∙ with_bytes_append before.output.bytes (data_text writing.done) cut.sent;
                rose = omega (arith, cut.rose, writing.faults);
              };
              counted = omega (arith, writing.counted, wrote.output.counted, length-append (data_text writing.done) cut.sent);
            };
            faults = omega (arith, writing.faults, wrote.faults);
            input = wrote.input ∙ writing.input;
            reader = wrote.reader ∙ writing.reader;
            link = wrote.link ∙ writing.link;
          };
          counted = tt;
        }

-- a first text was written, and the write of a second one stopped
pub cut_after : (first second : List ℕ) (before mid after : Connection) (count part : ℕ) → HasWritten first before Whole mid → count ≡ min (length first) (2 ^ 64 - 1)
    → HasWritten second mid (Failed part) after → HasWritten (first ++ second) before (Failed (min (count + part) (2 ^ 64 - 1))) after
cut_after first second before mid after count part one counts two =
    let cut : StopsWriting second mid.output after.output = two.output.stopped in
    record {
      output = record {
        stopped = record {
          sent = first ++ cut.sent;
          unsent = cut.unsent;
          split = ap (λ (x : List ℕ). first ++ x) cut.split ∙ sym (append_assoc first cut.sent cut.unsent);
          written = cut.written ∙ ap (λ (o : Option (List ℕ)). with_bytes o cut.sent) one.output ∙ with_bytes_append before.output.bytes first cut.sent;
          rose = omega (arith, cut.rose, one.faults);
        };
        counted = omega (arith, counts, two.output.counted, length-append first cut.sent);
      };
      faults = omega (arith, one.faults, two.faults);
      input = two.input ∙ one.input;
      reader = two.reader ∙ one.reader;
      link = two.link ∙ one.link;
    }

-- the write of the first of two texts stopped
pub cut_within : (first second : List ℕ) (before after : Connection) (part : ℕ) → HasWritten first before (Failed part) after → HasWritten (first ++ second) before (Failed part) after
cut_within first second before after part one =
    let cut : StopsWriting first before.output after.output = one.output.stopped in
    record {
      output = record {
        stopped = record {
          sent = cut.sent;
          unsent = cut.unsent ++ second;
          split = ap (λ (x : List ℕ). x ++ second) cut.split ∙ append_assoc cut.sent cut.unsent second;
          written = cut.written;
          rose = cut.rose;
        };
        counted = one.output.counted;
      };
      faults = one.faults;
      input = one.input;
      reader = one.reader;
      link = one.link;
    }
