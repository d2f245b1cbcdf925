-- A write of data lines that is under way.
use Rattle.std.{proofs.{Common.{◌≡◌, ℕ, List, [], ◌∷◌, ◌++◌, take, drop, Ok, Err, refl, ap, sym, ◌∙◌, subst, arith, append_assoc, append-nil}, lemmas.{Bool.false≢true, List.Concat.flat_map-append}}, specs.{Prelude.Result, Result.IsErr}}
use Rattle.agent_ports.{specs.{Sides.Side, Writing.{StopsWriting, Writes}, declared.link.WriteFault.WriteFault}, proofs.Writing.{writes_nothing, writes_as, writes_then, stops_within}}
use Rattle.{assuan_escape.specs.DataLines.{data_line, AreData, data_text}, assuan_text.specs.LineEnds.line_of}

-- the lines so far: whatever pieces the rest is sent in, they complete these
pub record IsPutting (bytes : List ℕ) (before now : Side) (rest : List ℕ) : Type 0 where
  pub done : List (List ℕ)
  pub completes : (later : List (List ℕ)) → AreData rest later → AreData bytes (done ++ later)
  pub went : Writes (data_text done) before (Ok tt) now

pub putting_none : (bytes : List ℕ) (before : Side) → IsPutting bytes before before bytes
putting_none bytes before = record { done = []; completes = λ later data_. data_; went = writes_nothing before }

-- the call failed so
pub put_failed : {bytes : List ℕ} {before after : Side} {fault : WriteFault} (result : Result (Unit {0}) WriteFault) → IsErr result
    → Writes bytes before (Err fault) after → Writes bytes before result after
put_failed (Ok done) is cut = absurd (false≢true is)
put_failed (Err fault) is cut = record { went = cut.went; faults = cut.faults }

module _ (bytes : List ℕ) (before now : Side) (rest : List ℕ) (putting : IsPutting bytes before now rest) where
  -- nothing is left
  pub whole_once_none_is_left : rest ≡ [] → (pieces : List (List ℕ)) × AreData bytes pieces × Writes (data_text pieces) before (Ok tt) now
  whole_once_none_is_left nothing = (
    putting.done,
    subst (λ (x : List (List ℕ)). AreData bytes x) (append-nil putting.done)
        (putting.completes [] (subst (λ (x : List ℕ). AreData x []) (sym nothing) (record { joined = refl; each = λ k d h. absurd (omega arith); full = tt }))),
    putting.went,
  )

  module _ (count : ℕ) (first : (later : List (List ℕ)) → AreData (drop count rest) later → AreData rest (take count rest ∷ later)) (after : Side) where
    abbrev line : List ℕ
    line = line_of (data_line (take count rest))

    text_more : (later : List (List ℕ)) → data_text (putting.done ++ take count rest ∷ later) ≡ data_text putting.done ++ (line ++ data_text later)
    text_more later = flat_map-append (λ (piece : List ℕ). line_of (data_line piece)) putting.done (take count rest ∷ later)

    -- one line more
    pub putting_more : Writes (line_of (data_line (take count rest))) now (Ok tt) after → IsPutting bytes before after (drop count rest)
    putting_more put = record {
      done = putting.done ++ take count rest ∷ [];
      completes = λ later are.
          subst (λ (x : List (List ℕ)). AreData bytes x) (sym (append_assoc putting.done (take count rest ∷ []) later))
          (putting.completes (take count rest ∷ later) (first later are));
      went = writes_as (ap (λ (x : List ℕ). data_text putting.done ++ x) (sym (append-nil line)) ∙ sym (text_more []))
          (writes_then (data_text putting.done) line putting.went put);
    }

    -- the line was cut
    pub put_cut : {fault : WriteFault} (others : (later : List (List ℕ)) × AreData (drop count rest) later) → Writes (line_of (data_line (take count rest))) now (Err fault) after
        → (pieces : List (List ℕ)) × AreData bytes pieces × Writes (data_text pieces) before (Err fault) after
    put_cut others cut = (
      putting.done ++ take count rest ∷ others.0,
      putting.completes (take count rest ∷ others.0) (first others.0 others.1),
      record {
        went = subst (λ (x : List ℕ). StopsWriting x before after) (sym (text_more others.0))
            (stops_within (data_text putting.done) line (data_text others.0) putting.went.went putting.went.faults cut.went);
        faults = omega (arith, putting.went.faults, cut.faults);
      },
    )
