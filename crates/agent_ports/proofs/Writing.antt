-- Texts written one behind another.
use Rattle.std.proofs.Common.{◌≡◌, ◌≤◌, ℕ, List, [], ◌++◌, Option, None, Some, Result, Ok, Err, refl, ap, sym, subst, ◌∙◌, arith, append_assoc, append-nil}
use Rattle.agent_ports.{specs.{Sides.{Side, with_bytes}, Writing.{StopsWriting, WentOrStopped, Writes}, declared.link.WriteFault.WriteFault}, proofs.Known.with_bytes_append}

with_none : (written : Option (List ℕ)) → written ≡ with_bytes written []
with_none None = refl
with_none (Some before) = ap (λ (x : List ℕ). Some x) (sym (append-nil before))

-- nothing was written
pub writes_nothing : (now : Side) → Writes [] now (Ok tt) now
writes_nothing now = record { went = with_none now.bytes; faults = omega arith }

-- the same text in other words
pub writes_as : {first second : List ℕ} {before after : Side} {result : Result (Unit {0}) WriteFault} → first ≡ second → Writes first before result after → Writes second before result after
writes_as {before = before} {after = after} {result = result} is writes = subst (λ (text : List ℕ). Writes text before result after) is writes

-- a write that stopped, behind a text that went whole and before one that was to come
pub stops_within : (first text more : List ℕ) {before mid after : Side} → mid.bytes ≡ with_bytes before.bytes first → before.faults ≤ mid.faults
    → StopsWriting text mid after → StopsWriting (first ++ (text ++ more)) before after
stops_within first text more {before = before} is faults stopped = record {
  sent = first ++ stopped.sent;
  unsent = stopped.unsent ++ more;
  split = ap (λ (x : List ℕ). first ++ (x ++ more)) stopped.split
      ∙ ap (λ (x : List ℕ). first ++ x) (append_assoc stopped.sent stopped.unsent more)
      ∙ sym (append_assoc first stopped.sent (stopped.unsent ++ more));
  written = stopped.written ∙ ap (λ (o : Option (List ℕ)). with_bytes o stopped.sent) is ∙ with_bytes_append before.bytes first stopped.sent;
  rose = omega (arith, stopped.rose, faults);
}

went_then : (first second : List ℕ) (before mid after : Side) (result : Result (Unit {0}) WriteFault) → mid.bytes ≡ with_bytes before.bytes first → before.faults ≤ mid.faults
    → WentOrStopped second mid result after → WentOrStopped (first ++ second) before result after
went_then first second before mid after (Ok whole) is faults went =
    went ∙ ap (λ (o : Option (List ℕ)). with_bytes o second) is ∙ with_bytes_append before.bytes first second
went_then first second before mid after (Err fault) is faults stopped =
    subst (λ (x : List ℕ). StopsWriting (first ++ x) before after) (append-nil second) (stops_within first second [] is faults stopped)

-- a first text was written whole, and then a second one, whole or in part
pub writes_then : (first second : List ℕ) {before mid after : Side} {result : Result (Unit {0}) WriteFault}
    → Writes first before (Ok tt) mid → Writes second mid result after → Writes (first ++ second) before result after
writes_then first second {before = before} {mid = mid} {after = after} {result = result} one two = record {
  went = went_then first second before mid after result one.went one.faults two.went;
  faults = omega (arith, one.faults, two.faults);
}

-- the first of two stopped
pub writes_first : (first second : List ℕ) {before after : Side} {fault : WriteFault} → Writes first before (Err fault) after → Writes (first ++ second) before (Err fault) after
writes_first first second {before = before} {after = after} one =
    let none : Writes [] before (Ok tt) before = writes_nothing before in
    record {
      went = stops_within [] first second none.went none.faults one.went;
      faults = one.faults;
    }
