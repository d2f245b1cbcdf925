-- What is said, in its parts.
use Rattle.std.proofs.{Common.{◌≡◌, ◌++◌, [], ◌∙◌, ℕ, List, Result, Ok, Err, IsErr, sym, ap, take, drop}, lemmas.List.{append-nil, map-append, take-append-drop}}
use Rattle.{agent_ports.{specs.{Sides.Side, Writing.Writes, declared.link.WriteFault.WriteFault}, proofs.Writing.{writes_as, writes_then, writes_first}}, printable.specs.Printables.{printable, printable_byte}}
use Rattle.passphrase_client.specs.Messages.{said}

pub said_parts : (first second third last : List ℕ) → said (first ++ (second ++ (third ++ (last ++ [])))) ≡ said (first ++ (second ++ (third ++ last)))
said_parts first second third last = ap (λ (x : List ℕ). said (first ++ (second ++ (third ++ x)))) (append-nil last)

-- a first text was written so that it can be printed, and then a second one, whole or in part
pub printed_then : (first second : List ℕ) {before mid after : Side} {result : Result (Unit {0}) WriteFault} → Writes (printable first) before (Ok tt) mid
    → Writes (printable second) mid result after → Writes (printable (first ++ second)) before result after
printed_then first second one two = writes_as (sym (map-append printable_byte first second)) (writes_then (printable first) (printable second) one two)

-- the first of two stopped
pub printed_first : (first second : List ℕ) {before after : Side} {fault : WriteFault} → Writes (printable first) before (Err fault) after
    → Writes (printable (first ++ second)) before (Err fault) after
printed_first first second one = writes_as (sym (map-append printable_byte first second)) (writes_first (printable first) (printable second) one)

parted : (count : ℕ) (whole first second : List ℕ) → first ≡ take count whole → second ≡ drop count whole → first ++ second ≡ whole
parted count whole first second is rest =
    ap (λ (x : List ℕ). x ++ second) is ∙ ap (λ (x : List ℕ). take count whole ++ x) rest ∙ take-append-drop count whole

-- of a text that was parted so, the first part was written, and then the second one
pub parted_then : (count : ℕ) (whole first second : List ℕ) {before mid after : Side} {result : Result (Unit {0}) WriteFault} → first ≡ take count whole → second ≡ drop count whole
    → Writes (printable first) before (Ok tt) mid → Writes (printable second) mid result after → Writes (printable whole) before result after
parted_then count whole first second is rest one two = writes_as (ap printable (parted count whole first second is rest)) (printed_then first second one two)

-- its first part stopped
pub parted_first : (count : ℕ) (whole first second : List ℕ) {before after : Side} {fault : WriteFault} → first ≡ take count whole → second ≡ drop count whole
    → Writes (printable first) before (Err fault) after → Writes (printable whole) before (Err fault) after
parted_first count whole first second is rest one = writes_as (ap printable (parted count whole first second is rest)) (printed_first first second one)

-- a write that failed, by whatever fault
pub failed_as : {text : List ℕ} {before after : Side} {fault : WriteFault} (result : Result (Unit {0}) WriteFault) → IsErr result → Writes text before (Err fault) after → Writes text before result after
failed_as (Ok done) is cut = absurd (cc is)
failed_as (Err other) is cut = cut
