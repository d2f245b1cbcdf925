-- The passphrase on the input, of which not all bytes are read where they are too many.
use Rattle.std.proofs.Common.{◌≡◌, ◌⊎◌, inl, inr, ◌≤◌, ◌<◌, ◌++◌, ◌∙◌, ℕ, List, [], length, take, sym, ap, arith, rules, append-nil, Option, Some, None, IfSome, IfOk, IfErr, MatchResult, Result, Ok, Err}
use Rattle.std.proofs.{lemmas.List.{length-take-le, length-append}, Math.Nat.eq-or-lt_of_le}
use Rattle.agent_ports.specs.{Sides.{Side, followed_by}, Counts.Rose}
use Rattle.passphrase_client.specs.{Inputs.{TakesSecret, secret_of, without_end}, declared.input.InputFault.{InputFault, TheVariants.{Unread, TooLong}}}

-- the bytes decide, and never that they weren't read
pub never_unread : (text : List ℕ) → secret_of text ≡ Err Unread → ⊥
never_unread text is = grind (arith, rules)

pub long_text : (text : List ℕ) → 255 < length text → secret_of text ≡ Err TooLong
long_text text long = grind (arith, rules)

pub too_long : (text : List ℕ) → 256 < length text → secret_of (without_end text) ≡ Err TooLong
too_long text long = long_text (without_end text) (grind (arith, rules))

same_when : (text rest : List ℕ) (size : ℕ) → length text ≡ size → (size ≡ 257) ⊎ (rest ≡ []) → secret_of (without_end text) ≡ secret_of (without_end (text ++ rest))
same_when text rest size is (inl many) = too_long text (omega (arith, is, many)) ∙ sym (too_long (text ++ rest) (omega (arith, is, many, length-append text rest)))
same_when text rest size is (inr none) = ap (λ (x : List ℕ). secret_of (without_end x)) (sym (append-nil text) ∙ ap (λ (x : List ℕ). text ++ x) (sym none))

many_or_none : {count size : ℕ} {rest : List ℕ} → size ≡ 257 → (count < size → rest ≡ []) → (count ≡ size) ⊎ (count < size) → (count ≡ 257) ⊎ (rest ≡ [])
many_or_none is ended (inl all) = inl (all ∙ is)
many_or_none is ended (inr less) = inr (ended less)

-- so many bytes of a buffer, up to the input's end or all that it holds, have the passphrase that the whole input has
pub read_whole : (before after : Option (List ℕ)) (count : ℕ) (buffer : List ℕ) → length buffer ≡ 257 → count ≤ length buffer → before ≡ followed_by (take count buffer) after
    → (count < length buffer → IfSome after (λ rest. rest ≡ [])) → IfSome before (λ bytes. secret_of (without_end (take count buffer)) ≡ secret_of (without_end bytes))
read_whole before None count buffer size within taken ended = rw taken tt
read_whole before (Some rest) count buffer size within taken ended =
    rw taken (same_when (take count buffer) rest count (length-take-le count buffer within) (many_or_none size ended (eq-or-lt_of_le within)))

-- what was read, or that it couldn't be, is what the input has
pub takes : (before after : Side) (buffer : List ℕ) (count : Result ℕ InputFault) (result : Result (List ℕ) InputFault) → length buffer ≡ 257
    → IfOk count (λ n. n ≤ 257) → IfOk count (λ n. before.bytes ≡ followed_by (take n buffer) after.bytes)
    → IfOk count (λ n. n < 257 → IfSome after.bytes (λ rest. rest ≡ [])) → IfErr count (λ fault. fault ≡ Unread) → IfErr count (λ _. Rose before.faults after.faults)
    → before.faults ≤ after.faults → MatchResult count (λ n. result ≡ secret_of (without_end (take n buffer))) (λ fault. result ≡ Err fault) → TakesSecret before result after
takes before after buffer (Ok n) result size within taken ended unread rose faults is = record {
  fault = λ failed. absurd (never_unread (without_end (take n buffer)) (sym is ∙ failed));
  secret = λ _. rw is (read_whole before.bytes after.bytes n buffer size (omega (arith, within, size)) taken (λ less. ended (omega (arith, less, size))));
  faults = faults;
}
takes before after buffer (Err fault) result size within taken ended unread rose faults is = record {
  fault = λ _. rose;
  secret = λ not. absurd (not (is ∙ ap (λ (x : InputFault). Err x) unread));
  faults = faults;
}
