-- The passphrase on standard input, which is to be stored: one line, whose line feed may be missing. What may stand in it is this project's own rule.
use Rattle.std.specs.Prelude.{◌≡◌, ◌≤◌, ℕ, ◌-◌, ◌==◌, List, length, take, slice_index, nat_lt, if◌then◌else◌, Result, Ok, Err, IfSome}
use Rattle.{agent_ports.specs.{Counts.Rose, Sides.Side}, cache_policy.specs.declared.secret.TheConstants.MAX_SECRET_LEN}
use Rattle.passphrase_client.specs.{Verdicts.is_one_line, declared.input.InputFault.{InputFault, TheVariants.{Unread, Empty, TooLong, NotOneLine}}}

-- the bytes without a line feed at their end
abbrev pub without_end : List ℕ → List ℕ
without_end bytes = if slice_index bytes (length bytes - 1) == 10 then take (length bytes - 1) bytes else bytes

-- the passphrase of this text
abbrev pub secret_of : List ℕ → Result (List ℕ) InputFault
secret_of text =
    if length text == 0 then Err Empty
    else if nat_lt MAX_SECRET_LEN (length text) then Err TooLong
    else if is_one_line text then Ok text
    else Err NotOneLine

-- The passphrase that stands on the input was taken, or was refused. All bytes of the input decide, where they are known; of those that are
-- too many not all are read.
pub record TakesSecret (before : Side) (result : Result (List ℕ) InputFault) (after : Side) : Type 0 where
  pub fault : result ≡ Err Unread → Rose before.faults after.faults
  pub secret : (result ≡ Err Unread → ⊥) → IfSome before.bytes (λ bytes. result ≡ secret_of (without_end bytes))
  pub faults : before.faults ≤ after.faults
