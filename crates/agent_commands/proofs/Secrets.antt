-- Passphrases of worked rows: they are bytes, and not too many.
use Rattle.std.{specs.List.AllByRecursion, proofs.{Common.{ℕ, ◌<◌, ◌≤◌, List, [], ◌∷◌, length, All}, lemmas.List.Elements.{All-cons, All-nil}}}
use Rattle.agent_commands.specs.Answers.{IsSecret}

small : (bytes : List ℕ) → AllByRecursion (λ byte. byte < 256) bytes → All (λ byte. byte < 256) bytes
small [] each = All-nil (λ byte. byte < 256)
small (byte ∷ bytes) each = All-cons (λ byte. byte < 256) byte bytes each.0 (small bytes each.1)

pub is_secret : (secret : List ℕ) → AllByRecursion (λ byte. byte < 256) secret → length secret ≤ 255 → IsSecret secret
is_secret secret each short = record { bytes = small secret each; short = short }
