-- The fields of a line with a command on keys.
use Rattle.std.{proofs.{Common.{◌≡◌, ◌==◌, ◌↔◌, ℕ, Bool, true, false, cond, List, ◌++◌, length, Option, Some, None, Result, Ok, Err, IsSome, IfSome, refl}, lemmas.Bool.{eq-eqb, eqb-true}}, specs.List.AllPass}
use Rattle.{agent_ports.specs.declared.grip.Grip.Grip, session_client.specs.{declared.code.Code.Code, Fields.◌>>=◌}, hex.{specs.{Hex.{decode_of, is_hex_digit}, declared.error.FromHexError.FromHexError}, proofs.HexLemmas.decode_of-ok}}
use Rattle.key_commands.specs.Requests.{grip, grip_of_bytes}

-- these grips, and then those
abbrev pub onto : List Grip → Result (List Grip) Code → Result (List Grip) Code
onto grips others = others >>= λ more. Ok (grips ++ more)

no_grip : (word : List ℕ) (digits : Result (List ℕ) FromHexError) → decode_of word ≡ digits → (((length word ≡ 40) × AllPass is_hex_digit word) → ⊥)
    → (fits : Bool) → (length word == 40) ≡ fits → None ≡ cond fits (grip_of_bytes digits) None
no_grip word digits is none false fits = refl
no_grip word (Err fault) is none true fits = refl
no_grip word (Ok bytes) is none true fits = absurd (none (eqb-true (length word) 40 fits, (decode_of-ok word bytes is).1))

-- a word is read as a grip exactly where it is 40 hexadecimal digits
pub reads_grip : (word : List ℕ) (found : Option Grip) → IfSome found (λ g. decode_of word ≡ Ok g.0)
    → (IsSome found ↔ ((length word ≡ 40) × AllPass is_hex_digit word)) → found ≡ grip word
reads_grip word (Some g) is some = let len : length word ≡ 40 = (some.0 refl).0 in rw (eq-eqb (length word) 40 len, is) refl
reads_grip word None is some = no_grip word (decode_of word) refl (λ h. cc (some.1 h)) (length word == 40) refl
