use Rattle.std.{proofs.{Common.{◌≡◌, ◌<◌, ℕ, List, length, Result, Ok, Err, None, cond, refl, sym, ap, arith}, lemmas.Bool.lt-leb}, specs.Prelude.Some}
use Rattle.hex.{specs.{Hex.decode_of, declared.error.FromHexError.FromHexError}, proofs.HexLemmas.decode_of-ok}
use Rattle.agent_commands.specs.Fields.{passphrase}
use Rattle.agent_commands.proofs.fields.passphrase.Goals as goal

too_long : (decoded : Result (List ℕ) FromHexError) → ((bytes : List ℕ) → decoded ≡ Ok bytes → 255 < length bytes) → None ≡ passphrase decoded
too_long (Err _) long = refl
too_long (Ok bytes) long = sym (ap (λ b. cond b (Some bytes) None) (lt-leb (length bytes) 255 (long bytes refl)))

pub returns-then-count-gt-MAX_SECRET_LEN : goal.returns-then-count-gt-MAX_SECRET_LEN
returns-then-count-gt-MAX_SECRET_LEN c = too_long (decode_of c.args.digits.now) (λ bytes decodes. omega (arith, (decode_of-ok _ bytes decodes).2))
