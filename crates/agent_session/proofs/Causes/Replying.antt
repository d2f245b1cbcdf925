-- Texts that answer a request, and aren't error lines.
use Rattle.std.{proofs.Common.{◌≡◌, ◌≢◌, ℕ, Bool, true, false, List, [], ◌∷◌, ◌++◌, not, codes, refl, sym, subst, arith}, specs.{Prelude.if◌then◌else◌, List.{list_all, list_any}}}
use Rattle.{agent_commands.specs.Answers.{closing, help, comments}, assuan_server.specs.Written.ok, command_table.specs.Commands.{commands, names_told}, assuan_escape.specs.{DataLines.data_text, Escapes.hex_text}}
use Rattle.{assuan_escape.proofs.EscapeLemmas.has_lf_hex_text, assuan_text.specs.LineEnds.{has_lf, line_of}}
use Rattle.agent_session.{specs.Completeness.{AreAsides, none, of_status, EndsInOk, IsStatus}, proofs.Causes.Asides.{comments_aside, data_aside, nonce_status, one_aside}}
use Rattle.assuan_server.specs.Written as written
use Rattle.agent_commands.specs.Answers as answers
use Rattle.key_commands.specs.Lines as lines

-- it begins with another byte than `E`, and ends in an OK line
pub data IsReply : List ℕ → Type 0 where
  begins : {first : ℕ} {rest : List ℕ} → first ≢ 69 → EndsInOk (first ∷ rest) → IsReply (first ∷ rest)

-- an OK line behind these
pub ends_in_ok : {before : List ℕ} → AreAsides before → EndsInOk (before ++ ok)
ends_in_ok {before} asides = record { before = before; asides = asides; rest = []; is = refl; one_line = refl }

pub reply_ok : IsReply ok
reply_ok = begins (λ e. omega (arith, e)) (ends_in_ok none)

pub reply_closing : IsReply closing
reply_closing = begins (λ e. omega (arith, e)) (record { before = []; asides = none; rest = codes " closing connection"; is = refl; one_line = refl })

-- a comment for one name at least, and OK
pub reply_names : (names : List (List ℕ)) → list_all (λ name. not (has_lf name)) names ≡ true → list_any (λ name. true) names ≡ true → IsReply (comments names ++ ok)
reply_names [] each some = cc some
reply_names (name ∷ more) each some = begins (λ e. omega (arith, e)) (ends_in_ok (comments_aside (name ∷ more) each))

pub reply_help : IsReply help
reply_help = reply_names (names_told false commands) refl refl

pub reply_status : (line : List ℕ) → IsStatus line → IsReply (line ++ ok)
reply_status line status = subst (λ (l : List ℕ). IsReply (l ++ ok)) (sym status.is) (begins (λ e. omega (arith, e)) (ends_in_ok (one_aside (of_status status.one_line))))

pub reply_nonce : (nonce : List ℕ) → IsReply (lines.nonce_line (hex_text nonce) ++ ok)
reply_nonce nonce = reply_status (lines.nonce_line (hex_text nonce)) (nonce_status nonce)

reply_data : (pieces : List (List ℕ)) → IsReply (data_text pieces ++ ok)
reply_data [] = reply_ok
reply_data (piece ∷ more) = begins (λ e. omega (arith, e)) (ends_in_ok (data_aside (piece ∷ more)))

pub reply_keys : {bytes text : List ℕ} → written.IsDataAnswer bytes text → IsReply text
reply_keys answer = subst IsReply (sym answer.text_is) (reply_data answer.pieces)

pub reply_cache : {bytes text : List ℕ} → written.IsDataAnswer bytes text → IsReply text
reply_cache answer = subst IsReply (sym answer.text_is) (reply_data answer.pieces)

reply_text : (empty : Bool) (text : List ℕ) → has_lf text ≡ false → IsReply (line_of (if empty then codes "OK" else codes "OK " ++ text))
reply_text true text short = reply_ok
reply_text false text short = begins (λ e. omega (arith, e)) (record { before = []; asides = none; rest = 32 ∷ text; is = refl; one_line = short })

pub reply_passphrase : (plain : Bool) (secret text : List ℕ) → answers.IsPassphrase plain secret text → IsReply text
reply_passphrase true secret text answer = reply_cache answer.written
reply_passphrase false secret text answer = subst IsReply (sym answer.written) (reply_text _ (hex_text secret) (has_lf_hex_text secret))
