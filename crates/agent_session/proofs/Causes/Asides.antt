-- Lines that answer nothing, and what stands before an OK line.
use Rattle.std.{proofs.{Common.{◌≡◌, ℕ, Bool, true, false, List, [], ◌∷◌, ◌++◌, codes, refl, sym, ap, subst, append_assoc, append-nil, ◌∙◌, arith}, lemmas.{Bool.and_parts, List.Folds.list_any-append}}, specs.List.list_all}
use Rattle.std.specs.Prelude.{not, ◌||◌, ◌<◌, ◌^◌, decimal, if◌then◌else◌}
use Rattle.{agent_commands.specs.Answers.comments, agent_ports.specs.declared.grip.Grip.Grip, assuan_escape.{proofs.EscapeLemmas.{has_lf_escapes, has_lf_hex_text}, specs.{DataLines.data_text, Escapes.hex_text}}}
use Rattle.{assuan_server.{proofs.NoteLines.decimal_no_lf, specs.Written.limit_line}, assuan_text.specs.LineEnds.{is_lf, has_lf, line_of}, cache_policy.specs.declared.secret.TheConstants.MAX_SECRET_LEN}
use Rattle.key_commands.specs.Lines.{info_line, info_text, nonce_line}
use Rattle.agent_session.specs.Completeness.{IsAside, of_data, of_status, of_comment, AreAsides, none, one_more, IsStatus}

pub asides_append : {first more : List ℕ} → AreAsides first → AreAsides more → AreAsides (first ++ more)
asides_append none rest = rest
asides_append {more} (one_more {line} {more = later} aside before) rest = subst AreAsides (sym (append_assoc (line_of line) later more)) (one_more aside (asides_append before rest))

pub one_aside : {line : List ℕ} → IsAside line → AreAsides (line_of line)
one_aside {line} aside = subst AreAsides (append-nil (line_of line)) (one_more aside none)

-- ---- data lines

pub data_aside : (pieces : List (List ℕ)) → AreAsides (data_text pieces)
data_aside [] = none
data_aside (piece ∷ more) = one_more (of_data (has_lf_escapes piece)) (data_aside more)

-- ---- comments

not_true : (b : Bool) → not b ≡ true → b ≡ false
not_true false is = refl
not_true true is = absurd (cc is)

pub comments_aside : (names : List (List ℕ)) → list_all (λ name. not (has_lf name)) names ≡ true → AreAsides (comments names)
comments_aside [] each = none
comments_aside (name ∷ more) each =
    let actions = and_parts (not (has_lf name)) (list_all (λ name. not (has_lf name)) more) each in
    one_more (of_comment (not_true (has_lf name) actions.0)) (comments_aside more actions.1)

-- ---- status lines

pub status_aside : {text : List ℕ} → IsStatus text → AreAsides text
status_aside status = subst AreAsides (sym status.is) (one_aside (of_status status.one_line))

both_short : (first more : List ℕ) → has_lf first ≡ false → has_lf more ≡ false → has_lf (first ++ more) ≡ false
both_short first more short others = list_any-append is_lf first more ∙ ap (λ (b : Bool). b || has_lf more) short ∙ others

either_short : (flag : Bool) (xs ys : List ℕ) → has_lf xs ≡ false → has_lf ys ≡ false → has_lf (if flag then xs else ys) ≡ false
either_short true xs ys short others = short
either_short false xs ys short others = others

-- the first actions of what is known of a key
abbrev grip_told : Grip → List ℕ
grip_told grip = hex_text grip.0 ++ codes " D - - "

abbrev cached_told : Grip → Bool → List ℕ
cached_told grip cached = grip_told grip ++ (if cached then codes "1" else codes "-")

abbrev clear_told : Grip → Bool → Bool → List ℕ
clear_told grip cached clear = cached_told grip cached ++ codes " " ++ (if clear then codes "C" else codes "P")

info_short : (grip : Grip) (cached clear : Bool) → has_lf (info_text grip cached clear) ≡ false
info_short grip cached clear =
    let first = both_short (hex_text grip.0) (codes " D - - ") (has_lf_hex_text grip.0) refl in
    let second = both_short (grip_told grip) _ first (either_short cached (codes "1") (codes "-") refl refl) in
    let third = both_short (cached_told grip cached ++ codes " ") _ (both_short (cached_told grip cached) (codes " ") second refl) (either_short clear (codes "C") (codes "P") refl refl) in
    both_short (clear_told grip cached clear) (codes " - - -") third refl

-- what is known of a key
pub info_status : (grip : Grip) (cached clear : Bool) → IsStatus (info_line grip cached clear)
info_status grip cached clear = record { rest = codes "KEYINFO" ++ codes " " ++ info_text grip cached clear; is = refl; one_line = info_short grip cached clear }

-- the nonce under which a passphrase was cached
pub nonce_status : (nonce : List ℕ) → IsStatus (nonce_line (hex_text nonce))
nonce_status nonce = record { rest = codes "CACHE_NONCE" ++ codes " " ++ hex_text nonce; is = refl; one_line = has_lf_hex_text nonce }

-- how much the client may send, by digits
pub limit_status : (limit : ℕ) → limit < 2 ^ 64 → IsStatus (limit_line limit)
limit_status limit small = record { rest = codes "INQUIRE_MAXLEN" ++ codes " " ++ decimal limit; is = refl; one_line = decimal_no_lf limit small }

-- as it stands before each passphrase that a client gives
pub secret_limit : IsStatus (limit_line MAX_SECRET_LEN)
secret_limit = limit_status MAX_SECRET_LEN (omega arith)
