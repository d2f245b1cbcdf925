-- An error line says its code and where it comes from.
use Rattle.std.{proofs.Common.{◌≡◌, ◌==◌, ◌+◌, ◌*◌, ◌-◌, ◌%◌, ◌/◌, ℕ, List, [], ◌∷◌, take, drop, refl, sym, ap, ◌∙◌}, specs.{Fmt.digits, Prelude.{if◌then◌else◌, nat_lt}}}
use Rattle.{assuan_server.specs.{Errors.error_text, declared.errors.Origin.{Origin, TheVariants.{Agent, Pinentry}}}, session_client.specs.declared.code.Code.Code, assuan_text.specs.LineEnds.line_of}
use Rattle.agent_session.{specs.Completeness.IsStatus, proofs.Causes.Replying.{IsReply, begins}}
use Rattle.session_client.specs.declared.code.Code.TheVariants as code

-- the number that these digits are, up to a byte below them
abbrev number_by : ℕ → List ℕ → ℕ
number_by sofar [] = sofar
number_by sofar (byte ∷ more) = if nat_lt byte 48 then sofar else number_by (sofar * 10 + (byte - 48)) more

-- the number that stands in an error line, and the code and the origin that have it
abbrev number_in : List ℕ → ℕ
number_in line = number_by 0 (take 9 (drop 4 line))

abbrev code_named : ℕ → Code
code_named number =
    if number == 1 then code.General else
    (if number == 7 then code.BadSecKey else
    (if number == 10 then code.Checksum else
    (if number == 11 then code.BadPass else
    (if number == 17 then code.NoSecKey else
    (if number == 58 then code.NoData else
    (if number == 60 then code.NotSupported else
    (if number == 62 then code.Timeout else
    (if number == 83 then code.InvSexp else
    (if number == 86 then code.NoPinentry else
    (if number == 98 then code.NotTrusted else
    (if number == 99 then code.Cancelled else
    (if number == 114 then code.NotConfirmed else
    (if number == 174 then code.UnknownOption else
    (if number == 251 then code.Forbidden else
    (if number == 263 then code.LineTooLong else
    (if number == 273 then code.TooMuch else
    (if number == 274 then code.Unexpected else
    (if number == 275 then code.UnknownCommand else
    (if number == 280 then code.Parameter else
    (if number == 32803 then code.FileExists else
    code.NoMemory))))))))))))))))))))

abbrev origin_named : ℕ → Origin
origin_named number = if number == 4 then Agent else Pinentry

code_back : (why : Code) (origin : Origin) → code_named (number_in (line_of (error_text why origin)) % 16777216) ≡ why
unfolding digits
code_back code.General Agent = refl
code_back _ Agent = refl
code_back code.General Pinentry = refl
code_back _ Pinentry = refl

origin_back : (why : Code) (origin : Origin) → origin_named (number_in (line_of (error_text why origin)) / 16777216) ≡ origin
unfolding digits
origin_back code.General Agent = refl
origin_back _ Agent = refl
origin_back code.General Pinentry = refl
origin_back _ Pinentry = refl

-- so one line is that of one code and one origin
pub same_code : (one other : Code) (from to : Origin) → line_of (error_text one from) ≡ line_of (error_text other to) → one ≡ other
same_code one other from to is = sym (code_back one from) ∙ ap (λ line. code_named (number_in line % 16777216)) is ∙ code_back other to

pub same_origin : (one other : Code) (from to : Origin) → line_of (error_text one from) ≡ line_of (error_text other to) → from ≡ to
same_origin one other from to is = sym (origin_back one from) ∙ ap (λ line. origin_named (number_in line / 16777216)) is ∙ origin_back other to

-- and it is neither a status line nor a text that begins otherwise
abbrev begins_error : (why : Code) (origin : Origin) → (rest : List ℕ) × (line_of (error_text why origin) ≡ 69 ∷ rest)
begins_error why origin = (_, refl)

pub no_reply : (why : Code) (origin : Origin) {text : List ℕ} → IsReply text → line_of (error_text why origin) ≡ text → ⊥
no_reply why origin (begins {first} {rest} other ends) is = let e : 69 ∷ (begins_error why origin).0 ≡ first ∷ rest = is in let same : first ≡ 69 = cc e in other same

pub no_status : (why : Code) (origin : Origin) → IsStatus (line_of (error_text why origin)) → ⊥
no_status why origin status = let e : 69 ∷ (begins_error why origin).0 ≡ 83 ∷ 32 ∷ line_of status.rest = status.is in absurd (cc e)
