-- Each error line of an agent, as a client reads it.
use Rattle.std.{proofs.Common.{◌≡◌, ℕ, List, refl, arith}, specs.Fmt.digits}
use Rattle.{assuan_client.specs.Forms.{answer_form, Err}, assuan_server.specs.{Errors.{error_text, error_number}, declared.errors.Origin.{Origin, TheVariants.{Agent, Pinentry}}}, session_client.specs.declared.code.Code.Code}
use Rattle.passphrase_laws.proofs.Walking.{IsSent}
use Rattle.session_client.specs.declared.code.Code.TheVariants as code

-- it is read as it was written, and as an error of its number
pub record ErrorRow (line : List ℕ) (number : ℕ) : Type 0 where
  pub sent : IsSent line
  pub form_is : answer_form line ≡ Err number

pub error_row : (why : Code) (origin : Origin) → ErrorRow (error_text why origin) (error_number why origin)
unfolding digits
error_row code.General Agent = record { sent = record { short = omega arith; whole = refl; no_cr = refl }; form_is = refl }
error_row code.General Pinentry = record { sent = record { short = omega arith; whole = refl; no_cr = refl }; form_is = refl }
error_row code.BadSecKey Agent = record { sent = record { short = omega arith; whole = refl; no_cr = refl }; form_is = refl }
error_row code.BadSecKey Pinentry = record { sent = record { short = omega arith; whole = refl; no_cr = refl }; form_is = refl }
error_row code.Checksum Agent = record { sent = record { short = omega arith; whole = refl; no_cr = refl }; form_is = refl }
error_row code.Checksum Pinentry = record { sent = record { short = omega arith; whole = refl; no_cr = refl }; form_is = refl }
error_row code.BadPass Agent = record { sent = record { short = omega arith; whole = refl; no_cr = refl }; form_is = refl }
error_row code.BadPass Pinentry = record { sent = record { short = omega arith; whole = refl; no_cr = refl }; form_is = refl }
error_row code.NoSecKey Agent = record { sent = record { short = omega arith; whole = refl; no_cr = refl }; form_is = refl }
error_row code.NoSecKey Pinentry = record { sent = record { short = omega arith; whole = refl; no_cr = refl }; form_is = refl }
error_row code.NoData Agent = record { sent = record { short = omega arith; whole = refl; no_cr = refl }; form_is = refl }
error_row code.NoData Pinentry = record { sent = record { short = omega arith; whole = refl; no_cr = refl }; form_is = refl }
error_row code.NotSupported Agent = record { sent = record { short = omega arith; whole = refl; no_cr = refl }; form_is = refl }
error_row code.NotSupported Pinentry = record { sent = record { short = omega arith; whole = refl; no_cr = refl }; form_is = refl }
error_row code.Timeout Agent = record { sent = record { short = omega arith; whole = refl; no_cr = refl }; form_is = refl }
error_row code.Timeout Pinentry = record { sent = record { short = omega arith; whole = refl; no_cr = refl }; form_is = refl }
error_row code.InvSexp Agent = record { sent = record { short = omega arith; whole = refl; no_cr = refl }; form_is = refl }
error_row code.InvSexp Pinentry = record { sent = record { short = omega arith; whole = refl; no_cr = refl }; form_is = refl }
error_row code.NoPinentry Agent = record { sent = record { short = omega arith; whole = refl; no_cr = refl }; form_is = refl }
error_row code.NoPinentry Pinentry = record { sent = record { short = omega arith; whole = refl; no_cr = refl }; form_is = refl }
error_row code.NotTrusted Agent = record { sent = record { short = omega arith; whole = refl; no_cr = refl }; form_is = refl }
error_row code.NotTrusted Pinentry = record { sent = record { short = omega arith; whole = refl; no_cr = refl }; form_is = refl }
error_row code.Cancelled Agent = record { sent = record { short = omega arith; whole = refl; no_cr = refl }; form_is = refl }
error_row code.Cancelled Pinentry = record { sent = record { short = omega arith; whole = refl; no_cr = refl }; form_is = refl }
error_row code.NotConfirmed Agent = record { sent = record { short = omega arith; whole = refl; no_cr = refl }; form_is = refl }
error_row code.NotConfirmed Pinentry = record { sent = record { short = omega arith; whole = refl; no_cr = refl }; form_is = refl }
error_row code.UnknownOption Agent = record { sent = record { short = omega arith; whole = refl; no_cr = refl }; form_is = refl }
error_row code.UnknownOption Pinentry = record { sent = record { short = omega arith; whole = refl; no_cr = refl }; form_is = refl }
error_row code.Forbidden Agent = record { sent = record { short = omega arith; whole = refl; no_cr = refl }; form_is = refl }
error_row code.Forbidden Pinentry = record { sent = record { short = omega arith; whole = refl; no_cr = refl }; form_is = refl }
error_row code.LineTooLong Agent = record { sent = record { short = omega arith; whole = refl; no_cr = refl }; form_is = refl }
error_row code.LineTooLong Pinentry = record { sent = record { short = omega arith; whole = refl; no_cr = refl }; form_is = refl }
error_row code.TooMuch Agent = record { sent = record { short = omega arith; whole = refl; no_cr = refl }; form_is = refl }
error_row code.TooMuch Pinentry = record { sent = record { short = omega arith; whole = refl; no_cr = refl }; form_is = refl }
error_row code.Unexpected Agent = record { sent = record { short = omega arith; whole = refl; no_cr = refl }; form_is = refl }
error_row code.Unexpected Pinentry = record { sent = record { short = omega arith; whole = refl; no_cr = refl }; form_is = refl }
error_row code.UnknownCommand Agent = record { sent = record { short = omega arith; whole = refl; no_cr = refl }; form_is = refl }
error_row code.UnknownCommand Pinentry = record { sent = record { short = omega arith; whole = refl; no_cr = refl }; form_is = refl }
error_row code.Parameter Agent = record { sent = record { short = omega arith; whole = refl; no_cr = refl }; form_is = refl }
error_row code.Parameter Pinentry = record { sent = record { short = omega arith; whole = refl; no_cr = refl }; form_is = refl }
error_row code.FileExists Agent = record { sent = record { short = omega arith; whole = refl; no_cr = refl }; form_is = refl }
error_row code.FileExists Pinentry = record { sent = record { short = omega arith; whole = refl; no_cr = refl }; form_is = refl }
error_row code.NoMemory Agent = record { sent = record { short = omega arith; whole = refl; no_cr = refl }; form_is = refl }
error_row code.NoMemory Pinentry = record { sent = record { short = omega arith; whole = refl; no_cr = refl }; form_is = refl }
