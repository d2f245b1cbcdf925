-- Error lines are lines.
use Rattle.std.{proofs.Common.{refl, lit≤}, specs.Fmt.digits}
use Rattle.{assuan_line.specs.Lines.IsLine, session_client.specs.declared.code.Code.Code}
use Rattle.session_client.specs.declared.code.Code.TheVariants.{General, BadSecKey, Checksum, BadPass, NoSecKey, NoData, NotSupported, Timeout, InvSexp, NoPinentry, NotTrusted, Cancelled, NotConfirmed, UnknownOption, Forbidden, LineTooLong}
use Rattle.session_client.specs.declared.code.Code.TheVariants.{TooMuch, Unexpected, UnknownCommand, Parameter, FileExists, NoMemory}
use Rattle.assuan_server.specs.{Errors.error_text, declared.errors.Origin.{Origin, TheVariants.{Agent, Pinentry}}}

pub error_line : (code : Code) (origin : Origin) → IsLine (error_text code origin)
unfolding digits
error_line General Agent = record { short = lit≤ tt; whole = refl }
error_line General Pinentry = record { short = lit≤ tt; whole = refl }
error_line BadSecKey Agent = record { short = lit≤ tt; whole = refl }
error_line BadSecKey Pinentry = record { short = lit≤ tt; whole = refl }
error_line Checksum Agent = record { short = lit≤ tt; whole = refl }
error_line Checksum Pinentry = record { short = lit≤ tt; whole = refl }
error_line BadPass Agent = record { short = lit≤ tt; whole = refl }
error_line BadPass Pinentry = record { short = lit≤ tt; whole = refl }
error_line NoSecKey Agent = record { short = lit≤ tt; whole = refl }
error_line NoSecKey Pinentry = record { short = lit≤ tt; whole = refl }
error_line NoData Agent = record { short = lit≤ tt; whole = refl }
error_line NoData Pinentry = record { short = lit≤ tt; whole = refl }
error_line NotSupported Agent = record { short = lit≤ tt; whole = refl }
error_line NotSupported Pinentry = record { short = lit≤ tt; whole = refl }
error_line Timeout Agent = record { short = lit≤ tt; whole = refl }
error_line Timeout Pinentry = record { short = lit≤ tt; whole = refl }
error_line InvSexp Agent = record { short = lit≤ tt; whole = refl }
error_line InvSexp Pinentry = record { short = lit≤ tt; whole = refl }
error_line NoPinentry Agent = record { short = lit≤ tt; whole = refl }
error_line NoPinentry Pinentry = record { short = lit≤ tt; whole = refl }
error_line NotTrusted Agent = record { short = lit≤ tt; whole = refl }
error_line NotTrusted Pinentry = record { short = lit≤ tt; whole = refl }
error_line Cancelled Agent = record { short = lit≤ tt; whole = refl }
error_line Cancelled Pinentry = record { short = lit≤ tt; whole = refl }
error_line NotConfirmed Agent = record { short = lit≤ tt; whole = refl }
error_line NotConfirmed Pinentry = record { short = lit≤ tt; whole = refl }
error_line UnknownOption Agent = record { short = lit≤ tt; whole = refl }
error_line UnknownOption Pinentry = record { short = lit≤ tt; whole = refl }
error_line Forbidden Agent = record { short = lit≤ tt; whole = refl }
error_line Forbidden Pinentry = record { short = lit≤ tt; whole = refl }
error_line LineTooLong Agent = record { short = lit≤ tt; whole = refl }
error_line LineTooLong Pinentry = record { short = lit≤ tt; whole = refl }
error_line TooMuch Agent = record { short = lit≤ tt; whole = refl }
error_line TooMuch Pinentry = record { short = lit≤ tt; whole = refl }
error_line Unexpected Agent = record { short = lit≤ tt; whole = refl }
error_line Unexpected Pinentry = record { short = lit≤ tt; whole = refl }
error_line UnknownCommand Agent = record { short = lit≤ tt; whole = refl }
error_line UnknownCommand Pinentry = record { short = lit≤ tt; whole = refl }
error_line Parameter Agent = record { short = lit≤ tt; whole = refl }
error_line Parameter Pinentry = record { short = lit≤ tt; whole = refl }
error_line FileExists Agent = record { short = lit≤ tt; whole = refl }
error_line FileExists Pinentry = record { short = lit≤ tt; whole = refl }
error_line NoMemory Agent = record { short = lit≤ tt; whole = refl }
error_line NoMemory Pinentry = record { short = lit≤ tt; whole = refl }
