-- The errors of an agent, by their numbers and texts. The table is this project's own, after libgpg-error.
use Rattle.std.specs.Prelude.{ℕ, List, codes}
use Rattle.session_client.specs.declared.code.Code.{Code}
use Rattle.session_client.specs.declared.code.Code.TheVariants.{General, BadSecKey, Checksum, BadPass, NoSecKey, NoData, NotSupported, Timeout, InvSexp, NoPinentry}
use Rattle.session_client.specs.declared.code.Code.TheVariants.{NotTrusted, Cancelled, NotConfirmed, UnknownOption, Forbidden, LineTooLong, TooMuch, Unexpected, UnknownCommand, Parameter, FileExists, NoMemory}

abbrev pub code_of : Code → ℕ
code_of General = 1
code_of BadSecKey = 7
code_of Checksum = 10
code_of BadPass = 11
code_of NoSecKey = 17
code_of NoData = 58
code_of NotSupported = 60
code_of Timeout = 62
code_of InvSexp = 83
code_of NoPinentry = 86
code_of NotTrusted = 98
code_of Cancelled = 99
code_of NotConfirmed = 114
code_of UnknownOption = 174
code_of Forbidden = 251
code_of LineTooLong = 263
code_of TooMuch = 273
code_of Unexpected = 274
code_of UnknownCommand = 275
code_of Parameter = 280
code_of FileExists = 32803
code_of NoMemory = 32854

abbrev pub error_description : Code → List ℕ
error_description General = codes "General error"
error_description BadSecKey = codes "Bad secret key"
error_description Checksum = codes "Checksum error"
error_description BadPass = codes "Bad passphrase"
error_description NoSecKey = codes "No secret key"
error_description NoData = codes "No data"
error_description NotSupported = codes "Not supported"
error_description Timeout = codes "Timeout"
error_description InvSexp = codes "Invalid S-expression"
error_description NoPinentry = codes "No pinentry"
error_description NotTrusted = codes "Not trusted"
error_description Cancelled = codes "Operation cancelled"
error_description NotConfirmed = codes "Not confirmed"
error_description UnknownOption = codes "Unknown option"
error_description Forbidden = codes "Forbidden"
error_description LineTooLong = codes "Line passed to IPC too long"
error_description TooMuch = codes "Too much data for IPC layer"
error_description Unexpected = codes "Unexpected IPC command"
error_description UnknownCommand = codes "Unknown IPC command"
error_description Parameter = codes "IPC parameter error"
error_description FileExists = codes "File exists"
error_description NoMemory = codes "Cannot allocate memory"
