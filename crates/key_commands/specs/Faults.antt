-- How requests are refused whose key can't be used. The codes are this project's own.
use Rattle.{session_client.specs.declared.code.Code.Code, sexp_keys.specs.declared.fault.KeyFault.KeyFault}
use Rattle.session_client.specs.declared.code.Code.TheVariants as code
use Rattle.sexp_keys.specs.declared.fault.KeyFault.TheVariants as faults

-- how a request is refused whose key has this fault
abbrev pub fault_code : KeyFault → Code
fault_code faults.InvSexp = code.InvSexp
fault_code faults.BadSecKey = code.BadSecKey
fault_code faults.Shadowed = code.NotSupported
fault_code faults.NotSupported = code.NotSupported
fault_code faults.NoMemory = code.NoMemory
