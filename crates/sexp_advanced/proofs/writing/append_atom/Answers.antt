use Rattle.std.proofs.Common.{arith}
use Rattle.sexp_advanced.proofs.Written.{octets_from}
use Rattle.sexp_advanced.proofs.writing.append_atom.Goals as goal

pub returns-in_err-extend_from_slice-clause-octets : goal.returns-in_err-extend_from_slice-clause-octets
returns-in_err-extend_from_slice-clause-octets c = octets_from c.args.bytes.now (λ i. omega (arith, c.type_inv.bytes i))

pub returns-in_err-append_hex-clause-octets : goal.returns-in_err-append_hex-clause-octets
returns-in_err-append_hex-clause-octets c = octets_from c.args.bytes.now (λ i. omega (arith, c.type_inv.bytes i))

pub returns-in_ok-extend_from_slice-clause-octets : goal.returns-in_ok-extend_from_slice-clause-octets
returns-in_ok-extend_from_slice-clause-octets c = octets_from c.args.bytes.now (λ i. omega (arith, c.type_inv.bytes i))

pub returns-in_ok-append_hex-clause-octets : goal.returns-in_ok-append_hex-clause-octets
returns-in_ok-append_hex-clause-octets c = octets_from c.args.bytes.now (λ i. omega (arith, c.type_inv.bytes i))
