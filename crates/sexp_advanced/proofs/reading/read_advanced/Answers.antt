use Rattle.std.{proofs.Common.{List, ℕ, ◌++◌, length, take, drop, Result, Ok, Err, subst, sym}, specs.Prelude.IfOk}
use Rattle.sexp_canonical.specs.declared.tree.Sexp.{Sexp}
use Rattle.sexp_advanced.{specs.{declared.fault.AdvFault.AdvFault, Reading.{ReadsAdvanced, IsExpression}, Writing.{advanced_of, EndsToken}}, proofs.{Following.following_read, Again.written_again}}
use Rattle.sexp_advanced.proofs.OneAnswer as answers
use Rattle.sexp_advanced.proofs.reading.read_advanced.Goals as goal

pub returns-clause-only : goal.returns-clause-only
returns-clause-only c = answers.only c.args.bytes.now c.read_front.result c.read_front.ensures.found c.read_front.ensures.fault

pub returns-clause-again : goal.returns-clause-again
returns-clause-again c =
    λ tree blanks more before octets shallow ends parts.
    answers.only c.args.bytes.now c.read_front.result c.read_front.ensures.found c.read_front.ensures.fault (Ok (tree, length (blanks ++ advanced_of tree)))
    (subst (λ (text : List ℕ). ReadsAdvanced text (Ok (tree, length (blanks ++ advanced_of tree)))) (sym parts) (written_again tree blanks more before octets shallow ends))

if_read : (bytes : List ℕ) (r : Result (Sexp × ℕ) AdvFault) → IfOk r (λ read. IsExpression bytes read.0 read.1)
    → IfOk r (λ read. (more : List ℕ) → (EndsToken (drop read.1 bytes) → EndsToken more) → IsExpression (take read.1 bytes ++ more) read.0 read.1)
if_read bytes (Ok read) h = following_read bytes read.0 read.1 h
if_read bytes (Err fault) h = tt

pub returns-clause-behind : goal.returns-clause-behind
returns-clause-behind c = if_read c.args.bytes.now c.read_front.result c.read_front.ensures.found
