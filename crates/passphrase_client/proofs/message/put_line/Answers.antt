use Rattle.std.{proofs.Common.{List, ℕ, [], ◌∷◌, ◌++◌, codes}, specs.List.flat_map}
use Rattle.{agent_ports.proofs.Writing.{writes_then, writes_first}, printable.specs.Printables.printable}
use Rattle.passphrase_client.proofs.Saying.{failed_as}
use Rattle.passphrase_client.proofs.message.put_line.Goals as goal

pub returns-in_err-put : goal.returns-in_err-put
returns-in_err-put g c =
    let text : List ℕ = printable (flat_map (λ part. part.now) c.args.parts.now) in
    failed_as c.from_residual.result c.from_residual.ensures.0 (writes_first (codes "passphrase: ") (text ++ 10 ∷ []) c.in_err-put.ensures)

pub returns-in_err-put_all : goal.returns-in_err-put_all
returns-in_err-put_all g c =
    let text : List ℕ = printable (flat_map (λ part. part.now) c.args.parts.now) in
    failed_as c.from_residual-in_err-put_all.result c.from_residual-in_err-put_all.ensures.0
    (writes_then (codes "passphrase: ") (text ++ 10 ∷ []) c.in_ok-put.ensures (writes_first text (10 ∷ []) c.in_err-put_all.ensures))

pub returns : goal.returns
returns g c =
    let text : List ℕ = printable (flat_map (λ part. part.now) c.args.parts.now) in
    writes_then (codes "passphrase: ") (text ++ 10 ∷ []) c.in_ok-put.ensures (writes_then text (10 ∷ []) c.in_ok-put_all.ensures c.put-2.ensures)
