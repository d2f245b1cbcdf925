use Rattle.std.proofs.{Common.{ap, ◌∙◌, sym, take, length, ◌+◌, ◌-◌, List, ℕ, refl, rules}, lemmas.Slice.take-put_mid}
use Rattle.agent_ports.specs.Sides.{followed_by}
use Rattle.passphrase_client.proofs.Filling.{filled, followed_twice}
use Rattle.passphrase_client.proofs.input.+fill.Goals as goal

pub returns-in_ok-more-in-Bytes-clause-taken : goal.returns-in_ok-more-in-Bytes-clause-taken
returns-in_ok-more-in-Bytes-clause-taken g t c =
    let read = c.read.new.buf in
    let count = c.in-Bytes.count in
    let more = c.in_ok-more-in-Bytes.more in
    c.in-Bytes.ensures.taken ∙ ap (λ rest. followed_by (take count read) rest) c.in_ok-more-in-Bytes.ensures.taken
    ∙ followed_twice (take count read) (take more c.fill.new.buffer) (g.I.Source.input c.fill.new.input).bytes
    ∙ ap (λ (x : List ℕ). followed_by x (g.I.Source.input c.fill.new.input).bytes) (sym (filled count more read c.fill.new.buffer _ (search rules) (search rules)
    (take-put_mid count (length read - count) read c.fill.new.buffer (count + length c.fill.new.buffer) refl (search rules))))
