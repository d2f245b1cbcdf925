use Rattle.std.proofs.Common.{◌≡◌, ◌+◌, ◌≤◌, ℕ, List, ◌++◌, length, ap, arith, length-append}
use Rattle.percent_encoding.{specs.{Percent.percent_decode, Iter.decoded_bytes}, proofs.PercentLemmas.length-percent_decode}
use Rattle.assuan_escape.proofs.unescaping.decoded.Goals as goal

-- what was decoded so far is no longer than what was read
not_longer : (text rest bytes : List ℕ) → text ++ rest ≡ percent_decode bytes → length text + length rest ≤ length bytes
not_longer text rest bytes whole =
    omega (arith, length-append text rest, ap length whole, (length-percent_decode bytes).0)

pub push-requires : goal.push-requires
push-requires c =
    let fits = not_longer c.loop-byte.text.items (decoded_bytes c.loop-byte.byte-iterator) c.args.bytes.now c.loop-byte.invariant.2 in
    let more = ap length c.in-Some.ensures.steps in
    (omega arith, omega (arith, more, fits))

pub returns-clause-shorter : goal.returns-clause-shorter
returns-clause-shorter c =
    let fits = not_longer c.loop-byte.text.items (decoded_bytes c.loop-byte.byte-iterator) c.args.bytes.now c.loop-byte.invariant.2 in
    omega (arith, fits)
