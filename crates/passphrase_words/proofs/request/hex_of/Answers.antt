use Rattle.std.{proofs.{Common.{◌≡◌, ◌+◌, ◌<◌, ◌≤◌, ℕ, List, [], ◌∷◌, length, take, ap, arith, lit<, length-append}, lemmas.List.length-take-le}, specs.List.flat_map}
use Rattle.passphrase_words.{specs.Requests.hex_of, proofs.LineParts.hex_length}
use Rattle.passphrase_words.proofs.request.hex_of.Goals as goal

-- there is room for two digits more
so_far : (digits bytes : List ℕ) (place : ℕ) → digits ≡ flat_map hex_of (take place bytes) → place ≤ length bytes → length digits ≡ place + place
so_far digits bytes place is within =
    omega (arith, ap (λ (l : List ℕ). length l) is, hex_length (take place bytes), length-take-le place bytes within)

pub push-requires : goal.push-requires
push-requires c =
    let len = so_far c.loop-byte.digits c.args.bytes.now c.loop-byte.byte-index c.loop-byte.invariant (omega (arith, c.loop-byte-test.true)) in
    let small : length c.loop-byte.digits < 510 = omega (arith, len, c.loop-byte-test.true, c.requires) in
    (lit< tt, small)

pub push-requires-in-loop-byte : goal.push-requires-in-loop-byte
push-requires-in-loop-byte c =
    let len = so_far c.loop-byte.digits c.args.bytes.now c.loop-byte.byte-index c.loop-byte.invariant (omega (arith, c.loop-byte-test.true)) in
    let small : length c.push.new.self < 510 =
    omega (arith, len, ap (λ (l : List ℕ). length l) c.push.ensures, length-append c.loop-byte.digits (c.hex_digit.result ∷ []), c.loop-byte-test.true, c.requires) in
    (lit< tt, small)

pub returns-clause-short : goal.returns-clause-short
returns-clause-short c =
    let len = so_far c.loop-byte.digits c.args.bytes.now c.loop-byte.byte-index c.loop-byte.invariant (omega (arith, c.loop-byte.auto.byte-index-end)) in
    let small : length c.loop-byte.digits ≤ 510 = omega (arith, len, c.loop-byte.auto.byte-index-end, c.requires) in
    small
