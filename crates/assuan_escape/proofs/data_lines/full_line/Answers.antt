use Rattle.std.proofs.Common.{◌≡◌, ◌+◌, ◌<◌, ◌≤◌, length, take, get_or, ap, codes, List, ℕ, arith, rules}
use Rattle.assuan_escape.{specs.{Escapes.escape_of, DataLines.data_line}, proofs.OnlyData.{with_piece, pieces_of}}
use Rattle.assuan_escape.proofs.data_lines.full_line.Goals as goal

pub returns-clause-first : goal.returns-clause-first
returns-clause-first c =
    let bytes = c.args.bytes.now in
    let count = c.escape_into-count.result in
    let text : c.escape_into-count.new.out.items ≡ data_line (take count bytes) = search rules in
    let long = ap (λ (x : List ℕ). length x) text in
    let start : c.try_extend_from_slice.new.self.items ≡ codes "D " = search rules in
    let short : length (data_line (take count bytes)) ≤ 1000 = omega (arith, long, ap (λ (x : List ℕ). length x) start, c.escape_into-count.ensures.fits) in
    let some : 0 < count = search rules in
    let full : count < length bytes → 1000 < length (data_line (take count bytes)) + length (escape_of (get_or bytes count 0)) =
    λ inside. omega (arith, long, c.escape_into-count.ensures.stops inside) in
    λ later are. with_piece bytes count some c.escape_into-count.ensures.within short full later are

pub returns-clause-others : goal.returns-clause-others
returns-clause-others c = pieces_of _
