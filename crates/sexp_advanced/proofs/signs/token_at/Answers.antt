use Rattle.std.proofs.Common.{length, ap, ◌∙◌, arith}
use Rattle.sexp_advanced.{specs.{Bytes.is_token_byte, declared.signs.Sign.TheVariants.Atom}, proofs.Behind.{without_front_le, front_is_taken}}
use Rattle.sexp_advanced.proofs.signs.token_at.Goals as goal

pub slice_bounds-token-count : goal.slice_bounds-token-count
slice_bounds-token-count c = omega (arith, ap length c.after_token-rest.ensures, without_front_le is_token_byte c.args.text.now)

pub returns : goal.returns
returns c =
    (ap Atom (c.in_ok-extend_from_slice.ensures.ok ∙ rw (c.new-bytes.ensures, c.after_token-rest.ensures) (front_is_taken is_token_byte c.args.text.now)), c.after_token-rest.ensures)
