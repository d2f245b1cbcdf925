use Rattle.std.proofs.Common.{◌≡◌, true, false, drop}
use Rattle.key_commands.{specs.Steps.are_padding, proofs.Unwrapping.{other_read, padded_read}}
use Rattle.key_commands.proofs.wrapping.padded_tree.Goals as goal

pub returns-then-are_padding-clause-found : goal.returns-then-are_padding-clause-found
returns-then-are_padding-clause-found c =
    let is : are_padding (drop c.in-Ok.read.1 c.args.plain.now) ≡ true = cc (c.are_padding.ensures, c.if-are_padding.true, c.split_at.ensures.back) in
    padded_read c.args.plain.now c.in-Ok.read.0 c.in-Ok.read.1 c.in-Ok.ensures.found.1 is

pub returns-else-are_padding-clause-none : goal.returns-else-are_padding-clause-none
returns-else-are_padding-clause-none c =
    let is : are_padding (drop c.in-Ok.read.1 c.args.plain.now) ≡ false = cc (c.are_padding.ensures, c.if-are_padding.false, c.split_at.ensures.back) in
    other_read c.args.plain.now c.read.result c.read.ensures.only c.in-Ok.read.0 c.in-Ok.read.1 c.in-Ok.is is
