use Rattle.std.proofs.Common.{sym, ◌∙◌, refl}
use Rattle.key_commands.specs.{Files.{canonical_file, extended_file, too_long, no_memory}, Steps.{nothing, memory}}
use Rattle.key_commands.proofs.files.rewrite.Goals as goal

pub returns-then-is_canonical-clause-rewrites : goal.returns-then-is_canonical-clause-rewrites
returns-then-is_canonical-clause-rewrites c =
    nothing (λ held. canonical_file (sym c.is_canonical.ensures ∙ c.if-is_canonical.true)) refl

pub returns-in_default-clause-rewrites : goal.returns-in_default-clause-rewrites
returns-in_default-clause-rewrites c = memory (λ held. no_memory (sym c.is_canonical.ensures ∙ c.if-is_canonical.false)) refl

pub returns-then-as_slice-gt-MAX_BYTES-clause-rewrites : goal.returns-then-as_slice-gt-MAX_BYTES-clause-rewrites
returns-then-as_slice-gt-MAX_BYTES-clause-rewrites c = nothing (λ held. too_long c.in-Some.new (sym c.is_canonical.ensures ∙ c.if-is_canonical.false) (rw c.as_slice.ensures at c.in-Some.ensures.new) (rw (sym c.as_slice-2.ensures) c.if-as_slice-gt-MAX_BYTES.true)) refl

pub returns-clause-rewrites : goal.returns-clause-rewrites
returns-clause-rewrites c = nothing (λ held. extended_file (sym c.is_canonical.ensures ∙ c.if-is_canonical.false) (rw c.as_slice.ensures at c.in-Some.ensures.new) (rw (sym c.as_slice-2.ensures) c.if-as_slice-gt-MAX_BYTES.false)) refl
