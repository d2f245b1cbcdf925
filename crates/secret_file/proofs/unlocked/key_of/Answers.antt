use Rattle.std.proofs.Common.{inl, inr, refl, arith}
use Rattle.secret_file.proofs.Openings.{not_whole}
use Rattle.secret_file.proofs.unlocked.key_of.Goals as goal

pub returns-then-len-file-clause-fault : goal.returns-then-len-file-clause-fault
returns-then-len-file-clause-fault c =
    inr (inl (not_whole c.args.file.now c.in_ok-read.read c.in-Some.tree c.in-Some.len c.in_ok-read.ensures.again c.in-Some.is (λ e. omega arith), refl))
