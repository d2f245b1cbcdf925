use Rattle.std.proofs.{Common.{◌≡◌, ◌<◌, ℕ, false, eqb, sym, arith}, lemmas.{Bool.{eq-eqb, Decides.nat_tests}, Str.utf8_valid_len-IsUtf8}}
use Rattle.agent_conf.proofs.verdict.is_utf8.Goals as goal

below : (a b : ℕ) → a < b → eqb a b ≡ false
below a b less = grind (arith, nat_tests)

pub returns-in-Ok : goal.returns-in-Ok
returns-in-Ok c = sym (eq-eqb _ _ (utf8_valid_len-IsUtf8 c.args.bytes.now c.in-Ok.ensures.cases.1))

pub returns-in-Err : goal.returns-in-Err
returns-in-Err c = sym (below _ _ (omega (arith, c.in-Err.ensures.valid_len, c.in-Err.ensures.cases.1.short)))
