use Rattle.std.{proofs.Common.{◌≡◌, ◌⊎◌, inl, inr, ℕ, List, Result, Ok, Err, ap}, specs.Prelude.{IfOk, IfErr}}
use Rattle.key_lines.{specs.{KeyFile.{KeyFile, IsKeyFile, IsFault, Answers}, declared.fault.LinesFault.{LinesFault, TheVariants.NoMemory}}, proofs.OneAnswer.one_answer}
use Rattle.sexp_advanced.proofs.OneAnswer as advanced
use Rattle.key_lines.proofs.key_file.read_lines.Goals as goal

answered : (file : List ℕ) (result answer : Result KeyFile LinesFault) → IfOk result (IsKeyFile file) → IfErr result (λ fault. (fault ≡ NoMemory) ⊎ IsFault file fault)
    → Answers file answer → (result ≡ Err NoMemory) ⊎ (result ≡ answer)
answered file (Ok key) answer found fault is = inr (one_answer advanced.one_answer file (Ok key) answer found is)
answered file (Err f) answer found (inl none) is = inl (ap Err none)
answered file (Err f) answer found (inr h) is = inr (one_answer advanced.one_answer file (Err f) answer h is)

pub returns-clause-only : goal.returns-clause-only
returns-clause-only c answer is = answered c.args.file.now c.read_file.result answer c.read_file.ensures.found c.read_file.ensures.fault is
