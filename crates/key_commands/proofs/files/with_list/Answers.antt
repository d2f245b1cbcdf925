use Rattle.std.{proofs.Common.{◌≡◌, ◌≤◌, ℕ, List, length, Some, Result, Ok, Err, IfOk, subst}, specs.Result.result_ok}
use Rattle.sexp_canonical.specs.Spelling.{most_bytes}
use Rattle.key_commands.proofs.files.with_list.Goals as goal

said : {A E : Type 0} (P : A → Type 0) (result : Result A E) (value : A) → Some value ≡ result_ok result → IfOk result P → P value
said P (Ok x) value same holds = let e : x ≡ value = cc same in subst P e holds
said P (Err x) value same holds = cc same

pub returns-clause-canon : goal.returns-clause-canon
returns-clause-canon c =
    let read = c.in_ok-tree.ensures in
    let short = subst (λ (text : List ℕ). length text ≤ most_bytes) read.spelled read.short in
    let canon = said _ c.with_key.result c.in_ok-new.new c.in_ok-new.ensures.value c.with_key.ensures.canon in
    rw (c.from.ensures, read.spelled) (canon c.args.file.now c.requires.extended c.in_ok-lines.ensures read.shallow short)
