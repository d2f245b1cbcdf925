use Rattle.std.{proofs.{Common.{◌≡◌, ℕ, List, ◌++◌, length, subst, ap, ◌∙◌, arith, drop, IfOk}, lemmas.List.take_at}, specs.List.concat}
use Rattle.key_wrap.{specs.KeyWrap.{Registers, initial_value, wrap_passes}, proofs.Steps.wrapped_from}
use Rattle.key_wrap.proofs.wrap.Goals as goal

pub returns-clause-wrapped : goal.returns-clause-wrapped
returns-clause-wrapped c =
    let items = c.in_ok-blocks.blocks.items in
    let f : List ℕ → List (List ℕ) → Registers = λ k bs. wrap_passes k (length bs) 6 (record { check = initial_value; blocks = bs }) in
    let after : Registers = record { check = c.wrap_passes-check.result; blocks = c.wrap_passes-check.new.blocks } in
    let h : after ≡ f c.args.key.now items =
    c.wrap_passes-check.ensures ∙ ap (f c.new-cipher.result) c.deref_mut.ensures.value ∙ ap (λ k. f k items) c.new-cipher.ensures in
    let e = wrapped_from c.args.key.now c.args.bytes.now items after (c.in_ok-blocks.ensures.items ∙ c.as_chunks.ensures.front) h in
    let kept = take_at c.wrap_passes-check.new.blocks (drop (length c.wrap_passes-check.new.blocks) items) c.in_ok-blocks.blocks.len (omega arith) in
    subst (λ (x : List ℕ). IfOk c.joined_registers.result (λ v. v.items ≡ x))
    (ap (λ bs. c.wrap_passes-check.result ++ concat bs) (c.deref.ensures.value ∙ kept) ∙ e)
    c.joined_registers.ensures.items
