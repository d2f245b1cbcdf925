use Rattle.std.proofs.{Common.{◌≡◌, ℕ, List, [], length, get_or, drop, ap, ◌∙◌, arith, sym}, lemmas.List.{take_at, take_all, length-drop}}
use Rattle.key_wrap.{specs.KeyWrap.{Registers, unwrap_passes}, proofs.Steps.unwrapped_from}
use Rattle.key_wrap.proofs.unwrapped_registers.Goals as goal

pub returns-clause-registers : goal.returns-clause-registers
returns-clause-registers c =
    let items = c.in_ok-blocks.blocks.items in
    let all = c.as_chunks.result.0.now in
    let f : List ℕ → List (List ℕ) → Registers = λ k bs. unwrap_passes k (length bs) 6 (record { check = get_or all 0 []; blocks = bs }) in
    let after : Registers = record { check = c.unwrap_passes-check.result; blocks = c.unwrap_passes-check.new.blocks } in
    let h : after ≡ f c.args.key.now items =
    c.unwrap_passes-check.ensures ∙ ap (f c.new-cipher.result) c.deref_mut.ensures.value ∙ ap (λ k. f k items) c.new-cipher.ensures in
    let rest : items ≡ drop 1 all = c.in_ok-blocks.ensures.items ∙ take_all _ (drop 1 all) (omega (arith, length-drop 1 all)) in
    let e = unwrapped_from c.args.key.now c.args.bytes.now all items after c.requires.least c.as_chunks.ensures.front rest h in
    let kept = take_at c.unwrap_passes-check.new.blocks (drop (length c.unwrap_passes-check.new.blocks) items) c.in_ok-blocks.blocks.len (omega arith) in
    let g : List (List ℕ) → Registers = λ bs. record { check = c.unwrap_passes-check.result; blocks = bs } in
    sym e ∙ ap g (sym kept)
