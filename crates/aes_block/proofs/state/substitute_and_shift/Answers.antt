use Rattle.std.proofs.Common.{ℕ, List, ap, ◌∙◌}
use Rattle.aes_block.{specs.Aes.{sub_bytes, shift_rows}, proofs.WordBytes.{four_words, state_bytes}}
use Rattle.aes_block.proofs.state.substitute_and_shift.Goals as goal

pub returns : goal.returns
unfolding shift_rows
returns c =
    four_words _ _ _ _ _ _ _ _
    (rw (c.to_le_bytes.ensures, c.to_le_bytes-2.ensures, c.to_le_bytes-3.ensures, c.to_le_bytes-4.ensures) at c.substituted_word.ensures)
    (rw (c.to_le_bytes.ensures, c.to_le_bytes-2.ensures, c.to_le_bytes-3.ensures, c.to_le_bytes-4.ensures) at c.substituted_word-2.ensures)
    (rw (c.to_le_bytes.ensures, c.to_le_bytes-2.ensures, c.to_le_bytes-3.ensures, c.to_le_bytes-4.ensures) at c.substituted_word-3.ensures)
    (rw (c.to_le_bytes.ensures, c.to_le_bytes-2.ensures, c.to_le_bytes-3.ensures, c.to_le_bytes-4.ensures) at c.substituted_word-4.ensures)
    ∙ ap (λ (s : List ℕ). shift_rows (sub_bytes s)) (state_bytes c.args.state.now c.told-state)
