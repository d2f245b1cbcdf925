use Rattle.std.proofs.Common.{ℕ, List, ap, ◌∙◌}
use Rattle.aes_block.{specs.Aes.{sub_bytes, shift_rows, mix_column, mix_columns}, proofs.WordBytes.{four_words, state_bytes}}
use Rattle.aes_block.proofs.state.mix.Goals as goal

pub returns : goal.returns
unfolding mix_columns shift_rows mix_column
returns c =
    four_words _ _ _ _ _ _ _ _
    (rw (c.to_le_bytes.ensures, c.to_le_bytes-2.ensures, c.to_le_bytes-3.ensures, c.to_le_bytes-4.ensures) at c.mixed_column.ensures)
    (rw (c.to_le_bytes.ensures, c.to_le_bytes-2.ensures, c.to_le_bytes-3.ensures, c.to_le_bytes-4.ensures) at c.mixed_column-2.ensures)
    (rw (c.to_le_bytes.ensures, c.to_le_bytes-2.ensures, c.to_le_bytes-3.ensures, c.to_le_bytes-4.ensures) at c.mixed_column-3.ensures)
    (rw (c.to_le_bytes.ensures, c.to_le_bytes-2.ensures, c.to_le_bytes-3.ensures, c.to_le_bytes-4.ensures) at c.mixed_column-4.ensures)
    ∙ ap (λ (s : List ℕ). mix_columns (shift_rows (sub_bytes s))) (state_bytes c.args.state.now c.told-state)
