use Rattle.aes_block.{specs.Aes.mix_column, proofs.WordBytes.column_sum}
use Rattle.aes_block.proofs.state.mixed_column.Goals as goal

pub returns : goal.returns
unfolding mix_column
returns c = column_sum _ _ _ _ _ _ _ _ c.mixed_first.ensures c.mixed_second.ensures c.mixed_third.ensures c.mixed_fourth.ensures
