use Rattle.aes_block.{specs.Aes.inv_mix_column, proofs.WordBytes.column_sum}
use Rattle.aes_block.proofs.state.unmixed_column.Goals as goal

pub returns : goal.returns
unfolding inv_mix_column
returns c = column_sum _ _ _ _ _ _ _ _ c.unmixed_first.ensures c.unmixed_second.ensures c.unmixed_third.ensures c.unmixed_fourth.ensures
