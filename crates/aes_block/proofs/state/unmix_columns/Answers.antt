use Rattle.std.proofs.Common.{ap, ◌∙◌}
use Rattle.aes_block.{specs.Aes.{inv_mix_column, inv_mix_columns}, proofs.WordBytes.{four_words, state_bytes}}
use Rattle.aes_block.proofs.state.unmix_columns.Goals as goal

pub returns : goal.returns
unfolding inv_mix_columns inv_mix_column
returns c =
    four_words _ _ _ _ _ _ _ _ c.unmixed_word.ensures c.unmixed_word-2.ensures c.unmixed_word-3.ensures c.unmixed_word-4.ensures
    ∙ ap inv_mix_columns (state_bytes c.args.state.now c.told-state)
