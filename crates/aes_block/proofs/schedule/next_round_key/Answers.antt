use Rattle.std.{proofs.Common.{[], ◌∷◌, slice_index, ap, ◌∙◌}, specs.Int.{w32, to_le_bytes}}
use Rattle.aes_block.{specs.{Aes.xor_of, Columns.bytes_of}, proofs.{Words.{next_words, round_key_from}, WordBytes.{to_le_bytes_xor, four_words, state_bytes}}}
use Rattle.aes_block.proofs.schedule.next_round_key.Goals as goal

pub returns : goal.returns
unfolding next_words
returns c key h e =
    let p = slice_index c.args.previous.now in
    let first = to_le_bytes_xor (p 0) c.turned_word.result ∙ ap (xor_of (to_le_bytes w32 (p 0))) c.turned_word.ensures in
    let second = to_le_bytes_xor (p 1) _ ∙ ap (xor_of (to_le_bytes w32 (p 1))) first in
    let third = to_le_bytes_xor (p 2) _ ∙ ap (xor_of (to_le_bytes w32 (p 2))) second in
    let fourth = to_le_bytes_xor (p 3) _ ∙ ap (xor_of (to_le_bytes w32 (p 3))) third in
    four_words _ _ _ _ _ _ _ _ first second third fourth
    ∙ round_key_from key (bytes_of (p 0 ∷ p 1 ∷ p 2 ∷ p 3 ∷ [])) c.args.round h c.requires.first (state_bytes _ c.told-previous ∙ e)
