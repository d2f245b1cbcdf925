use Rattle.std.{proofs.{Common.{◌≡◌, ◌<◌, ℕ, List, [], ◌∷◌, length, take, drop, refl, arith, ap, ◌∙◌, sym}, lemmas.Bool.Decides.nat_tests}, specs.List.{before_first, position_or_len}}
use Rattle.assuan_text.{specs.{Blanks.{is_blank, without_blanks}, Words.words}, proofs.WordLemmas.{no_words, next_is}}
use Rattle.assuan_text.proofs.words.next_word.Goals as goal

no_bytes : (bytes : List ℕ) → length bytes ≡ 0 → bytes ≡ []
no_bytes [] e = refl
no_bytes (byte ∷ bytes) e = absurd (omega (arith, e))

none : (c : goal.Then-is_empty) → words c.args.text.now ≡ []
none c =
    let empty : length c.without_blanks-text.result.now ≡ 0 = grind (arith, nat_tests, c.if-is_empty.true, c.is_empty.ensures) in
    no_words c.args.text.now (sym c.without_blanks-text.ensures.bytes ∙ no_bytes _ empty)

pub returns-then-is_empty-clause-words : goal.returns-then-is_empty-clause-words
returns-then-is_empty-clause-words c = none c

pub returns-then-is_empty-clause-shorter : goal.returns-then-is_empty-clause-shorter
returns-then-is_empty-clause-shorter c = none c

some : (c : goal.After-split_at) → 0 < length (without_blanks c.args.text.now)
some c =
    let bytes = ap (λ (t : List ℕ). length t) c.without_blanks-text.ensures.bytes in
    let more : 0 < length c.without_blanks-text.result.now = grind (arith, nat_tests, c.if-is_empty.false, c.is_empty.ensures) in
    omega (arith, bytes, more)

pub returns-clause-words : goal.returns-clause-words
returns-clause-words c =
    let rest = c.without_blanks-text.result.now in
    let is = c.without_blanks-text.ensures.bytes in
    let parts = c.split_at.ensures in
    (next_is c.args.text.now (some c)).words_are
    ∙ ap (λ (t : List ℕ). before_first is_blank t ∷ words (drop (position_or_len is_blank t) t)) (sym is)
    ∙ ap (λ n. take n rest ∷ words (drop n rest)) (sym c.word_len.ensures.place)
    ∙ ap (λ (t : List ℕ). t ∷ words (drop c.word_len.result rest)) (sym parts.front)
    ∙ ap (λ (t : List ℕ). c.split_at.result.0.now ∷ words t) (sym parts.back)

pub returns-clause-shorter : goal.returns-clause-shorter
returns-clause-shorter c =
    let place = ap (λ (t : List ℕ). position_or_len is_blank t) c.without_blanks-text.ensures.bytes in
    let parts = c.split_at.ensures in
    let first = (next_is c.args.text.now (some c)).some in (
      omega (arith, parts.front_len, c.word_len.ensures.within, c.without_blanks-text.ensures.shorter),
      omega (arith, parts.back_len, c.word_len.ensures.place, c.word_len.ensures.within, c.without_blanks-text.ensures.shorter, place, first),
    )
