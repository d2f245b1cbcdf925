-- What the first words of the command line set.
use Rattle.std.{proofs.{Common.{◌≡◌, ◌+◌, ℕ, true, false, cond, List, [], ◌∷◌, map, take, drop, refl, sym, ap, ap₂, ◌∙◌}, lemmas.List.drop-drop}, specs.List.position_or_len}
use Rattle.agent_conf.specs.Words.{alone, apart, is_equals, settings_of, wants_first, wants_value, word_setting}

-- a word that is cut at its first `=`
pub alone_is : (number len : ℕ) (word name behind value : List ℕ) → len ≡ position_or_len is_equals word → name ≡ take len word → behind ≡ drop len word
    → value ≡ drop 1 behind → word_setting number word name value ≡ alone number word
alone_is number len word name behind value place front back rest =
    ap₂ (word_setting number word)
    (front ∙ ap (λ n. take n word) place)
    (rest ∙ ap (drop 1) back ∙ drop-drop 1 len word ∙ ap (λ n. drop (n + 1) word) place)

-- a word whose value doesn't follow
pub alone_first : (number : ℕ) (word : List ℕ) (rest : List (List ℕ)) → wants_first word rest ≡ false
    → settings_of number (word ∷ rest) ≡ alone number word ∷ settings_of (number + 1) rest
alone_first number word [] plain = refl
alone_first number word (next ∷ rest) plain =
    ap (λ b. cond b (apart number word next ∷ settings_of (number + 2) rest) (alone number word ∷ settings_of (number + 1) (next ∷ rest))) plain

-- a word whose value follows
pub apart_first : (number : ℕ) (word value : List ℕ) (rest : List (List ℕ)) → wants_value word value ≡ true
    → settings_of number (word ∷ value ∷ rest) ≡ apart number word value ∷ settings_of (number + 2) rest
apart_first number word next rest wants =
    ap (λ b. cond b (apart number word next ∷ settings_of (number + 2) rest) (alone number word ∷ settings_of (number + 1) (next ∷ rest))) wants

-- the bytes of the first word, and those of the others
pub first_word_is : {W : Type 0} (bytes : W → List ℕ) (words : List W) (first : W) (rest : List W) (word : List ℕ) → words ≡ first ∷ rest → word ≡ bytes first
    → map bytes words ≡ word ∷ map bytes rest
first_word_is bytes words first rest word parts read = ap (map bytes) parts ∙ ap (λ (b : List ℕ). b ∷ map bytes rest) (sym read)
