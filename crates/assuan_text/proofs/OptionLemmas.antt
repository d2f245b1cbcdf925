-- The options among words, one after the other.
use mathlib.Core.List.{reverse-cons}
use Rattle.std.{proofs.{Common.{◌≡◌, suc, ◌+◌, ℕ, Bool, true, cond, List, [], ◌∷◌, take, drop, find, reverse, Some, None, ap, ◌∙◌, arith}, lemmas.List.Folds.find-append}, specs.{List.prefix_len, Option.option_or}}
use Rattle.assuan_text.specs.Options.{is_option, options_of}

one_more : (word : List ℕ) (more : List (List ℕ)) → is_option word ≡ true → prefix_len is_option (word ∷ more) ≡ 1 + prefix_len is_option more
one_more word more option = ap (λ b. cond b (1 + prefix_len is_option more) 0) option

-- an option is the first of the options
pub options_step : (words more : List (List ℕ)) (word : List ℕ) → words ≡ word ∷ more → is_option word ≡ true → options_of words ≡ word ∷ options_of more
options_step words more word e option =
    let one : 1 + prefix_len is_option more ≡ suc (prefix_len is_option more) = omega arith in
    ap options_of e
    ∙ ap (λ n. take n (word ∷ more)) (one_more word more option)
    ∙ ap (λ n. take n (word ∷ more)) one

-- and what comes after them comes after those behind it
pub after_step : (words more : List (List ℕ)) (word : List ℕ) → words ≡ word ∷ more → is_option word ≡ true → drop (prefix_len is_option words) words ≡ drop (prefix_len is_option more) more
after_step words more word e option =
    let one : 1 + prefix_len is_option more ≡ suc (prefix_len is_option more) = omega arith in
    ap (λ (ws : List (List ℕ)). drop (prefix_len is_option ws) ws) e
    ∙ ap (λ n. drop n (word ∷ more)) (one_more word more option)
    ∙ ap (λ n. drop n (word ∷ more)) one

-- the last that passes: one of those behind the first, or else the first
pub find_reverse_cons : {A : Type 0} (test : A → Bool) (x : A) (xs : List A) → find test (reverse (x ∷ xs)) ≡ option_or (find test (reverse xs)) (cond (test x) (Some x) None)
find_reverse_cons test x xs = ap (find test) (reverse-cons x xs) ∙ find-append test (reverse xs) (x ∷ [])
