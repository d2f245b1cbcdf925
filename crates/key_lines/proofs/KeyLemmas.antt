-- Where the Key item stands among the lines, and its value.
use Rattle.std.{proofs.{Common.{◌≡◌, suc, ◌+◌, ◌-◌, ℕ, Bool, true, false, cond, List, [], ◌∷◌, ◌++◌, length, map, take, drop, refl, ap, ◌∙◌, arith, append_assoc}, lemmas.List.length-append}, specs.Prelude.{not, ◌||◌}}
use Rattle.std.specs.List.{concat, flat_map, list_any, position_or_len, prefix_len, take_while}
use Rattle.key_lines.specs.{Lines.line_text, KeyItem.{is_more, piece_of}}

step : (test : List ℕ → Bool) (x y : List ℕ) (xs ys : List (List ℕ)) → list_any test (x ∷ xs) ≡ false → (test x ≡ false) × (list_any test xs ≡ false)
step test x y xs ys none = elim (test x) as (λ b. (b || list_any test xs) ≡ false → (b ≡ false) × (list_any test xs ≡ false)) [
  | true ↦ λ e. absurd cc
  | false ↦ λ e. (refl, e)
] none

-- the first that passes stands behind those that don't
pub place_behind : (test : List ℕ → Bool) (xs ys : List (List ℕ)) (y : List ℕ) → list_any test xs ≡ false → test y ≡ true → position_or_len test (xs ++ y ∷ ys) ≡ length xs
place_behind test [] ys y none here = ap (λ b. cond (not b) (1 + position_or_len test ys) 0) here
place_behind test (x ∷ xs) ys y none here =
    let fails = step test x y xs ys none in
    let behind = place_behind test xs ys y fails.1 here in
    let at : position_or_len test (x ∷ xs ++ y ∷ ys) ≡ 1 + position_or_len test (xs ++ y ∷ ys) =
    ap (λ b. cond (not b) (1 + position_or_len test (xs ++ y ∷ ys)) 0) fails.0 in
    omega (arith, at, behind)

pub take_front : (xs ys : List (List ℕ)) → take (length xs) (xs ++ ys) ≡ xs
take_front [] ys = refl
take_front (x ∷ xs) ys = ap (λ (rest : List (List ℕ)). x ∷ rest) (take_front xs ys)

pub drop_front : (xs ys : List (List ℕ)) → drop (length xs) (xs ++ ys) ≡ ys
drop_front [] ys = refl
drop_front (x ∷ xs) ys = drop_front xs ys

-- what lines that go on add to a value
abbrev pub joined : List (List ℕ) → List ℕ
joined lines = flat_map (λ line. piece_of (line_text line)) lines

pub join_is : (lines : List (List ℕ)) → concat (map piece_of (map line_text lines)) ≡ joined lines
join_is [] = refl
join_is (line ∷ lines) = ap (λ (rest : List ℕ). piece_of (line_text line) ++ rest) (join_is lines)

-- a line that goes on is the first of those that do
pub more_step : (line : List ℕ) (lines : List (List ℕ)) → is_more line ≡ true → take_while is_more (line ∷ lines) ≡ line ∷ take_while is_more lines
more_step line lines more =
    let one : 1 + prefix_len is_more lines ≡ suc (prefix_len is_more lines) = omega arith in
    ap (λ b. take (cond b (1 + prefix_len is_more lines) 0) (line ∷ lines)) more ∙ ap (λ n. take n (line ∷ lines)) one

pub rest_step : (line : List ℕ) (lines : List (List ℕ)) → is_more line ≡ true → drop (prefix_len is_more (line ∷ lines)) (line ∷ lines) ≡ drop (prefix_len is_more lines) lines
rest_step line lines more =
    let one : 1 + prefix_len is_more lines ≡ suc (prefix_len is_more lines) = omega arith in
    ap (λ b. drop (cond b (1 + prefix_len is_more lines) 0) (line ∷ lines)) more ∙ ap (λ n. drop n (line ∷ lines)) one

pub more_stops : (line : List ℕ) (lines : List (List ℕ)) → is_more line ≡ false → prefix_len is_more (line ∷ lines) ≡ 0
more_stops line lines none = ap (λ b. cond b (1 + prefix_len is_more lines) 0) none

front_of : (xs ys : List ℕ) → take (length xs) (xs ++ ys) ≡ xs
front_of [] ys = refl
front_of (x ∷ xs) ys = ap (λ (rest : List ℕ). x ∷ rest) (front_of xs ys)

-- what stands before a rest
pub take_bytes : (file front rest : List ℕ) → file ≡ front ++ rest → take (length file - length rest) file ≡ front
take_bytes file front rest e =
    let long : length file - length rest ≡ length front = omega (arith, ap (λ (t : List ℕ). length t) e, length-append front rest) in
    ap (λ n. take n file) long ∙ ap (λ (t : List ℕ). take (length front) t) e ∙ front_of front rest

-- one line more of a value
pub add_line : (value piece line : List ℕ) (lines : List (List ℕ)) → piece ≡ piece_of (line_text line) → (value ++ piece) ++ joined lines ≡ value ++ joined (line ∷ lines)
add_line value piece line lines is =
    ap (λ (t : List ℕ). (value ++ t) ++ joined lines) is
    ∙ append_assoc value (piece_of (line_text line)) (joined lines)
