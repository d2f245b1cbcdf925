use Rattle.std.{proofs.{Common.{◌≡◌, true, false, Bool, ℕ, List, length, take, arith, ap, sym, ◌∙◌}, lemmas.Bool.Decides.nat_tests}, specs.{Prelude.{nat_lt, ◌&&◌}, List.position_or_len}}
use Rattle.key_lines.{specs.Items.{is_colon, is_name, begins_item, name_in}, proofs.LineLemmas.any_before_end}
use Rattle.key_lines.proofs.forms.name_in.Goals as goal

-- whether there is a colon, and whether what stands before it is a name
both : (text : List ℕ) (colon named : Bool) → nat_lt (position_or_len is_colon text) (length text) ≡ colon → is_name (name_in text) ≡ named → begins_item text ≡ (colon && named)
both text colon named e f = ap (λ b. b && is_name (name_in text)) (any_before_end is_colon text ∙ e) ∙ ap (λ b. colon && b) f

name : (text front : List ℕ) (place : ℕ) → front ≡ take place text → place ≡ position_or_len is_colon text → front ≡ name_in text
name text front place e f = e ∙ ap (λ n. take n text) f

pub returns-then-is_empty : goal.returns-then-is_empty
returns-then-is_empty c =
    let text = c.args.text.now in
    let none : nat_lt (position_or_len is_colon text) (length text) ≡ false =
    grind (arith, nat_tests, c.is_empty.ensures, c.if-is_empty.true, c.split_at.ensures.back_len, c.len_before.ensures.place) in
    both text false (is_name (name_in text)) none (λ i. is_name (name_in text))

pub returns-then-is_name : goal.returns-then-is_name
returns-then-is_name c =
    let text = c.args.text.now in
    let is = name text c.split_at.result.0.now c.len_before.result c.split_at.ensures.front c.len_before.ensures.place in
    let some : nat_lt (position_or_len is_colon text) (length text) ≡ true =
    grind (arith, nat_tests, c.is_empty.ensures, c.if-is_empty.false, c.split_at.ensures.back_len, c.len_before.ensures.place) in
    (both text true true some (sym (ap is_name is) ∙ sym c.is_name.ensures ∙ c.if-is_name.true), is)

pub returns-else-is_name : goal.returns-else-is_name
returns-else-is_name c =
    let text = c.args.text.now in
    let is = name text c.split_at.result.0.now c.len_before.result c.split_at.ensures.front c.len_before.ensures.place in
    let some : nat_lt (position_or_len is_colon text) (length text) ≡ true =
    grind (arith, nat_tests, c.is_empty.ensures, c.if-is_empty.false, c.split_at.ensures.back_len, c.len_before.ensures.place) in
    both text true false some (sym (ap is_name is) ∙ sym c.is_name.ensures ∙ c.if-is_name.false)
