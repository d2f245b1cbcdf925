use Rattle.std.{proofs.{Common.{◌≡◌, inr, ◌+◌, ◌-◌, ◌<◌, ◌≤◌, true, false, ℕ, List, length, take, drop, arith, ap, sym, ◌∙◌}, lemmas.{Bool.Decides.nat_tests, List.take_rest}}, specs.{Prelude.nat_le, List.{list_all, prefix_len}}}
use Rattle.{assuan_text.specs.Blanks.is_blank, sexp_advanced.specs.declared.fault.AdvFault.TheVariants.BadByte}
use Rattle.key_lines.proofs.LineLemmas.{all_within}
use Rattle.key_lines.proofs.key_text.expression_in.Goals as goal

-- the test of the places, for what stands behind the expression
test_false : (behind rest : List ℕ) (blanks : ℕ) → behind ≡ rest → blanks ≡ prefix_len is_blank behind → blanks < length behind → list_all is_blank rest ≡ false
test_false behind rest blanks same is less =
    let place = prefix_len is_blank behind in
    let fails : nat_le (length behind) place ≡ false = grind (arith, nat_tests, less, is) in
    ap (list_all is_blank) (sym same) ∙ all_within is_blank behind ∙ fails

test_true : (behind rest : List ℕ) (blanks : ℕ) → behind ≡ rest → blanks ≡ prefix_len is_blank behind → length behind ≤ blanks → list_all is_blank rest ≡ true
test_true behind rest blanks same is all =
    let place = prefix_len is_blank behind in
    let passes : nat_le (length behind) place ≡ true = grind (arith, nat_tests, all, is) in
    ap (list_all is_blank) (sym same) ∙ all_within is_blank behind ∙ passes

pub returns-then-blanks-behind-clause-fault : goal.returns-then-blanks-behind-clause-fault
returns-then-blanks-behind-clause-fault c =
    let len = c.in_ok-tree.len in
    let value = c.args.value.now in
    let same = take_rest value len in
    inr (inr (record {
      tree = c.in_ok-tree.tree;
      len = len;
      reads = c.in_ok-tree.ensures.found;
      other = test_false (take (length value - len) (drop len value)) (drop len value) c.blanks_len-blanks.result same c.blanks_len-blanks.ensures.value c.if-blanks-behind.true;
      is = ap (λ n. BadByte (len + n)) (c.blanks_len-blanks.ensures.value ∙ ap (prefix_len is_blank) same);
    }))

pub returns-clause-found : goal.returns-clause-found
returns-clause-found c =
    let len = c.in_ok-tree.len in
    let value = c.args.value.now in
    record {
      len = len;
      reads = c.in_ok-tree.ensures.found;
      blank = test_true (take (length value - len) (drop len value)) (drop len value) c.blanks_len-blanks.result (take_rest value len) c.blanks_len-blanks.ensures.value c.if-blanks-behind.false;
    }
