use Rattle.std.proofs.{Common.{◌≡◌, ◌+◌, ◌∷◌, [], List, ℕ, Global, map, string_bytes, ap, sym, ◌∙◌, rules}, lemmas.List.nil_from_length}
use Rattle.agent_conf.{specs.{Words.settings_of, Written.Written}, proofs.WordLemmas.{alone_first, apart_first, first_word_is}}
use Rattle.agent_conf.proofs.words.next_setting.Goals as goal

pub returns-in_err-word-clause-first : goal.returns-in_err-word-clause-first
returns-in_err-word-clause-first c =
    let none : map (string_bytes {Z = Global}) c.args.words.now ≡ [] = ap (map (string_bytes {Z = Global})) (nil_from_length c.args.words.now c.in_err-word.ensures.cases) in
    search rules

pub returns-in-Some-clause-first : goal.returns-in-Some-clause-first
returns-in-Some-clause-first c =
    ap (settings_of c.args.number) (first_word_is (string_bytes {Z = Global}) c.args.words.now _ c.in_ok-word.rest.now c.as_bytes-word.result.now c.in_ok-word.ensures.cases.0 c.as_bytes-word.ensures.value
    ∙ ap (λ (r : List (List ℕ)). c.as_bytes-word.result.now ∷ r) c.in-Some.ensures.parts.1)
    ∙ apart_first c.args.number c.as_bytes-word.result.now c.in-Some.value.now (map (string_bytes {Z = Global}) c.in-Some.others.now) c.in-Some.ensures.parts.0
    ∙ ap (λ (s : Written). s ∷ settings_of (c.args.number + 2) (map (string_bytes {Z = Global}) c.in-Some.others.now)) (sym c.apart.ensures)

pub returns-in-None-clause-first : goal.returns-in-None-clause-first
returns-in-None-clause-first c =
    ap (settings_of c.args.number) (first_word_is (string_bytes {Z = Global}) c.args.words.now _ c.in_ok-word.rest.now c.as_bytes-word.result.now c.in_ok-word.ensures.cases.0 c.as_bytes-word.ensures.value)
    ∙ alone_first c.args.number c.as_bytes-word.result.now (map (string_bytes {Z = Global}) c.in_ok-word.rest.now) c.in-None.ensures.none
    ∙ ap (λ (s : Written). s ∷ settings_of (c.args.number + 1) (map (string_bytes {Z = Global}) c.in_ok-word.rest.now)) (sym c.alone.ensures)
