use Rattle.std.{proofs.Common.{◌∙◌, ap, sym, map}, specs.Prelude.string_bytes}
use Rattle.clap.specs.{Matches.found_of, Simple.is_simple, Faults.is_simple_and_free, Walk.rows_of}
use Rattle.agent_top.proofs.OptionReading.{refused_words, taken_words, fault_is, unplain_words, is_simple_command, is_free_command}
use Rattle.agent_top.proofs.words.options.Given.read.Goals as goal

pub returns-then-not-all_plain-clause-bad : goal.returns-then-not-all_plain-clause-bad
returns-then-not-all_plain-clause-bad c = λ _. unplain_words (map string_bytes c.args.words.now) (sym c.all_plain.ensures ∙ c.if-not-all_plain.true)

pub returns-in_err-matches-clause-bad : goal.returns-in_err-matches-clause-bad
returns-in_err-matches-clause-bad c =
    let app = c.in_ok-agent_command.ensures in
    fault_is c.from_residual-in_err-matches.result _ _ c.from_residual-in_err-matches.ensures.1
    (refused_words _ (map string_bytes c.args.words.now) c.in_err-matches.field-0.0 app (sym c.all_plain.ensures ∙ c.if-not-all_plain.false)
    (c.in_err-matches.ensures.kinds (ap is_simple_and_free app ∙ is_free_command)))

pub invariant_of-result : goal.invariant_of-result
invariant_of-result c =
    let app = c.in_ok-agent_command.ensures in
    (taken_words _ (map string_bytes c.args.words.now) (rows_of (found_of c.in_ok-matches.matches)) app (sym c.all_plain.ensures ∙ c.if-not-all_plain.false)
    (c.in_ok-matches.ensures.kinds (ap is_simple_and_free app ∙ is_free_command)) (c.in_ok-matches.ensures.matches (ap is_simple app ∙ is_simple_command)).0).1

pub returns-clause-given : goal.returns-clause-given
returns-clause-given c =
    let app = c.in_ok-agent_command.ensures in
    (taken_words _ (map string_bytes c.args.words.now) (rows_of (found_of c.in_ok-matches.matches)) app (sym c.all_plain.ensures ∙ c.if-not-all_plain.false)
    (c.in_ok-matches.ensures.kinds (ap is_simple_and_free app ∙ is_free_command)) (c.in_ok-matches.ensures.matches (ap is_simple app ∙ is_simple_command)).0).2

pub returns-clause-readable : goal.returns-clause-readable
returns-clause-readable c =
    let app = c.in_ok-agent_command.ensures in
    (taken_words _ (map string_bytes c.args.words.now) (rows_of (found_of c.in_ok-matches.matches)) app (sym c.all_plain.ensures ∙ c.if-not-all_plain.false)
    (c.in_ok-matches.ensures.kinds (ap is_simple_and_free app ∙ is_free_command)) (c.in_ok-matches.ensures.matches (ap is_simple app ∙ is_simple_command)).0).1.readable
