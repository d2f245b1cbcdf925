-- No word sets the version that the agent tells.
use Rattle.std.{proofs.Common.{◌≡◌, Bool, true, false, cond, List, ℕ, Option, Some, None, Result, Ok, Err, ap, sym}, specs.{Prelude.{◌&&◌, not, option_map, option_and_then, IfOk}, List.list_all}}
use Rattle.session_options.specs.{Defaults.default_version, declared.rules.{Rules.Rules, RunMode.RunMode}}
use Rattle.agent_top.specs.{Forms.fits, Settings.{Setting, settings, are_distinct}, Words.{rules_of, rules_with, run_of, is_daemon, if_extra_fits}, declared.words.WordsFault.WordsFault}

taken_as_it_is : (lacks : Bool) (found rules : Rules) → cond lacks None (Some found) ≡ Some rules → found ≡ rules
taken_as_it_is true found rules is = absurd (cc is)
taken_as_it_is false found rules is = cc is

version_stays : (given : List Setting) (fit : Bool) (run : Option RunMode) (rules : Rules) → option_and_then if_extra_fits (cond fit (option_map (rules_with given) run) None) ≡ Some rules
    → rules.version ≡ default_version
version_stays given true (Some run) rules is =
    let found : Rules = rules_with given run in
    ap (λ (r : Rules). r.version) (sym (taken_as_it_is (found.extra && not (is_daemon found.run)) found rules is))
version_stays given true None rules is = absurd (cc is)
version_stays given false run rules is = absurd (cc is)

pub usual_version : (words : List (List ℕ)) (result : Result Rules WordsFault) → IfOk result (λ rules. rules_of words ≡ Some rules) → IfOk result (λ rules. rules.version ≡ default_version)
usual_version words (Ok rules) is = version_stays (settings words) (list_all fits (settings words) && are_distinct (settings words)) (run_of (settings words)) rules is
usual_version words (Err fault) is = is
