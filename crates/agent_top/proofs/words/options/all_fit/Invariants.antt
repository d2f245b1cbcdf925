use Rattle.std.{proofs.Common.{◌≡◌, drop}, specs.List.list_all}
use Rattle.{assuan_text.specs.Rows.rows_of as table, clap.specs.{Matches.found_of, Walk.rows_of}}
use Rattle.agent_top.specs.Options.{takes_row}
use Rattle.agent_top.proofs.words.options.all_fit.Given as goal

-- the options that are left decide
abbrev pub invariant-loop-name : goal.invariant-loop-name
invariant-loop-name l =
    list_all (takes_row (rows_of (found_of l.matches))) (table (drop l.name-index l.options)) ≡ list_all (takes_row (rows_of (found_of l.matches))) (table l.options)
