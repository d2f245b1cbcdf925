use Rattle.std.proofs.Common.{◌≡◌, take}
use Rattle.{assuan_text.specs.Rows.rows_of, clap.specs.Simple.app_of}
use Rattle.agent_top.specs.Options.{command_of}
use Rattle.agent_top.proofs.words.options.with_options.Given as goal

-- the command has the options so far
abbrev pub invariant-loop-name : goal.invariant-loop-name
invariant-loop-name l = app_of l.command ≡ command_of (rows_of (take l.name-index l.options))
