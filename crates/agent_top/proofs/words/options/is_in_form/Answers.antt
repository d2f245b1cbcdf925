use Rattle.std.proofs.Common.{◌∙◌, ap}
use Rattle.clap.{specs.Matches.found_of, proofs.WalkLemmas.first_value-rows}
use Rattle.agent_top.specs.Options.{takes}
use Rattle.agent_top.proofs.words.options.is_in_form.Goals as goal

pub returns : goal.returns
returns c = c.takes.ensures ∙ ap (takes c.args.form) (c.get_str.ensures ∙ first_value-rows (found_of c.args.matches.now) c.args.name.now)
