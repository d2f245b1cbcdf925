use Rattle.std.{proofs.Common.{◌∙◌, ap}, specs.List.list_all}
use Rattle.clap.specs.{Matches.found_of, Walk.rows_of}
use Rattle.agent_top.{specs.{Forms.forms, Options.takes_row}, proofs.OptionRows.{read_as, fit_rows}}
use Rattle.agent_top.proofs.words.options.Given.fits.Goals as goal

pub returns : goal.returns
returns c =
    let read = read_as (rows_of (found_of c.self.inside.matches)) c.args.self.now c.self.invariant c.self.view_is in
    c.all_fit.ensures ∙ ap (λ rows. list_all (takes_row rows) forms) read.rows_are ∙ fit_rows c.args.self.now read.readable read.apart
