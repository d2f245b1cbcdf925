use Rattle.std.proofs.Common.{◌≡◌, rules, sym, subst}
use Rattle.assuan_line.specs.Lines.{IsLine}
use Rattle.assuan_server.{specs.Errors.error_text, proofs.ErrorLines.error_line}
use Rattle.assuan_server.proofs.errors.error_text.Goals as goal

pub returns-clause-is_line : goal.returns-clause-is_line
returns-clause-is_line c =
    let text : c.push-2.new.self.items ≡ error_text c.args.code c.args.origin = search rules in
    subst IsLine (sym text) (error_line c.args.code c.args.origin)
