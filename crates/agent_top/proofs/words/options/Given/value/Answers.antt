use Rattle.std.{proofs.Common.{◌≡◌, ◌∙◌, ap, ℕ, List, Option, Some, None, is_some, refl}, specs.{Option.option_map, Borrow.Bor}}
use Rattle.clap.{specs.{Matches.found_of, Walk.{rows_of, first_of}}, proofs.WalkLemmas.first_value-rows}
use Rattle.agent_top.{specs.Settings.value_given, proofs.OptionRows.{read_as, value_read}}
use Rattle.agent_top.proofs.words.options.Given.value.Goals as goal

some_now : (o : Option (Bor (List ℕ))) → is_some o ≡ is_some (option_map (λ v. v.now) o)
some_now None = refl
some_now (Some v) = refl

pub returns : goal.returns
returns c =
    let name = c.args.name.now in
    let given = c.args.self.now in
    let found = found_of c.self.inside.matches in
    let read = read_as (rows_of found) given c.self.invariant c.self.view_is in
    let reads = value_read name given read.readable c.requires in
    let value : option_map (λ v. v.now) c.get_str.result ≡ value_given name given =
    c.get_str.ensures ∙ first_value-rows found name ∙ ap (first_of name) read.rows_are ∙ reads.0 in
    record { value = value; set = some_now c.get_str.result ∙ ap is_some value ∙ reads.1 }
