use Rattle.std.proofs.Common.{◌≡◌, ◌∙◌, Bool, true, false, cond, ap, sym, refl, Some, codes}
use Rattle.clap.{specs.{Matches.{found_of, one_text}, Walk.{rows_of, one_of}}, proofs.WalkLemmas.one_text-rows}
use Rattle.agent_top.{specs.Settings.is_set, proofs.OptionRows.{read_as, flag_read}}
use Rattle.agent_top.proofs.words.options.Given.is_set.Goals as goal

pub returns : goal.returns
returns c =
    let name = c.args.name.now in
    let given = c.args.self.now in
    let found = found_of c.self.inside.matches in
    let read = read_as (rows_of found) given c.self.invariant c.self.view_is in
    let text : one_text found name ≡ Some (cond (is_set name given) (codes "true") (codes "false")) =
    one_text-rows found name ∙ ap (one_of name) read.rows_are ∙ flag_read name given read.readable c.requires in
    go (is_set name given) refl text
  where
    go : (b : Bool) → is_set c.args.name.now c.args.self.now ≡ b → one_text (found_of c.self.inside.matches) c.args.name.now ≡ Some (cond (is_set c.args.name.now c.args.self.now) (codes "true") (codes "false"))
        → c.get_flag.result ≡ is_set c.args.name.now c.args.self.now
    go true e text = c.get_flag.ensures.value (text ∙ ap (λ (b : Bool). Some (cond b (codes "true") (codes "false"))) e) ∙ sym e
    go false e text = c.get_flag.ensures.other (text ∙ ap (λ (b : Bool). Some (cond b (codes "true") (codes "false"))) e) ∙ sym e
