use Rattle.std.proofs.{Common.{◌∙◌, ap, sym, cond, Bool, le-leb, refl, arith}, lemmas.Bool.lt-leb}
use Rattle.assuan_line.{specs.{Ahead.bytes_ahead, declared.{buffer.TheConstants.MAX_UNDECIDED, reader.Took.TheVariants.{TooLong, End}}}, proofs.Decided.{whole_before, next_of_some, next_of_none, on_no_line}}
use Rattle.assuan_line.proofs.buffer.Ahead.take_line.Goals as goal

pub line_before-took-requires-clause-whole : goal.line_before-took-requires-clause-whole
line_before-took-requires-clause-whole c = whole_before (bytes_ahead c.args.self.now) c.in-Some.end (sym c.line_feed.ensures ∙ c.in-Some.is)

pub returns-in-Line-clause-took : goal.returns-in-Line-clause-took
returns-in-Line-clause-took c =
    c.line_before-took.ensures ∙ sym (next_of_some (bytes_ahead c.args.self.now) c.in-Some.end (sym c.line_feed.ensures ∙ c.in-Some.is))

pub returns-in_default : goal.returns-in_default
returns-in_default c = record {
  took = c.line_before-took.ensures ∙ sym (next_of_some (bytes_ahead c.args.self.now) c.in-Some.end (sym c.line_feed.ensures ∙ c.in-Some.is));
  line = on_no_line c.line_before-took.result _ c.in_default.not-Line;
  others = λ some. refl;
  within = c.requires;
}

pub returns-in-None-clause-took : goal.returns-in-None-clause-took
returns-in-None-clause-took c =
    sym (next_of_none (bytes_ahead c.args.self.now) (sym c.line_feed.ensures ∙ c.in-None.is)
    ∙ ap (λ (b : Bool). cond b TooLong End) (lt-leb MAX_UNDECIDED _ (omega arith)))

pub returns-in-None-2-clause-took : goal.returns-in-None-2-clause-took
returns-in-None-2-clause-took c =
    sym (next_of_none (bytes_ahead c.args.self.now) (sym c.line_feed.ensures ∙ c.in-None.is)
    ∙ ap (λ (b : Bool). cond b TooLong End) (le-leb MAX_UNDECIDED _ (omega arith)))
