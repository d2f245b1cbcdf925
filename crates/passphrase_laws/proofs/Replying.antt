-- What the agent writes comes to its answers.
use Rattle.std.{proofs.Common.{◌≡◌, ℕ, ◌≤◌, List, [], ◌++◌, length, codes, map, All, refl, ap, sym, subst, ◌∙◌, arith}, specs.List.flat_map}
use Rattle.{assuan_client.{proofs.OnlyAnswer.by_form, specs.{Answers.success_of, Forms.answer_form, Skipping.{Tally, with_lines, skips}}}, assuan_escape.specs.DataLines.{data_line, carried}}
use Rattle.{assuan_server.specs.{Errors.{error_text, error_number}, Written.{IsDataAnswer, ok, greeting}, declared.errors.Origin.Origin}, assuan_text.specs.LineEnds.line_of, session_client.specs.declared.code.Code.Code}
use Rattle.passphrase_laws.{specs.Readings.IsBegun, proofs.{Finding.ComesTo, ErrorRows.error_row, Pieces.{pieces_skipped, carry_all, texts_are, small_pieces, IsByte}, Walking.IsSent}}
use Rattle.assuan_client.specs.Forms as form
use Rattle.assuan_client.specs.declared.answer.Answer.TheVariants as answer

ok_sent : IsSent (codes "OK")
ok_sent = record { short = omega arith; whole = refl; no_cr = refl }

-- data lines and OK come to the bytes
pub data_comes : (tally : Tally) (secret text : List ℕ) → IsBegun tally → All IsByte secret → length secret ≤ 255 → IsDataAnswer secret text → ComesTo tally text (success_of secret)
data_comes tally secret text begun small few answer_is =
    let all = small_pieces answer_is.pieces (subst (λ (l : List ℕ). All IsByte l) (sym answer_is.are_data.joined) small) in
    let came : (with_lines tally (map data_line answer_is.pieces)).bytes ≡ secret =
    ap (λ (b : List ℕ). b ++ flat_map carried (map data_line answer_is.pieces)) begun.no_data ∙ carry_all answer_is.pieces all ∙ answer_is.are_data.joined in
    record {
      lines = map data_line answer_is.pieces;
      last = codes "OK";
      text_is = answer_is.text_is ∙ ap (λ (l : List ℕ). l ++ ok) (sym (texts_are answer_is.pieces));
      skipped = pieces_skipped tally [] answer_is.pieces begun.no_data answer_is.are_data.each all (omega (arith, few, ap length answer_is.are_data.joined));
      sent = ok_sent;
      stops = refl;
      says = ap success_of came;
    }

-- an error line comes to its number
pub error_comes : (tally : Tally) (why : Code) (origin : Origin) → ComesTo tally (line_of (error_text why origin)) (answer.Err (error_number why origin))
error_comes tally why origin = let row = error_row why origin in record {
  lines = [];
  last = error_text why origin;
  text_is = refl;
  skipped = tt;
  sent = row.sent;
  stops = ap (λ (f : form.Form). skips (with_lines tally []) f (length (carried (error_text why origin)))) row.form_is;
  says = ap (λ (f : form.Form). by_form (with_lines tally []) (error_text why origin) f) row.form_is;
}

-- OK alone, and the greeting, come to it
pub ok_comes : (tally : Tally) → IsBegun tally → ComesTo tally ok answer.Ok
ok_comes tally begun = record {
  lines = [];
  last = codes "OK";
  text_is = refl;
  skipped = tt;
  sent = ok_sent;
  stops = refl;
  says = ap (λ (b : List ℕ). success_of (b ++ [])) begun.no_data;
}

pub greeting_comes : (tally : Tally) → IsBegun tally → ComesTo tally (line_of greeting) answer.Ok
greeting_comes tally begun = record {
  lines = [];
  last = greeting;
  text_is = refl;
  skipped = tt;
  sent = record { short = omega arith; whole = refl; no_cr = refl };
  stops = refl;
  says = ap (λ (b : List ℕ). success_of (b ++ [])) begun.no_data;
}
