-- The note of a pinentry comes to the inquiry that it is.
use Rattle.std.proofs.{Common.{◌≡◌, ℕ, ◌+◌, ◌%◌, ◌^◌, ◌<◌, ◌≤◌, ◌==◌, ◌||◌, Bool, false, cond, List, [], ◌∷◌, ◌++◌, length, codes, decimal, refl, ap, sym, subst, ◌∙◌, arith}, lemmas.Bool.{le-leb, ne_eqb}}
use Rattle.std.{proofs.lemmas.{Fmt.{decimal_by_steps, length-decimal-le}, List.Folds.list_any-append}, specs.List.list_any}
use Rattle.{assuan_client.{proofs.OnlyAnswer.by_form, specs.{Forms.answer_form, Skipping.{Tally, with_lines, skips}, declared.tally.TheConstants.MAX_NOTES}}, assuan_escape.specs.DataLines.carried, assuan_server.specs.Inquiries.inquire_text}
use Rattle.assuan_text.specs.LineEnds.{has_lf, line_of}
use Rattle.passphrase_laws.{specs.Readings.IsBegun, proofs.{Finding.ComesTo, Pieces.no_cr_stays, Walking.IsSent}}
use Rattle.assuan_client.specs.Forms as form
use Rattle.assuan_client.specs.declared.answer.Answer.TheVariants as answer

-- parameters that end no line, and are short
pub record IsParams (params : List ℕ) : Type 0 where
  pub no_lf : has_lf params ≡ false
  pub no_cr : list_any (λ byte. byte == 13) params ≡ false
  pub short : length params ≤ 20

no_end : (ends n : ℕ) → ends < 48 → list_any (λ byte. byte == ends) ((48 + n) ∷ []) ≡ false
no_end ends n small = ap (λ (b : Bool). b || false) (ne_eqb (48 + n) ends (λ is. omega (arith, is, small)))

digits_no_end : (ends : ℕ) → ends < 48 → (n : ℕ) → n < 2 ^ 64 → list_any (λ byte. byte == ends) (decimal n) ≡ false
digits_no_end ends small n few =
    decimal_by_steps (λ n ds. list_any (λ byte. byte == ends) ds ≡ false) (λ n below. no_end ends n small)
    (λ n ds many so. list_any-append (λ byte. byte == ends) ds ((48 + n % 10) ∷ []) ∙ ap (λ (b : Bool). b || list_any (λ byte. byte == ends) ((48 + n % 10) ∷ [])) so ∙ no_end ends (n % 10) small)
    n few

pub are_params : (pid : ℕ) → pid < 2 ^ 64 → IsParams (decimal pid)
are_params pid few = record {
  no_lf = digits_no_end 10 (omega arith) pid few;
  no_cr = digits_no_end 13 (omega arith) pid few;
  short = length-decimal-le 20 pid (omega arith) (omega (arith, few)) few;
}

abbrev pub launched : List ℕ
launched = codes "PINENTRY_LAUNCHED"

-- the line, where there are some
abbrev full_line : List ℕ → List ℕ
full_line params = codes "INQUIRE PINENTRY_LAUNCHED " ++ params

line_is : (byte : ℕ) (params : List ℕ) → inquire_text launched (byte ∷ params) ≡ full_line (byte ∷ params)
line_is byte params =
    ap (λ (b : Bool). cond b (codes "INQUIRE PINENTRY_LAUNCHED") (full_line (byte ∷ params))) (ne_eqb (length (byte ∷ params)) 0 (λ is. omega (arith, is)))

full_sent : (params : List ℕ) → IsParams params → IsSent (full_line params)
full_sent params is = record { short = omega (arith, is.short); whole = is.no_lf; no_cr = no_cr_stays (full_line params) is.no_cr }

note_sent : (params : List ℕ) → IsParams params → IsSent (inquire_text launched params)
note_sent [] is = record { short = omega arith; whole = refl; no_cr = refl }
note_sent (byte ∷ params) is = subst IsSent (sym (line_is byte params)) (full_sent (byte ∷ params) is)

note_form : (params : List ℕ) → answer_form (inquire_text launched params) ≡ form.Inquiry launched params
note_form [] = refl
note_form (byte ∷ params) = ap answer_form (line_is byte params)

-- it comes to the inquiry at once, where fewer notes than the most came before
pub record IsNote (tally : Tally) (params : List ℕ) : Type 0 where
  pub comes : ComesTo tally (line_of (inquire_text launched params)) (answer.Asked launched params)
  pub no_lines : comes.lines ≡ []

pub note_comes : (tally : Tally) (params : List ℕ) → IsBegun tally → IsParams params → IsNote tally params
note_comes tally params begun is = record {
  comes = record {
    lines = [];
    last = inquire_text launched params;
    text_is = refl;
    skipped = tt;
    sent = note_sent params is;
    stops = ap (λ (f : form.Form). skips (with_lines tally []) f (length (carried (inquire_text launched params)))) (note_form params);
    says =
        ap (λ (f : form.Form). by_form (with_lines tally []) (inquire_text launched params) f) (note_form params)
        ∙ ap (λ (b : Bool). cond b (answer.Asked launched params) (by_form (with_lines tally []) [] form.Note)) (le-leb (tally.notes + 0 + 1) MAX_NOTES (omega (arith, begun.few)));
  };
  no_lines = refl;
}
