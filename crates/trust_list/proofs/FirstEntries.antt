-- The first entry for a fingerprint is the first line that says something of it.
use Rattle.std.{proofs.{Common.{◌≡◌, ◌++◌, ℕ, Bool, List, [], ◌∷◌, Option, Some, None, refl, ap, ◌∙◌}, lemmas.List.Elements.{All-cons, All-head, All-nil, All-tail, filter_map-append}}, specs.Prelude.slice_get}
use Rattle.std.specs.List.{All, cons_option, filter_map}
use Rattle.assuan_text.specs.Words.{words}
use Rattle.trust_list.{specs.{Entries.judgement_of, Written.{FirstEntry, IsSilent}}, proofs.{EntryLaw.{IsEntry_from_judgement, judgement_written}, NewEntries.AreDigits}}

module _ (digits : List ℕ) (are : AreDigits digits) where
  abbrev judge : List ℕ → Option Bool
  judge line = judgement_of digits (words line)

  abbrev first_of : List (List ℕ) → Option Bool
  first_of lines = slice_get (filter_map judge lines) 0

  silent_from_none : (line : List ℕ) → judge line ≡ None → IsSilent digits line
  silent_from_none line none trusted entry = let some : judge line ≡ Some trusted = judgement_written digits line trusted are entry in cc

  none_by : (line : List ℕ) (judgement : Option Bool) → judge line ≡ judgement → IsSilent digits line → judge line ≡ None
  none_by line None e silent = e
  none_by line (Some trusted) e silent = absurd (silent trusted (IsEntry_from_judgement digits line trusted e))

  -- lines that are no entries say nothing
  no_judgements : (lines : List (List ℕ)) → All (IsSilent digits) lines → filter_map judge lines ≡ []
  no_judgements [] silent = refl
  no_judgements (line ∷ lines) silent =
      ap (λ (o : Option Bool). cons_option o (filter_map judge lines)) (none_by line (judge line) refl (All-head (IsSilent digits) line lines silent))
      ∙ no_judgements lines (All-tail (IsSilent digits) line lines silent)

  first_by : (line : List ℕ) (lines : List (List ℕ)) (trusted : Bool) (judgement : Option Bool) → judge line ≡ judgement
      → slice_get (cons_option judgement (filter_map judge lines)) 0 ≡ Some trusted → (first_of lines ≡ Some trusted → FirstEntry digits lines trusted) → FirstEntry digits (line ∷ lines) trusted
  first_by line lines trusted None e first more =
      let later = more first in
      record {
        before = line ∷ later.before;
        line = later.line;
        after = later.after;
        are = ap (λ (ls : List (List ℕ)). line ∷ ls) later.are;
        silent = All-cons (IsSilent digits) line later.before (silent_from_none line e) later.silent;
        entry = later.entry;
      }
  first_by line lines trusted (Some judged) e first more =
      record {
        before = [];
        line = line;
        after = lines;
        are = refl;
        silent = All-nil (IsSilent digits);
        entry = IsEntry_from_judgement digits line trusted (e ∙ first);
      }

  pub FirstEntry_from_trust : (lines : List (List ℕ)) (trusted : Bool) → first_of lines ≡ Some trusted → FirstEntry digits lines trusted
  FirstEntry_from_trust [] trusted first = cc first
  FirstEntry_from_trust (line ∷ lines) trusted first = first_by line lines trusted (judge line) refl first (FirstEntry_from_trust lines trusted)

  pub first_of_FirstEntry : (lines : List (List ℕ)) (trusted : Bool) → FirstEntry digits lines trusted → first_of lines ≡ Some trusted
  first_of_FirstEntry lines trusted entry =
      ap first_of entry.are
      ∙ ap (λ (ms : List Bool). slice_get ms 0)
      (filter_map-append judge entry.before (entry.line ∷ entry.after)
      ∙ ap (λ (ms : List Bool). ms ++ filter_map judge (entry.line ∷ entry.after)) (no_judgements entry.before entry.silent))
      ∙ ap (λ (o : Option Bool). slice_get (cons_option o (filter_map judge entry.after)) 0) (judgement_written digits entry.line trusted are entry.entry)

  silent_by : (line : List ℕ) (lines : List (List ℕ)) (judgement : Option Bool) → judge line ≡ judgement
      → slice_get (cons_option judgement (filter_map judge lines)) 0 ≡ None → (first_of lines ≡ None → All (IsSilent digits) lines) → All (IsSilent digits) (line ∷ lines)
  silent_by line lines None e none more = All-cons (IsSilent digits) line lines (silent_from_none line e) (more none)
  silent_by line lines (Some judged) e none more = cc none

  pub silent_from_trust : (lines : List (List ℕ)) → first_of lines ≡ None → All (IsSilent digits) lines
  silent_from_trust [] none = All-nil (IsSilent digits)
  silent_from_trust (line ∷ lines) none = silent_by line lines (judge line) refl none (silent_from_trust lines)

  pub first_of_silent : (lines : List (List ℕ)) → All (IsSilent digits) lines → first_of lines ≡ None
  first_of_silent lines silent = ap (λ (ms : List Bool). slice_get ms 0) (no_judgements lines silent)
