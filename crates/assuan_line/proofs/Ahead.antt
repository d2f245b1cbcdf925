-- Bytes that a reader holds ahead count among those that were taken.
use Rattle.std.proofs.Common.{List, ℕ, [], ◌++◌, ap, sym, ◌∙◌, append_assoc}
use Rattle.assuan_line.specs.Next.{IsCutShort, IsTooLong}

pub cut_short_of_all : {ahead rest left : List ℕ} → IsCutShort ahead rest left → IsCutShort [] (ahead ++ rest) left
cut_short_of_all {ahead} {rest} {left} short = record {
  taken = ahead ++ short.taken;
  split = ap (λ (x : List ℕ). ahead ++ x) short.split ∙ sym (append_assoc ahead short.taken left);
  none = short.none;
}

pub too_long_of_all : {ahead rest left : List ℕ} → IsTooLong ahead rest left → IsTooLong [] (ahead ++ rest) left
too_long_of_all {ahead} {rest} {left} long = record {
  taken = ahead ++ long.taken;
  split = ap (λ (x : List ℕ). ahead ++ x) long.split ∙ sym (append_assoc ahead long.taken left);
  long = long.long;
}
