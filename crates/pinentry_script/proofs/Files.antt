-- Lines of a file, and what they stand for.
use Rattle.std.proofs.{Common.{◌≡◌, ◌+◌, ◌-◌, ◌&&◌, ◌==◌, ℕ, true, false, List, [], ◌∷◌, length, take, drop, Some, None, refl, ap, sym, ◌∙◌, arith}, Math.Bool.and_assoc, lemmas.Bool.or_parts}
use Rattle.std.{proofs.lemmas.List.{take-append-drop, length-drop, take_all, Folds.list_any-append}, specs.{List.{position, list_all, before_first}, Option.{is_some, option_map_or}}}
use Rattle.{assuan_text.specs.LineEnds.{is_lf, has_lf}, assuan_line.{specs.Lines.{after_line, pieces_of, rest_of}, proofs.{Parts.{pieces_none, rest_none, pieces_some, rest_some}, Places.{none_there, some_there, none_before}}}}
use Rattle.pinentry_script.specs.{Entries.{Entry, entry_of, is_script, entries_of}, Writing.IsShortText}

-- what is behind some bytes has no line feed either
drop_whole : (n : ℕ) (bytes : List ℕ) → has_lf bytes ≡ false → has_lf (drop n bytes) ≡ false
drop_whole n bytes none =
    (or_parts (has_lf (take n bytes)) (has_lf (drop n bytes))
    (sym (list_any-append is_lf (take n bytes) (drop n bytes)) ∙ ap has_lf (take-append-drop n bytes) ∙ none)).1

pub drop_short : (n : ℕ) (bytes : List ℕ) → IsShortText bytes → IsShortText (drop n bytes)
drop_short n bytes text = record { short = omega (arith, text.short, length-drop n bytes); whole = drop_whole n bytes text.whole }

-- a file with a line feed is its first line, and what comes behind it
pub script_line : (file : List ℕ) → has_lf file ≡ true → is_script file ≡ (is_some (entry_of (before_first is_lf file)) && is_script (after_line file))
script_line file some =
    rw (pieces_some file some, rest_some file some)
    (and_assoc (is_some (entry_of (before_first is_lf file))) (list_all (λ line. is_some (entry_of line)) (pieces_of (after_line file))) (length (rest_of (after_line file)) == 0))

pub script_end : (file : List ℕ) → has_lf file ≡ false → is_script file ≡ (length file == 0)
script_end file none = rw (pieces_none file none, rest_none file none) refl

pub entries_line : (file : List ℕ) → has_lf file ≡ true
    → entries_of (pieces_of file) ≡ option_map_or (λ (entry : Entry). entry ∷ entries_of (pieces_of (after_line file))) (entry_of (before_first is_lf file)) (entries_of (pieces_of (after_line file)))
entries_line file some = ap entries_of (pieces_some file some)

pub entries_end : (file : List ℕ) → has_lf file ≡ false → entries_of (pieces_of file) ≡ []
entries_end file none = ap entries_of (pieces_none file none)

-- what the first line feed tells
pub no_line_feed : (bytes : List ℕ) → position is_lf bytes ≡ None → has_lf bytes ≡ false
no_line_feed = none_there is_lf

pub split_there : (bytes : List ℕ) (end : ℕ) → position is_lf bytes ≡ Some end
    → (has_lf bytes ≡ true) × (take end bytes ≡ before_first is_lf bytes) × (drop (end + 1) bytes ≡ after_line bytes) × (has_lf (take end bytes) ≡ false)
split_there bytes end is =
    let there = some_there is_lf bytes end is in (
      there.0,
      ap (λ (n : ℕ). take n bytes) (sym there.1),
      ap (λ (n : ℕ). drop (n + 1) bytes) (sym there.1),
      ap (λ (n : ℕ). has_lf (take n bytes)) (sym there.1) ∙ none_before is_lf bytes,
    )

-- the text behind a word and a blank
pub behind_short : (n : ℕ) (line rest : List ℕ) → rest ≡ drop n line → IsShortText line → IsShortText (take (length rest - 1) (drop 1 rest))
behind_short n line rest is text =
    let whole : take (length rest - 1) (drop 1 rest) ≡ drop 1 rest = take_all (length rest - 1) (drop 1 rest) (omega (arith, length-drop 1 rest)) in
    rw (whole, is) (drop_short 1 (drop n line) (drop_short n line text))
