-- The comments of HELP, one command after another.
use Rattle.std.proofs.{Common.{◌≡◌, ◌<◌, ◌+◌, ℕ, Bool, true, false, cond, List, [], ◌∷◌, ◌++◌, length, map, take, drop, get_or, Ok, Err, refl, ap, sym, ◌∙◌, subst, append-nil}, lemmas.Grind.flat_map-append}
use Rattle.std.{proofs.lemmas.List.{map-append, take_more, take-append-drop, Elements.filter-append}, specs.{Borrow.Bor, List.filter}}
use Rattle.{agent_ports.specs.declared.link.WriteFault.WriteFault, assuan_server.{specs.{Connections.Connection, Written.{comment_text, WritesText}}, proofs.Saying.{said_then, said_first}}, assuan_text.specs.LineEnds.line_of}
use Rattle.{assuan_text.specs.Rows.rows_of, command_table.specs.{Commands.{is_told, names_told}, declared.commands.Command.Command}}
use Rattle.agent_commands.specs.Answers.{comments}

abbrev pub Rows : Type 0
Rows = List (Bor (List ℕ) × Command)

module _ (trusts : Bool) where
  -- the comments of these rows, and of one
  abbrev pub lines : Rows → List ℕ
  lines rows = comments (names_told trusts (rows_of rows))

  abbrev pub line : Bor (List ℕ) × Command → List ℕ
  line row = cond (is_told trusts row.1) (line_of (comment_text row.0.now)) []

  lines_then : (first second : Rows) → lines (first ++ second) ≡ lines first ++ lines second
  lines_then first second =
      ap (λ rows. comments (names_told trusts rows)) (map-append (λ (row : Bor (List ℕ) × Command). (row.0.now, row.1)) first second)
      ∙ ap (λ rows. comments (map (λ row. row.0) rows)) (filter-append (λ (row : List ℕ × Command). is_told trusts row.1) (rows_of first) (rows_of second))
      ∙ ap comments (map-append (λ (row : List ℕ × Command). row.0) (filter (λ row. is_told trusts row.1) (rows_of first)) (filter (λ row. is_told trusts row.1) (rows_of second)))
      ∙ flat_map-append (λ name. line_of (comment_text name)) (names_told trusts (rows_of first)) (names_told trusts (rows_of second))

  alone : (name : List ℕ) (command : Command) (told : Bool) → comments (map (λ (row : List ℕ × Command). row.0) (cond told ((name, command) ∷ []) [])) ≡ cond told (line_of (comment_text name)) []
  alone name command true = append-nil (line_of (comment_text name))
  alone name command false = refl

  lines_more : (rows : Rows) (at : ℕ) (other : Bor (List ℕ) × Command) → at < length rows → lines (take (at + 1) rows) ≡ lines (take at rows) ++ line (get_or rows at other)
  lines_more rows at other within =
      let row = get_or rows at other in
      ap lines (take_more rows at other within) ∙ lines_then (take at rows) (row ∷ []) ∙ ap (λ (x : List ℕ). lines (take at rows) ++ x) (alone row.0.now row.1 (is_told trusts row.1))

  module _ (rows : Rows) (at : ℕ) (other : Bor (List ℕ) × Command) (within : at < length rows) (start before after : Connection) (so_far : WritesText (lines (take at rows)) start (Ok tt) before) where
    pub one_more : WritesText (line (get_or rows at other)) before (Ok tt) after → WritesText (lines (take (at + 1) rows)) start (Ok tt) after
    one_more said =
        subst (λ (x : List ℕ). WritesText x start (Ok tt) after) (sym (lines_more rows at other within))
        (said_then (lines (take at rows)) (line (get_or rows at other)) start before after (Ok tt) so_far said)

    -- one comment stopped, and nothing is written behind it
    pub stopped : (fault : WriteFault) → WritesText (line (get_or rows at other)) before (Err fault) after → WritesText (lines rows) start (Err fault) after
    stopped fault said =
        let this : WritesText (lines (take (at + 1) rows)) start (Err fault) after =
        subst (λ (x : List ℕ). WritesText x start (Err fault) after) (sym (lines_more rows at other within))
        (said_then (lines (take at rows)) (line (get_or rows at other)) start before after (Err fault) so_far said) in
        let whole : lines rows ≡ lines (take (at + 1) rows) ++ lines (drop (at + 1) rows) =
        ap lines (sym (take-append-drop (at + 1) rows)) ∙ lines_then (take (at + 1) rows) (drop (at + 1) rows) in
        subst (λ (x : List ℕ). WritesText x start (Err fault) after) (sym whole)
        (said_first (lines (take (at + 1) rows)) (lines (drop (at + 1) rows)) start after fault this)
