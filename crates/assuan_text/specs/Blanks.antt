-- Blanks in lines and options. That a tab counts as one is this project's own rule.
use Rattle.std.specs.{Prelude.{ℕ, ◌==◌, ◌||◌, Bool, List, drop}, List.prefix_len}

-- a blank, or a tab
abbrev pub is_blank : ℕ → Bool
is_blank byte = byte == 32 || byte == 9

-- without the blanks at the front
abbrev pub without_blanks : List ℕ → List ℕ
without_blanks bytes = drop (prefix_len is_blank bytes) bytes
