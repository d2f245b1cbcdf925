-- A version in the data line that GETINFO tells it by: no byte of it is escaped, and there is one line.
use Rattle.std.{specs.{Prelude.{◌≡◌, ◌≤◌, ℕ, true, false, List, [], ◌∷◌, ◌++◌, length, codes, refl}, List.list_all}, proofs.{Common.{ap, sym, ◌∙◌, arith, append_assoc, append-nil}, lemmas.{Bool.{and_parts, leb-true, Decides.nat_tests}, List.Elements.{All-cons, All-nil}}}}
use Rattle.assuan_escape.{specs.{DataLines.{data_line, data_text, IsPiece}, Escapes.{is_escaped, escape_of, escapes}}, proofs.EscapeLemmas.escape_of_plain}
use Rattle.{assuan_server.specs.Written.{ok, IsDataAnswer}, assuan_text.specs.LineEnds.line_of}
use Rattle.session_options.specs.{Versions.{is_version_byte, is_version_len}, declared.version.Version.Version}

-- the lines that a version is told by
abbrev pub version_lines : List ℕ → List ℕ
version_lines version = (codes "D " ++ version) ++ 10 ∷ ok

not_escaped : (byte : ℕ) → is_version_byte byte ≡ true → is_escaped byte ≡ false
not_escaped byte is = grind (arith, nat_tests, is)

pub version_is_plain : (version : List ℕ) → list_all is_version_byte version ≡ true → escapes version ≡ version
version_is_plain [] each = refl
version_is_plain (byte ∷ more) each =
    let parts = and_parts (is_version_byte byte) (list_all is_version_byte more) each in
    ap (λ (front : List ℕ). front ++ escapes more) (escape_of_plain byte (not_escaped byte parts.0)) ∙ ap (λ (rest : List ℕ). byte ∷ rest) (version_is_plain more parts.1)

line_is : (version sent : List ℕ) → sent ≡ version → (line_of (codes "D " ++ sent) ++ []) ++ ok ≡ version_lines version
line_is version sent is =
    ap (λ (line : List ℕ). line ++ ok) (append-nil (line_of (codes "D " ++ sent))) ∙ append_assoc (codes "D " ++ sent) (10 ∷ []) ok ∙ ap version_lines is

pub version_data : (version : Version) → IsDataAnswer version.bytes.items (version_lines version.bytes.items)
version_data version =
    let bytes : List ℕ = version.bytes.items in
    let form = and_parts (is_version_len (length bytes)) (list_all is_version_byte bytes) version.in_form in
    let plain = version_is_plain bytes form.1 in
    let len : (1 ≤ length bytes) × (length bytes ≤ 20) = (grind (arith, nat_tests, form.0), grind (arith, nat_tests, form.0)) in
    record {
      pieces = bytes ∷ [];
      are_data = record { joined = append-nil bytes; each = All-cons IsPiece bytes [] (omega (arith, len.0), omega (arith, len.1, ap length plain)) (All-nil IsPiece); full = (tt, tt) };
      text_is = sym (line_is bytes (escapes bytes) plain);
    }
