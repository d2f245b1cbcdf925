-- The definitions on worked examples, each by computation.
use Rattle.std.specs.Prelude.{◌≡◌, [], ◌∷◌, codes, true, false, Some, None, refl}
use Rattle.assuan_text.specs.{Forms.{is_ignored, is_idle, is_data}, Numbers.number_of, Options.{options_of, arguments_of, last_option, last_value}, Words.{command_of, rest_of, words}}

comment_behind_blanks : is_ignored (32 ∷ 9 ∷ codes "# x") ≡ true
comment_behind_blanks = refl

no_comment_in_an_inquiry : is_idle (codes " # x") ≡ false
no_comment_in_an_inquiry = refl

data_alone : is_data (codes "d") ≡ true
data_alone = refl

data_behind_a_tab : is_data (68 ∷ 9 ∷ codes "x") ≡ false
data_behind_a_tab = refl

ten_digits : number_of (codes "0000000600") ≡ Some 600
ten_digits = refl

eleven_digits : number_of (codes "00000000600") ≡ None
eleven_digits = refl

command_behind_a_blank : command_of (codes " NOP  a b") ≡ codes "NOP"
command_behind_a_blank = refl

rest_without_blanks : rest_of (codes " NOP  a b") ≡ codes "a b"
rest_without_blanks = refl

-- An option that always has a value: its name alone isn't it, even where it comes last.
clear_in_ssh : last_value (codes "--mode") (options_of (words (rest_of (codes "CLEAR_PASSPHRASE --mode=ssh --mode id1")))) ≡ Some (codes "ssh")
clear_in_ssh = refl

name_alone_comes_last : last_option (codes "--mode") (options_of (words (rest_of (codes "CLEAR_PASSPHRASE --mode=ssh --mode id1")))) ≡ Some (codes "--mode")
name_alone_comes_last = refl

last_value_counts : last_value (codes "--mode") (options_of (words (codes "--mode=ssh --modes=x --mode= id1"))) ≡ Some []
last_value_counts = refl

arguments_behind_the_mark : arguments_of (words (codes "--no-ask -- --data id1")) ≡ codes "--data" ∷ codes "id1" ∷ []
arguments_behind_the_mark = refl
