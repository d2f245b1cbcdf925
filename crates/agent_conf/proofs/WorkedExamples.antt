-- The definitions on worked examples, each by computation.
use Rattle.std.specs.{Prelude.{◌≡◌, ℕ, List, [], ◌∷◌, ◌++◌, codes, map, Option, Some, None, refl}, Option.option_map}
use Rattle.agent_conf.specs.{Lines.{settings_from, settings_in}, Numbers.{kept_in, number_in}, Settled.settled, Table.row_of, Words.settings_of, Written.Written, declared.numbers.Range.TheVariants.{Seconds, Bytes, Count}}
use Rattle.agent_conf.specs.declared.{setting.Place.TheVariants.{Machine, Home}, table.{Row.TheVariants.{Number, Unkept}, Takes.TheVariants.Nothing, Unkept.TheVariants.NoPrompts}}

-- the number of a line or word, a name and a value
abbrev row : Written → ℕ × List ℕ × List ℕ
row setting = (setting.number, setting.name, setting.value)

abbrev ttl : List ℕ
ttl = codes "max-cache-ttl"

cr_lf : map row (settings_in Home (codes "max-cache-ttl 60" ++ 13 ∷ 10 ∷ codes "batch")) ≡ (1, ttl, codes "60") ∷ (2, codes "batch", []) ∷ []
unfolding settings_from
cr_lf = refl

blanks : map row (settings_in Home (codes "  max-cache-ttl " ++ 9 ∷ codes " 60 " ++ 9 ∷ 10 ∷ [])) ≡ (1, ttl, codes "60") ∷ []
unfolding settings_from
blanks = refl

equals : map row (settings_in Home (codes "max-cache-ttl=60 " ++ 10 ∷ codes "max-cache-ttl = 61")) ≡ (1, ttl, codes "60") ∷ (2, ttl, codes "61") ∷ []
unfolding settings_from
equals = refl

quotes_and_comments : map row (settings_in Home (codes "# a comment" ++ 10 ∷ 10 ∷ codes "  # another" ++ 10 ∷ codes "pinentry-program " ++ 34 ∷ codes "/bin/true" ++ 34 ∷ []))
    ≡ (4, codes "pinentry-program", codes "/bin/true") ∷ []
unfolding settings_from
quotes_and_comments = refl

order_mark : map row (settings_in Home (239 ∷ 187 ∷ 191 ∷ codes "max-cache-ttl 60")) ≡ (1, ttl, codes "60") ∷ []
unfolding settings_from
order_mark = refl

cr_alone : map row (settings_in Home (codes "max-cache-ttl 60" ++ 13 ∷ codes "batch" ++ 13 ∷ [])) ≡ (1, ttl, codes "60" ++ 13 ∷ codes "batch") ∷ []
unfolding settings_from
cr_alone = refl

words_are : map row (settings_of 1 (codes "--max-cache-ttl" ∷ codes "62" ∷ codes "--max-cache-ttl=63" ∷ codes "xterm" ∷ codes "--max-cache-ttl" ∷ []))
    ≡ (1, codes "--max-cache-ttl", codes "62") ∷ (3, codes "--max-cache-ttl", codes "63") ∷ (4, codes "xterm", []) ∷ (5, codes "--max-cache-ttl", []) ∷ []
unfolding row_of
words_are = refl

with_zeros : number_in (codes "000000000060") ≡ Some 60
with_zeros = refl

with_a_comment : number_in (codes "60 # a minute") ≡ Some 60
with_a_comment = refl

with_a_unit : number_in (codes "1h") ≡ None
with_a_unit = refl

two_numbers : number_in (codes "60 30") ≡ None
two_numbers = refl

below_zero : number_in (codes "-1") ≡ None
below_zero = refl

not_there : number_in [] ≡ None
not_there = refl

too_long_a_life : kept_in Seconds 99999999999999999999 ≡ Some 2147483647
too_long_a_life = refl

too_many_bytes : kept_in Bytes 300 ≡ None
too_many_bytes = refl

too_low_a_count : kept_in Count 1024 ≡ Some 65536
too_low_a_count = refl

too_high_a_count : kept_in Count 100000000 ≡ Some 65011712
too_high_a_count = refl

measured_count : kept_in Count 0 ≡ Some 0
measured_count = refl

known : row_of ttl ≡ Some (Number Seconds)
unfolding row_of
known = refl

refused : row_of (codes "batch") ≡ Some (Unkept NoPrompts Nothing)
unfolding row_of
refused = refl

misspelled : row_of (codes "max-cache-tll") ≡ None
unfolding row_of
misspelled = refl

-- what counts of the lines of the machine, of the home folder, and of the words
abbrev value_of : List ℕ → List ℕ → List (List ℕ) → Option (List ℕ)
value_of machine home words =
    option_map (λ setting. setting.value) (settled (ttl ∷ []) (record { machine = settings_in Machine machine; home = settings_in Home home; words = settings_of 1 words }))

home_before_machine : value_of (codes "max-cache-ttl 60") (codes "max-cache-ttl 61") [] ≡ Some (codes "61")
unfolding settings_from
home_before_machine = refl

words_before_both : value_of (codes "max-cache-ttl 60") (codes "max-cache-ttl 61") (codes "--max-cache-ttl=62" ∷ []) ≡ Some (codes "62")
unfolding settings_from
words_before_both = refl

last_in_a_file : value_of [] (codes "max-cache-ttl 60" ++ 10 ∷ codes "max-cache-ttl 61") [] ≡ Some (codes "61")
unfolding settings_from
last_in_a_file = refl

dashes_in_a_file : value_of (codes "max-cache-ttl 60") (codes "--max-cache-ttl 61") [] ≡ Some (codes "60")
unfolding settings_from
dashes_in_a_file = refl
