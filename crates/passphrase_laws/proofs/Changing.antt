-- The requests of a task that change what is kept are read by the agent as what they ask for.
use Rattle.std.proofs.{Common.{◌≡◌, ◌≢◌, ℕ, zero, suc, ◌+◌, ◌-◌, ◌*◌, ◌/◌, ◌%◌, ◌^◌, ◌<◌, ◌≤◌, ◌==◌, ◌&&◌, Bool, true, false, cond, List, [], ◌∷◌, ◌++◌, length, take, drop, slice_index, codes, decimal, unwrap_or, Option, Some, None, Result, Ok, inl, inr, All, refl, ap, sym, subst, ◌∙◌, arith, append_assoc, append-nil, rules}, lemmas.List.Elements.{All-head, All-tail}}
use Rattle.std.proofs.lemmas.{Bool.{and_parts, cases_Bool, cond-false, cond-true, eqb-false, eqb-true, le-leb, ne_eqb, or_from, or_parts, false_from_ne_true, false≢true, Decides.nat_tests}, Fmt.{decimal_by_steps, decimal_nonempty, digits_decimal, digits_value-decimal, length-decimal-le}, List.Folds.list_any-append, Slice.Eq.bytes_eq-Decides, Str.Parse.{IsNumeralModel, numerals_by_fold}}
use Rattle.std.specs.{List.{flat_map, fold, list_any, prefix_len}, Option.option_and_then, Prelude.nat_le, Str.{all_ascii_digits, bytes_eq}}
use Rattle.{agent_commands.specs.{Answers.IsSecret, Fields.{given_passphrase, life, life_of_seconds, passphrase}, Requests.{clear_of, either, preset_of, request_of}, declared.request.{CacheCommand.{CacheCommand, TheVariants.{ClearPassphrase, PresetPassphrase, ReloadAgent}}, Request.TheVariants.Cache}}, command_table.specs.Commands.command_named}
use Rattle.{assuan_text.specs.{Blanks.{is_blank, without_blanks}, Numbers.{decimal as number_in, number_of}, Options.{arguments_of, is_option, options_of, without_mark}, Words.words}, cache_policy.specs.declared.{life.Life.{Life, TheVariants.{Endless, Seconds}}, mode.Mode.TheVariants.User}}
use Rattle.{hex.{proofs.HexLemmas.decode_of-encode_upper, specs.Hex.{IsBytes, decode_of, encode_upper, encode_with, upper_digits}}, passphrase_words.specs.{Ids.is_id, Requests.{Clears, ClearsAll, Presets, Probes, act_ttl, hex_digit, hex_of, line_of_request, seconds_word}, Tasks.TaskValue}}
use Rattle.{session_client.specs.Fields.{◌>>=◌, in_form}, session_client.specs.declared.code.Code.Code}
use Rattle.passphrase_laws.{specs.Asking.{AreSeconds, life_of}, proofs.{Fields.{IdWord, cached, id_word}, Words.{IsWord, last_word, next_word}}}

-- ---- words

-- an id is read at the front of arguments that no option stands before
module _ (id : List ℕ) (is : IdWord id) (more : List (List ℕ)) where
  uncounted : prefix_len is_option (id ∷ more) ≡ 0
  uncounted = ap (λ (b : Bool). cond b (1 + prefix_len is_option more) 0) is.no_option

  unmarked : without_mark (id ∷ more) ≡ id ∷ more
  unmarked = ap (λ (b : Bool). cond b more (id ∷ more)) is.no_mark

  no_options : options_of (id ∷ more) ≡ []
  no_options = ap (λ (n : ℕ). take n (id ∷ more)) uncounted

  all_arguments : arguments_of (id ∷ more) ≡ id ∷ more
  all_arguments = ap (λ (n : ℕ). without_mark (drop n (id ∷ more))) uncounted ∙ unmarked

  -- and behind one
  module _ (option : List ℕ) (option_is : is_option option ≡ true) where
    counted : prefix_len is_option (option ∷ id ∷ more) ≡ 1
    counted = ap (λ (b : Bool). cond b (1 + prefix_len is_option (id ∷ more)) 0) option_is ∙ ap (λ (n : ℕ). 1 + n) uncounted

    one_option : options_of (option ∷ id ∷ more) ≡ option ∷ []
    one_option = ap (λ (n : ℕ). take n (option ∷ id ∷ more)) counted

    other_arguments : arguments_of (option ∷ id ∷ more) ≡ id ∷ more
    other_arguments = ap (λ (n : ℕ). without_mark (drop n (option ∷ id ∷ more))) counted ∙ unmarked

-- no blank is in front of an id
starts : (id rest : List ℕ) → IdWord id → without_blanks (id ++ rest) ≡ id ++ rest
starts [] rest is = absurd (omega (arith, is.word.some))
starts (byte ∷ id) rest is =
    let parts = or_parts (is_blank byte) (list_any is_blank id) is.word.whole in
    ap (λ (b : Bool). drop (cond b (1 + prefix_len is_blank (id ++ rest)) 0) (byte ∷ (id ++ rest))) parts.0

-- ---- seconds

no_blank : (n : ℕ) → is_blank (48 + n) ≡ false
no_blank n = or_from (48 + n == 32) (48 + n == 9) (ne_eqb (48 + n) 32 (λ is. omega (arith, is))) (ne_eqb (48 + n) 9 (λ is. omega (arith, is)))

-- decimal digits are no blanks and no sign
digits_plain : (n : ℕ) → n < 2 ^ 64 → (list_any is_blank (decimal n) ≡ false) × (list_any (λ byte. byte == 45) (decimal n) ≡ false)
digits_plain n few =
    decimal_by_steps (λ n ds. (list_any is_blank ds ≡ false) × (list_any (λ byte. byte == 45) ds ≡ false)) (λ n below. (blank n, sign n))
    (λ n ds many so. (
      list_any-append is_blank ds ((48 + n % 10) ∷ []) ∙ or_from (list_any is_blank ds) (list_any is_blank ((48 + n % 10) ∷ [])) so.0 (blank (n % 10)),
      list_any-append (λ byte. byte == 45) ds ((48 + n % 10) ∷ []) ∙ or_from (list_any (λ byte. byte == 45) ds) (list_any (λ byte. byte == 45) ((48 + n % 10) ∷ [])) so.1 (sign (n % 10)),
    )) n few
  where
    blank : (n : ℕ) → list_any is_blank ((48 + n) ∷ []) ≡ false
    blank n = or_from (is_blank (48 + n)) false (no_blank n) refl

    sign : (n : ℕ) → list_any (λ byte. byte == 45) ((48 + n) ∷ []) ≡ false
    sign n = or_from (48 + n == 45) false (ne_eqb (48 + n) 45 (λ is. omega (arith, is))) refl

-- the definition of numbers is one of decimal digits
numbers : IsNumeralModel (λ ds. all_ascii_digits ds ≡ true) (λ ds. fold (λ number digit. 10 * number + (digit - 48)) 0 ds)
numbers = numerals_by_fold (λ ds. all_ascii_digits ds ≡ true) (search rules) (λ n ds. fold (λ number digit. 10 * number + (digit - 48)) n ds) (search rules)

number_read : (n : ℕ) → n ≤ 2147483647 → number_of (decimal n) ≡ Some n
number_read n most =
    let few : n < 2 ^ 64 = omega (arith, most) in
    ap (λ (b : Bool). cond (b && nat_le (length (decimal n)) 10 && all_ascii_digits (decimal n)) (Some (number_in (decimal n))) None) (le-leb 1 (length (decimal n)) (omega (arith, decimal_nonempty n few)))
    ∙ ap (λ (b : Bool). cond (b && all_ascii_digits (decimal n)) (Some (number_in (decimal n))) None) (le-leb (length (decimal n)) 10 (length-decimal-le 10 n (omega arith) (omega (arith, most)) few))
    ∙ ap (λ (b : Bool). cond b (Some (number_in (decimal n))) None) (digits_decimal numbers n few) ∙ ap (λ (v : ℕ). Some v) (digits_value-decimal numbers n few)

unsigned : (digits : List ℕ) → list_any (λ byte. byte == 45) digits ≡ false → bytes_eq digits (codes "-1") ≡ false
unsigned digits plain = false_from_ne_true (bytes_eq digits (codes "-1")) (λ same.
    false≢true (sym plain ∙ ap (λ (d : List ℕ). list_any (λ byte. byte == 45) d) ((bytes_eq-Decides digits (codes "-1")).0 same)))

seconds_read : (seconds : Option ℕ) → AreSeconds seconds → life (seconds_word seconds) ≡ Some (life_of seconds)
seconds_read None are = refl
seconds_read (Some n) are =
    let few : n < 2 ^ 64 = omega (arith, are.1) in
    ap (λ (b : Bool). cond b (Some Endless) (option_and_then life_of_seconds (number_of (decimal n)))) (unsigned (decimal n) (digits_plain n few).1)
    ∙ ap (option_and_then life_of_seconds) (number_read n are.1) ∙ cond-false (n == 0) _ _ (ne_eqb n 0 (λ is. omega (arith, are.0, is)))
    ∙ cond-true (nat_le n 2147483647) _ _ (le-leb n 2147483647 are.1)

seconds_are_word : (seconds : Option ℕ) → AreSeconds seconds → IsWord (seconds_word seconds)
seconds_are_word None are = record { some = omega arith; whole = refl }
seconds_are_word (Some n) are =
    let few : n < 2 ^ 64 = omega (arith, are.1) in record { some = omega (arith, decimal_nonempty n few); whole = (digits_plain n few).0 }

-- ---- the digits of a passphrase

-- the digit of each number below 16 is that of the table, which is computed
abbrev all_same : ℕ → Bool
all_same zero = true
all_same (suc n) = (hex_digit n == slice_index upper_digits n) && all_same n

same_at : (n d : ℕ) → all_same n ≡ true → d < n → hex_digit d ≡ slice_index upper_digits d
same_at zero d all below = absurd (omega (arith, below))
same_at (suc n) d all below =
    let parts = and_parts (hex_digit n == slice_index upper_digits n) (all_same n) all in
    elim (cases_Bool (d == n)) [
      | inl is ↦ subst (λ (k : ℕ). hex_digit k ≡ slice_index upper_digits k) (sym (eqb-true d n is)) (eqb-true (hex_digit n) (slice_index upper_digits n) parts.0)
      | inr not ↦ same_at n d parts.1 (omega (arith, below, other d n not))
    ]
  where
    other : (d n : ℕ) → (d == n) ≡ false → d ≢ n
    other d n not is = eqb-false d n not is

hex_is : (secret : List ℕ) → All (λ byte. byte < 256) secret → flat_map hex_of secret ≡ encode_upper secret
unfolding encode_with
hex_is [] small = refl
hex_is (byte ∷ secret) small =
    let below = All-head (λ b. b < 256) byte secret small in
    let high : byte / 16 < 16 = omega (arith, below) in
    let low : byte % 16 < 16 = omega arith in
    ap (λ (h : ℕ). h ∷ hex_digit (byte % 16) ∷ flat_map hex_of secret) (same_at 16 (byte / 16) refl high)
    ∙ ap (λ (l : ℕ). slice_index upper_digits (byte / 16) ∷ l ∷ flat_map hex_of secret) (same_at 16 (byte % 16) refl low)
    ∙ ap (λ (r : List ℕ). slice_index upper_digits (byte / 16) ∷ slice_index upper_digits (byte % 16) ∷ r) (hex_is secret (All-tail (λ b. b < 256) byte secret small))

are_bytes : (secret : List ℕ) → All (λ byte. byte < 256) secret → IsBytes secret
are_bytes [] small i = omega arith
are_bytes (byte ∷ secret) small zero = All-head (λ b. b < 256) byte secret small
are_bytes (byte ∷ secret) small (suc i) = are_bytes secret (All-tail (λ b. b < 256) byte secret small) i

digit_plain : (d : ℕ) → is_blank (hex_digit d) ≡ false
digit_plain d = grind (arith, nat_tests)

hex_plain : (secret : List ℕ) → list_any is_blank (flat_map hex_of secret) ≡ false
hex_plain [] = refl
hex_plain (byte ∷ secret) =
    or_from (is_blank (hex_digit (byte / 16))) _ (digit_plain (byte / 16)) (or_from (is_blank (hex_digit (byte % 16))) _ (digit_plain (byte % 16)) (hex_plain secret))

hex_word : (secret : List ℕ) → secret ≢ [] → IsWord (flat_map hex_of secret)
hex_word [] some = absurd (some refl)
hex_word (byte ∷ secret) some = record { some = omega arith; whole = hex_plain (byte ∷ secret) }

secret_read : (secret : List ℕ) → IsSecret secret → given_passphrase false (flat_map hex_of secret ∷ []) ≡ Some (Some secret)
secret_read secret is =
    ap (λ (t : List ℕ). option_and_then (λ secret. Some (Some secret)) (passphrase (decode_of t))) (hex_is secret is.bytes)
    ∙ ap (λ (d : _). option_and_then (λ secret. Some (Some secret)) (passphrase d)) (decode_of-encode_upper secret (are_bytes secret is.bytes))
    ∙ ap (λ (b : Bool). option_and_then (λ secret. Some (Some secret)) (cond b (Some secret) None)) (le-leb (length secret) 255 is.short)

-- ---- lines

-- the blank behind a command isn't part of its rest
behind_blank : (rest : List ℕ) → without_blanks (32 ∷ rest) ≡ without_blanks rest
behind_blank rest = let one : 1 + prefix_len is_blank rest ≡ suc (prefix_len is_blank rest) = omega arith in ap (λ (n : ℕ). drop n (32 ∷ rest)) one

clear_begins : (rest : List ℕ) → without_blanks rest ≡ rest → request_of (codes "CLEAR_PASSPHRASE " ++ rest) ≡ either (clear_of (options_of (words rest)) (arguments_of (words rest)))
unfolding request_of command_named
clear_begins rest is = ap (λ (r : List ℕ). either (clear_of (options_of (words r)) (arguments_of (words r)))) (behind_blank rest ∙ is)

preset_begins : (rest : List ℕ) → without_blanks rest ≡ rest → request_of (codes "PRESET_PASSPHRASE " ++ rest) ≡ either (preset_of (options_of (words rest)) (arguments_of (words rest)))
unfolding request_of command_named
preset_begins rest is = ap (λ (r : List ℕ). either (preset_of (options_of (words r)) (arguments_of (words r)))) (behind_blank rest ∙ is)

pub all_read : (task : TaskValue) → request_of (line_of_request task ClearsAll) ≡ Cache ReloadAgent
unfolding request_of command_named
all_read task = refl

module _ (task : TaskValue) (id_is : is_id task.id ≡ true) where
  abbrev word : IdWord task.id
  word = id_word task.id id_is

  pub clears_read : request_of (line_of_request task Clears) ≡ Cache (ClearPassphrase task.id User)
  clears_read =
      clear_begins task.id (ap without_blanks (sym (append-nil task.id)) ∙ starts task.id [] word ∙ append-nil task.id)
      ∙ ap (λ (w : List (List ℕ)). either (clear_of (options_of w) (arguments_of w))) (last_word task.id word.word)
      ∙ ap (λ (o : List (List ℕ)). either (clear_of o (arguments_of (task.id ∷ [])))) (no_options task.id word [])
      ∙ ap (λ (a : List (List ℕ)). either (clear_of [] a)) (all_arguments task.id word [])
      ∙ ap (λ (c : Option (List ℕ)). either (in_form c >>= (λ id. Ok (ClearPassphrase id User)))) (cached task.id word)

  -- what is read of arguments that name a lifetime and a passphrase
  abbrev with_parts : List (List ℕ) → Option (List ℕ) → Option Life → Option (Option (List ℕ)) → Result CacheCommand Code
  with_parts options which how given = do
    id ← in_form which
    lasts ← in_form how
    secret ← in_form given
    Ok (PresetPassphrase id lasts secret)

  pub presets_read : (seconds : Option ℕ) (secret : List ℕ) → AreSeconds seconds → IsSecret secret → secret ≢ []
      → request_of (line_of_request task (Presets seconds secret)) ≡ Cache (PresetPassphrase task.id (life_of seconds) (Some secret))
  presets_read seconds secret are is some =
      let rest : List ℕ = seconds_word seconds ++ 32 ∷ flat_map hex_of secret in
      let more : List (List ℕ) = seconds_word seconds ∷ flat_map hex_of secret ∷ [] in
      ap request_of (append_assoc (codes "PRESET_PASSPHRASE ") task.id (32 ∷ rest)) ∙ preset_begins (task.id ++ 32 ∷ rest) (starts task.id (32 ∷ rest) word)
      ∙ ap (λ (w : List (List ℕ)). either (preset_of (options_of w) (arguments_of w)))
      (next_word task.id rest word.word ∙ ap (λ (w : List (List ℕ)). task.id ∷ w) (next_word (seconds_word seconds) (flat_map hex_of secret) (seconds_are_word seconds are)
      ∙ ap (λ (w : List (List ℕ)). seconds_word seconds ∷ w) (last_word (flat_map hex_of secret) (hex_word secret some))))
      ∙ ap (λ (o : List (List ℕ)). either (preset_of o (arguments_of (task.id ∷ more)))) (no_options task.id word more)
      ∙ ap (λ (a : List (List ℕ)). either (preset_of [] a)) (all_arguments task.id word more)
      ∙ ap (λ (c : Option (List ℕ)). either (with_parts [] c (life (seconds_word seconds)) (given_passphrase false (flat_map hex_of secret ∷ [])))) (cached task.id word)
      ∙ ap (λ (l : Option Life). either (with_parts [] (Some task.id) l (given_passphrase false (flat_map hex_of secret ∷ [])))) (seconds_read seconds are)
      ∙ ap (λ (g : Option (Option (List ℕ))). either (with_parts [] (Some task.id) (Some (life_of seconds)) g)) (secret_read secret is)

  pub probes_read : (n : ℕ) → AreSeconds (Some n) → request_of (codes "PRESET_PASSPHRASE --inquire " ++ task.id ++ 32 ∷ decimal n) ≡ Cache (PresetPassphrase task.id (Seconds n) None)
  probes_read n are =
      let rest : List ℕ = task.id ++ 32 ∷ decimal n in
      let more : List (List ℕ) = decimal n ∷ [] in
      ap request_of (append_assoc (codes "PRESET_PASSPHRASE --inquire ") task.id (32 ∷ decimal n)) ∙ preset_begins (codes "--inquire " ++ rest) refl
      ∙ ap (λ (w : List (List ℕ)). either (preset_of (options_of w) (arguments_of w)))
      (next_word (codes "--inquire") rest (record { some = omega arith; whole = refl })
      ∙ ap (λ (w : List (List ℕ)). codes "--inquire" ∷ w) (next_word task.id (decimal n) word.word ∙ ap (λ (w : List (List ℕ)). task.id ∷ w) (last_word (decimal n) (seconds_are_word (Some n) are))))
      ∙ ap (λ (o : List (List ℕ)). either (preset_of o (arguments_of (codes "--inquire" ∷ task.id ∷ more)))) (one_option task.id word more (codes "--inquire") refl)
      ∙ ap (λ (a : List (List ℕ)). either (preset_of (codes "--inquire" ∷ []) a)) (other_arguments task.id word more (codes "--inquire") refl)
      ∙ ap (λ (c : Option (List ℕ)). either (with_parts (codes "--inquire" ∷ []) c (life (decimal n)) (Some None))) (cached task.id word)
      ∙ ap (λ (l : Option Life). either (with_parts (codes "--inquire" ∷ []) (Some task.id) l (Some None))) (seconds_read (Some n) are)

-- the seconds of a probe, where its act names some that are read
pub probe_read : (task : TaskValue) → is_id task.id ≡ true → AreSeconds (act_ttl task.act) → request_of (line_of_request task Probes) ≡ Cache (PresetPassphrase task.id (Seconds (unwrap_or (act_ttl task.act) 1)) None)
probe_read task id_is are = probes_read task id_is (unwrap_or (act_ttl task.act) 1) (or_one (act_ttl task.act) are) where
  or_one : (seconds : Option ℕ) → AreSeconds seconds → AreSeconds (Some (unwrap_or seconds 1))
  or_one None are = (omega arith, omega arith)
  or_one (Some n) are = are
