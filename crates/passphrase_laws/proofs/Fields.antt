-- The line that asks for a passphrase is read as it was meant.
use Rattle.std.proofs.Common.{◌≡◌, ℕ, ◌+◌, ◌==◌, ◌&&◌, Bool, true, false, cond, List, [], ◌∷◌, ◌++◌, length, take, drop, slice_index, codes, Option, Some, None, Result, Ok, refl, ap, sym, ◌∙◌, arith}
use Rattle.std.{proofs.lemmas.{Bool.{and_parts, or_from, eqb-true, leb-true, false_from_ne_true, false≢true}, Slice.Eq.bytes_eq-Decides}, specs.{Prelude.{not, nat_le}, List.{list_all, list_any, prefix_len}, Str.bytes_eq}}
use Rattle.{agent_commands.specs.{Fields.{texts_by, texts, repeats, cache_id, unless_placeholder}, Requests.{GetFields, get_passphrase, get_of}, declared.request.CacheCommand.CacheCommand}, assuan_text.specs.Blanks.is_blank}
use Rattle.{assuan_text.specs.{Options.{is_option, options_of, arguments_of, without_mark, has_option, last_option}, Words.words}, passphrase_words.specs.Ids.{is_id, is_id_byte, has_id_form}, session_client.specs.Fields.{◌>>=◌, in_form}}
use Rattle.session_client.specs.declared.code.Code.{Code}
use Rattle.passphrase_laws.proofs.Words.{IsWord, next_word, last_word}

-- an id is a word, and neither an option, nor the mark behind options, nor the one that stands for none
pub record IdWord (id : List ℕ) : Type 0 where
  pub word : IsWord id
  pub short : nat_le (length id) 50 ≡ true
  pub some : nat_le 1 (length id) ≡ true
  pub not_x : bytes_eq id (codes "X") ≡ false
  pub no_option : is_option id ≡ false
  pub no_mark : bytes_eq id (codes "--") ≡ false

no_blank : (byte : ℕ) → is_id_byte byte ≡ true → is_blank byte ≡ false
no_blank byte is = or_from (byte == 32) (byte == 9) (never 32 refl) (never 9 refl) where
  never : (other : ℕ) → is_id_byte other ≡ false → (byte == other) ≡ false
  never other not = false_from_ne_true (byte == other) (λ same. false≢true (sym not ∙ ap is_id_byte (sym (eqb-true byte other same)) ∙ is))

no_blanks : (bytes : List ℕ) → list_all is_id_byte bytes ≡ true → list_any is_blank bytes ≡ false
no_blanks [] all = refl
no_blanks (byte ∷ bytes) all = let parts = and_parts (is_id_byte byte) (list_all is_id_byte bytes) all in or_from (is_blank byte) (list_any is_blank bytes) (no_blank byte parts.0) (no_blanks bytes parts.1)

dashed : (id : List ℕ) → not (slice_index id 0 == 45) ≡ true → take 2 id ≡ codes "--" → ⊥
dashed [] first is = absurd (cc is)
dashed (byte ∷ rest) first is = let byte_is : byte ≡ 45 = cc is in false≢true (ap (λ (b : ℕ). not (b == 45)) (sym byte_is) ∙ first)

pub id_word : (id : List ℕ) → is_id id ≡ true → IdWord id
id_word id is =
    let parts = and_parts (has_id_form id) (nat_le (length id) 50) is in
    let form = and_parts (nat_le 1 (length id) && not (bytes_eq id (codes "X")) && not (slice_index id 0 == 45)) (list_all is_id_byte id) parts.0 in
    let first = and_parts (nat_le 1 (length id) && not (bytes_eq id (codes "X"))) (not (slice_index id 0 == 45)) form.0 in
    let named = and_parts (nat_le 1 (length id)) (not (bytes_eq id (codes "X"))) first.0 in record {
      word = record { some = leb-true 1 (length id) named.0; whole = no_blanks id form.1 };
      short = parts.1;
      some = named.0;
      not_x = not_true (bytes_eq id (codes "X")) named.1;
      no_option = and_false (bytes_eq (take 2 id) (codes "--")) (not (bytes_eq id (codes "--")))
          (false_from_ne_true (bytes_eq (take 2 id) (codes "--")) (λ same. dashed id first.1 ((bytes_eq-Decides (take 2 id) (codes "--")).0 same)));
      no_mark = false_from_ne_true (bytes_eq id (codes "--"))
          (λ same. dashed id first.1 (ap (λ (w : List ℕ). take 2 w) ((bytes_eq-Decides id (codes "--")).0 same)));
    }
  where
    not_true : (b : Bool) → not b ≡ true → b ≡ false
    not_true true is = absurd (cc is)
    not_true false is = refl

    and_false : (a b : Bool) → a ≡ false → (a && b) ≡ false
    and_false a b is = ap (λ c. c && b) is

pub cached : (id : List ℕ) → IdWord id → cache_id id ≡ Some id
cached id is = ap (λ (b : Bool). cond (b && nat_le (length id) 50) (Some id) None) is.some ∙ ap (λ (b : Bool). cond b (Some id) None) is.short

-- ---- the words of a request

module _ (id prompt description : List ℕ) where
  abbrev pub behind : List ℕ
  behind = id ++ 32 ∷ (codes "X" ++ 32 ∷ (prompt ++ 32 ∷ description))

  -- the fields, by the options
  abbrev pub fields : Bool → ℕ → Option (List ℕ) → GetFields
  fields no_ask repeat which = record {
    plain = true;
    check = false;
    no_ask = no_ask;
    repeat = repeat;
    quality = false;
    id = which;
    texts = Some (texts_by (codes "X") prompt description);
  }

  module _ (is : IdWord id) (prompt_is : IsWord prompt) (description_is : IsWord description) where
    abbrev arguments : List (List ℕ)
    arguments = id ∷ codes "X" ∷ prompt ∷ description ∷ []

    behind_words : words behind ≡ arguments
    behind_words =
        next_word id (codes "X" ++ 32 ∷ (prompt ++ 32 ∷ description)) is.word
        ∙ ap (λ (w : List (List ℕ)). id ∷ w) (next_word (codes "X") (prompt ++ 32 ∷ description) (record { some = omega arith; whole = refl }))
        ∙ ap (λ (w : List (List ℕ)). id ∷ codes "X" ∷ w) (next_word prompt description prompt_is ∙ ap (λ (w : List (List ℕ)). prompt ∷ w) (last_word description description_is))

    named : unless_placeholder id ≡ Some id
    named = ap (λ (b : Bool). cond b None (Some id)) is.not_x

    -- what is read of arguments behind these options
    abbrev with_id : List (List ℕ) → Option (List ℕ) → Result CacheCommand Code
    with_id options which = do
      repeat ← in_form (repeats (last_option (codes "--repeat") options))
      word ← in_form which
      texts ← in_form (texts (codes "X" ∷ prompt ∷ description ∷ []))
      Ok (get_passphrase (record {
        plain = has_option (codes "--data") options;
        check = has_option (codes "--check") options;
        no_ask = has_option (codes "--no-ask") options;
        repeat = repeat;
        quality = has_option (codes "--qualitybar") options;
        id = unless_placeholder word;
        texts = texts;
      }))

    no_more : (more : List (List ℕ)) → cond (is_option id) (1 + prefix_len is_option more) 0 ≡ 0
    no_more more = ap (λ (b : Bool). cond b (1 + prefix_len is_option more) 0) is.no_option

    marked : without_mark arguments ≡ arguments
    marked = ap (λ (b : Bool). cond b (codes "X" ∷ prompt ∷ description ∷ []) arguments) is.no_mark

    abbrev rest : List (List ℕ)
    rest = codes "X" ∷ prompt ∷ description ∷ []

    -- one option, and two
    one_option : (no_ask : Bool) (repeat : ℕ) (option : List ℕ) → is_option option ≡ true → with_id (option ∷ []) (Some id) ≡ Ok (get_passphrase (fields no_ask repeat (unless_placeholder id)))
        → (ws : List (List ℕ)) → ws ≡ option ∷ arguments → get_of (options_of ws) (arguments_of ws) ≡ Ok (get_passphrase (fields no_ask repeat (Some id)))
    one_option no_ask repeat option option_is computes ws ws_are =
        let count : prefix_len is_option (option ∷ arguments) ≡ 1 = ap (λ (b : Bool). cond b (1 + cond (is_option id) (1 + prefix_len is_option rest) 0) 0) option_is ∙ ap (λ (n : ℕ). 1 + n) (no_more rest) in
        ap (λ (w : List (List ℕ)). get_of (options_of w) (arguments_of w)) ws_are
        ∙ ap (λ (n : ℕ). get_of (take n (option ∷ arguments)) (without_mark (drop n (option ∷ arguments)))) count
        ∙ ap (λ (a : List (List ℕ)). get_of (option ∷ []) a) marked
        ∙ ap (λ (c : Option (List ℕ)). with_id (option ∷ []) c) (cached id is) ∙ computes ∙ ap (λ (w : Option (List ℕ)). Ok (get_passphrase (fields no_ask repeat w))) named

    two_options : (no_ask : Bool) (repeat : ℕ) (option other : List ℕ) → is_option option ≡ true → is_option other ≡ true
        → with_id (option ∷ other ∷ []) (Some id) ≡ Ok (get_passphrase (fields no_ask repeat (unless_placeholder id)))
        → (ws : List (List ℕ)) → ws ≡ option ∷ other ∷ arguments → get_of (options_of ws) (arguments_of ws) ≡ Ok (get_passphrase (fields no_ask repeat (Some id)))
    two_options no_ask repeat option other option_is other_is computes ws ws_are =
        let count : prefix_len is_option (option ∷ other ∷ arguments) ≡ 2 =
        ap (λ (b : Bool). cond b (1 + prefix_len is_option (other ∷ arguments)) 0) option_is
        ∙ ap (λ (b : Bool). 1 + cond b (1 + cond (is_option id) (1 + prefix_len is_option rest) 0) 0) other_is ∙ ap (λ (n : ℕ). 1 + (1 + n)) (no_more rest) in
        ap (λ (w : List (List ℕ)). get_of (options_of w) (arguments_of w)) ws_are
        ∙ ap (λ (n : ℕ). get_of (take n (option ∷ other ∷ arguments)) (without_mark (drop n (option ∷ other ∷ arguments)))) count
        ∙ ap (λ (a : List (List ℕ)). get_of (option ∷ other ∷ []) a) marked
        ∙ ap (λ (c : Option (List ℕ)). with_id (option ∷ other ∷ []) c) (cached id is) ∙ computes ∙ ap (λ (w : Option (List ℕ)). Ok (get_passphrase (fields no_ask repeat w))) named

    data_word : (more : List ℕ) → words (codes "--data " ++ more) ≡ codes "--data" ∷ words more
    data_word more = next_word (codes "--data") more (record { some = omega arith; whole = refl })

    pub quiet_read : get_of (options_of (words (codes "--data --no-ask " ++ behind))) (arguments_of (words (codes "--data --no-ask " ++ behind))) ≡ Ok (get_passphrase (fields true 0 (Some id)))
    quiet_read =
        two_options true 0 (codes "--data") (codes "--no-ask") refl refl refl (words (codes "--data --no-ask " ++ behind))
        (data_word (codes "--no-ask " ++ behind) ∙ ap (λ (w : List (List ℕ)). codes "--data" ∷ w) (next_word (codes "--no-ask") behind (record { some = omega arith; whole = refl })
        ∙ ap (λ (w : List (List ℕ)). codes "--no-ask" ∷ w) behind_words))

    pub repeat_read : get_of (options_of (words (codes "--data --repeat=1 " ++ behind))) (arguments_of (words (codes "--data --repeat=1 " ++ behind))) ≡ Ok (get_passphrase (fields false 1 (Some id)))
    repeat_read =
        two_options false 1 (codes "--data") (codes "--repeat=1") refl refl refl (words (codes "--data --repeat=1 " ++ behind))
        (data_word (codes "--repeat=1 " ++ behind) ∙ ap (λ (w : List (List ℕ)). codes "--data" ∷ w) (next_word (codes "--repeat=1") behind (record { some = omega arith; whole = refl })
        ∙ ap (λ (w : List (List ℕ)). codes "--repeat=1" ∷ w) behind_words))

    pub plain_read : get_of (options_of (words (codes "--data " ++ behind))) (arguments_of (words (codes "--data " ++ behind))) ≡ Ok (get_passphrase (fields false 0 (Some id)))
    plain_read = one_option false 0 (codes "--data") refl refl (words (codes "--data " ++ behind)) (data_word behind ∙ ap (λ (w : List (List ℕ)). codes "--data" ∷ w) behind_words)
