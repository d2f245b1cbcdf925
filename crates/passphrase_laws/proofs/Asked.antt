-- The requests of a task are read by the agent as what they ask for.
use Rattle.std.proofs.Common.{◌≡◌, ◌≢◌, ℕ, Bool, true, false, cond, List, [], ◌∷◌, ◌++◌, codes, Option, Some, None, Ok, refl, ap, sym, ◌∙◌, arith, append_assoc}
use Rattle.{agent_ask.specs.Plans.text, agent_commands.specs.{Fields.text_or, Requests.{GetFields, get_passphrase, get_of, request_of, either}, declared.request.Request.TheVariants.Cache}, command_table.specs.Commands.command_named}
use Rattle.{arrayvec.specs.ArrayVec.ArrayVec, assuan_escape.specs.Escapes.unescaped, assuan_text.specs.{Options.{options_of, arguments_of}, Words.words}, passphrase_words.specs.{Requests.{Looks, Asks, line_of_request}, Tasks.TaskValue}}
use Rattle.passphrase_words.specs.{Texts.{word_of, prompt_word, description_or}, declared.task.Act.{Act, TheVariants.{Give, Cached, Forget, ForgetAll, Store}}}
use Rattle.passphrase_laws.{specs.Asking.{as_read, prompt_read, Says, is_quiet, repeats_of, fields_of}, proofs.{Fields.{behind, fields, id_word, quiet_read, repeat_read, plain_read}, Words.{IsWord, text_word}}}
use Rattle.passphrase_words.specs.Requests as asking

-- a text as the agent reads its word
text_read : (usual bytes : List ℕ) → text_or usual (word_of bytes) ≡ as_read bytes
text_read usual bytes =
    let word = text_word bytes in
    ap (λ (b : Bool). cond b (text usual) (text (unescaped true (word_of bytes)))) word.not_x ∙ ap text word.read

prompt_is : (prompt : Option (List ℕ)) → text_or (codes "Passphrase:") (prompt_word prompt) ≡ prompt_read prompt
prompt_is None = refl
prompt_is (Some bytes) = text_read (codes "Passphrase:") bytes

prompt_is_word : (prompt : Option (List ℕ)) → prompt ≢ Some [] → IsWord (prompt_word prompt)
prompt_is_word None some = record { some = omega arith; whole = refl }
prompt_is_word (Some bytes) some = (text_word bytes).word_is (λ is. some (ap (λ (b : List ℕ). Some b) is))

described : (id description : List ℕ) → description_or id description ≢ []
described id [] is = cc is
described id (byte ∷ more) is = cc is

-- a line with this command is read by its words
begins : (rest : List ℕ) → request_of (codes "GET_PASSPHRASE " ++ 45 ∷ rest) ≡ either (get_of (options_of (words (45 ∷ rest))) (arguments_of (words (45 ∷ rest))))
unfolding request_of command_named
begins rest = refl

module _ (task : TaskValue) (prompt : Option (List ℕ)) (description : List ℕ) (says : Says task prompt description) where
  abbrev after_id : List ℕ
  after_id = behind task.id (prompt_word prompt) (word_of (description_or task.id description))

  made : (no_ask : Bool) (repeat : ℕ) → fields task.id (prompt_word prompt) (word_of (description_or task.id description)) no_ask repeat (Some task.id)
      ≡ fields_of task prompt description no_ask repeat
  made no_ask repeat =
      ap (λ (p : ArrayVec ℕ). record {
        plain = true;
        check = false;
        no_ask = no_ask;
        repeat = repeat;
        quality = false;
        id = Some task.id;
        texts = Some (record { error = text []; prompt = p; description = text_or (codes "Please enter the passphrase") (word_of (description_or task.id description)) });
      }) (prompt_is prompt)
      ∙ ap (λ (d : ArrayVec ℕ). record {
        plain = true;
        check = false;
        no_ask = no_ask;
        repeat = repeat;
        quality = false;
        id = Some task.id;
        texts = Some (record { error = text []; prompt = prompt_read prompt; description = d });
      }) (text_read (codes "Please enter the passphrase") (description_or task.id description))

  abbrev IsReadBy : List ℕ → Bool → ℕ → Type 0
  IsReadBy options no_ask repeat = request_of (asking.get_line task options) ≡ Cache (get_passphrase (fields_of task prompt description no_ask repeat))

  by_words : (options rest : List ℕ) (no_ask : Bool) (repeat : ℕ) → options ≡ 45 ∷ rest
      → get_of (options_of (words (options ++ after_id))) (arguments_of (words (options ++ after_id)))
      ≡ Ok (get_passphrase (fields task.id (prompt_word prompt) (word_of (description_or task.id description)) no_ask repeat (Some task.id)))
      → request_of (codes "GET_PASSPHRASE " ++ (options ++ after_id)) ≡ Cache (get_passphrase (fields_of task prompt description no_ask repeat))
  by_words options rest no_ask repeat options_are reads =
      let start : options ++ after_id ≡ 45 ∷ (rest ++ after_id) = ap (λ (o : List ℕ). o ++ after_id) options_are in
      ap (λ (l : List ℕ). request_of (codes "GET_PASSPHRASE " ++ l)) start ∙ begins (rest ++ after_id)
      ∙ ap (λ (l : List ℕ). either (get_of (options_of (words l)) (arguments_of (words l)))) (sym start) ∙ ap either reads
      ∙ ap (λ (f : GetFields). Cache (get_passphrase f)) (made no_ask repeat)

  line_is : (options : List ℕ) → asking.get_line task options ≡ codes "GET_PASSPHRASE " ++ (options ++ after_id)
  line_is options =
      ap (λ (l : List ℕ). codes "GET_PASSPHRASE " ++ l) (append_assoc (options ++ task.id) (codes " X ") task.texts ∙ append_assoc options task.id (codes " X " ++ task.texts))
      ∙ ap (λ (t : List ℕ). codes "GET_PASSPHRASE " ++ (options ++ (task.id ++ (codes " X " ++ t)))) says.texts_are

  quiet_line : IsReadBy (codes "--data --no-ask ") true 0
  quiet_line =
      ap request_of (line_is (codes "--data --no-ask "))
      ∙ by_words (codes "--data --no-ask ") _ true 0 refl
      (quiet_read task.id (prompt_word prompt) (word_of (description_or task.id description)) (id_word task.id says.id_is) (prompt_is_word prompt says.some)
      ((text_word (description_or task.id description)).word_is (described task.id description)))

  repeat_line : IsReadBy (codes "--data --repeat=1 ") false 1
  repeat_line =
      ap request_of (line_is (codes "--data --repeat=1 "))
      ∙ by_words (codes "--data --repeat=1 ") _ false 1 refl
      (repeat_read task.id (prompt_word prompt) (word_of (description_or task.id description)) (id_word task.id says.id_is) (prompt_is_word prompt says.some)
      ((text_word (description_or task.id description)).word_is (described task.id description)))

  plain_line : IsReadBy (codes "--data ") false 0
  plain_line =
      ap request_of (line_is (codes "--data "))
      ∙ by_words (codes "--data ") _ false 0 refl
      (plain_read task.id (prompt_word prompt) (word_of (description_or task.id description)) (id_word task.id says.id_is) (prompt_is_word prompt says.some)
      ((text_word (description_or task.id description)).word_is (described task.id description)))

  by_act : (act : Act) → IsReadBy (asking.asking_options act) (is_quiet act) (repeats_of act)
  by_act (Give repeats true ttl feeds) = quiet_line
  by_act (Give true false ttl feeds) = repeat_line
  by_act (Give false false ttl feeds) = plain_line
  by_act Cached = quiet_line
  by_act Forget = quiet_line
  by_act ForgetAll = quiet_line
  by_act Store = quiet_line

  pub looks_read : request_of (line_of_request task Looks) ≡ Cache (get_passphrase (fields_of task prompt description true 0))
  looks_read = quiet_line

  pub asks_read : request_of (line_of_request task Asks) ≡ Cache (get_passphrase (fields_of task prompt description (is_quiet task.act) (repeats_of task.act)))
  asks_read = by_act task.act
