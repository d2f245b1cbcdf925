-- What words mean, their task says.
use Rattle.std.proofs.{Common.{◌≡◌, ◌≢◌, ℕ, ◌&&◌, Bool, true, false, List, [], ◌∷◌, codes, Option, Some, None, inl, inr, refl, ap, sym, subst, ◌∙◌}, lemmas.Bool.{and_parts, leb-true, cases_Bool, cond-true, cond-false, false≢true}}
use Rattle.std.{proofs.lemmas.Slice.Eq.bytes_eq-Decides, specs.{Option.option_and_then, Prelude.{⊤, if◌then◌else◌, nat_le, not}, Str.bytes_eq}}
use Rattle.passphrase_words.specs.{Options.{form_of, if_seconds, seconds_of}, Requests.act_ttl, Questions.{asks_for_name, prompt_for}, Rules.{are_sound, askpass_asked, description_given, fits, forgets_all, seconds_given}, Spelling.{Setting, is_set, value_given}, Tasks.{TaskValue, WantsTask}, Texts.texts_of, Words.{Reads, ReadsAskpass}}
use Rattle.{assuan_text.specs.Numbers.number_of, passphrase_words.specs.declared.task.Act.{Act, TheVariants.{Cached, Forget, ForgetAll, Give, Store}}}
use Rattle.passphrase_laws.specs.Asking.{AreSeconds, HasTexts, Means, Says, command, askpass}
use Rattle.passphrase_words.specs.Words as reading

abbrev prompt_name : List ℕ
prompt_name = codes "--prompt"

-- an empty prompt has no form
empty_unfit : fits (prompt_name, Some []) ≡ false
unfolding form_of
empty_unfit = refl

module _ (setting : Setting) (others : List Setting) (fit : fits setting ≡ true) where
  not_empty_here : bytes_eq setting.0 prompt_name ≡ true → setting.1 ≢ Some []
  not_empty_here same is =
      let name : setting.0 ≡ prompt_name = (bytes_eq-Decides setting.0 prompt_name).0 same in
      let empty : setting ≡ (prompt_name, Some []) = ap (λ (n : List ℕ). (n, setting.1)) name ∙ ap (λ (v : Option (List ℕ)). (prompt_name, v)) is in
      false≢true (sym empty_unfit ∙ sym (ap fits empty) ∙ fit)

-- a prompt that is given isn't empty
not_empty : (given : List Setting) → are_sound given ≡ true → value_given prompt_name given ≢ Some []
not_empty [] sound is = cc is
not_empty (setting ∷ others) sound is =
    let parts = and_parts (fits setting && not (is_set setting.0 others)) (are_sound others) sound in
    let fit = (and_parts (fits setting) (not (is_set setting.0 others)) parts.0).0 in
    elim (cases_Bool (bytes_eq setting.0 prompt_name)) [
      | inl same ↦ not_empty_here setting others fit same (sym (ap (λ (f : Option (Option (List ℕ))). option_and_then (λ value. value) f) (cond-true _ _ _ same)) ∙ is)
      | inr other ↦ not_empty others parts.1 (sym (ap (λ (f : Option (Option (List ℕ))). option_and_then (λ value. value) f) (cond-false _ _ _ other)) ∙ is)
    ]

-- nor is one of an askpass
prompt_some : (asks : Bool) → (if asks then Some (codes "User name:") else None) ≢ Some []
prompt_some true is = cc is
prompt_some false is = cc is

pub says : (words : List (List ℕ)) (task : TaskValue) (prompt : Option (List ℕ)) (description : List ℕ) → Means words task prompt description → Says task prompt description
says words task prompt description (command {given} {operands = operands} spelled behind is) = record {
  id_is = is.fit.id_is;
  some = not_empty given is.sound;
  texts_are = ap (λ (t : TaskValue). t.texts) is.task_is ∙ ap (λ (i : List ℕ). texts_of i (value_given prompt_name given) (description_given given operands)) (sym (ap (λ (t : TaskValue). t.id) is.task_is));
}
says words task prompt description (askpass {text} words_are task_is fit) = record {
  id_is = fit.id_is;
  some = prompt_some (asks_for_name text);
  texts_are = ap (λ (t : TaskValue). t.texts) task_is ∙ ap (λ (i : List ℕ). texts_of i (prompt_for text) text) (sym (ap (λ (t : TaskValue). t.id) task_is));
}

-- ---- seconds

if_are : (n : ℕ) (within : Bool) → (nat_le 1 n && nat_le n 2147483647) ≡ within → AreSeconds (if within then Some n else None)
if_are n true is = let parts = and_parts (nat_le 1 n) (nat_le n 2147483647) is in (leb-true 1 n parts.0, leb-true n 2147483647 parts.1)
if_are n false is = tt

number_are : (number : Option ℕ) → AreSeconds (option_and_then if_seconds number)
number_are None = tt
number_are (Some n) = if_are n (nat_le 1 n && nat_le n 2147483647) refl

value_are : (value : Option (List ℕ)) → AreSeconds (option_and_then seconds_of value)
value_are None = tt
value_are (Some digits) = number_are (number_of digits)

act_are : (all forget store cached repeats quiet feeds : Bool) (ttl : Option ℕ) → AreSeconds ttl → AreSeconds (act_ttl (if all then ForgetAll else if forget then Forget else if store then Store else if cached then Cached else Give repeats quiet ttl feeds))
act_are true forget store cached repeats quiet feeds ttl are = tt
act_are false true store cached repeats quiet feeds ttl are = tt
act_are false false true cached repeats quiet feeds ttl are = tt
act_are false false false true repeats quiet feeds ttl are = tt
act_are false false false false repeats quiet feeds ttl are = are

-- an askpass names no seconds
abbrev Asked : Type 0
Asked = Option (List ℕ × Act)

abbrev asked_so : List ℕ → Act → Asked
asked_so text act = Some (text, act)

abbrev unasked : Asked
unasked = None

abbrev AskedSeconds : Asked → Type 0
AskedSeconds None = ⊤
AskedSeconds (Some asked) = AreSeconds (act_ttl asked.1)

asked_by : (forgets : Bool) (one : List ℕ) → AskedSeconds (if forgets then unasked else asked_so one (Give false false None true))
asked_by true one = tt
asked_by false one = tt

forgotten_by : (forgets : Bool) (one : List ℕ) → AskedSeconds (if forgets then asked_so one Forget else unasked)
forgotten_by true one = tt
forgotten_by false one = tt

asked_seconds : (words : List (List ℕ)) → AskedSeconds (askpass_asked words)
asked_seconds [] = tt
asked_seconds (one ∷ []) = asked_by (bytes_eq one (codes "--forget")) one
asked_seconds (word ∷ one ∷ []) = forgotten_by (bytes_eq word (codes "--forget")) one
asked_seconds (word ∷ one ∷ more ∷ words) = tt

asked_are : (words : List (List ℕ)) {text : List ℕ} {act : Act} → askpass_asked words ≡ asked_so text act → AreSeconds (act_ttl act)
asked_are words is = subst AskedSeconds is (asked_seconds words)

pub seconds : (words : List (List ℕ)) (task : TaskValue) (prompt : Option (List ℕ)) (description : List ℕ) → Means words task prompt description → AreSeconds (act_ttl task.act)
seconds words task prompt description (command {given} spelled behind is) =
    subst (λ (t : TaskValue). AreSeconds (act_ttl t.act)) (sym is.task_is)
    (act_are (forgets_all given) (is_set (codes "--forget") given) (is_set (codes "--store") given) (is_set (codes "--cached") given) (is_set (codes "--new") given) (is_set (codes "--no-ask") given)
    (not (is_set (codes "--null") given)) (seconds_given (codes "--ttl") given) (value_are (value_given (codes "--ttl") given)))
seconds words task prompt description (askpass words_are task_is fit) = subst (λ (t : TaskValue). AreSeconds (act_ttl t.act)) (sym task_is) (asked_are words words_are)

pub read_texts : (words : List (List ℕ)) (task : TaskValue) → Reads words (WantsTask task) → HasTexts words task
read_texts words task (reading.task {given} {operands = operands} spelled behind is) =
    record { prompt = value_given prompt_name given; description = description_given given operands; means = command spelled behind is }

pub askpass_texts : (words : List (List ℕ)) (task : TaskValue) → ReadsAskpass words task → HasTexts words task
askpass_texts words task reads = record { prompt = prompt_for reads.text; description = reads.text; means = askpass reads.words_are reads.task_is reads.fit }
