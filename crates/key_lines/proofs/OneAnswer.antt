-- A file has one answer, where a text has one expression or fault.
use Rattle.std.{proofs.{Common.{◌≡◌, ◌⊎◌, inl, inr, ◌+◌, ◌≤◌, ◌<◌, true, false, ℕ, List, length, drop, Some, None, Option, Result, Ok, Err, refl, ap, sym, ◌∙◌}, lemmas.Bool.{le-leb, lt-leb}}, specs.Prelude.{if◌then◌else◌, nat_le}}
use Rattle.std.specs.List.{list_all, prefix_len}
use Rattle.{assuan_text.specs.Blanks.is_blank, sexp_canonical.specs.{Spelling.{most_bytes, spelling_of}, declared.tree.Sexp.Sexp}, sexp_advanced.specs.{Reading.ReadsAdvanced, declared.fault.AdvFault.{AdvFault, TheVariants.BadByte}}}
use Rattle.key_lines.specs.{Faults.line_fault, KeyItem.{has_key, key_value, before_key, after_key}, KeyText.IsWholeExpression, KeyFile.{KeyFile, HasKeyItem, Answers}, Canon.Canon, declared.fault.LinesFault.LinesFault}
use Rattle.key_lines.specs.declared.fault.LinesFault.TheVariants.{BadLine, NoKey, TwoKeys, BadKey, TooLong, NoMemory}

-- each text is read in one way
abbrev pub ReadsInOneWay : Type 0
ReadsInOneWay = (bytes : List ℕ) (a b : Result (Sexp × ℕ) AdvFault) → ReadsAdvanced bytes a → ReadsAdvanced bytes b → a ≡ b

-- ---- the answer as a function of what reading the value gives

abbrev within_limit : Sexp → Result Sexp LinesFault
within_limit tree = if nat_le (length (spelling_of tree)) most_bytes then Ok tree else Err TooLong

abbrev text_answer : List ℕ → Result (Sexp × ℕ) AdvFault → Result Sexp LinesFault
text_answer value (Ok read) =
    if list_all is_blank (drop read.1 value) then within_limit read.0 else Err (BadKey (BadByte (read.1 + prefix_len is_blank (drop read.1 value))))
text_answer value (Err fault) = Err (BadKey fault)

abbrev whole : List ℕ → Result Sexp LinesFault → Result KeyFile LinesFault
whole file (Ok tree) = Ok (record { before = before_key file; tree = tree; after = after_key file })
whole file (Err fault) = Err fault

record OfText (file : List ℕ) (answer : Result KeyFile LinesFault) : Type 0 where
  item : HasKeyItem file
  read : Result (Sexp × ℕ) AdvFault
  reads : ReadsAdvanced (key_value file) read
  is : answer ≡ whole file (text_answer (key_value file) read)

record OfNone (file : List ℕ) (answer : Result KeyFile LinesFault) : Type 0 where
  formed : line_fault file ≡ None
  none : has_key file ≡ false
  is : answer ≡ Err NoKey

record OfLines (file : List ℕ) (answer : Result KeyFile LinesFault) : Type 0 where
  fault : LinesFault
  wrong : line_fault file ≡ Some fault
  is : answer ≡ Err fault

abbrev Staged : List ℕ → Result KeyFile LinesFault → Type 0
Staged file answer = OfLines file answer ⊎ (OfNone file answer ⊎ OfText file answer)

blank_then : (value : List ℕ) (tree : Sexp) (e : IsWholeExpression value tree) → text_answer value (Ok (tree, e.len)) ≡ within_limit tree
blank_then value tree e = ap (λ b. if b then within_limit tree else Err (BadKey (BadByte (e.len + prefix_len is_blank (drop e.len value))))) e.blank

short : (tree : Sexp) → length (spelling_of tree) ≤ most_bytes → within_limit tree ≡ Ok tree
short tree le =
    let passes : nat_le (length (spelling_of tree)) most_bytes ≡ true = le-leb (length (spelling_of tree)) most_bytes le in
    ap (λ b. if b then Ok tree else Err TooLong) passes

long : (tree : Sexp) → most_bytes < length (spelling_of tree) → within_limit tree ≡ Err TooLong
long tree gt =
    let fails : nat_le (length (spelling_of tree)) most_bytes ≡ false = lt-leb (length (spelling_of tree)) most_bytes gt in
    ap (λ b. if b then Ok tree else Err TooLong) fails

staged : (file : List ℕ) (answer : Result KeyFile LinesFault) → Answers file answer → Staged file answer
staged file (Ok key) h = inr (inr (record {
  item = h.item;
  read = Ok (key.tree, h.text.0.len);
  reads = h.text.0.reads;
  is = sym (ap (whole file) (blank_then (key_value file) key.tree h.text.0 ∙ short key.tree h.text.1)
      ∙ ap (λ (b : List ℕ). Ok (record { before = b; tree = key.tree; after = after_key file })) (sym h.before)
      ∙ ap (λ (b : List ℕ). Ok (record { before = key.before; tree = key.tree; after = b })) (sym h.after));
}))
staged file (Err (BadLine number)) h = inl (record { fault = BadLine number; wrong = h; is = refl })
staged file (Err (TwoKeys number)) h = inl (record { fault = TwoKeys number; wrong = h; is = refl })
staged file (Err NoKey) h = inr (inl (record { formed = h.0; none = h.1; is = refl }))
staged file (Err (BadKey fault)) (item, inl reads) = inr (inr (record { item = item; read = Err fault; reads = reads; is = refl }))
staged file (Err (BadKey fault)) (item, inr f) = inr (inr (record {
  item = item;
  read = Ok (f.tree, f.len);
  reads = f.reads;
  is = ap (λ x. Err (BadKey x)) f.is
      ∙ sym (ap (whole file) (ap (λ b. if b then within_limit f.tree else Err (BadKey (BadByte (f.len + prefix_len is_blank (drop f.len (key_value file)))))) f.other));
}))
staged file (Err TooLong) h = inr (inr (record {
  item = h.0;
  read = Ok (h.1.0, h.1.1.len);
  reads = h.1.1.reads;
  is = sym (ap (whole file) (blank_then (key_value file) h.1.0 h.1.1 ∙ long h.1.0 h.1.2));
}))
staged file (Err NoMemory) h = absurd h

one : ReadsInOneWay → (file : List ℕ) (a b : Result KeyFile LinesFault) → Staged file a → Staged file b → a ≡ b
one way file a b (inl x) (inl y) = let same : x.fault ≡ y.fault = cc (x.wrong, y.wrong) in x.is ∙ ap Err same ∙ sym y.is
one way file a b (inl x) (inr (inl y)) = absurd (cc (x.wrong, y.formed))
one way file a b (inl x) (inr (inr y)) = absurd (cc (x.wrong, y.item.formed))
one way file a b (inr (inl x)) (inl y) = absurd (cc (y.wrong, x.formed))
one way file a b (inr (inl x)) (inr (inl y)) = x.is ∙ sym y.is
one way file a b (inr (inl x)) (inr (inr y)) = absurd (cc (x.none, y.item.has))
one way file a b (inr (inr x)) (inl y) = absurd (cc (y.wrong, x.item.formed))
one way file a b (inr (inr x)) (inr (inl y)) = absurd (cc (y.none, x.item.has))
one way file a b (inr (inr x)) (inr (inr y)) =
    x.is ∙ ap (λ (r : Result (Sexp × ℕ) AdvFault). whole file (text_answer (key_value file) r)) (way (key_value file) x.read y.read x.reads y.reads) ∙ sym y.is

pub one_answer : ReadsInOneWay → (file : List ℕ) (a b : Result KeyFile LinesFault) → Answers file a → Answers file b → a ≡ b
one_answer way file a b h g = one way file a b (staged file a h) (staged file b g)

-- and it stands for one canonical file
pub one_canon : ReadsInOneWay → (file : List ℕ) (a b : Option (List ℕ)) → Canon file a → Canon file b → a ≡ b
one_canon way file (Some x) (Some y) (inl h) (inl g) = ap Some (h.1 ∙ sym g.1)
one_canon way file (Some x) (Some y) (inl h) (inr g) = absurd (cc (h.0, g.extended))
one_canon way file (Some x) (Some y) (inr h) (inl g) = absurd (cc (g.0, h.extended))
one_canon way file (Some x) (Some y) (inr h) (inr g) =
    let same : Ok h.key ≡ Ok g.key = one_answer way file (Ok h.key) (Ok g.key) h.has g.has in
    let key : h.key ≡ g.key = cc same in
    ap Some (h.spelled ∙ ap (λ (k : KeyFile). spelling_of k.tree) key ∙ sym g.spelled)
one_canon way file (Some x) None (inl h) g = absurd (cc (h.0, g.extended))
one_canon way file (Some x) None (inr h) g = let same = one_answer way file (Ok h.key) (Err g.fault) h.has g.is in absurd (cc same)
one_canon way file None (Some y) h (inl g) = absurd (cc (g.0, h.extended))
one_canon way file None (Some y) h (inr g) = let same = one_answer way file (Ok g.key) (Err h.fault) g.has h.is in absurd (cc same)
one_canon way file None None h g = refl
