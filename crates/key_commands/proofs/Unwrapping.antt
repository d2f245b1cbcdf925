-- Keys that come in: the expression, and the zero bytes behind it.
use Rattle.std.proofs.Common.{◌≡◌, ◌≢◌, ◌==◌, ◌&&◌, ◌⊎◌, ◌≤◌, ℕ, zero, suc, Bool, true, false, List, [], ◌∷◌, ◌++◌, length, take, drop, replicate, Result, Ok, Err, IfOk, IfErr, inl, inr, refl, sym, ap, ◌∙◌, subst, arith, length-append}
use Rattle.std.{proofs.{lemmas.{Bool.{and_parts, and_from, eqb-true, ltb-true, lt-ltb}, List.take-append-drop}, Math.Seq.{take-append_seam, drop-append_seam}}, specs.List.list_all}
use Rattle.{sexp_canonical.specs.{Reading.ReadsCanonical, Spelling.IsReadable, declared.{tree.Sexp.Sexp, fault.SexpFault.{SexpFault, TheVariants.NoMemory}}}, session_client.specs.declared.code.Code.Code}
use Rattle.{session_client.specs.declared.code.Code.TheVariants.NoMemory as OutOfMemory, sexp_keys.specs.Key.Key}
use Rattle.key_commands.specs.{Wrapping.{ArePadded, AreWrapped, unwrapped, PlainSays, WrappedSays, checked}, Steps.are_padding}

zeros_more : (byte : ℕ) (more : List ℕ) (z : Bool) → (byte == 0) ≡ z → (z && list_all (λ b. b == 0) more) ≡ true
    → (list_all (λ b. b == 0) more ≡ true → more ≡ replicate (length more) 0) → byte ∷ more ≡ replicate (length (byte ∷ more)) 0
zeros_more byte more false z is rest = cc is
zeros_more byte more true z is rest = ap (λ (b : ℕ). b ∷ more) (eqb-true byte 0 z) ∙ ap (λ (bytes : List ℕ). 0 ∷ bytes) (rest is)

zeros_are : (bytes : List ℕ) → list_all (λ b. b == 0) bytes ≡ true → bytes ≡ replicate (length bytes) 0
zeros_are [] is = refl
zeros_are (byte ∷ more) is = zeros_more byte more (byte == 0) refl is (zeros_are more)

all_zero : (count : ℕ) → list_all (λ b. b == 0) (replicate count 0) ≡ true
all_zero zero = refl
all_zero (suc count) = all_zero count

pub zeros_len : (count : ℕ) → length {A = ℕ} (replicate count 0) ≡ count
zeros_len zero = refl
zeros_len (suc count) = ap suc (zeros_len count)

padding_true : (count : ℕ) → count ≤ 7 → are_padding (replicate count 0) ≡ true
padding_true count few = and_from _ _ (lt-ltb (length (replicate count 0)) 8 (rw (zeros_len count) (omega arith))) (all_zero count)

-- the expression is read at the front of the bytes
reads_at_front : (bytes expression : List ℕ) (zeros : ℕ) (tree : Sexp) → bytes ≡ expression ++ replicate zeros 0 → IsReadable expression tree → ReadsCanonical bytes (Ok (tree, length expression))
reads_at_front bytes expression zeros tree actions read = (
  omega (arith, ap length actions, length-append expression (replicate zeros 0)),
  subst (λ (text : List ℕ). IsReadable text tree) (sym (ap (take (length expression)) actions ∙ take-append_seam expression (replicate zeros 0))) read,
)

-- how the reader answers, by what it says of these bytes
module _ (bytes : List ℕ) (result : Result (Sexp × ℕ) SexpFault)
    (only : (answer : Result (Sexp × ℕ) SexpFault) → ReadsCanonical bytes answer → (result ≡ Err NoMemory) ⊎ (result ≡ answer)) where
  -- nothing was read
  pub none_read : (fault : SexpFault) → result ≡ Err fault → fault ≢ NoMemory → (tree : Sexp) → ArePadded bytes tree → ⊥
  none_read fault is not tree p =
      elim (only (Ok (tree, length p.expression)) (reads_at_front bytes p.expression p.zeros tree p.parts p.read)) [
        | inl memory ↦ not (cc (is, memory))
        | inr other ↦ cc (is, other)
      ]

  -- an expression was read, and no padding is behind it
  pub other_read : (read : Sexp) (len : ℕ) → result ≡ Ok (read, len) → are_padding (drop len bytes) ≡ false → (tree : Sexp) → ArePadded bytes tree → ⊥
  other_read read len is not tree p =
      elim (only (Ok (tree, length p.expression)) (reads_at_front bytes p.expression p.zeros tree p.parts p.read)) [
        | inl memory ↦ cc (is, memory)
        | inr same ↦
            let pair : (read, len) ≡ (tree, length p.expression) = cc (is, same) in
            let len_is : len ≡ length p.expression = ap (λ (q : Sexp × ℕ). q.1) pair in
            let behind : drop len bytes ≡ replicate p.zeros 0 = ap (λ (n : ℕ). drop n bytes) len_is ∙ ap (drop (length p.expression)) p.parts ∙ drop-append_seam p.expression (replicate p.zeros 0) in
            cc (ap are_padding behind, padding_true p.zeros p.few, not)
      ]

-- one was read, and padding is behind it
pub padded_read : (bytes : List ℕ) (read : Sexp) (len : ℕ) → IsReadable (take len bytes) read → are_padding (drop len bytes) ≡ true → ArePadded bytes read
padded_read bytes read len readable is =
    let both = and_parts _ _ is in
    record {
      expression = take len bytes;
      zeros = length (drop len bytes);
      few = let short = ltb-true (length (drop len bytes)) 8 both.0 in omega (arith, short);
      parts = sym (take-append-drop len bytes) ∙ ap (λ (behind : List ℕ). take len bytes ++ behind) (zeros_are (drop len bytes) both.1);
      read = readable;
    }

-- what the bytes say is what the wrapped ones do, where the check found them whole
pub says_checked : {wrap wrapped plain : List ℕ} (answer : Result Key Code) → AreWrapped wrap wrapped → plain ≡ unwrapped wrap wrapped → PlainSays plain answer → WrappedSays wrap wrapped answer
says_checked {wrap} {wrapped} answer are is says = checked are (subst (λ (bytes : List ℕ). PlainSays bytes answer) is says)

pub key_checked : {wrap wrapped plain : List ℕ} (result : Result Key Code) → AreWrapped wrap wrapped → plain ≡ unwrapped wrap wrapped → IfOk result (λ key. PlainSays plain (Ok key))
    → IfOk result (λ key. WrappedSays wrap wrapped (Ok key))
key_checked (Ok key) are is says = says_checked (Ok key) are is says
key_checked (Err code) are is says = tt

pub fault_checked : {wrap wrapped plain : List ℕ} (result : Result Key Code) → AreWrapped wrap wrapped → plain ≡ unwrapped wrap wrapped
    → IfErr result (λ code. (code ≡ OutOfMemory) ⊎ PlainSays plain (Err code)) → IfErr result (λ code. (code ≡ OutOfMemory) ⊎ WrappedSays wrap wrapped (Err code))
fault_checked (Ok key) are is says = tt
fault_checked (Err code) are is (inl memory) = inl memory
fault_checked (Err code) are is (inr says) = inr (says_checked (Err code) are is says)
