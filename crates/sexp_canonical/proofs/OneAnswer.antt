-- What reading a text answers is determined.
use Rattle.std.proofs.Common.{◌≡◌, ℕ, ◌≤◌, List, ◌++◌, length, take, drop, Result, Ok, Err, sym, ap, subst, ◌∙◌, ◌⊎◌, inl, inr, min, arith, length-append}
use Rattle.std.{proofs.{lemmas.List.{take-append-drop, take-append-le, length-take, length-take-le, take_min}, Math.Seq.take-append_seam}, specs.Prelude.{IfOk, IfErr}}
use Rattle.sexp_canonical.specs.{View.tree_of, Spelling.{most_bytes, spelling, spelling_of, IsReadable}, Reading.{opening_bytes, IsFirstSexpFault, ReadsCanonical}, declared.{tree.Sexp.Sexp, fault.SexpFault.SexpFault}}
use Rattle.sexp_canonical.{specs.{declared.fault.SexpFault.TheVariants.NoMemory, Steps.HasExpression}, proofs.{Trees.{one_spelling, tree_of_injective}, Faults.{no_fault, one_fault}}}

-- the front of the front
take_take : (n m : ℕ) (bytes : List ℕ) → n ≤ m → n ≤ length bytes → take n (take m bytes) ≡ take n bytes
take_take n m bytes h g =
    sym (take-append-le n (take m bytes) (drop m bytes) (omega (arith, length-take m bytes))) ∙ ap (take n) (take-append-drop m bytes)

no_fault_where_read : (bytes : List ℕ) (tree : Sexp) (n : ℕ) (fault : SexpFault) → n ≤ length bytes → IsReadable (take n bytes) tree → IsFirstSexpFault (take most_bytes bytes) fault → ⊥
no_fault_where_read bytes tree n fault within read first =
    let len : length (take n bytes) ≡ n = length-take-le n bytes within in
    let short : n ≤ most_bytes = omega (arith, read.short) in
    let front : take n (take most_bytes bytes) ≡ spelling_of tree = take_take n most_bytes bytes short within ∙ read.spelled in
    let parts : opening_bytes first.lists ++ first.bytes ≡ spelling_of tree ++ drop n (take most_bytes bytes) =
    sym first.parts ∙ sym (take-append-drop n (take most_bytes bytes)) ∙ ap (λ (s : List ℕ). s ++ drop n (take most_bytes bytes)) front in
    no_fault first.lists first.bytes (length (opening_bytes first.lists)) (length first.lists) 0 fault
    (omega (arith, ap length first.parts, length-take most_bytes bytes)) (omega arith) first.at
    (tree_of tree) (drop n (take most_bytes bytes)) parts (omega (arith, read.shallow))

pub one_answer : (bytes : List ℕ) (a b : Result (Sexp × ℕ) SexpFault) → ReadsCanonical bytes a → ReadsCanonical bytes b → a ≡ b
one_answer bytes (Ok x) (Ok y) h g =
    let parts : spelling_of x.0 ++ drop x.1 bytes ≡ spelling_of y.0 ++ drop y.1 bytes =
    ap (λ (s : List ℕ). s ++ drop x.1 bytes) (sym h.1.spelled) ∙ take-append-drop x.1 bytes ∙ sym (take-append-drop y.1 bytes) ∙ ap (λ (s : List ℕ). s ++ drop y.1 bytes) g.1.spelled in
    let cut = one_spelling (tree_of x.0) (tree_of y.0) (drop x.1 bytes) (drop y.1 bytes) parts in
    let tree : x.0 ≡ y.0 = tree_of_injective x.0 y.0 cut.0 in
    let len : x.1 ≡ y.1 =
    sym (length-take-le x.1 bytes h.0) ∙ ap length h.1.spelled ∙ ap (λ t. length (spelling t)) cut.0 ∙ sym (ap length g.1.spelled) ∙ length-take-le y.1 bytes g.0 in
    λ i. Ok (tree i, len i)
one_answer bytes (Ok x) (Err g) h first = absurd (no_fault_where_read bytes x.0 x.1 g h.0 h.1 first)
one_answer bytes (Err f) (Ok y) first g = absurd (no_fault_where_read bytes y.0 y.1 f g.0 g.1 first)
one_answer bytes (Err f) (Err g) a b =
    ap Err (one_fault a.lists b.lists a.bytes b.bytes 0 0 (length (opening_bytes a.lists)) (length (opening_bytes b.lists)) (length a.lists) (length b.lists) f g
    (sym a.parts ∙ b.parts) (omega (arith, ap length a.parts, length-take most_bytes bytes)) (omega (arith, a.shallow)) (omega (arith, b.shallow))
    (omega arith) (omega arith) (omega arith) (omega arith) a.at b.at)

-- ---- what reading answers

front_is : (bytes : List ℕ) (n : ℕ) → n ≡ min (length bytes) most_bytes → take n bytes ≡ take most_bytes bytes
front_is bytes n e = ap (λ (k : ℕ). take k bytes) (e ∙ swap_min (length bytes) most_bytes) ∙ take_min most_bytes bytes
  where
    swap_min : (m k : ℕ) → min m k ≡ min k m
    swap_min m k = omega arith

found_from_front : (bytes : List ℕ) (n : ℕ) (read : Sexp × ℕ) → n ≡ min (length bytes) most_bytes → HasExpression (take n bytes) read → (read.1 ≤ length bytes) × IsReadable (take read.1 bytes) read.0
found_from_front bytes n read e at =
    let w = at.within in
    let len : length (take n bytes) ≡ n = length-take-le n bytes (omega arith) in
    let front : take read.1 (take n bytes) ≡ take read.1 bytes = take_take read.1 n bytes (omega arith) (omega arith) in (
      omega arith,
      record {
        spelled = sym front ∙ at.spelled;
        shallow = at.shallow;
        short = omega (arith, length-take read.1 bytes);
      },
    )

pub found : (bytes : List ℕ) (n : ℕ) (r : Result (Sexp × ℕ) SexpFault) → n ≡ min (length bytes) most_bytes → IfOk r (HasExpression (take n bytes)) → IfOk r (λ read. (read.1 ≤ length bytes) × IsReadable (take read.1 bytes) read.0)
found bytes n (Ok read) e at = found_from_front bytes n read e at
found bytes n (Err fault) e at = tt

pub faulted : (bytes : List ℕ) (n : ℕ) (r : Result (Sexp × ℕ) SexpFault) → n ≡ min (length bytes) most_bytes → IfErr r (λ fault. (fault ≡ NoMemory) ⊎ IsFirstSexpFault (take n bytes) fault)
    → IfErr r (λ fault. (fault ≡ NoMemory) ⊎ IsFirstSexpFault (take most_bytes bytes) fault)
faulted bytes n (Ok read) e at = tt
faulted bytes n (Err fault) e (inl memory) = inl memory
faulted bytes n (Err fault) e (inr first) = inr (subst (λ (text : List ℕ). IsFirstSexpFault text fault) (front_is bytes n e) first)

-- an answer that is one of those of the bytes is the only one
pub only : (bytes : List ℕ) (r : Result (Sexp × ℕ) SexpFault) → IfOk r (λ read. (read.1 ≤ length bytes) × IsReadable (take read.1 bytes) read.0) → IfErr r (λ fault. (fault ≡ NoMemory) ⊎ IsFirstSexpFault (take most_bytes bytes) fault)
    → (answer : Result (Sexp × ℕ) SexpFault) → ReadsCanonical bytes answer → (r ≡ Err NoMemory) ⊎ (r ≡ answer)
only bytes (Ok read) is_read failed answer h = inr (one_answer bytes (Ok read) answer is_read h)
only bytes (Err fault) is_read (inl memory) answer h = inl (ap Err memory)
only bytes (Err fault) is_read (inr first) answer h = inr (one_answer bytes (Err fault) answer first h)

pub spelled_is_read : (bytes : List ℕ) (tree : Sexp) (more : List ℕ) → IsReadable (spelling_of tree) tree → bytes ≡ spelling_of tree ++ more → ReadsCanonical bytes (Ok (tree, length (spelling_of tree)))
spelled_is_read bytes tree more readable parts =
    let front : take (length (spelling_of tree)) bytes ≡ spelling_of tree = ap (take (length (spelling_of tree))) parts ∙ take-append_seam (spelling_of tree) more in
    (omega (arith, ap length parts, length-append (spelling_of tree) more), subst (λ (text : List ℕ). IsReadable text tree) (sym front) readable)
