-- What a key's file, its protection and the bytes of a key that a client sent say is one answer.
use Rattle.std.{proofs.Common.{◌≡◌, ℕ, true, false, List, ◌++◌, length, Option, Some, None, Result, Ok, Err, arith, refl, sym, ap, subst, ◌∙◌, inl, inr}, specs.Prelude.{◌≤◌, ◌<◌, replicate}}
use Rattle.{session_client.specs.declared.code.Code.Code, key_lines.specs.Canon.Canon, secret_file.specs.{Answers.IsLockedFault, Opens.{LockedKey, IsLocked, first_of}, Protection.IsProtectionFault}}
use Rattle.{secret_file.proofs.OneAnswer.{one_file, no_file_fault, one_file_fault, one_protection_fault, no_protection_fault}, sexp_canonical.{specs.{View.tree_of, declared.tree.Sexp.Sexp}, proofs.Trees.{one_spelling, tree_of_injective}}}
use Rattle.{sexp_keys.specs.{Faults.ReadsKey, Key.Key, Lists.key_list_of, declared.fault.KeyFault.KeyFault}, key_commands.specs.{Faults.fault_code, Files.{CanonicalSays, FileSays, canonical, no_canonical}}}
use Rattle.key_commands.specs.{Wrapping.{ArePadded, PlainSays, WrappedSays, unchecked, checked, unwrapped}, declared.wrapping.TheConstants.MAX_LIST_LEN}
use Rattle.session_client.specs.declared.code.Code.TheVariants as code
use Rattle.sexp_keys.proofs.Keys as keys
use Rattle.key_commands.specs.Wrapping as wrapping

-- ---- files

canonical_one : (bytes : List ℕ) (a b : Result Key KeyFault) → CanonicalSays bytes a → CanonicalSays bytes b → a ≡ b
canonical_one bytes (Ok key) (Ok other) is also = ap (λ k. Ok k) (one_file bytes key other is also)
canonical_one bytes (Ok key) (Err fault) is also = absurd (no_file_fault bytes key fault is also)
canonical_one bytes (Err fault) (Ok key) is also = absurd (no_file_fault bytes key fault also is)
canonical_one bytes (Err fault) (Err other) is also = ap (λ f. Err f) (one_file_fault bytes fault other is also)

module _ (one_canon : (file : List ℕ) (a b : Option (List ℕ)) → Canon file a → Canon file b → a ≡ b) where
  pub one_says : (file : List ℕ) (a b : Result Key KeyFault) → FileSays file a → FileSays file b → a ≡ b
  one_says file a b (canonical {bytes} is says) (canonical {bytes = other} also says_too) =
      let bytes_same : Some other ≡ Some bytes = one_canon file (Some other) (Some bytes) also is in
      let same : other ≡ bytes = cc in
      canonical_one bytes a b says (subst (λ c. CanonicalSays c b) same says_too)
  one_says file a b (canonical {bytes} is says) (no_canonical also) = let e : Some bytes ≡ None = one_canon file (Some bytes) None is also in absurd (cc e)
  one_says file a b (no_canonical is) (canonical {bytes} also says) = let e : None ≡ Some bytes = one_canon file None (Some bytes) is also in absurd (cc e)
  one_says file a b (no_canonical is) (no_canonical also) = refl

-- ---- protections

protection_fault : (key : Key) (fault : KeyFault) → key.is_clear ≡ false → IsLockedFault key fault → IsProtectionFault (first_of key.private) fault
protection_fault key fault closed is = elim is [ inl clear ↦ absurd (let e = clear.0 in cc) | inr protected ↦ protected.1 ]

pub one_locked_fault : (key : Key) (fault other : KeyFault) → key.is_clear ≡ false → IsLockedFault key fault → IsLockedFault key other → fault ≡ other
one_locked_fault key fault other closed is also = one_protection_fault (first_of key.private) fault other (protection_fault key fault closed is) (protection_fault key other closed also)

pub no_locked_fault : (locked : LockedKey) (fault : KeyFault) → IsLocked locked → IsLockedFault locked.key fault → ⊥
no_locked_fault locked fault is has = no_protection_fault (first_of locked.key.private) locked.protection fault is.protection (protection_fault locked.key fault is.protected has)

-- ---- wrapped keys

one_padded : (bytes : List ℕ) (tree other : Sexp) → ArePadded bytes tree → ArePadded bytes other → tree ≡ other
one_padded bytes tree other is also =
    tree_of_injective tree other
    (one_spelling (tree_of tree) (tree_of other) (replicate is.zeros 0) (replicate also.zeros 0)
    (ap (λ s. s ++ replicate is.zeros 0) (sym is.read.spelled) ∙ sym is.parts ∙ also.parts ∙ ap (λ s. s ++ replicate also.zeros 0) also.read.spelled)).0

-- what is answered for a key that was read
data Takes : Result Key KeyFault → Result Key Code → Type 0 where
  fault : {why : KeyFault} → Takes (Err why) (Err (fault_code why))
  protected : {key : Key} → key.is_clear ≡ false → Takes (Ok key) (Err code.BadSecKey)
  long : {key : Key} → key.is_clear ≡ true → MAX_LIST_LEN < length (key_list_of key) → Takes (Ok key) (Err code.BadSecKey)
  short : {key : Key} → key.is_clear ≡ true → length (key_list_of key) ≤ MAX_LIST_LEN → Takes (Ok key) (Ok key)

one_taken : {read : Result Key KeyFault} {a b : Result Key Code} → Takes read a → Takes read b → a ≡ b
one_taken fault fault = refl
one_taken (protected is) (protected also) = refl
one_taken (protected is) (long also much) = refl
one_taken (protected is) (short also few) = absurd (cc (is, also))
one_taken (long is much) (protected also) = refl
one_taken (long is much) (long also much_too) = refl
one_taken (long is much) (short also few) = let no : ⊥ = omega arith in absurd no
one_taken (short is few) (protected also) = absurd (cc (is, also))
one_taken (short is few) (long also much) = let no : ⊥ = omega arith in absurd no
one_taken (short is few) (short also few_too) = refl

-- the bytes are an expression that is taken so
record IsTaken (bytes : List ℕ) (answer : Result Key Code) : Type 0 where
  tree : Sexp
  padded : ArePadded bytes tree
  read : Result Key KeyFault
  reads : ReadsKey (tree_of tree) read
  takes : Takes read answer

one_is_taken : (bytes : List ℕ) (a b : Result Key Code) → IsTaken bytes a → IsTaken bytes b → a ≡ b
one_is_taken bytes a b is also =
    let same : is.tree ≡ also.tree = one_padded bytes is.tree also.tree is.padded also.padded in
    let read_same : is.read ≡ also.read = keys.one_answer (tree_of also.tree) is.read also.read (subst (λ t. ReadsKey (tree_of t) is.read) same is.reads) also.reads in
    one_taken (subst (λ r. Takes r a) read_same is.takes) also.takes

data IsPlain (bytes : List ℕ) (answer : Result Key Code) : Type 0 where
  no_tree : ((tree : Sexp) → ArePadded bytes tree → ⊥) → answer ≡ Err code.InvSexp → IsPlain bytes answer
  taken : IsTaken bytes answer → IsPlain bytes answer

is_plain : {bytes : List ℕ} {answer : Result Key Code} → PlainSays bytes answer → IsPlain bytes answer
is_plain (wrapping.no_expression none) = no_tree none refl
is_plain (wrapping.no_key {tree} {fault = why} padded is) = taken (record { tree = tree; padded = padded; read = Err why; reads = is; takes = fault })
is_plain (wrapping.protected {tree} {key} padded is closed) = taken (record { tree = tree; padded = padded; read = Ok key; reads = is; takes = protected closed })
is_plain (wrapping.long {tree} {key} padded is clear much) = taken (record { tree = tree; padded = padded; read = Ok key; reads = is; takes = long clear much })
is_plain (wrapping.key {tree} {key} padded is clear few) = taken (record { tree = tree; padded = padded; read = Ok key; reads = is; takes = short clear few })

one_plain : (bytes : List ℕ) (a b : Result Key Code) → IsPlain bytes a → IsPlain bytes b → a ≡ b
one_plain bytes a b (no_tree none is) (no_tree none_too also) = is ∙ sym also
one_plain bytes a b (no_tree none is) (taken also) = absurd (none also.tree also.padded)
one_plain bytes a b (taken is) (no_tree none also) = absurd (none is.tree is.padded)
one_plain bytes a b (taken is) (taken also) = one_is_taken bytes a b is also

pub one_wrapped : (wrap wrapped : List ℕ) (a b : Result Key Code) → WrappedSays wrap wrapped a → WrappedSays wrap wrapped b → a ≡ b
one_wrapped wrap wrapped a b (unchecked other) (unchecked other_too) = refl
one_wrapped wrap wrapped a b (unchecked other) (checked are says) = absurd (other are)
one_wrapped wrap wrapped a b (checked are says) (unchecked other) = absurd (other are)
one_wrapped wrap wrapped a b (checked are says) (checked are_too says_too) = one_plain (unwrapped wrap wrapped) a b (is_plain says) (is_plain says_too)
