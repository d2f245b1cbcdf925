-- What key files say, and how they are written over.
use Rattle.std.proofs.{Common.{◌≡◌, ◌≢◌, ◌⊎◌, ◌≤◌, ℕ, true, false, List, [], ◌++◌, length, Some, Result, Ok, Err, IfOk, IfErr, inl, inr, refl, ap, sym, subst, ◌∙◌}, lemmas.List.append-nil}
use Rattle.{key_lines.specs.{Canon.{is_canonical, Canon}, KeyFile.{KeyFile, IsKeyFile, IsFault}, declared.fault.LinesFault.LinesFault}, sexp_canonical.specs.Spelling.{IsReadable, most_bytes, most_depth, depth, spelling, spelling_of}}
use Rattle.{sexp_canonical.specs.{Tree.Tree, View.tree_of, declared.{fault.SexpFault.SexpFault, tree.Sexp.Sexp}}, sexp_keys.specs.{Faults.IsFirstKeyFault, Key.{Key, IsKey}, declared.fault.KeyFault.KeyFault}}
use Rattle.{sexp_keys.specs.declared.fault.KeyFault.TheVariants.{InvSexp, NoMemory}, secret_file.specs.{Answers.IsFileFault, Opens.{FitsFile, IsFile}}}
use Rattle.key_commands.specs.Files.{FileSays, canonical, no_canonical}
use Rattle.key_lines.specs.declared.fault.LinesFault.TheVariants as lines_fault
use Rattle.sexp_canonical.specs.declared.fault.SexpFault.TheVariants as sexp_fault

-- ---- canonical files

module _ (file : List ℕ) (is : is_canonical file ≡ true) where
  pub canonical_key : (result : Result Key KeyFault) → IfOk result (IsFile file) → IfOk result (λ key. FileSays file (Ok key))
  canonical_key (Ok key) is_file = canonical (inl (is, refl)) is_file
  canonical_key (Err fault) is_file = tt

  pub canonical_fault : (result : Result Key KeyFault) → IfErr result (λ fault. (fault ≡ NoMemory) ⊎ IsFileFault file fault)
      → IfErr result (λ fault. (fault ≡ NoMemory) ⊎ FileSays file (Err fault))
  canonical_fault (Ok key) says = tt
  canonical_fault (Err fault) (inl memory) = inl memory
  canonical_fault (Err fault) (inr is_fault) = inr (canonical (inl (is, refl)) is_fault)

-- ---- files in the extended format

module _ (file : List ℕ) (extended : is_canonical file ≡ false) where
  -- one with a fault stands for no canonical file
  pub no_key : (fault : LinesFault) → fault ≢ lines_fault.NoMemory → (fault ≡ lines_fault.NoMemory) ⊎ IsFault file fault → FileSays file (Err InvSexp)
  no_key fault other (inl memory) = absurd (other memory)
  no_key fault other (inr is) = no_canonical (record { extended = extended; fault = fault; is = is })

  module _ (lines : KeyFile) (has : IsKeyFile file lines) where
    stands : Canon file (Some (spelling_of lines.tree))
    stands = inr (record { extended = extended; key = lines; has = has; spelled = refl })

    -- the canonical file for which it stands is read as its expression
    readable : IsReadable (spelling_of lines.tree) lines.tree
    readable = record { spelled = refl; shallow = has.text.0.reads.shallow; short = has.text.1 }

    -- so it is the key that the expression is, within the limits, or has the expression's fault
    pub extended_key : (result : Result Key KeyFault) → IfOk result (IsKey (tree_of lines.tree)) → IfOk result (λ key. FileSays file (Ok key))
    extended_key (Ok key) is = canonical stands (record { tree = lines.tree; read = readable; is = is })
    extended_key (Err fault) is = tt

    pub extended_fits : (result : Result Key KeyFault) → IfOk result (IsKey (tree_of lines.tree)) → IfOk result FitsFile
    extended_fits (Ok key) is = record {
      short = subst (λ (t : Tree). length (spelling t) ≤ most_bytes) is.parts has.text.1;
      shallow = subst (λ (t : Tree). depth t ≤ most_depth) is.parts has.text.0.reads.shallow;
    }
    extended_fits (Err fault) is = tt

    pub extended_fault : (result : Result Key KeyFault) → IfErr result (λ fault. (fault ≡ NoMemory) ⊎ IsFirstKeyFault (tree_of lines.tree) fault)
        → IfErr result (λ fault. (fault ≡ NoMemory) ⊎ FileSays file (Err fault))
    extended_fault (Ok key) says = tt
    extended_fault (Err fault) (inl memory) = inl memory
    extended_fault (Err fault) (inr is) = inr (canonical stands (inr (lines.tree, readable, is)))

-- an extended file that is some key has lines around it
pub has_lines : (file : List ℕ) (key : Key) → is_canonical file ≡ false → FileSays file (Ok key) → (lines : KeyFile) × IsKeyFile file lines
has_lines file key extended (canonical (inl same) says) = cc (extended, same.0)
has_lines file key extended (canonical (inr spelled) says) = (spelled.key, spelled.has)

-- how a reader answers that reads what is spelled, on the list of a key
module _ (list : List ℕ) (key : Key) (is : IsFile list key) (result : Result (Sexp × ℕ) SexpFault)
    (again : (tree : Sexp) (more : List ℕ) → IsReadable (spelling_of tree) tree → list ≡ spelling_of tree ++ more
    → (result ≡ Err sexp_fault.NoMemory) ⊎ (result ≡ Ok (tree, length (spelling_of tree)))) where
  list_answer : (result ≡ Err sexp_fault.NoMemory) ⊎ (result ≡ Ok (is.tree, length (spelling_of is.tree)))
  list_answer = again is.tree [] (subst (λ (text : List ℕ). IsReadable text is.tree) is.read.spelled is.read)
      (is.read.spelled ∙ sym (append-nil (spelling_of is.tree)))

  pub list_fault : (fault : SexpFault) → result ≡ Err fault → fault ≡ sexp_fault.NoMemory
  list_fault fault so = elim list_answer [
    | inl memory ↦ cc (so, memory)
    | inr same ↦ cc (so, same)
  ]

  pub list_read : (tree : Sexp) (len : ℕ) → result ≡ Ok (tree, len) → IsReadable list tree
  list_read tree len so = elim list_answer [
    | inl memory ↦ cc (so, memory)
    | inr same ↦
        let pair : (is.tree, length (spelling_of is.tree)) ≡ (tree, len) = cc (so, same) in
        subst (λ (t : Sexp). IsReadable list t) (ap (λ (p : Sexp × ℕ). p.0) pair) is.read
  ]
