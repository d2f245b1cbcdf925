-- What is decrypted is read in one way.
use Rattle.std.proofs.Common.{◌≡◌, ◌⊎◌, inl, inr, ℕ, ◌-◌, ◌<◌, ◌≤◌, List, [], ◌∷◌, ◌++◌, length, take, drop, Option, Some, None, IfSome, IfNone, Bool, true, false, ◌&&◌, Result, Ok, Err, refl, sym, ap, subst, ◌∙◌, arith, length-append}
use Rattle.std.{proofs.{Common.length-drop, lemmas.List.take-append-drop}, specs.{List.list_all, Cmp.Lexicographic.pointwise}}
use Rattle.sexp_canonical.specs.{Tree.{Tree, leaf, list_of, Row, branch, end, item, items, items_of, row}, View.tree_of, Spelling.{IsReadable, most_bytes, most_depth, depth, spelling, spelling_of, depths}, declared.tree.Sexp.Sexp}
use Rattle.{sexp_canonical.{specs.declared.{tree.Sexp.TheVariants.List as Listed, fault.SexpFault.{SexpFault, TheVariants.NoMemory}}, proofs.Trees.{one_spelling, row_injective}}, sha1.specs.Sha1.sha1, sexp_keys.specs.Names.secret_names}
use Rattle.sexp_keys.{specs.{Parameters.{is_atom, is_parameter_len, has_name, is_parameter, is_named, are_secret}, Key.{Key, clear_with}, Lists.hashed_list_of, declared.algorithm.Algorithm.Algorithm}, proofs.Parts.and_second}
use Rattle.secret_file.specs.{Opens.{secret_tree, hash_tree, time_of, AreSpelled}, Steps.AreSecrets}

pub again_read : (r : Result (Sexp × ℕ) SexpFault) (x y : Sexp × ℕ) → r ≡ Ok y → (r ≡ Err NoMemory) ⊎ (r ≡ Ok x) → Some y ≡ Some x
again_read r x y e (inl f) = absurd cc
again_read r x y e (inr f) = let same : y ≡ x = cc in ap Some same

pub again_fault : (r : Result (Sexp × ℕ) SexpFault) (x : Sexp × ℕ) (fault : SexpFault) → r ≡ Err fault → (fault ≡ NoMemory → ⊥) → (r ≡ Err NoMemory) ⊎ (r ≡ Ok x) → ⊥
again_fault r x fault e other (inl f) = let same : fault ≡ NoMemory = cc in other same
again_fault r x fault e other (inr f) = cc

-- an expression that stands at the front is read
abbrev pub ReadsFront : List ℕ → Option (Sexp × ℕ) → Type 0
ReadsFront bytes read = (tree : Sexp) (more : List ℕ) → IsReadable (spelling_of tree) tree → bytes ≡ spelling_of tree ++ more → read ≡ Some (tree, length (spelling_of tree))

pub secret_read : (bytes : List ℕ) (read : Option (Sexp × ℕ)) → ReadsFront bytes read → length bytes ≤ most_bytes → (secret : List Tree) (hash : Tree) → depth (secret_tree secret hash) ≤ most_depth
    → AreSpelled bytes (secret_tree secret hash) → read ≡ Some (Listed (list_of secret ∷ hash ∷ []), length (spelling (secret_tree secret hash)))
secret_read bytes read again short secret hash shallow h =
    again (Listed (list_of secret ∷ hash ∷ [])) h.more
    (record { spelled = refl; shallow = shallow; short = omega (arith, ap length h.parts, length-append (spelling (secret_tree secret hash)) h.more) }) h.parts

pub not_padded : (bytes : List ℕ) (read : Option (Sexp × ℕ)) (t : Sexp) (n : ℕ) → read ≡ Some (t, n) → 16 < length bytes - n → (u : Sexp) (secret : List Tree) (hash : Tree)
    → read ≡ Some (u, length (spelling (secret_tree secret hash))) → AreSpelled bytes (secret_tree secret hash) → ⊥
not_padded bytes read t n e lt u secret hash f h =
    let pair : (t, n) ≡ (u, length (spelling (secret_tree secret hash))) = cc in
    let same : n ≡ length (spelling (secret_tree secret hash)) = ap (λ (x : Sexp × ℕ). x.1) pair in
    let few = h.few in
    omega (arith, ap length h.parts, length-append (spelling (secret_tree secret hash)) h.more)

pub not_two : (read : Option (Sexp × ℕ)) (t : Sexp) (n k : ℕ) → read ≡ Some (t, n) → (secret : List Tree) (hash : Tree) → read ≡ Some (Listed (list_of secret ∷ hash ∷ []), k) → tree_of t ≡ secret_tree secret hash
not_two read t n k e secret hash f = let pair : (t, n) ≡ (Listed (list_of secret ∷ hash ∷ []), k) = cc in ap (λ (x : Sexp × ℕ). tree_of x.0) pair

pub padded_is : (bytes : List ℕ) (t : Sexp) (n : ℕ) (u : Tree) → (n ≤ length bytes) × IsReadable (take n bytes) t → length bytes - n ≤ 16 → tree_of t ≡ u → AreSpelled bytes u
padded_is bytes t n u h few e = record {
  more = drop n bytes;
  parts = sym (take-append-drop n bytes) ∙ ap (λ (s : List ℕ). s ++ drop n bytes) (h.1.spelled ∙ ap spelling e);
  few = omega (arith, length-drop n bytes);
}

pub some_more : {A : Type 0} (o : Option A) (P Q : A → Type 0) → ((x : A) → P x → Q x) → IfSome o P → IfSome o Q
some_more (Some x) P Q f h = f x h
some_more None P Q f h = tt

pub none_more : {A : Type 0} (o : Option A) (P Q : Type 0) → (P → Q) → IfNone o P → IfNone o Q
none_more (Some x) P Q f h = tt
none_more None P Q f h = f h

pub items_are : (tree : Sexp) (ts us : List Tree) → tree ≡ Listed ts → tree_of tree ≡ list_of us → ts ≡ us
items_are tree ts us e f = let same : list_of ts ≡ list_of us = ap tree_of (sym e) ∙ f in let rows : row ts ≡ row us = cc in row_injective ts us rows

-- ---- how deep secret parameters are

and_first : (a b : Bool) → (a && b) ≡ true → a ≡ true
and_first true b e = refl
and_first false b e = absurd cc

flat_items : (r : Row) → list_all is_atom (items_of r) ≡ true → depths r ≤ 0
flat_items end e = omega arith
flat_items (item (leaf b) r) e = omega (arith, flat_items r (and_second true (list_all is_atom (items_of r)) e))
flat_items (item (branch s) r) e = absurd cc

flat : (t : Tree) → list_all is_atom (items t) ≡ true → depth t ≤ 1
flat (leaf b) e = omega arith
flat (branch r) e = omega (arith, flat_items r e)

flat_named : (a : Algorithm) (name : List ℕ) (t : Tree) → is_named a name t ≡ true → depth t ≤ 1
flat_named a name t e =
    flat t (and_second (is_parameter_len a (length (items t))) (list_all is_atom (items t)) (and_first (is_parameter a t) (has_name name t) e))

named_are_flat : (a : Algorithm) (names : List (List ℕ)) (ts : List Tree) → pointwise (is_named a) names ts ≡ true → depths (row ts) ≤ 1
named_are_flat a [] [] e = omega arith
named_are_flat a [] (t ∷ ts) e = absurd cc
named_are_flat a (n ∷ ns) [] e = absurd cc
named_are_flat a (n ∷ ns) (t ∷ ts) e =
    omega (arith, flat_named a n t (and_first (is_named a n t) (pointwise (is_named a) ns ts) e), named_are_flat a ns ts (and_second (is_named a n t) (pointwise (is_named a) ns ts) e))

pub flat_secret : (a : Algorithm) (secret : List Tree) → are_secret a secret ≡ true → depths (row secret) ≤ 1
flat_secret a secret e = named_are_flat a (secret_names a) secret e

pub shallow : (a : Algorithm) (secret : List Tree) (digest : List ℕ) → are_secret a secret ≡ true → depth (secret_tree secret (hash_tree digest)) ≤ most_depth
shallow a secret digest e = omega (arith, flat_secret a secret e)

-- ---- the clear key

pub one_secret : (bytes : List ℕ) (s r : List Tree) (g h : Tree) → AreSpelled bytes (secret_tree s g) → AreSpelled bytes (secret_tree r h) → (s ≡ r) × (g ≡ h)
one_secret bytes s r g h a b =
    let whole : secret_tree s g ≡ secret_tree r h = (one_spelling (secret_tree s g) (secret_tree r h) a.more b.more (sym a.parts ∙ b.parts)).0 in
    let rows : row s ≡ row r = cc in
    (row_injective s r rows, cc)

-- what nothing reads opens nothing
pub not_spelled : (locked key : Key) (bytes : List ℕ) → ((secret : List Tree) (hash : Tree) → depth (secret_tree secret hash) ≤ most_depth → AreSpelled bytes (secret_tree secret hash) → ⊥) → AreSecrets locked bytes key → ⊥
not_spelled locked key bytes none h =
    let digest = sha1 (hashed_list_of key (time_of locked.private)) in
    none h.secret (hash_tree digest) (shallow locked.algorithm h.secret digest h.names) h.spelled

pub other_names : (locked key : Key) (bytes : List ℕ) (secret : List Tree) (hash : Tree) → AreSpelled bytes (secret_tree secret hash) → (are_secret locked.algorithm secret ≡ true → ⊥) → AreSecrets locked bytes key → ⊥
other_names locked key bytes secret hash a none h =
    let same = one_secret bytes h.secret secret (hash_tree (sha1 (hashed_list_of key (time_of locked.private)))) hash h.spelled a in
    none (ap (are_secret locked.algorithm) (sym same.0) ∙ h.names)

pub other_digest : (locked key clear : Key) (bytes : List ℕ) (secret : List Tree) (hash : Tree) (digest : List ℕ) → AreSpelled bytes (secret_tree secret hash) → clear ≡ clear_with locked secret
    → digest ≡ sha1 (hashed_list_of clear (time_of locked.private)) → (hash ≡ hash_tree digest → ⊥) → AreSecrets locked bytes key → ⊥
other_digest locked key clear bytes secret hash digest a e f none h =
    let same = one_secret bytes h.secret secret (hash_tree (sha1 (hashed_list_of key (time_of locked.private)))) hash h.spelled a in
    let one : key ≡ clear = h.clear ∙ ap (clear_with locked) same.0 ∙ sym e in
    none (sym same.1 ∙ ap (λ (k : Key). hash_tree (sha1 (hashed_list_of k (time_of locked.private)))) one ∙ ap hash_tree (sym f))

pub secrets_are : (locked clear : Key) (bytes : List ℕ) (secret : List Tree) (hash : Tree) (digest : List ℕ) → AreSpelled bytes (secret_tree secret hash) → are_secret locked.algorithm secret ≡ true → clear ≡ clear_with locked secret
    → digest ≡ sha1 (hashed_list_of clear (time_of locked.private)) → hash ≡ hash_tree digest → AreSecrets locked bytes clear
secrets_are locked clear bytes secret hash digest a names e f g = record {
  secret = secret;
  names = names;
  clear = e;
  spelled = subst (λ (u : Tree). AreSpelled bytes (secret_tree secret u)) (g ∙ ap hash_tree f) a;
}
