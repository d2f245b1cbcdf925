-- A file and a passphrase have one answer.
use Rattle.std.proofs.Common.{◌≡◌, ◌⊎◌, inl, inr, ℕ, ◌++◌, false, IsTrue, List, [], Ok, Err, refl, sym, ap, subst, ◌∙◌}
use Rattle.{sexp_canonical.{specs.{Tree.Tree, View.tree_of, Spelling.{IsReadable, spelling}, declared.tree.Sexp.Sexp}, proofs.{Numerals.numeral_injective, Trees.{one_spelling, tree_of_injective}}}, s2k_derive.specs.S2k.octets}
use Rattle.{sexp_keys.specs.{Key.{Key, IsKey, clear_with}, Faults.IsFirstKeyFault, declared.fault.KeyFault.KeyFault, Lists.{associated_list_of, hashed_list_of}}, sha1.specs.Sha1.sha1, aes_modes.specs.Cbc.cbc_decrypted}
use Rattle.secret_file.specs.Protection.{Protection, protection_name, iv_of, hashing_tree, protection_tree, has_other_name, IsProtection, IsProtectionFault}
use Rattle.secret_file.specs.{Opens.{first_of, key_by, hash_tree, sealed_tree, time_of, IsFile, LockedKey, IsLocked, Hold, OpensTo, Opens}, declared.{cipher.Cipher.{Cipher, TheVariants.{Cbc, Ocb}}, locked.Opened.Opened}}
use Rattle.secret_file.{specs.{declared.unlocked.Unlocked.Unlocked, Answers.{refused, unlocked, IsFileFault, IsLockedFault, AnswersOpening, AnswersLocked, AnswersKey, Answers}}, proofs.Decrypted.one_secret}
use Rattle.secret_file.proofs.{Unsealing.{key_bytes, one_plain, one_sealed}, Shapes.one_cipher}
use Rattle.sexp_keys.proofs.Keys as keys
use Rattle.sexp_keys.specs.declared.fault.KeyFault.TheVariants as faults
use Rattle.secret_file.specs.declared.locked.Opened.TheVariants as openings
use Rattle.secret_file.specs.declared.unlocked.Unlocked.TheVariants as answers

-- ---- the key

one_held : (c : Cipher) (locked : LockedKey) (pass : List ℕ) (k l : Key) (s r : List Tree) → Hold c locked pass k s → Hold c locked pass l r → s ≡ r
one_held (Cbc iv) locked pass k l s r h g =
    (one_secret (cbc_decrypted (key_by pass locked.protection) iv locked.protection.encrypted) s r (hash_tree (sha1 (hashed_list_of k (time_of locked.key.private)))) (hash_tree (sha1 (hashed_list_of l (time_of locked.key.private)))) h g).0
one_held (Ocb iv) locked pass k l s r h g =
    one_sealed s r
    (one_plain (key_by pass locked.protection) iv (associated_list_of locked.key (time_of locked.key.private)) locked.protection.encrypted (spelling (sealed_tree s)) (spelling (sealed_tree r))
    (key_bytes pass locked.protection.salt locked.protection.count) h g)

one_clear : (locked : LockedKey) (pass : List ℕ) (k l : Key) → OpensTo locked pass k → OpensTo locked pass l → k ≡ l
one_clear locked pass k l h g =
    h.clear ∙ ap (clear_with locked.key) (one_held locked.protection.cipher locked pass k l h.secret g.secret h.held g.held) ∙ sym g.clear

one_opening : (locked : LockedKey) (pass : List ℕ) (a b : Opened) → AnswersOpening locked pass a → AnswersOpening locked pass b → a ≡ b
one_opening locked pass a b (inl x) (inl y) = x.2 ∙ ap openings.Key (one_clear locked pass x.0 y.0 x.1 y.1) ∙ sym y.2
one_opening locked pass a b (inl x) (inr y) = absurd (y.0 x.0 x.1)
one_opening locked pass a b (inr x) (inl y) = absurd (x.0 y.0 y.1)
one_opening locked pass a b (inr x) (inr y) = x.1 ∙ sym y.1

-- ---- the protection

known_name : (c : Cipher) (salt digits encrypted : List ℕ) → has_other_name (protection_tree (hashing_tree salt digits) c encrypted) ≡ false
known_name (Cbc iv) salt digits encrypted = refl
known_name (Ocb iv) salt digits encrypted = refl

right_names : (t : Tree) (p : Protection) → IsProtection t p → has_other_name t ≡ false
right_names t p h =
    ap has_other_name (h.parts ∙ ap (λ (u : Tree). protection_tree u p.cipher p.encrypted) h.is_hashing.parts) ∙ known_name p.cipher p.salt h.is_hashing.digits p.encrypted

one_protection : (t : Tree) (p q : Protection) → IsProtection t p → IsProtection t q → p ≡ q
one_protection t p q h g =
    let whole : protection_tree h.hashing p.cipher p.encrypted ≡ protection_tree g.hashing q.cipher q.encrypted = sym h.parts ∙ g.parts in
    let names : protection_name p.cipher ≡ protection_name q.cipher = cc in
    let ivs : iv_of p.cipher ≡ iv_of q.cipher = cc in
    let cipher : p.cipher ≡ q.cipher = one_cipher p.cipher q.cipher names ivs in
    let encrypted : p.encrypted ≡ q.encrypted = cc in
    let hashing : h.hashing ≡ g.hashing = cc in
    let inner : hashing_tree p.salt h.is_hashing.digits ≡ hashing_tree q.salt g.is_hashing.digits = sym h.is_hashing.parts ∙ hashing ∙ g.is_hashing.parts in
    let salt : p.salt ≡ q.salt = cc in
    let digits : h.is_hashing.digits ≡ g.is_hashing.digits = cc in
    let m = h.is_hashing.is_count in
    let n = g.is_hashing.is_count in
    let written : m.written ≡ n.written = numeral_injective m.written n.written (sym m.spelled ∙ digits ∙ n.spelled) in
    let count : p.count ≡ q.count = m.value ∙ ap octets written ∙ sym n.value in
    λ i. record { salt = salt i; count = count i; cipher = cipher i; encrypted = encrypted i }

pub one_protection_fault : (t : Tree) (f g : KeyFault) → IsProtectionFault t f → IsProtectionFault t g → f ≡ g
one_protection_fault t f g (inl x) (inl y) = x.1 ∙ sym y.1
one_protection_fault t f g (inl x) (inr y) = absurd (let e = x.0 in let d = y.0 in cc)
one_protection_fault t f g (inr x) (inl y) = absurd (let e = x.0 in let d = y.0 in cc)
one_protection_fault t f g (inr x) (inr y) = x.2 ∙ sym y.2

pub no_protection_fault : (t : Tree) (p : Protection) (f : KeyFault) → IsProtection t p → IsProtectionFault t f → ⊥
no_protection_fault t p f h (inl x) = let e = x.0 in let d = right_names t p h in cc
no_protection_fault t p f h (inr x) = x.1 p h

one_locked_key : (l m : LockedKey) → l.key ≡ m.key → IsLocked l → IsLocked m → l ≡ m
one_locked_key l m e h g =
    let protections = one_protection (first_of m.key.private) l.protection m.protection (subst (λ (k : Key). IsProtection (first_of k.private) l.protection) e h.protection) g.protection in
    λ i. record { key = e i; protection = protections i }

fault_of_locked : (locked : LockedKey) (key : Key) (fault : KeyFault) → locked.key ≡ key → IsLocked locked → IsProtectionFault (first_of key.private) fault → ⊥
fault_of_locked locked key fault e h f =
    no_protection_fault (first_of locked.key.private) locked.protection fault h.protection (subst (λ (k : Key). IsProtectionFault (first_of k.private) fault) (sym e) f)

one_locked : (key : Key) (pass : List ℕ) (a b : Unlocked) → AnswersLocked key pass a → AnswersLocked key pass b → a ≡ b
one_locked key pass a b (inl x) (inl y) = x.2 ∙ ap refused (one_protection_fault (first_of key.private) x.0 y.0 x.1 y.1) ∙ sym y.2
one_locked key pass a b (inl x) (inr y) = absurd (fault_of_locked y.0 key x.0 y.1 y.2 x.1)
one_locked key pass a b (inr x) (inl y) = absurd (fault_of_locked x.0 key y.0 x.1 x.2 y.1)
one_locked key pass a b (inr x) (inr y) =
    let same = one_locked_key x.0 y.0 (x.1 ∙ sym y.1) x.2 y.2 in
    x.3.2 ∙ ap unlocked (one_opening y.0 pass x.3.0 y.3.0 (subst (λ (l : LockedKey). AnswersOpening l pass x.3.0) same x.3.1) y.3.1) ∙ sym y.3.2

one_key : (key : Key) (pass : List ℕ) (a b : Unlocked) → AnswersKey key pass a → AnswersKey key pass b → a ≡ b
one_key key pass a b (inl x) (inl y) = x.1 ∙ sym y.1
one_key key pass a b (inl x) (inr y) = absurd (let e = x.0 in let d = y.0 in cc)
one_key key pass a b (inr x) (inl y) = absurd (let e = x.0 in let d = y.0 in cc)
one_key key pass a b (inr x) (inr y) = one_locked key pass a b x.1 y.1

-- ---- the file

one_tree : (file : List ℕ) (t u : Sexp) → IsReadable file t → IsReadable file u → t ≡ u
one_tree file t u h g =
    tree_of_injective t u (one_spelling (tree_of t) (tree_of u) [] [] (ap (λ (s : List ℕ). s ++ []) (sym h.spelled ∙ g.spelled))).0

pub one_file : (file : List ℕ) (k l : Key) → IsFile file k → IsFile file l → k ≡ l
one_file file k l h g =
    let same = one_tree file h.tree g.tree h.read g.read in
    let keys_same : Ok k ≡ Ok l = keys.one_answer (tree_of g.tree) (Ok k) (Ok l) (subst (λ (t : Sexp). IsKey (tree_of t) k) same h.is) g.is in
    cc

fault_of_key : (t : Tree) (k : Key) (f : KeyFault) → IsKey t k → IsFirstKeyFault t f → ⊥
fault_of_key t k f h g = let e : Ok k ≡ Err f = keys.one_answer t (Ok k) (Err f) h g in cc

one_first_fault : (t : Tree) (f g : KeyFault) → IsFirstKeyFault t f → IsFirstKeyFault t g → f ≡ g
one_first_fault t f g h k = let e : Err f ≡ Err g = keys.one_answer t (Err f) (Err g) h k in cc

pub one_file_fault : (file : List ℕ) (f g : KeyFault) → IsFileFault file f → IsFileFault file g → f ≡ g
one_file_fault file f g (inl x) (inl y) = x.1 ∙ sym y.1
one_file_fault file f g (inl x) (inr y) = absurd (x.0 y.0 y.1)
one_file_fault file f g (inr x) (inl y) = absurd (y.0 x.0 x.1)
one_file_fault file f g (inr x) (inr y) =
    one_first_fault (tree_of y.0) f g (subst (λ (t : Sexp). IsFirstKeyFault (tree_of t) f) (one_tree file x.0 y.0 x.1 y.1) x.2) y.2

pub no_file_fault : (file : List ℕ) (k : Key) (f : KeyFault) → IsFile file k → IsFileFault file f → ⊥
no_file_fault file k f h (inl x) = x.0 h.tree h.read
no_file_fault file k f h (inr x) =
    fault_of_key (tree_of h.tree) k f h.is (subst (λ (t : Sexp). IsFirstKeyFault (tree_of t) f) (one_tree file x.0 h.tree x.1 h.read) x.2)

pub one_answer : (file pass : List ℕ) (a b : Unlocked) → Answers file pass a → Answers file pass b → a ≡ b
one_answer file pass a b (inl x) (inl y) = x.2 ∙ ap refused (one_file_fault file x.0 y.0 x.1 y.1) ∙ sym y.2
one_answer file pass a b (inl x) (inr y) = absurd (no_file_fault file y.0 x.0 y.1 x.1)
one_answer file pass a b (inr x) (inl y) = absurd (no_file_fault file x.0 y.0 x.1 y.1)
one_answer file pass a b (inr x) (inr y) =
    one_key y.0 pass a b (subst (λ (k : Key). AnswersKey k pass a) (one_file file x.0 y.0 x.1 y.1) x.2) y.2

-- ---- what opens is answered by its key, and nothing else is

pub locked_answers : (file pass : List ℕ) (locked : LockedKey) (opening : Opened) → IsFile file locked.key → IsLocked locked → AnswersOpening locked pass opening → Answers file pass (unlocked opening)
locked_answers file pass locked opening f h a = inr (locked.key, f, inr (h.protected, inr (locked, refl, h, (opening, a, refl))))

pub unlocked_answers : (file pass : List ℕ) (key : Key) (fault : KeyFault) → IsFile file key → (IsTrue key.is_clear → ⊥) → IsLockedFault key fault → Answers file pass (refused fault)
unlocked_answers file pass key fault f protected (inl x) = absurd (protected x.0)
unlocked_answers file pass key fault f protected (inr x) = inr (key, f, inr (x.0, inl (fault, x.1, refl)))

opens_answers : (file pass : List ℕ) (key : Key) → Opens file pass key → Answers file pass (answers.Key key)
opens_answers file pass key h = locked_answers file pass h.locked (openings.Key key) h.is_file h.is_locked (inl (key, h.secrets, refl))

pub opens : (file pass : List ℕ) (r : Unlocked) → (r ≡ answers.NoMemory) ⊎ Answers file pass r → (key : Key) → Opens file pass key → (r ≡ answers.NoMemory) ⊎ (r ≡ answers.Key key)
opens file pass r (inl e) key h = inl e
opens file pass r (inr a) key h = inr (one_answer file pass r (answers.Key key) a (opens_answers file pass key h))

no_key : (fault : KeyFault) (key : Key) → answers.Key key ≡ refused fault → ⊥
no_key faults.InvSexp key e = cc
no_key faults.BadSecKey key e = cc
no_key faults.Shadowed key e = cc
no_key faults.NotSupported key e = cc
no_key faults.NoMemory key e = cc

pub key_opening : (locked : LockedKey) (pass : List ℕ) (key : Key) → AnswersOpening locked pass (openings.Key key) → OpensTo locked pass key
key_opening locked pass key (inl x) = let e = x.2 in let same : x.0 ≡ key = cc in subst (OpensTo locked pass) same x.1
key_opening locked pass key (inr x) = absurd (let e = x.1 in cc)

key_unlocked : (locked : LockedKey) (pass : List ℕ) (opening : Opened) (key : Key) → AnswersOpening locked pass opening → answers.Key key ≡ unlocked opening → OpensTo locked pass key
key_unlocked locked pass (openings.Key other) key a e = let same : other ≡ key = cc in key_opening locked pass key (subst (λ (k : Key). AnswersOpening locked pass (openings.Key k)) same a)
key_unlocked locked pass openings.BadPassphrase key a e = absurd cc
key_unlocked locked pass openings.NoMemory key a e = absurd cc

key_locked : (file pass : List ℕ) (locked key : Key) → IsFile file locked → AnswersLocked locked pass (answers.Key key) → Opens file pass key
key_locked file pass locked key f (inl x) = absurd (no_key x.0 key x.2)
key_locked file pass locked key f (inr x) = record {
  locked = x.0;
  is_file = subst (IsFile file) (sym x.1) f;
  is_locked = x.2;
  secrets = key_unlocked x.0 pass x.3.0 key x.3.1 x.3.2;
}

key_key : (file pass : List ℕ) (locked key : Key) → IsFile file locked → AnswersKey locked pass (answers.Key key) → Opens file pass key
key_key file pass locked key f (inl x) = absurd (let e = x.1 in cc)
key_key file pass locked key f (inr x) = key_locked file pass locked key f x.1

key_file : (file pass : List ℕ) (key : Key) → Answers file pass (answers.Key key) → Opens file pass key
key_file file pass key (inl x) = absurd (no_key x.0 key x.2)
key_file file pass key (inr x) = key_key file pass x.0 key x.1 x.2

pub key_opens : (file pass : List ℕ) (r : Unlocked) → (r ≡ answers.NoMemory) ⊎ Answers file pass r → (key : Key) → r ≡ answers.Key key → Opens file pass key
key_opens file pass r (inl e) key f = absurd cc
key_opens file pass r (inr a) key f = key_file file pass key (subst (Answers file pass) f a)
