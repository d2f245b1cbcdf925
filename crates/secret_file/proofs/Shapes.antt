-- The shape of a protection, list by list.
use Rattle.std.{proofs.{Common.{◌≡◌, ℕ, ◌+◌, List, [], ◌∷◌, ◌++◌, length, refl, sym, ap, subst, ◌∙◌, arith, length-append}, lemmas.List.length-map}, specs.Prelude.codes}
use Rattle.{sexp_canonical.specs.{Tree.{Tree, leaf, list_of, items}, View.{tree_of, trees}, declared.tree.Sexp.Sexp}, sexp_keys.{specs.Names.protected_name, proofs.OneName.listed}}
use Rattle.secret_file.specs.{Protection.{Protection, protection_name, iv_of, hash_name, derivation_tree, protection_tree, AreOctets, IsCount, IsHashing, IsProtection}, Steps.IsCipher, declared.cipher.Cipher.Cipher}
use Rattle.secret_file.specs.{declared.cipher.Cipher.TheVariants.{Cbc, Ocb}, Opens.hash_tree}

pub hashing_is : (t : Tree) (xs b1 b2 : List Tree) (salt digits array : List ℕ) (count : ℕ) → xs ≡ items t → xs ≡ leaf hash_name ∷ b1 → b1 ≡ leaf salt ∷ b2 → b2 ≡ leaf digits ∷ []
    → (salt ≡ array) × (length array ≡ 8) → IsCount digits count → IsHashing t array count
hashing_is t xs b1 b2 salt digits array count e0 e1 e2 e3 a is = record {
  digits = digits;
  parts = let whole : items t ≡ leaf hash_name ∷ leaf array ∷ leaf digits ∷ [] = let s = a.0 in cc in listed t (leaf hash_name) (leaf array ∷ leaf digits ∷ []) whole;
  is_count = is;
  salt_len = a.1;
}

pub no_count : (t : Tree) (xs b1 b2 : List Tree) (salt digits salt' : List ℕ) (count : ℕ) → xs ≡ items t → xs ≡ leaf hash_name ∷ b1 → b1 ≡ leaf salt ∷ b2 → b2 ≡ leaf digits ∷ []
    → ((n : ℕ) → IsCount digits n → ⊥) → IsHashing t salt' count → ⊥
no_count t xs b1 b2 salt digits salt' count e0 e1 e2 e3 none h =
    let whole : items t ≡ leaf hash_name ∷ leaf salt' ∷ leaf h.digits ∷ [] = ap items h.parts in
    let same : h.digits ≡ digits = cc in
    none count (subst (λ (ds : List ℕ). IsCount ds count) same h.is_count)

pub derivation_is : (t : Tree) (xs b : List Tree) (h : Tree) (iv : List ℕ) → xs ≡ items t → xs ≡ h ∷ b → b ≡ leaf iv ∷ [] → t ≡ derivation_tree h iv
derivation_is t xs b h iv e0 e1 e2 = let whole : items t ≡ h ∷ leaf iv ∷ [] = cc in listed t h (leaf iv ∷ []) whole

-- a name and an initialization vector have one cipher
pub one_cipher : (b c : Cipher) → protection_name b ≡ protection_name c → iv_of b ≡ iv_of c → b ≡ c
one_cipher (Cbc iv) (Cbc other) e f = ap Cbc f
one_cipher (Ocb iv) (Ocb other) e f = ap Ocb f
one_cipher (Cbc iv) (Ocb other) e f = absurd (let n : 25 ≡ 20 = ap length e in omega arith)
one_cipher (Ocb iv) (Cbc other) e f = absurd (let n : 20 ≡ 25 = ap length e in omega arith)

-- what is known of the list of a protection, up to what is encrypted
pub record HasParts (t : Tree) (name : List ℕ) (derivation : Tree) (encrypted : List ℕ) : Type 0 where
  pub whole : t ≡ list_of (leaf protected_name ∷ leaf name ∷ derivation ∷ leaf encrypted ∷ [])

pub has_parts : (t : Tree) (xs b1 b2 b3 : List Tree) (name : List ℕ) (d : Tree) (enc : List ℕ) → xs ≡ items t → xs ≡ leaf protected_name ∷ b1 → b1 ≡ leaf name ∷ b2 → b2 ≡ d ∷ b3 → b3 ≡ leaf enc ∷ []
    → HasParts t name d enc
has_parts t xs b1 b2 b3 name d enc e0 e1 e2 e3 e4 = record {
  whole = let all : items t ≡ leaf protected_name ∷ leaf name ∷ d ∷ leaf enc ∷ [] = cc in listed t (leaf protected_name) (leaf name ∷ d ∷ leaf enc ∷ []) all;
}

pub protection_is : (t d hashing : Tree) (name iv : List ℕ) (p : Protection) → HasParts t name d p.encrypted → d ≡ derivation_tree hashing iv → IsCipher name iv p.cipher → IsHashing hashing p.salt p.count → AreOctets p.cipher p.encrypted
    → IsProtection t p
protection_is t d hashing name iv p h e is counted octets = record {
  hashing = hashing;
  parts =
      h.whole
      ∙ ap (λ (n : List ℕ). list_of (leaf protected_name ∷ leaf n ∷ d ∷ leaf p.encrypted ∷ [])) is.named
      ∙ ap (λ (u : Tree). list_of (leaf protected_name ∷ leaf (protection_name p.cipher) ∷ u ∷ leaf p.encrypted ∷ [])) (e ∙ ap (derivation_tree hashing) is.iv_is);
  is_hashing = counted;
  length_of_iv = ap length (sym is.iv_is) ∙ is.len;
  octets = octets;
}

pub record SameParts (t : Tree) (name : List ℕ) (d : Tree) (encrypted : List ℕ) (p : Protection) (hashing : Tree) : Type 0 where
  pub named : name ≡ protection_name p.cipher
  pub derivation : d ≡ derivation_tree hashing (iv_of p.cipher)
  pub encrypted_is : p.encrypted ≡ encrypted

pub same_parts : (t : Tree) (name : List ℕ) (d : Tree) (enc : List ℕ) (p : Protection) → HasParts t name d enc → (h : IsProtection t p) → SameParts t name d enc p h.hashing
same_parts t name d enc p parts h =
    let whole : list_of (leaf protected_name ∷ leaf name ∷ d ∷ leaf enc ∷ []) ≡ protection_tree h.hashing p.cipher p.encrypted = sym parts.whole ∙ h.parts in
    record { named = cc; derivation = cc; encrypted_is = cc }

pub no_derivation : (t : Tree) (name : List ℕ) (d : Tree) (enc : List ℕ) (p : Protection) → HasParts t name d enc → ((hashing : Tree) (iv : List ℕ) → d ≡ derivation_tree hashing iv → ⊥) → IsProtection t p → ⊥
no_derivation t name d enc p parts none h = none h.hashing (iv_of p.cipher) (same_parts t name d enc p parts h).derivation

-- the parts of a derivation are one
same_derivation : (g h : Tree) (iv jv : List ℕ) → derivation_tree g iv ≡ derivation_tree h jv → (g ≡ h) × (iv ≡ jv)
same_derivation g h iv jv e = (cc, cc)

pub same_iv : (t : Tree) (name : List ℕ) (d : Tree) (enc : List ℕ) (hashing : Tree) (iv : List ℕ) (p : Protection) → HasParts t name d enc → d ≡ derivation_tree hashing iv → IsProtection t p → iv ≡ iv_of p.cipher
same_iv t name d enc hashing iv p parts e h =
    (same_derivation hashing h.hashing iv (iv_of p.cipher) (sym e ∙ (same_parts t name d enc p parts h).derivation)).1

pub no_cipher : (t : Tree) (name : List ℕ) (d : Tree) (enc : List ℕ) (hashing : Tree) (iv : List ℕ) (p : Protection) → HasParts t name d enc → d ≡ derivation_tree hashing iv → ((c : Cipher) → IsCipher name iv c → ⊥)
    → IsProtection t p → ⊥
no_cipher t name d enc hashing iv p parts e none h =
    let same = same_iv t name d enc hashing iv p parts e h in
    none p.cipher (record { named = (same_parts t name d enc p parts h).named; iv_is = same; len = ap length same ∙ h.length_of_iv })

pub no_hashing : (t : Tree) (name : List ℕ) (d hashing : Tree) (enc iv : List ℕ) (p : Protection) → HasParts t name d enc → d ≡ derivation_tree hashing iv → ((salt : List ℕ) (count : ℕ) → IsHashing hashing salt count → ⊥)
    → IsProtection t p → ⊥
no_hashing t name d hashing enc iv p parts e none h =
    let one = (same_derivation h.hashing hashing (iv_of p.cipher) iv (sym (same_parts t name d enc p parts h).derivation ∙ e)).0 in
    none p.salt p.count (subst (λ (u : Tree). IsHashing u p.salt p.count) one h.is_hashing)

pub no_octets : (t : Tree) (name : List ℕ) (d : Tree) (enc : List ℕ) (hashing : Tree) (iv : List ℕ) (c : Cipher) (p : Protection) → HasParts t name d enc → d ≡ derivation_tree hashing iv → IsCipher name iv c → (AreOctets c enc → ⊥)
    → IsProtection t p → ⊥
no_octets t name d enc hashing iv c p parts e is none h =
    let same = same_parts t name d enc p parts h in
    let one : p.cipher ≡ c = one_cipher p.cipher c (sym same.named ∙ is.named) (sym (same_iv t name d enc hashing iv p parts e h) ∙ is.iv_is) in
    none (subst (AreOctets c) same.encrypted_is (subst (λ (b : Cipher). AreOctets b p.encrypted) one h.octets))

-- ---- two lists

pub record LastTwo (left : List Sexp) (s h : Sexp) (a b : Tree) : Type 0 where
  pub none_left : left ≡ []
  pub first : tree_of s ≡ a
  pub second : tree_of h ≡ b

pub last_two : (left : List Sexp) (s h : Sexp) (r all : List Sexp) (a b : Tree) → all ≡ r ++ h ∷ [] → r ≡ left ++ s ∷ [] → trees all ≡ a ∷ b ∷ [] → LastTwo left s h a b
last_two [] s h r all a b e f g =
    let whole : trees (s ∷ h ∷ []) ≡ a ∷ b ∷ [] = sym (ap trees (e ∙ ap (λ (xs : List Sexp). xs ++ h ∷ []) f)) ∙ g in
    record { none_left = refl; first = cc; second = cc }
last_two (x ∷ xs) s h r all a b e f g =
    let n : length all ≡ length (x ∷ xs) + 1 + 1 = ap length e ∙ length-append r (h ∷ []) ∙ ap (λ (k : ℕ). k + 1) (ap length f ∙ length-append (x ∷ xs) (s ∷ [])) in
    let two : length all ≡ 2 = sym (length-map all tree_of) ∙ ap length g in
    absurd (omega arith)

-- ---- the digest

pub hash_is : (t : Tree) (xs b1 b2 : List Tree) (digest : List ℕ) → xs ≡ items t → xs ≡ leaf (codes "hash") ∷ b1 → b1 ≡ leaf hash_name ∷ b2 → b2 ≡ leaf digest ∷ [] → t ≡ hash_tree digest
hash_is t xs b1 b2 digest e0 e1 e2 e3 =
    let whole : items t ≡ leaf (codes "hash") ∷ leaf hash_name ∷ leaf digest ∷ [] = cc in listed t (leaf (codes "hash")) (leaf hash_name ∷ leaf digest ∷ []) whole

-- ---- one list

pub last_one : (left : List Sexp) (s : Sexp) (all : List Sexp) (a : Tree) → all ≡ left ++ s ∷ [] → trees all ≡ a ∷ [] → (left ≡ []) × (tree_of s ≡ a)
last_one [] s all a e f =
    let whole : trees (s ∷ []) ≡ a ∷ [] = sym (ap trees e) ∙ f in
    (refl, cc)
last_one (x ∷ xs) s all a e f =
    let n : length all ≡ length (x ∷ xs) + 1 = ap length e ∙ length-append (x ∷ xs) (s ∷ []) in
    let one : length all ≡ 1 = sym (length-map all tree_of) ∙ ap length f in
    absurd (omega arith)
