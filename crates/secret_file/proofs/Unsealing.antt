-- What is sealed by OCB is read in one way.
use Rattle.std.proofs.Common.{◌≡◌, ◌↔◌, ℕ, zero, suc, ◌+◌, ◌*◌, ◌<◌, ◌≤◌, Bool, true, false, IsTrue, IsSome, IfSome, List, [], ◌∷◌, ◌++◌, length, take, drop, slice_index, Option, Some, None, refl, sym, ap, subst, ◌∙◌, arith, lit<}
use Rattle.std.{proofs.{Common.length-append, Math.Seq.{take-append_seam, drop-append_seam, take-length}, lemmas.List.{append-nil, take-append-drop}}, specs.{List.flat_map, Int.{w32, to_be_bytes, bytes_high_first, byte_at}}}
use Rattle.{sha1.specs.Sha1.{sha1, digest_bytes}, s2k_derive.specs.S2k.derived_key, aes_block.{specs.Aes.IsBytes, proofs.Blocks.{IsBytes_take, IsBytes_append}}, aes_modes.specs.Ocb.{ocb_encrypted, ocb_decrypted, ocb_tag}}
use Rattle.{aes_modes.proofs.OcbUndone.{ocb_encrypted_bytes, ocb_decrypted_ocb_encrypted}, sexp_canonical.specs.{Tree.{Tree, list_of, row}, View.tree_of, Spelling.{IsReadable, most_bytes, most_depth, depth, spelling}}}
use Rattle.{sexp_canonical.{specs.declared.tree.Sexp.{Sexp, TheVariants.List as Listed}, proofs.Trees.{one_spelling, row_injective}}, sexp_keys.specs.{Parameters.are_secret, Key.{Key, clear_with}, Lists.associated_list_of}}
use Rattle.secret_file.{specs.{Opens.{sealed_tree, time_of, AreSealed, LockedKey, OpensTo}, Steps.IsOpening, declared.cipher.Cipher.TheVariants.Ocb}, proofs.{Decrypted.{ReadsFront, flat_secret}, Within.sealed_size}}

-- ---- the key of a passphrase is bytes

byte_at_small : (k n : ℕ) → byte_at k n < 256
byte_at_small zero n = omega arith
byte_at_small (suc k) n = omega arith

high_first_small : (k n i : ℕ) → slice_index (bytes_high_first k n) i < 256
high_first_small zero n i = lit< tt
high_first_small (suc k) n zero = byte_at_small k n
high_first_small (suc k) n (suc i) = high_first_small k n i

digest_has_bytes : (h : List ℕ) (n : ℕ) → IsBytes (n * 4) (digest_bytes h n)
unfolding digest_bytes
digest_has_bytes h zero = record { len = refl; small = λ k. lit< tt }
digest_has_bytes h (suc n) =
    let four : n * 4 + 4 ≡ suc n * 4 = omega arith in
    subst (λ (k : ℕ). IsBytes k (digest_bytes h n ++ to_be_bytes w32 (slice_index h n))) four
    (IsBytes_append (n * 4) 4 (digest_bytes h n) (to_be_bytes w32 (slice_index h n)) (digest_has_bytes h n)
    (record { len = refl; small = high_first_small 4 (slice_index h n) }))

sha1_bytes : (m : List ℕ) → IsBytes 20 (sha1 m)
unfolding sha1
sha1_bytes m = digest_has_bytes _ 5

pub key_bytes : (pass salt : List ℕ) (count : ℕ) → IsBytes 16 (derived_key pass salt count)
key_bytes pass salt count = IsBytes_take 16 20 _ (omega arith) (sha1_bytes _)

-- ---- sealed octets hold one text

-- two lists of as many bytes before two tags
same_front : (a b s t : List ℕ) → a ++ s ≡ b ++ t → length a ≡ length b → a ≡ b
same_front a b s t e n = sym (take-append_seam a s) ∙ ap (take (length a)) e ∙ ap (λ (m : ℕ). take m (b ++ t)) n ∙ take-append_seam b t

same_back : (a b s t : List ℕ) → a ++ s ≡ b ++ t → length a ≡ length b → s ≡ t
same_back a b s t e n = sym (drop-append_seam a s) ∙ ap (drop (length a)) e ∙ ap (λ (m : ℕ). drop m (b ++ t)) n ∙ drop-append_seam b t

same_length : (a b s t : List ℕ) → a ++ s ≡ b ++ t → length s ≡ 16 → length t ≡ 16 → length a ≡ length b
same_length a b s t e m n = omega (arith, ap length e, length-append a s, length-append b t)

pub one_plain : (key nonce assoc octets x y : List ℕ) → IsBytes 16 key → AreSealed key nonce assoc octets x → AreSealed key nonce assoc octets y → x ≡ y
one_plain key nonce assoc octets x y k h g =
    let same : ocb_encrypted key nonce x ++ ocb_tag key nonce assoc x ≡ ocb_encrypted key nonce y ++ ocb_tag key nonce assoc y = sym h.parts ∙ g.parts in
    let len = same_length (ocb_encrypted key nonce x) (ocb_encrypted key nonce y) (ocb_tag key nonce assoc x) (ocb_tag key nonce assoc y) same h.tag_len g.tag_len in
    sym (ocb_decrypted_ocb_encrypted key nonce x k h.bytes)
    ∙ ap (ocb_decrypted key nonce) (same_front (ocb_encrypted key nonce x) (ocb_encrypted key nonce y) (ocb_tag key nonce assoc x) (ocb_tag key nonce assoc y) same len)
    ∙ ocb_decrypted_ocb_encrypted key nonce y k g.bytes

pub one_sealed : (s r : List Tree) → spelling (sealed_tree s) ≡ spelling (sealed_tree r) → s ≡ r
one_sealed s r e =
    let whole : sealed_tree s ≡ sealed_tree r = (one_spelling (sealed_tree s) (sealed_tree r) [] [] (ap (λ (t : List ℕ). t ++ []) e)).0 in
    let rows : row s ≡ row r = cc in
    row_injective s r rows

-- the text before the tag, and its tag, where the octets are sealed
pub sealed_parts : (key nonce assoc octets plain bytes tag : List ℕ) → IsBytes 16 key → octets ≡ bytes ++ tag → length tag ≡ 16 → AreSealed key nonce assoc octets plain
    → (bytes ≡ ocb_encrypted key nonce plain) × (tag ≡ ocb_tag key nonce assoc plain) × (length plain ≡ length bytes)
sealed_parts key nonce assoc octets plain bytes tag k e len h =
    let same : bytes ++ tag ≡ ocb_encrypted key nonce plain ++ ocb_tag key nonce assoc plain = sym e ∙ h.parts in
    let n = same_length bytes (ocb_encrypted key nonce plain) tag (ocb_tag key nonce assoc plain) same len h.tag_len in (
      same_front bytes (ocb_encrypted key nonce plain) tag (ocb_tag key nonce assoc plain) same n,
      same_back bytes (ocb_encrypted key nonce plain) tag (ocb_tag key nonce assoc plain) same n,
      sym (ocb_encrypted_bytes key nonce plain k h.bytes).len ∙ sym n,
    )

pub sealed_back : (key nonce assoc old new tag : List ℕ) → IsBytes (length new) new → length tag ≡ 16 → (old ≡ ocb_encrypted key nonce new) × (tag ≡ ocb_tag key nonce assoc new) → AreSealed key nonce assoc (old ++ tag) new
sealed_back key nonce assoc old new tag bytes len h = record {
  bytes = bytes;
  parts = ap (λ (s : List ℕ). s ++ tag) h.0 ∙ ap (λ (t : List ℕ). ocb_encrypted key nonce new ++ t) h.1;
  tag_len = sym (ap length h.1) ∙ len;
}

pub not_own : (key nonce assoc old tag : List ℕ) (r : Bool) → IsBytes 16 key → length tag ≡ 16
    → ((plain : List ℕ) → IsBytes (length old) plain → old ≡ ocb_encrypted key nonce plain → tag ≡ ocb_tag key nonce assoc plain → IsTrue r) → r ≡ false
    → (plain : List ℕ) → AreSealed key nonce assoc (old ++ tag) plain → ⊥
not_own key nonce assoc old tag r k len undoes other plain h =
    let parts = sealed_parts key nonce assoc (old ++ tag) plain old tag k refl len h in
    let yes = undoes plain (subst (λ (n : ℕ). IsBytes n plain) parts.2 h.bytes) parts.0 parts.1 in
    cc

pub joined : (octets front back a tag : List ℕ) (n : ℕ) → front ≡ take n octets → back ≡ drop n octets → back ≡ tag → a ≡ front → a ++ tag ≡ octets
joined octets front back a tag n e f g h =
    ap (λ (s : List ℕ). s ++ tag) (h ∙ e) ∙ ap (λ (t : List ℕ). take n octets ++ t) (sym g ∙ f) ∙ take-append-drop n octets

-- the same of equal keys, octets and texts
pub sealed_same : (k l nonce assoc octets pieces x y : List ℕ) → k ≡ l → pieces ≡ octets → x ≡ y → AreSealed k nonce assoc pieces x → AreSealed l nonce assoc octets y
sealed_same k l nonce assoc octets pieces x y e f g h =
    subst (λ (key : List ℕ). AreSealed key nonce assoc octets y) e
    (subst (λ (o : List ℕ). AreSealed k nonce assoc o y) f (subst (AreSealed k nonce assoc pieces) g h))

-- ---- the list that is sealed

pub sealed_read : (bytes : List ℕ) (read : Option (Sexp × ℕ)) → ReadsFront bytes read → length bytes ≤ most_bytes → (secret : List Tree) → depth (sealed_tree secret) ≤ most_depth → bytes ≡ spelling (sealed_tree secret)
    → read ≡ Some (Listed (list_of secret ∷ []), length bytes)
sealed_read bytes read again short secret shallow e =
    again (Listed (list_of secret ∷ [])) [] (record { spelled = refl; shallow = shallow; short = omega (arith, ap length e) }) (e ∙ sym (append-nil (spelling (sealed_tree secret))))
    ∙ ap (λ (n : ℕ). Some (Listed (list_of secret ∷ []), n)) (sym (ap length e))

pub whole_read : (read : Option (Sexp × ℕ)) (t u : Sexp) (m n : ℕ) → read ≡ Some (t, m) → read ≡ Some (u, n) → (t ≡ u) × (m ≡ n)
whole_read read t u m n e f =
    let pair : (t, m) ≡ (u, n) = cc in
    (ap (λ (x : Sexp × ℕ). x.0) pair, ap (λ (x : Sexp × ℕ). x.1) pair)

pub read_is : (bytes : List ℕ) (t : Sexp) (n : ℕ) (u : Tree) → (n ≤ length bytes) × IsReadable (take n bytes) t → n ≡ length bytes → tree_of t ≡ u → bytes ≡ spelling u
read_is bytes t n u h e f = sym (take-length bytes) ∙ ap (λ (m : ℕ). take m bytes) (sym e) ∙ h.1.spelled ∙ ap spelling f

shallow_sealed : (secret : List Tree) (key : Key) → are_secret key.algorithm secret ≡ true → depth (sealed_tree secret) ≤ most_depth
shallow_sealed secret key e = omega (arith, flat_secret key.algorithm secret e)

-- ---- the clear key

abbrev pub sealed_locked : Key → List ℕ → ℕ → (iv encrypted : List ℕ) → LockedKey
sealed_locked key salt count iv encrypted = record { key = key; protection = record { salt = salt; count = count; cipher = Ocb iv; encrypted = encrypted } }

pub not_sealed : (key : Key) (salt : List ℕ) (count : ℕ) (iv encrypted pass assoc : List ℕ) → assoc ≡ associated_list_of key (time_of key.private)
    → ((plain : List ℕ) → AreSealed (derived_key pass salt count) iv assoc encrypted plain → ⊥) → (clear : Key) → OpensTo (sealed_locked key salt count iv encrypted) pass clear → ⊥
not_sealed key salt count iv encrypted pass assoc e none clear h =
    none (spelling (sealed_tree h.secret)) (subst (λ (a : List ℕ). AreSealed (derived_key pass salt count) iv a encrypted (spelling (sealed_tree h.secret))) (sym e) h.held)

-- the text that was found is the one of each opening
pub same_sealed : (key : Key) (salt : List ℕ) (count : ℕ) (iv encrypted pass assoc plain : List ℕ) → assoc ≡ associated_list_of key (time_of key.private) → AreSealed (derived_key pass salt count) iv assoc encrypted plain
    → (clear : Key) → (h : OpensTo (sealed_locked key salt count iv encrypted) pass clear) → plain ≡ spelling (sealed_tree h.secret)
same_sealed key salt count iv encrypted pass assoc plain e is clear h =
    one_plain (derived_key pass salt count) iv assoc encrypted plain (spelling (sealed_tree h.secret)) (key_bytes pass salt count) is
    (subst (λ (a : List ℕ). AreSealed (derived_key pass salt count) iv a encrypted (spelling (sealed_tree h.secret))) (sym e) h.held)

pub not_listed : (key : Key) (salt : List ℕ) (count : ℕ) (iv encrypted pass assoc plain bytes : List ℕ) → assoc ≡ associated_list_of key (time_of key.private) → AreSealed (derived_key pass salt count) iv assoc encrypted plain
    → bytes ≡ plain → ((secret : List Tree) → depth (sealed_tree secret) ≤ most_depth → bytes ≡ spelling (sealed_tree secret) → ⊥) → (clear : Key) → OpensTo (sealed_locked key salt count iv encrypted) pass clear → ⊥
not_listed key salt count iv encrypted pass assoc plain bytes e is b none clear h =
    none h.secret (shallow_sealed h.secret key h.names) (b ∙ same_sealed key salt count iv encrypted pass assoc plain e is clear h)

unsealed_none : (key : Key) (salt : List ℕ) (count : ℕ) (iv encrypted pass assoc plain : List ℕ) (secret : List Tree) → assoc ≡ associated_list_of key (time_of key.private)
    → AreSealed (derived_key pass salt count) iv assoc encrypted plain → plain ≡ spelling (sealed_tree secret) → (are_secret key.algorithm secret ≡ true → ⊥)
    → (clear : Key) → OpensTo (sealed_locked key salt count iv encrypted) pass clear → ⊥
unsealed_none key salt count iv encrypted pass assoc plain secret e is listed none clear h =
    let same : secret ≡ h.secret = one_sealed secret h.secret (sym listed ∙ same_sealed key salt count iv encrypted pass assoc plain e is clear h) in
    none (ap (are_secret key.algorithm) same ∙ h.names)

pub unsealed_opening : (key : Key) (salt : List ℕ) (count : ℕ) (iv encrypted pass assoc plain : List ℕ) (secret : List Tree) (found : Option Key) → assoc ≡ associated_list_of key (time_of key.private)
    → AreSealed (derived_key pass salt count) iv assoc encrypted plain → length plain ≤ length encrypted → plain ≡ spelling (sealed_tree secret) → IsSome found ↔ IsTrue (are_secret key.algorithm secret)
    → IfSome found (λ clear. clear ≡ clear_with key secret) → IsOpening (sealed_locked key salt count iv encrypted) pass found
unsealed_opening key salt count iv encrypted pass assoc plain secret None e is len listed names clear =
    unsealed_none key salt count iv encrypted pass assoc plain secret e is listed (λ some. let never = names.1 some in cc)
unsealed_opening key salt count iv encrypted pass assoc plain secret (Some found) e is len listed names clear = (
  record {
    secret = secret;
    names = names.0 refl;
    clear = clear;
    held = subst (λ (a : List ℕ). AreSealed (derived_key pass salt count) iv a encrypted (spelling (sealed_tree secret))) e
        (subst (AreSealed (derived_key pass salt count) iv assoc encrypted) listed is);
  },
  omega (arith, ap (λ (k : Key). length (flat_map spelling k.private)) clear, sealed_size secret, ap length listed),
)
