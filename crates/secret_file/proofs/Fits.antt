-- A file that is made is within the limits of one that is read.
use Rattle.std.proofs.{Common.{◌≡◌, ℕ, ◌+◌, ◌^◌, ◌<◌, ◌≤◌, true, false, IfSome, List, [], ◌∷◌, ◌++◌, length, Option, Some, None, ap, ◌∙◌, arith, length-append}, lemmas.{Grind.flat_map-append, List.Concat.flat_map-cons}}
use Rattle.std.specs.{List.flat_map, Prelude.codes}
use Rattle.sexp_canonical.{specs.{Tree.{Tree, leaf, list_of, row}, Spelling.{numeral, spelling, depth, depths}}, proofs.{Numerals.length_numeral, Trees.{numeral_begins, spelled_list}}}
use Rattle.sexp_keys.{specs.{Names.{algorithm_name, form_name, protected_name, time_name}, Key.{Key, key_tree, algorithm_list}, Lists.time_lists}, proofs.Measured.depths_front}
use Rattle.secret_file.specs.{Protection.{Protection, protection_name, iv_of, hash_name, hashing_tree, derivation_tree, protection_tree}, Opens.{hash_tree, secret_tree}, declared.cipher.Cipher.{Cipher, TheVariants.{Cbc, Ocb}}}
use Rattle.secret_file.specs.Protects.{written_protection, locked_by}

pub list_len : (ts : List Tree) → length (spelling (list_of ts)) ≡ length (flat_map spelling ts) + 2
list_len ts = omega (arith, ap length (spelled_list ts), length-append (flat_map spelling ts) (41 ∷ []))

pub size_cons : (t : Tree) (ts : List Tree) → length (flat_map spelling (t ∷ ts)) ≡ length (spelling t) + length (flat_map spelling ts)
size_cons t ts = ap length (flat_map-cons spelling t ts) ∙ length-append (spelling t) (flat_map spelling ts)

pub size_append : (ts us : List Tree) → length (flat_map spelling (ts ++ us)) ≡ length (flat_map spelling ts) + length (flat_map spelling us)
size_append ts us = ap length (flat_map-append spelling ts us) ∙ length-append (flat_map spelling ts) (flat_map spelling us)

pub atom_len : (bytes : List ℕ) → length bytes < 10 ^ 5 → length (spelling (leaf bytes)) ≤ length bytes + 6
atom_len bytes h = omega (arith, length-append (numeral (length bytes)) (58 ∷ bytes), length_numeral 4 (length bytes) h)

pub atom_least : (bytes : List ℕ) → length bytes + 2 ≤ length (spelling (leaf bytes))
atom_least bytes =
    omega (arith, length-append (numeral (length bytes)) (58 ∷ bytes), ap length (numeral_begins (length bytes)).parts)

-- an atom of fewer than 100 bytes
pub short_atom_len : (bytes : List ℕ) → length bytes < 100 → length (spelling (leaf bytes)) ≤ length bytes + 3
short_atom_len bytes h = omega (arith, length-append (numeral (length bytes)) (58 ∷ bytes), length_numeral 1 (length bytes) (omega arith))

atoms2 : (a b : List ℕ) → length (flat_map spelling (leaf a ∷ leaf b ∷ [])) ≡ length (spelling (leaf a)) + length (spelling (leaf b))
atoms2 a b = omega (arith, size_cons (leaf a) (leaf b ∷ []), size_cons (leaf b) [])

atoms3 : (a b c : List ℕ) → length (flat_map spelling (leaf a ∷ leaf b ∷ leaf c ∷ [])) ≡ length (spelling (leaf a)) + length (spelling (leaf b)) + length (spelling (leaf c))
atoms3 a b c = omega (arith, size_cons (leaf a) (leaf b ∷ leaf c ∷ []), atoms2 b c)

hashing_len : (salt digits : List ℕ) → length salt ≡ 8 → length digits ≤ 10 → length (spelling (hashing_tree salt digits)) ≤ 42
hashing_len salt digits s d =
    omega (arith, list_len (leaf hash_name ∷ leaf salt ∷ leaf digits ∷ []), atoms3 hash_name salt digits, atom_len hash_name (omega arith), atom_len salt (omega arith), atom_len digits (omega arith))

derivation_len : (hashing : Tree) (iv : List ℕ) → length iv ≤ 16 → length (spelling hashing) ≤ 42 → length (spelling (derivation_tree hashing iv)) ≤ 66
derivation_len hashing iv v h =
    omega (arith, list_len (hashing ∷ leaf iv ∷ []), size_cons hashing (leaf iv ∷ []), size_cons (leaf iv) [], atom_len iv (omega arith))

pub name_len : (c : Cipher) → length (protection_name c) ≤ 25
name_len (Cbc iv) = omega arith
name_len (Ocb iv) = omega arith

protection_len : (hashing : Tree) (c : Cipher) (encrypted : List ℕ) → length (iv_of c) ≤ 16 → length (spelling hashing) ≤ 42 → length encrypted < 10 ^ 5 → length (spelling (protection_tree hashing c encrypted)) ≤ length encrypted + 120
protection_len hashing c encrypted v h e =
    let d = derivation_tree hashing (iv_of c) in
    let name = protection_name c in
    let short = name_len c in
    omega (
      arith,
      list_len (leaf protected_name ∷ leaf name ∷ d ∷ leaf encrypted ∷ []),
      size_cons (leaf protected_name) (leaf name ∷ d ∷ leaf encrypted ∷ []),
      size_cons (leaf name) (d ∷ leaf encrypted ∷ []),
      size_cons d (leaf encrypted ∷ []),
      size_cons (leaf encrypted) [],
      atom_len protected_name (omega arith),
      atom_len name (omega arith),
      derivation_len hashing (iv_of c) v h,
      atom_len encrypted e,
    )

time_len : (time : List ℕ) → length time ≤ 15 → length (flat_map spelling (time_lists (Some time))) ≤ 41
time_len time h =
    omega (arith, size_cons (list_of (leaf time_name ∷ leaf time ∷ [])) [], list_len (leaf time_name ∷ leaf time ∷ []), atoms2 time_name time, atom_len time_name (omega arith), atom_len time (omega arith))

hash_len : (digest : List ℕ) → length digest ≡ 20 → length (spelling (hash_tree digest)) ≤ 48
hash_len digest h =
    omega (
      arith,
      list_len (leaf (codes "hash") ∷ leaf hash_name ∷ leaf digest ∷ []),
      atoms3 (codes "hash") hash_name digest,
      atom_len (codes "hash") (omega arith),
      atom_len hash_name (omega arith),
      atom_len digest (omega arith),
    )

pub secret_len : (secret : List Tree) (digest : List ℕ) → length digest ≡ 20 → length (spelling (secret_tree secret (hash_tree digest))) ≤ length (flat_map spelling secret) + 52
secret_len secret digest h =
    omega (arith, list_len (list_of secret ∷ hash_tree digest ∷ []), size_cons (list_of secret) (hash_tree digest ∷ []), size_cons (hash_tree digest) [], list_len secret, hash_len digest h)

pub key_len : (key : Key) → length (spelling (key_tree key)) ≡ length (spelling (leaf (form_name key.is_clear))) + length (spelling (leaf (algorithm_name key.algorithm)))
    + length (flat_map spelling key.public) + length (flat_map spelling key.private) + length (flat_map spelling key.further) + 4
key_len key =
    let a = algorithm_list key key.private in
    omega (
      arith,
      list_len (leaf (form_name key.is_clear) ∷ a ∷ key.further),
      size_cons (leaf (form_name key.is_clear)) (a ∷ key.further),
      size_cons a key.further,
      list_len (leaf (algorithm_name key.algorithm) ∷ key.public ++ key.private),
      size_cons (leaf (algorithm_name key.algorithm)) (key.public ++ key.private),
      size_append key.public key.private,
    )

-- what is known of the parts of a protected key that is made
pub record FitsLocked (key : Key) (p : Protection) (time : Option (List ℕ)) : Type 0 where
  pub salt_len : length p.salt ≡ 8
  pub digits_len : length (numeral p.count) ≤ 10
  pub iv_short : length (iv_of p.cipher) ≤ 16
  pub encrypted_len : length p.encrypted ≤ length (flat_map spelling key.private) + 67
  pub times : length (flat_map spelling (time_lists time)) ≤ 41

pub times_len : (time : Option (List ℕ)) → IfSome time (λ t. length t ≡ 15) → length (flat_map spelling (time_lists time)) ≤ 41
times_len None h = omega arith
times_len (Some t) h = time_len t (omega arith)

pub list_some : (ts : List Tree) → 0 < length (spelling (list_of ts))
list_some ts = omega (arith, list_len ts)

pub locked_len : (key : Key) (p : Protection) (time : Option (List ℕ)) → key.is_clear ≡ true → FitsLocked key p time → length (spelling (key_tree key)) ≤ 65000 → length (spelling (key_tree (locked_by key p time))) ≤ 65536
locked_len key p time clear h short =
    let k = key_len key in
    let private-len : length (flat_map spelling key.private) ≤ 65000 = omega (arith, k) in
    let enc = h.encrypted_len in
    let times = h.times in
    let inner = protection_len (hashing_tree p.salt (numeral p.count)) p.cipher p.encrypted h.iv_short (hashing_len p.salt (numeral p.count) h.salt_len h.digits_len) (omega arith) in
    omega (arith, k, key_len (locked_by key p time), size_cons (written_protection p) (time_lists time), inner, atom_len (form_name false) (omega arith))

-- ---- depth

pub depths_le_append : (ts us : List Tree) (n : ℕ) → depths (row ts) ≤ n → depths (row us) ≤ n → depths (row (ts ++ us)) ≤ n
depths_le_append [] us n h g = g
depths_le_append (t ∷ ts) us n h g = omega (arith, depths_le_append ts us n (omega arith) g)

times_depth : (time : Option (List ℕ)) → depths (row (time_lists time)) ≤ 1
times_depth None = omega arith
times_depth (Some t) = omega arith

pub locked_depth : (key : Key) (p : Protection) (time : Option (List ℕ)) → depth (key_tree key) ≤ 64 → depth (key_tree (locked_by key p time)) ≤ 64
locked_depth key p time h =
    let front = depths_front key.public key.private in
    let public-depth : depths (row key.public) ≤ 62 = omega arith in
    let behind : depths (row (written_protection p ∷ time_lists time)) ≤ 62 = omega (arith, times_depth time) in
    omega (arith, depths_le_append key.public (written_protection p ∷ time_lists time) 62 public-depth behind)
