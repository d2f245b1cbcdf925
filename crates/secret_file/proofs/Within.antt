-- A key that is opened is within the limits of its file.
use Rattle.std.{proofs.Common.{◌≡◌, ℕ, ◌+◌, ◌≤◌, Bool, true, false, List, [], ◌∷◌, ◌++◌, length, refl, sym, ap, subst, ◌∙◌, arith, length-append}, specs.List.flat_map}
use Rattle.{sexp_canonical.specs.{Tree.{Tree, leaf, branch, list_of, row, items}, View.tree_of, Spelling.{most_bytes, most_depth, spelling, depth, depths}}, sexp_keys.specs.Names.{algorithm_name, form_name, protected_name, time_name}}
use Rattle.{sexp_keys.{specs.{Parameters.are_secret, Key.{Key, key_tree, clear_with}, Lists.{associated_list_of, hashed_list_of, key_list_of, time_lists}}, proofs.{OneName.listed, Measured.depths_front}}, sha1.specs.Sha1.sha1}
use Rattle.secret_file.specs.{Protection.{Protection, protection_name, iv_of, derivation_tree, IsProtection}, Opens.{first_of, hash_tree, secret_tree, sealed_tree, time_in, time_of, IsFile, FitsFile, LockedKey, IsLocked, OpensTo}}
use Rattle.secret_file.{specs.Steps.AreSecrets, proofs.{Fits.{list_len, size_cons, size_append, atom_len, atom_least, short_atom_len, key_len, depths_le_append}, Decrypted.flat_secret}}

pub file_fits : (file : List ℕ) (key : Key) → IsFile file key → FitsFile key
file_fits file key h =
    let same : length file ≡ length (key_list_of key) = ap length (h.read.spelled ∙ ap spelling h.is.parts) in
    let deep : depth (tree_of h.tree) ≡ depth (key_tree key) = ap depth h.is.parts in
    let short = h.read.short in
    let shallow = h.read.shallow in
    record { short = omega arith; shallow = omega arith }

-- what is encrypted is shorter than the lists in which it stands
octets_size : (private : List Tree) (p : Protection) → IsProtection (first_of private) p → length p.encrypted ≤ length (flat_map spelling private)
octets_size [] p h = absurd (let e = h.parts in cc)
octets_size (t ∷ more) p h =
    let d = derivation_tree h.hashing (iv_of p.cipher) in
    let same : length (spelling t) ≡ length (spelling (list_of (leaf protected_name ∷ leaf (protection_name p.cipher) ∷ d ∷ leaf p.encrypted ∷ []))) = ap (λ (u : Tree). length (spelling u)) h.parts in
    omega (
      arith,
      same,
      list_len (leaf protected_name ∷ leaf (protection_name p.cipher) ∷ d ∷ leaf p.encrypted ∷ []),
      size_cons (leaf protected_name) (leaf (protection_name p.cipher) ∷ d ∷ leaf p.encrypted ∷ []),
      size_cons (leaf (protection_name p.cipher)) (d ∷ leaf p.encrypted ∷ []),
      size_cons d (leaf p.encrypted ∷ []),
      size_cons (leaf p.encrypted) [],
      atom_least p.encrypted,
      size_cons t more,
    )

pub encrypted_within : (locked : LockedKey) → IsLocked locked → FitsFile locked.key → length locked.protection.encrypted ≤ most_bytes
encrypted_within locked h fits =
    let short = fits.short in
    omega (arith, octets_size locked.key.private locked.protection h.protection, key_len locked.key)

-- the secret parameters are shorter than the bytes that hold them
pub secret_size : (locked key : Key) (bytes : List ℕ) → AreSecrets locked bytes key → length (flat_map spelling key.private) ≤ length bytes
secret_size locked key bytes h =
    let hash = hash_tree (sha1 (hashed_list_of key (time_of locked.private))) in
    let more = h.spelled.more in
    omega (
      arith,
      ap (λ (k : Key). length (flat_map spelling k.private)) h.clear,
      ap length h.spelled.parts,
      length-append (spelling (secret_tree h.secret hash)) more,
      list_len (list_of h.secret ∷ hash ∷ []),
      size_cons (list_of h.secret) (hash ∷ []),
      list_len h.secret,
    )

pub sealed_size : (secret : List Tree) → length (spelling (sealed_tree secret)) ≡ length (flat_map spelling secret) + 4
sealed_size secret = omega (arith, list_len (list_of secret ∷ []), size_cons (list_of secret) [], list_len secret)

clear_short : (locked : Key) (secret : List Tree) → locked.is_clear ≡ false → length (flat_map spelling secret) ≤ length (flat_map spelling locked.private) → length (key_list_of locked) ≤ most_bytes
    → length (key_list_of (clear_with locked secret)) ≤ most_bytes
clear_short locked secret e less short =
    let letters : length (form_name locked.is_clear) ≡ 21 = ap (λ (b : Bool). length (form_name b)) e in
    omega (arith, key_len locked, key_len (clear_with locked secret), atom_least (form_name locked.is_clear), atom_len (form_name true) (omega arith), letters)

clear_shallow : (locked : Key) (secret : List Tree) → are_secret locked.algorithm secret ≡ true → depth (key_tree locked) ≤ most_depth → depth (key_tree (clear_with locked secret)) ≤ most_depth
clear_shallow locked secret names h =
    let front = depths_front locked.public locked.private in
    let public-depth : depths (row locked.public) ≤ 62 = omega arith in
    let behind : depths (row secret) ≤ 62 = omega (arith, flat_secret locked.algorithm secret names) in
    omega (arith, depths_le_append locked.public secret 62 public-depth behind)

pub fits_opened : (locked : LockedKey) (pass : List ℕ) (key : Key) → IsLocked locked → FitsFile locked.key → OpensTo locked pass key → length (flat_map spelling key.private) ≤ length locked.protection.encrypted → FitsFile key
fits_opened locked pass key is fits h size =
    let less : length (flat_map spelling h.secret) ≤ length (flat_map spelling locked.key.private) =
    omega (arith, octets_size locked.key.private locked.protection is.protection, ap (λ (k : Key). length (flat_map spelling k.private)) h.clear) in
    subst FitsFile (sym h.clear) (record {
      short = clear_short locked.key h.secret is.protected less fits.short;
      shallow = clear_shallow locked.key h.secret h.names fits.shallow;
    })

-- ---- the associated data

time_size : (t : Tree) (ts : List Tree) → items t ≡ ts → length (flat_map spelling (time_lists (time_in ts))) ≤ length (spelling t) + 15
time_size t [] e = omega arith
time_size t (name ∷ []) e = omega arith
time_size t (name ∷ branch r ∷ more) e = omega arith
time_size t (name ∷ leaf time ∷ more) e =
    omega (
      arith,
      ap (λ (u : Tree). length (spelling u)) (listed t name (leaf time ∷ more) e),
      list_len (name ∷ leaf time ∷ more),
      size_cons name (leaf time ∷ more),
      size_cons (leaf time) more,
      list_len (leaf time_name ∷ leaf time ∷ []),
      size_cons (leaf time_name) (leaf time ∷ []),
      size_cons (leaf time) [],
      size_cons (list_of (leaf time_name ∷ leaf time ∷ [])) [],
      short_atom_len time_name (omega arith),
    )

times_size : (private : List Tree) → length (flat_map spelling (time_lists (time_of private))) ≤ length (flat_map spelling private) + 15
times_size [] = omega arith
times_size (p ∷ []) = omega arith
times_size (p ∷ t ∷ more) = omega (arith, time_size t (items t) refl, size_cons p (t ∷ more), size_cons t more)

form_least : (is_clear : Bool) → 11 ≤ length (form_name is_clear)
form_least true = omega arith
form_least false = omega arith

-- the associated data is shorter than the list of the key
pub associated_short : (key : Key) → length (associated_list_of key (time_of key.private)) ≤ length (key_list_of key)
associated_short key =
    let times = time_lists (time_of key.private) in
    omega (
      arith,
      key_len key,
      times_size key.private,
      atom_least (form_name key.is_clear),
      form_least key.is_clear,
      list_len (leaf (algorithm_name key.algorithm) ∷ key.public ++ times),
      size_cons (leaf (algorithm_name key.algorithm)) (key.public ++ times),
      size_append key.public times,
    )
