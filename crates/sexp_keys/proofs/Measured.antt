-- How many bytes a key's list has, and how deep its parts are.
use Rattle.std.{proofs.{Common.{◌≡◌, ℕ, ◌+◌, ◌<◌, ◌≤◌, Bool, true, false, List, [], ◌∷◌, ◌++◌, length, ap, ◌∙◌, arith, length-append}, Math.Nat.lt_of_not-le, lemmas.{Grind.flat_map-append, List.Concat.flat_map-cons}}, specs.List.flat_map}
use Rattle.sexp_canonical.{specs.{Tree.{Tree, leaf, list_of, row}, Spelling.{most_bytes, most_depth, numeral, spelling, depth, depths}}, proofs.{Measured.size, Numerals.length_numeral, Trees.spelled_list}}
use Rattle.sexp_keys.specs.{Names.{algorithm_name, form_name}, Key.{Key, algorithm_list, key_tree}, Lists.key_list_of, declared.algorithm.Algorithm.{Algorithm, TheVariants.{Rsa, Dsa, Elg, Ecc}}}

size_list : (ts : List Tree) → length (spelling (list_of ts)) ≡ size ts + 2
size_list ts = omega (arith, ap length (spelled_list ts), length-append (flat_map spelling ts) (41 ∷ []))

size_cons : (t : Tree) (ts : List Tree) → size (t ∷ ts) ≡ length (spelling t) + size ts
size_cons t ts = ap length (flat_map-cons spelling t ts) ∙ length-append (spelling t) (flat_map spelling ts)

size_append : (ts us : List Tree) → size (ts ++ us) ≡ size ts + size us
size_append ts us = ap length (flat_map-append spelling ts us) ∙ length-append (flat_map spelling ts) (flat_map spelling us)

abbrev pub names_size : Key → ℕ
names_size key = length (spelling (leaf (form_name key.is_clear))) + length (spelling (leaf (algorithm_name key.algorithm)))

pub key_size : (key : Key) → length (key_list_of key) ≡ names_size key + size key.public + size key.private + size key.further + 4
key_size key =
    let form = leaf (form_name key.is_clear) in
    let name = leaf (algorithm_name key.algorithm) in
    let inner = algorithm_list key key.private in
    omega (
      arith,
      size_list (form ∷ inner ∷ key.further),
      size_cons form (inner ∷ key.further),
      size_cons inner key.further,
      size_list (name ∷ key.public ++ key.private),
      size_cons name (key.public ++ key.private),
      size_append key.public key.private,
    )

-- the names' bytes and those of the parts, as they are counted, make the key's
pub names_measured : {n m : ℕ} {form name : List ℕ} (key parts : Key) → parts ≡ key → n ≡ length (spelling (leaf form)) → m ≡ length (spelling (leaf name)) → form ≡ form_name parts.is_clear → name ≡ algorithm_name parts.algorithm
    → n + m ≡ names_size key
names_measured key parts same n-is m-is form-is name-is =
    let form-len = ap (λ (bytes : List ℕ). length (spelling (leaf bytes))) (form-is ∙ ap (λ (k : Key). form_name k.is_clear) same) in
    let name-len = ap (λ (bytes : List ℕ). length (spelling (leaf bytes))) (name-is ∙ ap (λ (k : Key). algorithm_name k.algorithm) same) in
    omega (arith, n-is, m-is, form-len, name-len)

pub list_measured : {names a b d : ℕ} {public private further : List Tree} (key parts : Key) → parts ≡ key → names ≡ names_size key → a ≡ size public → b ≡ size private → d ≡ size further
    → public ≡ parts.public → private ≡ parts.private → further ≡ parts.further → names + a + b + d + 4 ≡ length (key_list_of key)
list_measured key parts same names-is a-is b-is d-is public-is private-is further-is =
    let public-len = ap size (public-is ∙ ap (λ (k : Key). k.public) same) in
    let private-len = ap size (private-is ∙ ap (λ (k : Key). k.private) same) in
    let further-len = ap size (further-is ∙ ap (λ (k : Key). k.further) same) in
    omega (arith, key_size key, names-is, a-is, b-is, d-is, public-len, private-len, further-len)

-- ---- names are short

short_atom : (bytes : List ℕ) → length bytes < 100 → length (spelling (leaf bytes)) < 104
short_atom bytes h = omega (arith, length-append (numeral (length bytes)) (58 ∷ bytes), length_numeral 1 (length bytes) (omega arith))

short_form : (is_clear : Bool) → length (form_name is_clear) < 100
short_form true = omega arith
short_form false = omega arith

short_algorithm : (a : Algorithm) → length (algorithm_name a) < 100
short_algorithm Rsa = omega arith
short_algorithm Dsa = omega arith
short_algorithm Elg = omega arith
short_algorithm Ecc = omega arith

pub short_names : (key : Key) → names_size key < 208
short_names key = omega (
  arith,
  short_atom (form_name key.is_clear) (short_form key.is_clear),
  short_atom (algorithm_name key.algorithm) (short_algorithm key.algorithm),
)

-- ---- a part that doesn't fit makes the key too long, where the key is shallow

pub depths_front : (ts us : List Tree) → depths (row ts) ≤ depths (row (ts ++ us))
depths_front [] us = omega arith
depths_front (t ∷ ts) us = omega (arith, depths_front ts us)

depths_behind : (ts us : List Tree) → depths (row us) ≤ depths (row (ts ++ us))
depths_behind [] us = omega arith
depths_behind (t ∷ ts) us = omega (arith, depths_behind ts us)

-- the part isn't within the limits of an expression
abbrev pub IsUnfit : List Tree → Type 0
IsUnfit ts = ((depths (row ts) ≤ most_depth) × (size ts ≤ most_bytes)) → ⊥

part_long : (ts : List Tree) → IsUnfit ts → depths (row ts) ≤ most_depth → most_bytes < size ts
part_long ts unfit shallow = lt_of_not-le (λ short. unfit (shallow, short))

pub public_long : (key : Key) → IsUnfit key.public → depth (key_tree key) ≤ most_depth → most_bytes < length (key_list_of key)
public_long key unfit shallow =
    let within : depths (row key.public) ≤ most_depth = omega (arith, shallow, depths_front key.public key.private) in
    omega (arith, key_size key, part_long key.public unfit within)

pub private_long : (key : Key) → IsUnfit key.private → depth (key_tree key) ≤ most_depth → most_bytes < length (key_list_of key)
private_long key unfit shallow =
    let within : depths (row key.private) ≤ most_depth = omega (arith, shallow, depths_behind key.public key.private) in
    omega (arith, key_size key, part_long key.private unfit within)

pub further_long : (key : Key) → IsUnfit key.further → depth (key_tree key) ≤ most_depth → most_bytes < length (key_list_of key)
further_long key unfit shallow =
    let within : depths (row key.further) ≤ most_depth = omega (arith, shallow) in
    omega (arith, key_size key, part_long key.further unfit within)
