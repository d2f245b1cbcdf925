-- The lists of a key that are hashed, sent and written (agent/keyformat.txt), and its grip.
use Rattle.std.specs.Prelude.{ℕ, List, [], ◌∷◌, ◌++◌, codes, Option, Some, None}
use Rattle.{sha1.specs.Sha1.sha1, sexp_canonical.specs.{Tree.{Tree, leaf, list_of}, Spelling.spelling}}
use Rattle.sexp_keys.specs.{Names.time_name, Key.{Key, algorithm_list, key_tree}}

-- `(public-key (alg public..))`
abbrev pub public_list_of : Key → List ℕ
public_list_of key = spelling (list_of (leaf (codes "public-key") ∷ algorithm_list key [] ∷ []))

-- the key itself: of a clear one `(private-key (alg public.. secret..) further..)`
abbrev pub key_list_of : Key → List ℕ
key_list_of key = spelling (key_tree key)

-- `(protected-at time)`, where there is a time
abbrev pub time_lists : Option (List ℕ) → List Tree
time_lists None = []
time_lists (Some time) = list_of (leaf time_name ∷ leaf time ∷ []) ∷ []

-- `(alg public.. behind..)`, with the time of a protection last
abbrev pub timed_list_of : Key → List Tree → Option (List ℕ) → List ℕ
timed_list_of key behind time = spelling (algorithm_list key (behind ++ time_lists time))

-- `(alg public.. secret..)` of a clear key, with the time of its protection last
abbrev pub hashed_list_of : Key → Option (List ℕ) → List ℕ
hashed_list_of key time = timed_list_of key key.private time

-- `(alg public..)`, with the time of its protection last
abbrev pub associated_list_of : Key → Option (List ℕ) → List ℕ
associated_list_of key time = timed_list_of key [] time

-- the grip is the SHA-1 of the public list
abbrev pub grip_of : Key → List ℕ
grip_of key = sha1 (public_list_of key)
