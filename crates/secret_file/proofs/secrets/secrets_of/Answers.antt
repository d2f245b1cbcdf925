use Rattle.std.proofs.Common.{◌≡◌, ◌≤◌, ◌<◌, ◌-◌, List, [], ◌∷◌, length, arith}
use Rattle.sexp_canonical.specs.{Tree.{Tree, list_of}, View.tree_of, Spelling.{depth, most_depth, spelling}, declared.tree.Sexp.TheVariants.List as Listed}
use Rattle.secret_file.{specs.Opens.{secret_tree, AreSpelled}, proofs.Decrypted.{secret_read, not_padded, not_two, padded_is, some_more, none_more}}
use Rattle.secret_file.proofs.secrets.secrets_of.Goals as goal

pub returns-in_default-clause-none : goal.returns-in_default-clause-none
returns-in_default-clause-none c = λ secret hash shallow h.
    let read = secret_read c.args.bytes.now c.in_ok-read.read c.in_ok-read.ensures.again c.requires secret hash shallow h in
    let none = c.in_default.is in
    cc

pub returns-then-bytes-len-gt-MAX_PADDING-clause-none : goal.returns-then-bytes-len-gt-MAX_PADDING-clause-none
returns-then-bytes-len-gt-MAX_PADDING-clause-none c = λ secret hash shallow h.
    let long : 16 < length c.args.bytes.now - c.in-Some.len = omega arith in
    not_padded c.args.bytes.now c.in_ok-read.read c.in-Some.tree c.in-Some.len c.in-Some.is long (Listed (list_of secret ∷ hash ∷ [])) secret hash
    (secret_read c.args.bytes.now c.in_ok-read.read c.in_ok-read.ensures.again c.requires secret hash shallow h) h

pub returns-clause-found : goal.returns-clause-found
returns-clause-found c =
    let few : length c.args.bytes.now - c.in-Some.len ≤ 16 = omega arith in
    some_more c.two_lists.result (λ s. tree_of c.in-Some.tree ≡ secret_tree s.secret (tree_of s.hash)) (λ s. AreSpelled c.args.bytes.now (secret_tree s.secret (tree_of s.hash)))
    (λ s e. padded_is c.args.bytes.now c.in-Some.tree c.in-Some.len (secret_tree s.secret (tree_of s.hash)) (rw c.in-Some.is at c.in_ok-read.ensures.found) few e)
    c.two_lists.ensures.found

pub returns-clause-none : goal.returns-clause-none
returns-clause-none c =
    none_more c.two_lists.result ((secret : List Tree) (hash : Tree) → tree_of c.in-Some.tree ≡ secret_tree secret hash → ⊥)
    ((secret : List Tree) (hash : Tree) → depth (secret_tree secret hash) ≤ most_depth → AreSpelled c.args.bytes.now (secret_tree secret hash) → ⊥)
    (λ none secret hash shallow h. none secret hash (not_two c.in_ok-read.read c.in-Some.tree c.in-Some.len (length (spelling (secret_tree secret hash))) c.in-Some.is secret hash
    (secret_read c.args.bytes.now c.in_ok-read.read c.in_ok-read.ensures.again c.requires secret hash shallow h)))
    c.two_lists.ensures.none
