use Rattle.std.proofs.Common.{◌≡◌, ◌≤◌, List, [], ◌∷◌, length, ap, arith}
use Rattle.sexp_canonical.specs.{Tree.{Tree, list_of}, View.tree_of, Spelling.{depth, most_depth, spelling}, declared.tree.Sexp.TheVariants.List as Listed}
use Rattle.secret_file.{specs.Opens.sealed_tree, proofs.{Decrypted.none_more, Unsealing.{sealed_read, whole_read}}}
use Rattle.secret_file.proofs.sealed.sealed_list.Goals as goal

pub returns-in_default-clause-none : goal.returns-in_default-clause-none
returns-in_default-clause-none c = λ secret shallow e.
    let read = sealed_read c.args.bytes.now c.in_ok-read.read c.in_ok-read.ensures.again c.requires secret shallow e in
    let none = c.in_default.is in
    cc

pub returns-then-len-bytes-clause-none : goal.returns-then-len-bytes-clause-none
returns-then-len-bytes-clause-none c = λ secret shallow e.
    let pair = whole_read c.in_ok-read.read c.in-Some.tree (Listed (list_of secret ∷ [])) c.in-Some.len (length c.args.bytes.now) c.in-Some.is
    (sealed_read c.args.bytes.now c.in_ok-read.read c.in_ok-read.ensures.again c.requires secret shallow e) in
    let same : c.in-Some.len ≡ length c.args.bytes.now = pair.1 in
    omega arith

pub returns-clause-none : goal.returns-clause-none
returns-clause-none c =
    none_more c.one_list.result ((secret : List Tree) → tree_of c.in-Some.tree ≡ sealed_tree secret → ⊥)
    ((secret : List Tree) → depth (sealed_tree secret) ≤ most_depth → c.args.bytes.now ≡ spelling (sealed_tree secret) → ⊥)
    (λ none secret shallow e. none secret (ap tree_of (whole_read c.in_ok-read.read c.in-Some.tree (Listed (list_of secret ∷ [])) c.in-Some.len (length c.args.bytes.now) c.in-Some.is
    (sealed_read c.args.bytes.now c.in_ok-read.read c.in_ok-read.ensures.again c.requires secret shallow e)).0))
    c.one_list.ensures.none
