use Rattle.std.proofs.Common.{◌≡◌, true, false, ap, ◌∙◌}
use Rattle.{sha1.specs.Sha1.sha1, sexp_canonical.specs.View.tree_of, sexp_keys.specs.Lists.hashed_list_of}
use Rattle.secret_file.{specs.Opens.time_of, proofs.Decrypted.{not_spelled, other_names, other_digest}}
use Rattle.secret_file.proofs.secrets.clear_key.Goals as goal

never : false ≡ true → ⊥
never e = cc

pub returns-in_default-clause-none : goal.returns-in_default-clause-none
returns-in_default-clause-none c = λ key h. not_spelled c.args.locked.now key c.args.bytes.now (rw c.in_default.is at c.in_ok-secrets.ensures.none) h

pub returns-in_default-found-clause-none : goal.returns-in_default-found-clause-none
returns-in_default-found-clause-none c = λ key h.
    other_names c.args.locked.now key c.args.bytes.now c.in-Some.secrets.secret (tree_of c.in-Some.secrets.hash) (rw c.in-Some.is at c.in_ok-secrets.ensures.found)
    (λ names. never (rw c.in_default-found.is at (c.in_ok-found.ensures.found.1 names))) h

pub returns-then-not-is_hash-clause-none : goal.returns-then-not-is_hash-clause-none
returns-then-not-is_hash-clause-none c = λ key h.
    other_digest c.args.locked.now key c.in-Some-found.key c.args.bytes.now c.in-Some.secrets.secret (tree_of c.in-Some.secrets.hash) c.in_ok-digest.digest (rw c.in-Some.is at c.in_ok-secrets.ensures.found)
    (rw c.in-Some-found.is at c.in_ok-found.ensures.key)
    (c.in_ok-digest.ensures.digest ∙ ap (λ t. sha1 (hashed_list_of c.in-Some-found.key t)) (c.time_of.ensures ∙ ap time_of c.private.ensures))
    (λ e. let yes = c.is_hash.ensures.1 e in cc) h
