use Rattle.std.proofs.Common.{◌∷◌, [], ap, ◌∙◌, rules}
use Rattle.sexp_canonical.specs.{Tree.{leaf, items}, View.{tree_of, trees}}
use Rattle.secret_file.{specs.Protection.{protection_name, iv_of, derivation_tree}, proofs.Shapes.{has_parts, protection_is, no_derivation, no_cipher, no_hashing, no_octets}}
use Rattle.secret_file.proofs.protection.shaped.Goals as goal

pub returns-in_err-behind-clause-none : goal.returns-in_err-behind-clause-none
returns-in_err-behind-clause-none c =
    rw c.from_residual.ensures (λ p h.
    c.in_err-behind.ensures.none (leaf (protection_name p.cipher) ∷ derivation_tree h.hashing (iv_of p.cipher) ∷ leaf p.encrypted ∷ []) (c.items.ensures ∙ ap items h.parts))

pub returns-in_err-hashing-clause-none : goal.returns-in_err-hashing-clause-none
returns-in_err-hashing-clause-none c =
    rw c.from_residual-in_err-hashing.ensures (λ p h. no_derivation (tree_of c.args.list.now) c.in_ok-name.name.now (tree_of c.in_ok-derivation.derivation.now) c.in_ok-encrypted.encrypted.now p
    (has_parts (tree_of c.args.list.now) (trees c.items.result.now) (trees c.in_ok-behind.behind.now) (trees c.in_ok-name.behind.now) (trees c.in_ok-derivation.behind.now) c.in_ok-name.name.now
    (tree_of c.in_ok-derivation.derivation.now) c.in_ok-encrypted.encrypted.now c.items.ensures c.in_ok-behind.ensures.found c.in_ok-name.ensures.found c.in_ok-derivation.ensures.found c.in_ok-encrypted.ensures.found)
    c.in_err-hashing.ensures.none h)

pub returns-in_err-cipher-clause-none : goal.returns-in_err-cipher-clause-none
returns-in_err-cipher-clause-none c =
    rw c.from_residual-in_err-cipher.ensures (λ p h. no_cipher (tree_of c.args.list.now) c.in_ok-name.name.now (tree_of c.in_ok-derivation.derivation.now) c.in_ok-encrypted.encrypted.now
    (tree_of c.in_ok-hashing.hashing.now) c.in_ok-hashing.iv.now p
    (has_parts (tree_of c.args.list.now) (trees c.items.result.now) (trees c.in_ok-behind.behind.now) (trees c.in_ok-name.behind.now) (trees c.in_ok-derivation.behind.now) c.in_ok-name.name.now
    (tree_of c.in_ok-derivation.derivation.now) c.in_ok-encrypted.encrypted.now c.items.ensures c.in_ok-behind.ensures.found c.in_ok-name.ensures.found c.in_ok-derivation.ensures.found c.in_ok-encrypted.ensures.found)
    c.in_ok-hashing.ensures.found c.in_err-cipher.ensures.none h)

pub returns-in_err-salt-clause-none : goal.returns-in_err-salt-clause-none
returns-in_err-salt-clause-none c =
    rw c.from_residual-in_err-salt.ensures (λ p h. no_hashing (tree_of c.args.list.now) c.in_ok-name.name.now (tree_of c.in_ok-derivation.derivation.now) (tree_of c.in_ok-hashing.hashing.now) c.in_ok-encrypted.encrypted.now
    c.in_ok-hashing.iv.now p
    (has_parts (tree_of c.args.list.now) (trees c.items.result.now) (trees c.in_ok-behind.behind.now) (trees c.in_ok-name.behind.now) (trees c.in_ok-derivation.behind.now) c.in_ok-name.name.now
    (tree_of c.in_ok-derivation.derivation.now) c.in_ok-encrypted.encrypted.now c.items.ensures c.in_ok-behind.ensures.found c.in_ok-name.ensures.found c.in_ok-derivation.ensures.found c.in_ok-encrypted.ensures.found)
    c.in_ok-hashing.ensures.found c.in_err-salt.ensures.none h)

pub returns-then-not-are_octets-clause-none : goal.returns-then-not-are_octets-clause-none
returns-then-not-are_octets-clause-none c = λ p h.
    no_octets (tree_of c.args.list.now) c.in_ok-name.name.now (tree_of c.in_ok-derivation.derivation.now) c.in_ok-encrypted.encrypted.now (tree_of c.in_ok-hashing.hashing.now) c.in_ok-hashing.iv.now c.in_ok-cipher.cipher p
    (has_parts (tree_of c.args.list.now) (trees c.items.result.now) (trees c.in_ok-behind.behind.now) (trees c.in_ok-name.behind.now) (trees c.in_ok-derivation.behind.now) c.in_ok-name.name.now
    (tree_of c.in_ok-derivation.derivation.now) c.in_ok-encrypted.encrypted.now c.items.ensures c.in_ok-behind.ensures.found c.in_ok-name.ensures.found c.in_ok-derivation.ensures.found c.in_ok-encrypted.ensures.found)
    c.in_ok-hashing.ensures.found c.in_ok-cipher.ensures.found (λ octets. let yes = c.are_octets.ensures.1 octets in cc) h

pub returns-clause-found : goal.returns-clause-found
returns-clause-found c =
    protection_is (tree_of c.args.list.now) (tree_of c.in_ok-derivation.derivation.now) (tree_of c.in_ok-hashing.hashing.now) c.in_ok-name.name.now c.in_ok-hashing.iv.now
    (record { salt = c.in_ok-salt.salt; count = c.in_ok-salt.count; cipher = c.in_ok-cipher.cipher; encrypted = c.in_ok-encrypted.encrypted.now })
    (has_parts (tree_of c.args.list.now) (trees c.items.result.now) (trees c.in_ok-behind.behind.now) (trees c.in_ok-name.behind.now) (trees c.in_ok-derivation.behind.now) c.in_ok-name.name.now
    (tree_of c.in_ok-derivation.derivation.now) c.in_ok-encrypted.encrypted.now c.items.ensures c.in_ok-behind.ensures.found c.in_ok-name.ensures.found c.in_ok-derivation.ensures.found c.in_ok-encrypted.ensures.found)
    c.in_ok-hashing.ensures.found c.in_ok-cipher.ensures.found c.in_ok-salt.ensures.found (c.are_octets.ensures.0 (search rules))
