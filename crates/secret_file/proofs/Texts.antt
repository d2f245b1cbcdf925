-- The text that is encrypted.
use Rattle.std.{proofs.{Common.{◌≡◌, ℕ, ◌+◌, ◌≤◌, List, [], ◌∷◌, ◌++◌, length, Option, sym, ap, ◌∙◌, arith, append_assoc}, lemmas.List.{append-nil, Concat.flat_map-cons}}, specs.List.flat_map}
use Rattle.{sha1.specs.Sha1.sha1, sexp_canonical.{specs.{Tree.{Tree, list_of}, Spelling.spelling}, proofs.WrittenLists.list_written}, sexp_keys.specs.{Key.Key, Lists.hashed_list_of}}
use Rattle.secret_file.{specs.{Opens.{hash_tree, secret_tree}, Protects.secret_text}, proofs.Fits.secret_len}

two_written : (t0 t1 t2 : List ℕ) (a b : Tree) → t1 ≡ t0 ++ spelling a → t2 ≡ t1 ++ spelling b → t2 ≡ t0 ++ flat_map spelling (a ∷ b ∷ [])
two_written t0 t1 t2 a b e f =
    f ∙ ap (λ (s : List ℕ). s ++ spelling b) e ∙ append_assoc t0 (spelling a) (spelling b)
    ∙ ap (λ (s : List ℕ). t0 ++ s) (sym (flat_map-cons spelling a (b ∷ []) ∙ ap (λ (s : List ℕ). spelling a ++ s) (flat_map-cons spelling b [] ∙ append-nil (spelling b))))

pub text_written : (key : Key) (time : Option (List ℕ)) (digest : List ℕ) (t0 t1 t2 t3 t4 : List ℕ) (ts : List Tree) → digest ≡ sha1 (hashed_list_of key time) → t0 ≡ []
    → t1 ≡ t0 ++ 40 ∷ [] → t2 ≡ t1 ++ spelling (list_of ts) → ts ≡ key.private → t3 ≡ t2 ++ spelling (hash_tree digest) → t4 ≡ t3 ++ 41 ∷ [] → t4 ≡ secret_text key time
text_written key time digest t0 t1 t2 t3 t4 ts d e0 e1 e2 p e3 e4 =
    list_written t0 t1 t3 t4 (list_of ts ∷ hash_tree digest ∷ []) e1 (two_written t1 t2 t3 (list_of ts) (hash_tree digest) e2 e3) e4
    ∙ ap (λ (s : List ℕ). s ++ spelling (secret_tree ts (hash_tree digest))) e0
    ∙ ap (λ (us : List Tree). spelling (secret_tree us (hash_tree digest))) p ∙ ap (λ (s : List ℕ). spelling (secret_tree key.private (hash_tree s))) d

pub text_len : (key : Key) (time : Option (List ℕ)) (digest text : List ℕ) → digest ≡ sha1 (hashed_list_of key time) → length digest ≡ 20 → text ≡ secret_text key time → length text ≤ length (flat_map spelling key.private) + 52
text_len key time digest text d len e = omega (arith, ap length e, secret_len key.private (sha1 (hashed_list_of key time)) (ap length (sym d) ∙ len))
