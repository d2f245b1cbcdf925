-- Key files as a map, and as the entries of a tree.
use Rattle.std.proofs.{Common.{◌≡◌, ◌≤◌, ℕ, length, List, [], ◌∷◌, map, cond, Option, Some, None, IsSome, refl, sym, ap, ◌∙◌, arith}, lemmas.{Cmp.{on_total, nat_list_cmp_total}, Map.{Lookups.exact_bytes, Keys.{sorted_head, sorted_tail}}}}
use Rattle.std.specs.{BTreeMap.is_at, Cmp.{IsTotalOrder, eq_by_cmp_equiv}}
use Rattle.std.specs.{FinMap.{FinMap, IsAntisymmetric, find, get, empty, insert, remove, entries, keys, get-from_entries, get-insert, get-remove, same_map, entries-insert, len-empty, len-entries, put, Entries.by_order}, List.AllByRecursion}
use Rattle.std.specs.{List.Sorted.IsStrictlySortedBy, Map.{keys_of, lookup}, declared.cmp.Ordering.TheVariants.Less}
use Rattle.agent_ports.specs.{declared.{grip.Grip.Grip, keys.KeyDone.TheVariants.{Done, Absent}}, KeyFiles.{KeyFiles, RemovesKey, grip_cmp}, Mem.Keys.files_of}

same_grips : IsAntisymmetric grip_cmp
same_grips a b tie = ap (λ (bytes : List ℕ). record { 0 = bytes }) (exact_bytes a.0 b.0 tie)

grips_total : IsTotalOrder grip_cmp
grips_total = on_total (λ g. g.0) nat_list_cmp_total

-- the bytes under a grip among the entries
abbrev file_at : List (Grip × List ℕ) → Grip → Option (List ℕ)
file_at es grip = lookup (is_at (grip_cmp grip)) es

find_file : (es : List (Grip × List ℕ)) (q : Grip) → find grip_cmp q es ≡ file_at es q
find_file [] q = refl
find_file (e ∷ es) q = ap (cond (is_at (grip_cmp q) e.0) (Some e.1)) (find_file es q)

-- the map has what the entries have
pub get_file : (es : List (Grip × List ℕ)) (q : Grip) → get (files_of es) q ≡ lookup (is_at (grip_cmp q)) es
get_file es q = get-from_entries grips_total es q ∙ find_file es q

-- entries that differ at one grip make maps that differ there
pub file_inserted : (es fs : List (Grip × List ℕ)) (g : Grip) (file : List ℕ)
    → ((q : Grip) → file_at fs q ≡ cond (is_at (grip_cmp g) q) (Some file) (file_at es q)) → files_of fs ≡ insert (files_of es) g file
file_inserted es fs g file h = same_map grips_total same_grips _ _ (λ q.
    get_file fs q ∙ h q ∙ ap (λ b. cond b (Some file) (file_at es q)) ((eq_by_cmp_equiv grips_total).symm g q)
    ∙ sym (get-insert grips_total (files_of es) g file q ∙ ap (cond (is_at (grip_cmp q) g) (Some file)) (get_file es q)))

pub file_removed : (es fs : List (Grip × List ℕ)) (g : Grip)
    → ((q : Grip) → file_at fs q ≡ cond (is_at (grip_cmp g) q) None (file_at es q)) → files_of fs ≡ remove (files_of es) g
file_removed es fs g h = same_map grips_total same_grips _ _ (λ q.
    get_file fs q ∙ h q ∙ ap (λ b. cond b None (file_at es q)) ((eq_by_cmp_equiv grips_total).symm g q)
    ∙ sym (get-remove grips_total (files_of es) g q ∙ ap (cond (is_at (grip_cmp q) g) None) (get_file es q)))

put_first : (es : List (Grip × List ℕ)) (g : Grip) (file : List ℕ) → AllByRecursion (λ other. grip_cmp g other ≡ Less) (keys_of es)
    → put grip_cmp g file es ≡ (g, file) ∷ es
put_first [] g file below = refl
put_first (e ∷ es) g file below = ap (λ o. by_order o ((g, file) ∷ e ∷ es) ((e.0, file) ∷ es) (e ∷ put grip_cmp g file es)) below.0

no_entries : (es : List (Grip × List ℕ)) → length es ≡ 0 → es ≡ []
no_entries [] none = refl
no_entries (e ∷ es) none = absurd (omega arith)

sorted_entries : (es : List (Grip × List ℕ)) → IsStrictlySortedBy grip_cmp (keys_of es) → entries (files_of es) ≡ es
sorted_entries [] sorted = no_entries (entries empty) (sym (len-entries empty) ∙ len-empty grip_cmp (List ℕ))
sorted_entries (e ∷ es) sorted =
    entries-insert grips_total (files_of es) e.0 e.1
    ∙ ap (put grip_cmp e.0 e.1) (sorted_entries es (sorted_tail grip_cmp e.0 (keys_of es) sorted))
    ∙ put_first es e.0 e.1 (sorted_head grip_cmp e.0 (keys_of es) sorted)

-- the keys of the map are those of the entries, where these are sorted
pub keys_listed : (es : List (Grip × List ℕ)) → IsStrictlySortedBy grip_cmp (keys_of es) → keys_of es ≡ keys (files_of es)
keys_listed es sorted = sym (ap (map (λ e. e.0)) (sorted_entries es sorted))

-- keys whose files are known
abbrev pub known_keys : FinMap grip_cmp (List ℕ) → ℕ → KeyFiles
known_keys files faults = record { files = Some files; folder = None; faults = faults }

pub removes_key : (files now : FinMap grip_cmp (List ℕ)) (grip : Grip) (before after : ℕ) → now ≡ remove files grip → IsSome (get files grip) → before ≤ after
    → RemovesKey (known_keys files before) grip Done (known_keys now after)
removes_key files now grip before after removed had risen = record {
  changes = record {
    changed = λ _. ap (λ files. Some files) removed;
    unchanged = λ other. absurd (other refl);
    folder = refl;
    failed = λ failed. absurd (cc failed);
    never_falls = risen;
  };
  had = λ _. had;
  absent = λ absent. absurd (cc absent);
}

pub lacks_key : (files now : FinMap grip_cmp (List ℕ)) (grip : Grip) (before after : ℕ) → now ≡ files → get files grip ≡ None → before ≤ after
    → RemovesKey (known_keys files before) grip Absent (known_keys now after)
lacks_key files now grip before after same none risen = record {
  changes = record {
    changed = λ done. absurd (cc done);
    unchanged = λ _. ap (λ files. Some files) same;
    folder = refl;
    failed = λ failed. absurd (cc failed);
    never_falls = risen;
  };
  had = λ done. absurd (cc done);
  absent = λ _. none;
}
