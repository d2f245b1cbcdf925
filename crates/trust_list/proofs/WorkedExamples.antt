-- The definitions on worked examples, each by computation.
use Rattle.std.{proofs.Common.{◌≡◌, ℕ, true, false, List, [], ◌∷◌, ◌++◌, length, replicate, Some, None, refl, ap, arith, length-append}, specs.Prelude.{codes, map, Option, Bool}}
use Rattle.hex.{specs.Hex.{encode_with, upper_digits}, proofs.HexLemmas.length-encode_with}
use Rattle.trust_list.specs.Trust.{entry, missing_end, trust, with_entry}

-- the fingerprint of forty times `A`
abbrev certificate : List ℕ
certificate = replicate 20 170

-- files, and what they say of the certificate
abbrev files : List (List ℕ × Option Bool)
files =
    ([], None)  -- silent file
    ∷ (codes "AAAAAAAAAAAAAAAAAAAAAAAAAAAAAAAAAAAAAAAA S", Some true)  -- entry without a line feed
    ∷ (codes "aaaaaaaaaaaaaaaaaaaaaaaaaaaaaaaaaaaaaaaa P", Some true)  -- lowercase digits
    ∷ (codes "AA:AA:AA:AA:AA:AA:AA:AA:AA:AA:AA:AA:AA:AA:AA:AA:AA:AA:AA:AA *", Some true)  -- colons between all pairs
    ∷ (codes "AAAA:AAAAAAAAAAAAAAAAAAAAAAAAAAAAAAAAAAAA S", Some true)  -- one colon alone
    ∷ (codes "AAA:AAAAAAAAAAAAAAAAAAAAAAAAAAAAAAAAAAAAA S", None)  -- colon inside a pair
    ∷ (codes "AAAA::AAAAAAAAAAAAAAAAAAAAAAAAAAAAAAAAAAAA S", None)  -- two colons
    ∷ (codes ":AAAAAAAAAAAAAAAAAAAAAAAAAAAAAAAAAAAAAAAA S", None)  -- colon in front
    ∷ (codes "AAAAAAAAAAAAAAAAAAAAAAAAAAAAAAAAAAAAAAAA: S", None)  -- colon behind
    ∷ (codes "AAAAAAAAAAAAAAAAAAAAAAAAAAAAAAAAAAAAAAA S", None)  -- one digit missing
    ∷ (codes "AAAAAAAAAAAAAAAAAAAAAAAAAAAAAAAAAAAAAAAAAA S", None)  -- two digits more
    ∷ (codes "!AAAAAAAAAAAAAAAAAAAAAAAAAAAAAAAAAAAAAAAA S", Some false)  -- not trusted
    ∷ (codes "! AAAAAAAAAAAAAAAAAAAAAAAAAAAAAAAAAAAAAAAA S", None)  -- blank behind the mark
    ∷ (codes "#AAAAAAAAAAAAAAAAAAAAAAAAAAAAAAAAAAAAAAAA S", None)  -- comment
    ∷ (32 ∷ 9 ∷ codes "AAAAAAAAAAAAAAAAAAAAAAAAAAAAAAAAAAAAAAAA" ++ 9 ∷ 32 ∷ codes "S relax # x", Some true)  -- blanks and further words
    ∷ (codes "AAAAAAAAAAAAAAAAAAAAAAAAAAAAAAAAAAAAAAAA ", None)  -- no flag
    ∷ (codes "AAAAAAAAAAAAAAAAAAAAAAAAAAAAAAAAAAAAAAAA s", None)  -- lowercase flag
    ∷ (codes "AAAAAAAAAAAAAAAAAAAAAAAAAAAAAAAAAAAAAAAA SP", None)  -- flags in one word
    ∷ (codes "AAAAAAAAAAAAAAAAAAAAAAAAAAAAAAAAAAAAAAAA S" ++ 13 ∷ 10 ∷ [], None)  -- return behind the flag
    ∷ (codes "!AAAAAAAAAAAAAAAAAAAAAAAAAAAAAAAAAAAAAAAA S" ++ 10 ∷ codes "AAAAAAAAAAAAAAAAAAAAAAAAAAAAAAAAAAAAAAAA S", Some false)  -- first entry decides
    ∷ (codes "BBAAAAAAAAAAAAAAAAAAAAAAAAAAAAAAAAAAAAAA S" ++ 10 ∷ codes "!AAAAAAAAAAAAAAAAAAAAAAAAAAAAAAAAAAAAAAAA P" ++ 10 ∷ [], Some false)  -- another entry first
    ∷ []

each_file_says : map (λ row. trust row.0 certificate) files ≡ map (λ row. row.1) files
unfolding encode_with
each_file_says = refl

-- files, a flag, and what they are with an entry of this flag
abbrev additions : List (List ℕ × ℕ × List ℕ)
additions =
    ([], 83, codes "AAAAAAAAAAAAAAAAAAAAAAAAAAAAAAAAAAAAAAAA S" ++ 10 ∷ [])  -- new file
    ∷ (codes "#" ++ 10 ∷ [], 80, codes "#" ++ 10 ∷ codes "AAAAAAAAAAAAAAAAAAAAAAAAAAAAAAAAAAAAAAAA P" ++ 10 ∷ [])  -- behind a line feed
    ∷ (codes "#", 83, codes "#" ++ 10 ∷ codes "AAAAAAAAAAAAAAAAAAAAAAAAAAAAAAAAAAAAAAAA S" ++ 10 ∷ [])  -- missing line feed
    ∷ []

each_addition : map (λ row. with_entry row.0 certificate row.1) additions ≡ map (λ row. row.2) additions
unfolding encode_with
each_addition = refl

-- An entry is 43 bytes long: so the longest file comes of one of 65,493 bytes, whose last line has its end.
longest_file : (file f : List ℕ) → length f ≡ 20 → length file ≡ 65493 → missing_end file ≡ [] → length (with_entry file f 83) ≡ 65536
longest_file file f digits len ended =
    let whole = ap (λ (end : List ℕ). length (file ++ end ++ entry f 83)) ended in
    omega (arith, whole, len, digits, length-encode_with upper_digits f, length-append {A = ℕ})
