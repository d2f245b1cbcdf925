-- Private: what a buffer keeps of the bytes that an inquiry's data lines carried so far.
use Rattle.std.specs.Prelude.{◌≡◌, ◌<◌, ◌+◌, Bool, true, false, ℕ, List, length}
use Rattle.cache_policy.specs.declared.secret.TheConstants.{MAX_SECRET_LEN}
use Rattle.assuan_server.specs.declared.inquiry.buffer.Overflow.{Overflow, TheVariants.{None, TooMuch, NoMemory}}

-- in memory: the bytes themselves, or that they are past the limit, or that there was no memory for them
abbrev pub IsVecOf : ℕ → List ℕ → Overflow → List ℕ → Type 0
IsVecOf limit kept None bytes = kept ≡ bytes
IsVecOf limit kept TooMuch bytes = limit < length bytes
IsVecOf limit kept NoMemory bytes = Unit {0}

-- as a secret, which has so many bytes at most: the bytes themselves, or that they are past that
abbrev pub IsSecretOf : List ℕ → Bool → List ℕ → Type 0
IsSecretOf kept false bytes = kept ≡ bytes
IsSecretOf kept true bytes = MAX_SECRET_LEN < length bytes

-- as a count of how many more may come within a limit, or that they are past it
abbrev pub IsCountOf : ℕ → ℕ → Bool → List ℕ → Type 0
IsCountOf limit left false bytes = length bytes + left ≡ limit
IsCountOf limit left true bytes = limit < length bytes
